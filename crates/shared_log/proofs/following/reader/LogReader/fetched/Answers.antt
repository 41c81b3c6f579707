use Rattle.std.proofs.Common.{◌≡◌, ◌+◌, List, arith, refl, drop, take, ap, sym, subst, ◌∙◌}
use mathlib.Core.List.{IsPrefix}
use Rattle.std.specs.Prelude.{vec_len}
use Rattle.left_right.specs.Sides.{view}
use Rattle.wal.specs.declared.record.Record.{Record}
use Rattle.wal.specs.Log.{IsWellFormedLog}
use Rattle.shared_log.specs.declared.histories.copy.LogCopy.{LogCopy}
use Rattle.shared_log.specs.declared.histories.rule.View.{View}
use Rattle.shared_log.specs.SeenPrefixes.{settled_records, shown_records}
use Rattle.shared_log.specs.Kept.{kept_in}
use Rattle.shared_log.proofs.Reading.{why_unread}
use Rattle.shared_log.proofs.Steps.{enters}
use Rattle.shared_log.proofs.following.reader.LogReader.fetched.Goals as goal

pub enter_as-requires : goal.enter_as-requires
enter_as-requires g c x views keeps at = enters g.L.LogName.book _ (view c.into_parts-reader.result.0.place) (shown_records x.mark.seen.log) x.edge (kept_in x.records.items) x.mark.seen.book views keeps at

pub returns-in-Ok-got-clause-gives : goal.returns-in-Ok-got-clause-gives
returns-in-Ok-got-clause-gives g c =
    let copy = c.in-Ok.reading.part.value in
    let at : c.into_parts-reader.result.1 ≡ c.args.self.place = ap (λ p. p.1) c.into_parts-reader.ensures.parts in
    let left : c.of-left.result.place ≡ c.into_parts-reader.result.1 = c.of-left.ensures.parts.1 in
    let seen : (view c.leave-reader.result.place).seen ≡ shown_records copy.mark.seen.log = ap (λ (v : View). v.seen) c.leave-reader.ensures.1 ∙ c.in-Ok.ensures.1.whole in
    let there : (view c.of-left.result.reader.place).seen ≡ shown_records copy.mark.seen.log = rw c.of-left.ensures.parts.0 seen in
    rw (← at) (
      c.in-Ok-got.ensures.gives ∙ ap (λ (x : LogCopy). take c.args.max (drop c.into_parts-reader.result.1 (shown_records x.mark.seen.log))) c.get-copy.ensures ∙ ap (λ (l : List Record). take c.args.max (drop c.into_parts-reader.result.1 l)) (sym there),
      ap (λ n. c.of-left.result.place + n) c.len.ensures ∙ ap (λ n. n + vec_len c.in-Ok-got.records) left,
    )

pub overflow_add-left : goal.overflow_add-left
overflow_add-left g c = record { fits = omega (arith, c.in-Ok-got.ensures.fits, c.len.ensures) }

pub returns-in-Err-got-clause-why : goal.returns-in-Err-got-clause-why
returns-in-Err-got-clause-why g c =
    let copy = c.in-Ok.reading.part.value in
    let seen : (view c.leave-reader.result.place).seen ≡ shown_records copy.mark.seen.log = ap (λ (v : View). v.seen) c.leave-reader.ensures.1 ∙ c.in-Ok.ensures.1.whole in
    let held : IsPrefix (settled_records c.of-left.result.told) (shown_records copy.mark.seen.log) = rw c.of-left.ensures.parts.2 (subst (λ (x : LogCopy). IsPrefix (settled_records c.into_parts-reader.result.2) (shown_records x.mark.seen.log)) c.get-copy.ensures (c.if-not-is_there.ensures.held refl)) in
    let there : (view c.of-left.result.reader.place).seen ≡ shown_records copy.mark.seen.log = rw c.of-left.ensures.parts.0 seen in
    why_unread _ _ c.in-Err-got.fault _ _ c.in-Err-got.ensures.why (subst (IsPrefix (settled_records c.of-left.result.told)) (sym there) held) (subst IsWellFormedLog (sym there) c.in-Ok.ensures.1.good)
