use Rattle.std.proofs.Common.{◌≡◌, ◌<◌, ◌++◌, List, ℕ, length, ap, subst, sym, ◌∙◌, arith}
use Rattle.std.proofs.lemmas.List.{length-append}
use Rattle.segments.specs.Entries.{Written, entry}
use Rattle.segments.proofs.Files.{appended, file-more, fit-more, succeeded}
use Rattle.segments.proofs.Reading.{entry_some}
use Rattle.segments.proofs.segment.Segment.append.Goals as goal

pub returns-clause-written : goal.returns-clause-written
returns-clause-written g c = λ es has.
    let s = c.args.self.now in
    let e : Written = record { synced = s.synced; body = c.args.body.now } in
    let old = g.D.Disk.seen s.disk in
    let new = g.D.Disk.seen c.write_at.new.self in
    let spelled : c.as_slice.result.now ≡ entry s.key e = c.as_slice.ensures ∙ c.in_ok-put_entry.ensures.spelled ∙ ap (λ (l : List ℕ). l ++ entry s.key e) c.clear.ensures.items in
    let some : 0 < length c.as_slice.result.now = subst (λ (l : List ℕ). 0 < length l) (sym spelled) (entry_some s.key e) in
    let holds = succeeded c.write_at.result _ (sym c.if-is_err.ensures.value) c.write_at.ensures.written some in
    let more : new ≡ old ++ c.as_slice.result.now = appended old new c.as_slice.result.now s.end has.end c.write_at.ensures.others holds in
    record {
      file = file-more s.key es e old new has.file (more ∙ ap (λ (l : List ℕ). old ++ l) spelled);
      end = let sum = c.in-Some.ensures in let len = c.len.ensures.value in let at = has.end in omega (arith, ap length more, length-append old c.as_slice.result.now, at, sum, len, ap length c.as_slice.ensures);
      fit = fit-more s.key es e has.fit c.in_ok-put_entry.ensures.fits;
    }
