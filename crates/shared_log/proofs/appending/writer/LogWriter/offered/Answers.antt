use Rattle.std.proofs.Common.{◌≡◌, ◌≤◌, ◌++◌, ◌∷◌, [], length, drop, refl, arith, ap, sym, subst, ◌∙◌}
use Rattle.std.specs.Arc.{arc_value}
use Rattle.std.proofs.lemmas.List.{length_push}
use Rattle.shared_log.specs.SeenPrefixes.{settled_records, shown_records}
use Rattle.shared_log.specs.Kept.{LiesFrom, kept_in}
use Rattle.shared_log.specs.Writing.{IsOutline, Waits, Written}
use Rattle.shared_log.proofs.SeenPrefixes.{settled_offer, settled_confirm, shown_offer}
use Rattle.shared_log.proofs.Lying.{waits_rise}
use Rattle.shared_log.proofs.Writing.{IsGrown, goes_to, grown_by, on_err, on_ok, shows_all, shows_still, shows_waiting}
use Rattle.shared_log.proofs.appending.writer.LogWriter.offered.Goals as goal

pub publish_as-writer-requires : goal.publish_as-writer-requires
publish_as-writer-requires g c new is views keeps at =
    let front = c.self.inside.state in
    let log = settled_records front in
    let r = arc_value c.args.entry in
    let put = c.in-Ok.put in
    let old = c.append.new.self.desk.shown.value in
    let lies : LiesFrom log old.edge (kept_in old.records.items) = rw c.append.ensures.desk c.self.invariant.shown in
    let waits : Waits log old.edge.place c.self.inside.edge (drop c.self.inside.writer.behind c.self.inside.writer.log.items) = rw c.append.ensures.desk c.self.invariant.waits in
    let further : c.self.inside.edge ≤ put.edge = omega (arith, c.in-Ok.ensures.edge, c.next_edge-edge.ensures, c.self.invariant.bounded) in
    let within : put.edge ≤ length log = omega (arith, c.in-Ok.ensures.edge, c.next_edge-edge.ensures, c.self.invariant.within) in
    let fits : IsOutline log r c.args.outline = subst (λ (w : Written). IsOutline w.records r c.args.outline) (sym c.self.view_is) c.requires in
    let grown : IsGrown g.L.LogName.book log r c.offer.new.self put.edge new = grown_by g.L.LogName.book log r c.offer.new.self put old new _ _ _ lies waits further within c.in-Ok.ensures.put c.in-Ok-append.ensures.pending is in
    let rises : old.edge.place ≤ put.edge = omega (arith, waits_rise log old.edge.place c.self.inside.edge _ waits, further) in
    goes_to g.L.LogName.book _ _ log r c.offer.new.self put.edge old new views grown rises fits.good (ap shown_records c.in-Ok.ensures.ok.0 ∙ shown_offer front r) keeps at (rw c.append.ensures.desk c.self.invariant.says)

pub invariant_of-result : goal.invariant_of-result
invariant_of-result g c =
    let further : c.self.inside.edge ≤ c.next_edge-edge.result = omega (arith, c.next_edge-edge.ensures, c.self.invariant.bounded) in
    let bounded : c.next_edge-edge.result ≤ c.self.inside.given = omega (arith, c.next_edge-edge.ensures) in
    let shown = c.self.inside.writer.desk.shown.value in
    shows_still (settled_records c.self.inside.state) _ _ _ _ shown shown _ _ c.self.invariant (ap settled_records c.in-Err.ensures.err) refl refl further bounded

pub invariant_of-result-in-Err-append : goal.invariant_of-result-in-Err-append
invariant_of-result-in-Err-append g c =
    let front = c.self.inside.state in
    let further : c.self.inside.edge ≤ c.next_edge-edge.result = omega (arith, c.next_edge-edge.ensures, c.self.invariant.bounded) in
    let bounded : c.next_edge-edge.result ≤ c.self.inside.given = omega (arith, c.next_edge-edge.ensures) in
    let same : settled_records c.offer.new.self ≡ settled_records front = ap settled_records c.in-Ok.ensures.ok.0 ∙ settled_offer front (arc_value c.args.entry) in
    shows_still (settled_records front) _ _ _ _ c.self.inside.writer.desk.shown.value c.append.new.self.desk.shown.value _ _ c.self.invariant same (ap (λ d. d.shown.value) c.append.ensures.desk) c.in-Err-append.ensures.pending.1 further bounded

pub returns-in-Err-append-clause-err : goal.returns-in-Err-append-clause-err
returns-in-Err-append-clause-err g c =
    let same = ap settled_records c.in-Ok.ensures.ok.0 ∙ settled_offer c.self.inside.state (arc_value c.args.entry) in
    same ∙ ap (λ (w : Written). w.records) c.self.view_is

pub invariant_of-result-in-Ok-published : goal.invariant_of-result-in-Ok-published
invariant_of-result-in-Ok-published g c =
    let front = c.self.inside.state in
    let log = settled_records front in
    let r = arc_value c.args.entry in
    let put = c.in-Ok.put in
    let old = c.append.new.self.desk.shown.value in
    let lies : LiesFrom log old.edge (kept_in old.records.items) = rw c.append.ensures.desk c.self.invariant.shown in
    let waits : Waits log old.edge.place c.self.inside.edge (drop c.self.inside.writer.behind c.self.inside.writer.log.items) = rw c.append.ensures.desk c.self.invariant.waits in
    let further : c.self.inside.edge ≤ put.edge = omega (arith, c.in-Ok.ensures.edge, c.next_edge-edge.ensures, c.self.invariant.bounded) in
    let within : put.edge ≤ length log = omega (arith, c.in-Ok.ensures.edge, c.next_edge-edge.ensures, c.self.invariant.within) in
    let on : c.self.inside.edge ≤ c.next_edge-edge.result = omega (arith, c.next_edge-edge.ensures, c.self.invariant.bounded) in
    let bounded : c.next_edge-edge.result ≤ c.self.inside.given = omega (arith, c.next_edge-edge.ensures) in
    let made = on_ok _ _ c.publish_as-writer.result.1 c.in-Ok-published.field-0 c.in-Ok-published.is c.publish_as-writer.ensures.values in
    let new = c.publish_as-writer.result.0.desk.shown.value in
    let grown : IsGrown g.L.LogName.book log r c.offer.new.self put.edge new = grown_by g.L.LogName.book log r c.offer.new.self put old new _ _ _ lies waits further within c.in-Ok.ensures.put c.in-Ok-append.ensures.pending made.0 in
    let shown : shown_records c.offer.new.self ≡ log ++ r ∷ [] = ap shown_records c.in-Ok.ensures.ok.0 ∙ shown_offer front r in
    let now : settled_records c.confirm-receipt.new.self ≡ log ++ r ∷ [] = ap settled_records c.confirm-receipt.ensures.confirmed ∙ settled_confirm c.offer.new.self ∙ shown in
    shows_all (log ++ r ∷ []) _ _ _ new _ (ap shown_records grown.says ∙ shown) grown.lies (grown.from ∙ c.in-Ok.ensures.edge) now made.1 bounded (omega (arith, length_push log r, c.self.invariant.within))

pub invariant_of-result-in-Err-published : goal.invariant_of-result-in-Err-published
invariant_of-result-in-Err-published g c =
    let front = c.self.inside.state in
    let put = c.in-Ok.put in
    let further : c.self.inside.edge ≤ put.edge = omega (arith, c.in-Ok.ensures.edge, c.next_edge-edge.ensures, c.self.invariant.bounded) in
    let bounded : put.edge ≤ c.self.inside.given = omega (arith, c.in-Ok.ensures.edge, c.next_edge-edge.ensures) in
    let same : settled_records c.offer.new.self ≡ settled_records front = ap settled_records c.in-Ok.ensures.ok.0 ∙ settled_offer front (arc_value c.args.entry) in
    let kept = on_err _ _ c.publish_as-writer.result.1 c.in-Err-published.fault c.in-Err-published.is c.publish_as-writer.ensures.values in
    rw (sym c.in-Ok.ensures.edge)
    (shows_waiting (settled_records front) _ _ _ c.self.inside.writer.desk.shown.value c.publish_as-writer.result.0.desk.shown.value _ _ put c.self.invariant same (kept.0 ∙ ap (λ d. d.shown.value) c.append.ensures.desk)
    (kept.1 ∙ c.in-Ok-append.ensures.pending) c.in-Ok.ensures.put.place further bounded)

pub returns-in-Ok-published-clause-ok : goal.returns-in-Ok-published-clause-ok
returns-in-Ok-published-clause-ok g c =
    let front = c.self.inside.state in
    let r = arc_value c.args.entry in
    let same : settled_records c.offer.new.self ≡ c.args.self.records = ap settled_records c.in-Ok.ensures.ok.0 ∙ settled_offer front r ∙ ap (λ (w : Written). w.records) c.self.view_is in
    let now : settled_records c.confirm-receipt.new.self ≡ c.args.self.records ++ r ∷ [] =
    ap settled_records c.confirm-receipt.ensures.confirmed ∙ settled_confirm c.offer.new.self ∙ ap shown_records c.in-Ok.ensures.ok.0 ∙ shown_offer front r ∙ ap (λ (w : Written). w.records ++ r ∷ []) c.self.view_is in (
      now,
      (c.requires.tells.0 ∙ sym c.confirm-receipt.ensures.bounds.0, c.requires.tells.1 ∙ sym c.confirm-receipt.ensures.bounds.1),
      c.confirm-receipt.ensures.place ∙ ap length same,
      ap settled_records c.confirm-receipt.ensures.front,
    )

pub returns-in-Err-published-clause-err : goal.returns-in-Err-published-clause-err
returns-in-Err-published-clause-err g c =
    let same = ap settled_records c.in-Ok.ensures.ok.0 ∙ settled_offer c.self.inside.state (arc_value c.args.entry) in
    same ∙ ap (λ (w : Written). w.records) c.self.view_is
