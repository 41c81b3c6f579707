use Rattle.std.proofs.Common.{◌≡◌, Bool, List, [], cond, sym, ap, subst, ◌∙◌}
use Rattle.std.specs.Int.{w64}
use Rattle.std.proofs.lemmas.Int.{to_z-of_z}
use Rattle.std.proofs.lemmas.Bool.{le-leb}
use Rattle.pgoutput.specs.declared.published.Published.{Published}
use Rattle.walsender.specs.Published.{published_note}
use Rattle.walsender.specs.Sending.{published_quietly}
use Rattle.walsender.specs.Outgoing.{Grows}
use Rattle.walsender.proofs.held.outgoing.Outgoing.add_note.Goals as goal

pub returns-clause-grows : goal.returns-clause-grows
returns-clause-grows c = λ s good.
    let n = c.args.next.now in
    let note = published_note c.args.selection.now n.start n.end c.in-Note.note in
    let whole : published_quietly c.args.selection.now c.args.start n.start n.end n.body ≡ note =
    ap (published_quietly c.args.selection.now c.args.start n.start n.end) c.in-Note.is ∙ ap (λ (b : Bool). cond b note []) (le-leb c.args.start n.start c.if-next-start.false) in
    let grows = rw (to_z-of_z w64 c.args.clock c.ranges.clock) at c.put_note.ensures.grows s good in
    subst (λ (ts : List Published). Grows c.args.selection.now c.args.clock ts c.put_note.result s s c.args.self.now c.put_note.new.self) (sym whole) grows
