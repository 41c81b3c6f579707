use Rattle.std.proofs.Common.{deque_len, length, sym, ◌∙◌, arith}
use Rattle.std.proofs.lemmas.Bool.{eqb-true}
use Rattle.walsender.proofs.Emptied.{none_held}
use Rattle.walsender.proofs.held.outgoing.Outgoing.fill.Goals as goal

pub returns-then-is_empty-2-clause-more : goal.returns-then-is_empty-2-clause-more
returns-then-is_empty-2-clause-more c =
    let o = c.args.self.now in
    let ok = o.waiting.ok in
    let made = eqb-true (length o.made.items) 0 (sym c.is_empty.ensures ∙ c.if-is_empty.true) in
    let waiting = eqb-true (deque_len o.waiting) 0 (sym c.is_empty-then-is_empty.ensures ∙ c.if-is_empty-2.true) in
    none_held c.args.selection.now c.args.reorder.now o c.requires.good c.if-self.false made (omega (arith, ok, waiting))
