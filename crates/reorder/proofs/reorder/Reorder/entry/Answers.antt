use Rattle.std.proofs.Common.{◌∙◌, subst, sym}
use Rattle.reorder.specs.Ready.{IsEntryAt, IsReadyIn, lent_from, ready_entries}
use Rattle.reorder.specs.Taking.{ReorderState}
use Rattle.reorder.proofs.Spotting.{lent}
use Rattle.reorder.proofs.reorder.Reorder.entry.Goals as goal

pub entry-entry-requires-clause-ready : goal.entry-entry-requires-clause-ready
entry-entry-requires-clause-ready c = subst (λ (s : ReorderState). IsReadyIn s.strands.pool c.args.ready.now) (sym c.self.view_is) c.requires.held

pub returns-clause-entry : goal.returns-clause-entry
returns-clause-entry c =
    subst (λ (s : ReorderState). IsEntryAt (ready_entries s.strands.pool c.args.ready.now) c.args.k c.position_of.result c.body_of.result.now) c.self.view_is
    (λ e at.
    let both = lent (lent_from c.self.inside.strands.pool c.args.ready.now) c.args.ready.now.places c.args.k c.entry-entry.result.now c.body_of.result.now
    c.entry-entry.ensures.value c.requires.within c.entry-entry.ensures.entry c.body_of.ensures e at in
    (c.position_of.ensures ∙ both.0, both.1))
