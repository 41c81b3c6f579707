use Rattle.std.proofs.Common.{sym, subst, ◌∙◌}
use Rattle.store.specs.Slots.{AreUsed}
use Rattle.store.proofs.Undoing.{swapped, stood, used_put}
use Rattle.store.proofs.places.slots.Slots.swap.Goals as goal

pub returns-in-Ok-clause-ok : goal.returns-in-Ok-clause-ok
returns-in-Ok-clause-ok c = swapped c.self.inside.by_place.entries c.insert.new.self.entries c.args.self.now c.args.place c.args.slot c.self.view_is c.in-Ok.ensures.entries

pub returns-in-Ok-clause-before : goal.returns-in-Ok-clause-before
returns-in-Ok-clause-before c = c.unwrap_or.ensures ∙ stood c.self.inside.by_place.entries c.args.self.now c.args.place c.in-Ok.before c.vacant.result c.self.view_is c.in-Ok.ensures.old c.vacant.ensures

pub invariant_of-self : goal.invariant_of-self
invariant_of-self c =
    subst AreUsed (sym (swapped c.self.inside.by_place.entries c.insert.new.self.entries c.args.self.now c.args.place c.args.slot c.self.view_is c.in-Ok.ensures.entries))
    (used_put c.args.place.items c.args.slot c.args.self.now c.requires (subst AreUsed c.self.view_is c.self.invariant))
