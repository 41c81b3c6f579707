use Rattle.std.proofs.Common.{length, sym, ap, subst, ◌∙◌}
use Rattle.store.specs.Slots.{Entries}
use Rattle.store.specs.Snapshots.{AreOnce}
use Rattle.store.proofs.Snapshots.{each_once, length_of}
use Rattle.store.proofs.places.slots.Slots.len.Goals as goal

pub returns-clause-len : goal.returns-clause-len
returns-clause-len c = c.len.ensures.len ∙ sym (length_of c.self.inside.by_place.entries) ∙ ap (λ (es : Entries). length es) c.self.view_is

pub returns-clause-once : goal.returns-clause-once
returns-clause-once c = subst (λ (es : Entries). AreOnce es) c.self.view_is (each_once c.self.inside.by_place.entries c.len.ensures.unique)
