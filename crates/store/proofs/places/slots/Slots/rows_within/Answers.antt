use Rattle.std.proofs.Common.{subst}
use Rattle.store.specs.Emptying.{AreAtPlace}
use Rattle.store.proofs.Truncating.{at_place}
use Rattle.store.proofs.places.slots.Slots.rows_within.Goals as goal

pub returns-clause-places : goal.returns-clause-places
returns-clause-places c = subst AreAtPlace c.self.view_is (at_place c.self.inside.by_place.entries c.iter-place-items.ensures.unique)
