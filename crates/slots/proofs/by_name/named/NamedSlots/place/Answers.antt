use Rattle.slots.proofs.Finding.{only_at, alike_at, found_by, none_by}
use Rattle.slots.proofs.by_name.named.NamedSlots.place.Goals as goal

pub returns-clause-only : goal.returns-clause-only
returns-clause-only g c = let s = c.self.inside in only_at s.seat s.directory s.slots.items s.places c.args.name.now c.self.invariant.0 c.self.invariant.1 c.args.self.now c.self.view_is c.find.result c.find.ensures

pub returns-clause-alike : goal.returns-clause-alike
returns-clause-alike g c = let s = c.self.inside in alike_at s.seat s.directory s.slots.items s.places c.args.name.now c.self.invariant.0 c.self.invariant.1 c.args.self.now c.self.view_is c.find.result c.find.ensures

pub returns-clause-found : goal.returns-clause-found
returns-clause-found g c = let s = c.self.inside in found_by s.seat s.directory s.slots.items s.places c.args.name.now c.self.invariant.0 c.self.invariant.1 c.args.self.now c.self.view_is c.find.result c.find.ensures

pub returns-clause-none : goal.returns-clause-none
returns-clause-none g c = let s = c.self.inside in none_by s.seat s.directory s.slots.items s.places c.args.name.now c.self.invariant.0 c.self.invariant.1 c.args.self.now c.self.view_is c.find.result c.find.ensures
