use Rattle.std.proofs.Common.{◌≡◌, true, false, sym, ◌∙◌}
use Rattle.schedule.proofs.Names.{named_at, none_named}
use Rattle.schedule.proofs.calls.known_place.Goals as goal

pub returns-clause-there : goal.returns-clause-there
returns-clause-there c = named_at c.args.name.now c.args.sessions.now c.in-Some.place (sym c.place_of.ensures.place ∙ c.in-Some.is)

pub unreachable-requires : goal.unreachable-requires
unreachable-requires c = let never : true ≡ false = sym c.requires.known ∙ none_named c.args.name.now _ (sym c.place_of.ensures.place ∙ c.in_default.is) in cc
