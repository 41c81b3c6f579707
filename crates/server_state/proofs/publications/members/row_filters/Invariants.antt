use Rattle.std.specs.List.{AllByRecursion}
use Rattle.server.specs.TableAnswers.{IsShortFilter}
use Rattle.server_state.proofs.publications.members.row_filters.Given as goal

abbrev pub invariant-loop-publication : goal.invariant-loop-publication
invariant-loop-publication l = AllByRecursion IsShortFilter l.filters.items
