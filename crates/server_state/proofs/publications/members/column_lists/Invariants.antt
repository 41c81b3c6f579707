use Rattle.std.specs.List.{AllByRecursion}
use Rattle.server.specs.TableAnswers.{IsShortList}
use Rattle.server_state.proofs.publications.members.column_lists.Given as goal

abbrev pub invariant-loop-publication : goal.invariant-loop-publication
invariant-loop-publication l = AllByRecursion IsShortList l.lists.items
