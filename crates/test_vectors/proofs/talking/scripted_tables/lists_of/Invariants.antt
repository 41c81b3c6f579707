use Rattle.std.specs.List.{AllByRecursion}
use Rattle.server.specs.TableAnswers.{IsShortList}
use Rattle.test_vectors.proofs.talking.scripted_tables.lists_of.Given as goal

abbrev pub invariant-loop-name : goal.invariant-loop-name
invariant-loop-name l = AllByRecursion IsShortList l.lists.items
