use Rattle.std.specs.List.{AllByRecursion}
use Rattle.server.specs.TableAnswers.{IsShortFilter}
use Rattle.test_vectors.proofs.talking.scripted_tables.filters_of.Given as goal

abbrev pub invariant-loop-name : goal.invariant-loop-name
invariant-loop-name l = AllByRecursion IsShortFilter l.filters.items
