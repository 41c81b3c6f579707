use Rattle.std.proofs.Common.{◌≡◌, [], drop, map}
use Rattle.conditions.specs.Parts.{parts, word_at}
use Rattle.conditions.specs.Stacks.{Wanting, run}
use Rattle.conditions.specs.Views.{state_of}
use Rattle.rowfilter.proofs.reading.part_of.Given as goal

abbrev pub invariant-loop-token : goal.invariant-loop-token
invariant-loop-token l =
    run parts (state_of l.pending.items l.place) (map (word_at l.columns) (drop l.token-index l.tokens)) ≡ run parts (Wanting []) (map (word_at l.columns) l.tokens)
