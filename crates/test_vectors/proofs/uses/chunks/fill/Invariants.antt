use Rattle.chgarena.specs.Strands.{IsOf}
use Rattle.test_vectors.proofs.uses.chunks.fill.Given as goal

abbrev pub invariant-loop : goal.invariant-loop
invariant-loop l = IsOf l.arena l.strand
