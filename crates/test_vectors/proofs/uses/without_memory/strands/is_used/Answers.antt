use Rattle.test_vectors.proofs.Arenas.{pushed_made}
use Rattle.test_vectors.proofs.uses.without_memory.strands.is_used.Goals as goal

pub entry-requires-clause-of : goal.entry-requires-clause-of
entry-requires-clause-of c = pushed_made _ _ _ _ _ c.in-Ok.ensures.ok
