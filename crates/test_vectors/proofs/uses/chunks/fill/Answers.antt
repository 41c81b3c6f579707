use Rattle.test_vectors.proofs.Arenas.{pushed_made}
use Rattle.test_vectors.proofs.uses.chunks.fill.Goals as goal

pub loop-preserved : goal.loop-preserved
loop-preserved c = pushed_made c.loop.arena c.push.new.self c.loop.strand c.push.new.strand c.args.entry.now c.in-Ok.ensures.ok
