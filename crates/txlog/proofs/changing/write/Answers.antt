use Rattle.std.proofs.Common.{arith}
use Rattle.txlog.proofs.changing.write.Goals as goal

pub push-pushed-requires-clause-good : goal.push-pushed-requires-clause-good
push-pushed-requires-clause-good g c = c.requires.good (omega (arith, c.if-at-eq0.false))
