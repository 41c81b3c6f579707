use Rattle.std.proofs.Common.{arith}
use Rattle.server.proofs.Rows.{values_fit, all_fit}
use Rattle.server.proofs.said.say.say_values.Goals as goal

pub say-requires-clause-length : goal.say-requires-clause-length
say-requires-clause-length c = values_fit c.args.values c.requires.count c.requires.each

pub say-requires-clause-counts : goal.say-requires-clause-counts
say-requires-clause-counts c = (omega (arith, c.requires.count), all_fit c.args.values c.requires.each)
