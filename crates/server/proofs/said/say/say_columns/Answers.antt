use Rattle.server.proofs.Rows.{columns_fit}
use Rattle.server.proofs.said.say.say_columns.Goals as goal

pub say-requires-clause-length : goal.say-requires-clause-length
say-requires-clause-length c = columns_fit c.args.columns c.requires.count c.requires.names
