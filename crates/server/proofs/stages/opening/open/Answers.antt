use Rattle.server.specs.declared.asked.database.TheConstants.{MOST_DATABASE_BYTES}
use Rattle.server.proofs.Parameters.{name_within}
use Rattle.server.proofs.stages.opening.open.Goals as goal

pub new-database-requires : goal.new-database-requires
new-database-requires c = rw (c.in_ok-name.ensures, c.database_of.ensures) (name_within MOST_DATABASE_BYTES c.args.parameters.now c.requires)
