use Rattle.replcmd.proofs.Sentences.{is_found, is_only}
use Rattle.replcmd.proofs.command.parse_command.Goals as goal

pub returns-clause-found : goal.returns-clause-found
returns-clause-found c = is_found c.args.strictness c.args.text.now c.command_of.result c.command_of.ensures

pub returns-clause-only : goal.returns-clause-only
returns-clause-only c = is_only c.args.strictness c.args.text.now c.command_of.result c.command_of.ensures
