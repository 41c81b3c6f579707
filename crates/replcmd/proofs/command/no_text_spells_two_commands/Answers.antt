use Rattle.replcmd.proofs.Sentences.{one_command}
use Rattle.replcmd.proofs.command.no_text_spells_two_commands.Goals as goal

pub returns : goal.returns
returns c = one_command
