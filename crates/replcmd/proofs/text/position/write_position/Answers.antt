use Rattle.std.specs.Prelude.{string_bytes}
use Rattle.std.proofs.Common.{arith}
use Rattle.replcmd.proofs.Halves.{written_is_read}
use Rattle.replcmd.proofs.text.position.write_position.Goals as goal

pub returns-clause-read_again : goal.returns-clause-read_again
returns-clause-read_again c = written_is_read string_bytes c.text_of.result c.args.position (omega arith) c.text_of.ensures
