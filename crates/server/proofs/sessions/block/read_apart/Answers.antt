use Rattle.server.proofs.Blocks.{reads_command, reads_none}
use Rattle.server.proofs.sessions.block.read_apart.Goals as goal

pub returns-in-Ok-clause-read : goal.returns-in-Ok-clause-read
returns-in-Ok-clause-read c = rw c.apart_of.ensures (reads_command c.args.text.now c.in-Ok.command c.in-Ok.ensures.found c.in-Ok.ensures.only)

pub returns-in-Err-clause-read : goal.returns-in-Err-clause-read
returns-in-Err-clause-read c = reads_none c.args.text.now c.in-Err.fault c.none_unless_memory.result c.none_unless_memory.ensures c.in-Err.ensures.only
