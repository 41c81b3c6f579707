use denote.Param.Send.{IsSend}
use Rattle.chgarena.proofs.Crosses.{Memory-send}
use Rattle.chgarena.specs.contracts.memory.Memory.{the_row}

pub send : IsSend the_row
send = Memory-send
