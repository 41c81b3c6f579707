use denote.RattleType.{RattleType}
use denote.Param.Send.{IsSend, Frees}
use Rattle.core.specs.declared.alloc.Allocator.{Ghosts}
use Rattle.chgarena.proofs.Crosses.{ReleaseRight-send}
use Rattle.chgarena.specs.contracts.memory.ReleaseRight.{the_row}

pub send : (A : RattleType) (g : Ghosts A.Denot) → IsSend A → Frees g g.dealloc_token → IsSend (the_row A g)
send A g s = ReleaseRight-send A g
