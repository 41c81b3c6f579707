use Rattle.std.proofs.Common.{refl}
use Rattle.world.proofs.PipeBytes.{empty, next}
use Rattle.world.proofs.pipe_back.PipeBack.receive.Goals as goal

pub read_status-requires : goal.read_status-requires
read_status-requires c = rw c.as_slice.ensures c.self.invariant

pub returns-in_err-status : goal.returns-in_err-status
returns-in_err-status c =
    rw (c.from_residual.ensures, ← c.self.view_is) (empty c.self.inside.bytes.items c.self.invariant (rw c.as_slice.ensures at c.in_err-status.ensures), refl)

pub advance-requires : goal.advance-requires
advance-requires c = (next c.self.inside.bytes.items c.in_ok-status.status c.self.invariant (rw c.as_slice.ensures at c.in_ok-status.ensures)).whole

pub invariant_of-self : goal.invariant_of-self
invariant_of-self c = rw c.advance.ensures.items (next c.self.inside.bytes.items c.in_ok-status.status c.self.invariant (rw c.as_slice.ensures at c.in_ok-status.ensures)).rest

pub returns : goal.returns
returns c = rw (← c.self.view_is, c.advance.ensures.items) (next c.self.inside.bytes.items c.in_ok-status.status c.self.invariant (rw c.as_slice.ensures at c.in_ok-status.ensures)).first
