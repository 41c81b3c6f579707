use Rattle.std.proofs.Common.{take}
use Rattle.segments.specs.Recovery.{Replays}
use Rattle.txlog.specs.Replaying.{IsBeside}
use Rattle.segments.proofs.replaying.replay.Given as goal

-- the log went on by so many of the entries
abbrev pub invariant-loop-entry : goal.invariant-loop-entry
invariant-loop-entry g l = Replays (take l.entry-index l.fn.entries) l.fn.publisher.log l.publisher.log × IsBeside l.fn.publisher l.publisher
