use Rattle.std.proofs.Common.{sym, inl}
use Rattle.server.specs.declared.stages.stage.Stage.TheVariants.{Idle}
use Rattle.server.specs.Turns.{HearsExtended}
use Rattle.server.proofs.Passing.{extended_refused}
use Rattle.server.proofs.sessions.session.turn_extended.Goals as goal

pub returns-in-Err-clause-turned : goal.returns-in-Err-clause-turned
returns-in-Err-clause-turned c service =
    extended_refused service (Idle c.args.database) (HearsExtended c.args.database) c.args.pending.now c.in-Err.fault c.args.out.now.items c.refuse.new.out.items c.refuse.result
    (λ t n is answered. inl (is, answered)) c.requires (sym c.in-Err.ensures.exact) c.refuse.ensures.readable c.refuse.ensures.closes c.refuse.ensures.says
