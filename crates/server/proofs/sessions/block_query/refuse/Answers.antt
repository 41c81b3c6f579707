use Rattle.std.proofs.Common.{[], refl}
use Rattle.server.specs.Blocks.{Refused}
use Rattle.server.specs.Said.{error_and_ready}
use Rattle.server.proofs.Blocks.{gave_given}
use Rattle.server.proofs.sessions.block_query.refuse.Goals as goal

pub returns : goal.returns
returns g c block same =
    rw c.held.ensures
    (gave_given g.D.Backend.told (λ held. Refused block c.args.refusal held) c.args.holds [] (error_and_ready c.args.refusal) c.say_refused_ready-said.result
    c.args.backend.now c.args.plain.now.items c.args.backend.now c.say_refused_ready-said.new.out.items refl (refl, refl, same) c.say_refused_ready-said.ensures)
