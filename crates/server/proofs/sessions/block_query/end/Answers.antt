use Rattle.std.proofs.Common.{refl}
use Rattle.server.specs.declared.stages.stage.Stage.TheVariants.{Idle}
use Rattle.server.specs.Blocks.{Ends, completed, ending_tag, let_go}
use Rattle.server.proofs.Blocks.{gave_given}
use Rattle.server.proofs.sessions.block_query.end.Goals as goal

pub returns : goal.returns
returns g c =
    let says = rw c.tag.ensures.tag at c.say_completed_ready-said.ensures in
    rw c.led.ensures
    (gave_given g.D.Backend.told (λ next asked said. Ends c.args.block c.args.ending asked said next) (Idle c.args.block.database) (let_go c.args.block.holds) (completed (ending_tag c.args.block.state c.args.ending)) c.say_completed_ready-said.result
    c.args.backend.now c.args.out.now.items c.let_go.new.backend c.say_completed_ready-said.new.out.items c.let_go.ensures (refl, refl, refl) says)
