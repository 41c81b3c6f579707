use Rattle.std.proofs.Common.{[], refl}
use Rattle.server.specs.declared.stages.stage.Stage.TheVariants.{InBlock}
use Rattle.server.specs.Copies.{RefusesCopy, failed, refused_in_block}
use Rattle.server.proofs.Blocks.{gave_given}
use Rattle.server.proofs.asked.copy_query.refuse_copy.Goals as goal

pub returns : goal.returns
returns g c =
    rw (c.led.ensures, c.with_state.ensures)
    (gave_given g.D.Backend.told (λ next asked said. RefusesCopy c.args.block c.args.refusal asked said next) (InBlock (failed c.args.block)) [] (refused_in_block c.args.refusal) c.say_refused_in_block-said.result
    c.args.backend.now c.args.out.now.items c.args.backend.now c.say_refused_in_block-said.new.out.items refl (refl, refl, refl) c.say_refused_in_block-said.ensures)
