use Rattle.std.proofs.Common.{true, [], refl}
use Rattle.server.specs.declared.stages.stage.Stage.TheVariants.{InBlock}
use Rattle.server.specs.Blocks.{block_begun, new_block}
use Rattle.server.specs.Turns.{HearsQuery}
use Rattle.server.proofs.Blocks.{gave_given}
use Rattle.server.proofs.sessions.block_query.begin.Goals as goal

pub returns : goal.returns
returns g c dialect query =
    rw (c.led.ensures, c.new_block.ensures)
    (gave_given g.D.Backend.told (λ next asked said. HearsQuery true dialect c.args.database query asked said next) (InBlock (new_block c.args.database)) [] block_begun c.say_block_begun-said.result
    c.args.backend.now c.args.out.now.items c.args.backend.now c.say_block_begun-said.new.out.items refl (refl, refl, refl) c.say_block_begun-said.ensures)
