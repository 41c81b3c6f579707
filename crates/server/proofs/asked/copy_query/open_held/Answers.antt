use Rattle.std.proofs.Common.{true, [], ◌∷◌, length, refl}
use Rattle.server.specs.Calls.{OpenCopy}
use Rattle.server.specs.Copies.{OpensCopy, opened, opening_said}
use Rattle.server.proofs.Blocks.{gave_given}
use Rattle.server.proofs.asked.copy_query.open_held.Goals as goal

pub returns : goal.returns
returns g c =
    let says = rw c.as_slice.ensures at c.say_opened-said.ensures in
    rw (c.led.ensures, c.opened.ensures)
    (gave_given g.D.Backend.told (λ next asked said. OpensCopy true c.args.block c.args.copy.now asked said next) (opened c.args.block c.open_copy-answer.result)
    (OpenCopy c.args.copy.now.table c.args.copy.now.columns c.args.copy.now.filter c.open_copy-answer.result ∷ []) (opening_said (length c.args.copy.now.columns) c.open_copy-answer.result) c.say_opened-said.result
    c.args.backend.now c.args.out.now.items c.open_copy-answer.new.self c.say_opened-said.new.out.items (c.open_copy-answer.new.self, c.open_copy-answer.ensures, refl) (c.open_copy-answer.result, refl, refl, refl) says)
