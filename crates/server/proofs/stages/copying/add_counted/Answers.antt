use Rattle.std.proofs.Common.{[], ◌∷◌, refl}
use Rattle.server.specs.Calls.{NextRow}
use Rattle.server.specs.Copies.{CopiesOn, after_row, next_said}
use Rattle.server.proofs.Blocks.{gave_given}
use Rattle.server.proofs.CopySteps.{given_less, given_longer, row_copies}
use Rattle.server.proofs.stages.copying.add_counted.Goals as goal

pub returns-clause-says : goal.returns-clause-says
returns-clause-says g c =
    rw (c.led.ensures, c.after_row-next.ensures)
    (gave_given g.D.Backend.told (λ next asked said. CopiesOn c.args.copying asked said next) (after_row c.args.copying c.next_row-answer.result) (NextRow c.next_row-answer.result ∷ []) (next_said c.args.copying.count c.next_row-answer.result) c.say_next-said.result
    c.args.backend.now c.args.out.now.items c.next_row-answer.new.self c.say_next-said.new.out.items (c.next_row-answer.new.self, c.next_row-answer.ensures.told, refl) (row_copies c.args.copying c.next_row-answer.result) c.say_next-said.ensures)

pub returns-clause-less : goal.returns-clause-less
returns-clause-less g c = rw (c.led.ensures, c.after_row-next.ensures) (given_less c.say_next-said.result c.args.copying c.next_row-answer.result c.requires)

pub returns-clause-longer : goal.returns-clause-longer
returns-clause-longer g c = rw (c.led.ensures, c.after_row-next.ensures) (given_longer c.say_next-said.result c.args.copying c.next_row-answer.result c.args.out.now.items c.say_next-said.new.out.items c.say_next-said.ensures)
