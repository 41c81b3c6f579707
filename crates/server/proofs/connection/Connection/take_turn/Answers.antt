use Rattle.std.proofs.Common.{◌≡◌, ◌<◌, refl}
use Rattle.std.proofs.lemmas.Bool.{ltb-true}
use Rattle.server.specs.declared.connection.Connection.{Connection}
use Rattle.server.specs.Conversation.{Gave}
use Rattle.server.proofs.CopySteps.{taken_less, turned_less}
use Rattle.server.proofs.Turning.{turned_went}
use Rattle.server.proofs.connection.Connection.take_turn.Goals as goal

pub returns-clause-went : goal.returns-clause-went
returns-clause-went g c =
    let turn = rw (c.replace-stage.ensures.value, c.as_slice.ensures) at c.in-Ok.ensures in
    let new : Connection = record { alloc = c.args.self.now.alloc; service = c.args.self.now.service; stage = c.in-Ok.field-0.stage; pending = c.advance.new.self } in
    turned_went g.D.Backend.told c.args.self.now c.args.backend.now c.args.out.now.items c.in-Ok.field-0 new c.turn-turned.new.backend c.turn-turned.new.out.items refl refl c.advance.ensures.items turn

pub returns-clause-less : goal.returns-clause-less
returns-clause-less g c more =
    let turn = rw (c.replace-stage.ensures.value, c.as_slice.ensures) at c.in-Ok.ensures in
    let new : Connection = record { alloc = c.args.self.now.alloc; service = c.args.self.now.service; stage = c.in-Ok.field-0.stage; pending = c.advance.new.self } in
    let some : 0 < c.in-Ok.field-0.count = ltb-true 0 c.in-Ok.field-0.count more in
    taken_less c.args.self.now new c.in-Ok.field-0.count some (turned_less c.args.self.now.service c.args.self.now.stage c.args.self.now.pending.items c.in-Ok.field-0 ((c.turn-turned.new.backend ≡ c.args.backend.now) × (c.turn-turned.new.out.items ≡ c.args.out.now.items)) (λ fact. Gave g.D.Backend.told fact c.args.backend.now c.args.out.now.items c.turn-turned.new.backend c.turn-turned.new.out.items) turn some) c.advance.ensures.items
