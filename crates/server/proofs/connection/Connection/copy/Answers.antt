use Rattle.std.proofs.Common.{refl}
use Rattle.server.specs.declared.connection.Connection.{Connection}
use Rattle.server.proofs.CopySteps.{copied_tried, copied_went}
use Rattle.server.proofs.connection.Connection.copy.Goals as goal

pub returns-clause-went : goal.returns-clause-went
returns-clause-went g c =
    let copied = rw c.replace-stage.ensures.value at c.in-Ok.ensures.says in
    let new : Connection = record { alloc = c.args.self.now.alloc; service = c.args.self.now.service; stage = c.in-Ok.stage; pending = c.args.self.now.pending } in
    copied_went g.D.Backend.told c.args.self.now c.args.backend.now c.args.out.now.items new c.turn_copy.new.backend c.turn_copy.new.out.items refl refl copied

pub returns-in_default-clause-asked : goal.returns-in_default-clause-asked
returns-in_default-clause-asked g c =
    let copied = rw c.replace-stage.ensures.value at c.in_default.ensures.says in
    copied_tried g.D.Backend.told c.args.self.now.service c.args.self.now.stage c.args.self.now.pending.items c.args.backend.now c.turn_copy.new.backend copied.0
