use Rattle.std.proofs.Common.{Bool, false, List, ℕ, refl}
use Rattle.std.proofs.lemmas.Result.{err_from_is_err_and}
use Rattle.replcmd.specs.declared.command.Command.TheVariants.{Identify, Create, Drop}
use Rattle.server.specs.Conversation.{Makes, Runs}
use Rattle.server.proofs.Steps.{no_stream, tried_as}
use Rattle.server.proofs.asked.query.run.Goals as goal

pub returns-in_err-identify-in-Identify : goal.returns-in_err-identify-in-Identify
returns-in_err-identify-in-Identify g c =
    let p = err_from_is_err_and c.from_residual.result c.from_residual.ensures.1 in
    rw (p.1, c.in-Identify.is) (no_stream g.D.Backend.told (λ begun. Runs c.args.database.now Identify begun) c.args.backend.now c.args.out.now.items c.identify.new.backend c.identify.new.out.items c.in_err-identify-in-Identify.ensures)

pub returns-in_err-create-in-Create : goal.returns-in_err-create-in-Create
returns-in_err-create-in-Create g c =
    let p = err_from_is_err_and c.from_residual-in_err-create-in-Create.result c.from_residual-in_err-create-in-Create.ensures.1 in
    rw (p.1, c.in-Create.is) (
      tried_as g.D.Backend.told (λ calls. (u : Unit {0}) × (text : List ℕ) × Makes c.in-Create.slot c.in-Create.snapshot calls text)
          (λ calls. (begins : Bool) × (text : List ℕ) × Runs c.args.database.now (Create c.in-Create.slot c.in-Create.snapshot) begins calls text) c.args.backend.now c.create.new.backend
          (λ calls part. (false, part.1, (part.2, refl))) c.in_err-create-in-Create.ensures.0,
      c.in_err-create-in-Create.ensures.1,
    )

pub returns-in_err-drop_slot-in-Drop : goal.returns-in_err-drop_slot-in-Drop
returns-in_err-drop_slot-in-Drop g c =
    let p = err_from_is_err_and c.from_residual-in_err-drop_slot-in-Drop.result c.from_residual-in_err-drop_slot-in-Drop.ensures.1 in
    rw (p.1, c.in-Drop.is) (no_stream g.D.Backend.told (λ begun. Runs c.args.database.now (Drop c.in-Drop.slot) begun) c.args.backend.now c.args.out.now.items c.drop_slot.new.backend c.drop_slot.new.out.items c.in_err-drop_slot-in-Drop.ensures)

pub returns-in-Start : goal.returns-in-Start
returns-in-Start g c = rw c.in-Start.is c.start.ensures
