use Rattle.std.proofs.Common.{[], ◌∷◌, refl}
use Rattle.server.specs.declared.sessions.block.BlockState.TheVariants.{Begun}
use Rattle.server.specs.Blocks.{UsesSnapshot, is_made}
use Rattle.server.specs.Calls.{CreateSnapshot}
use Rattle.server.specs.Said.{answer_to_create}
use Rattle.server.proofs.Blocks.{gave_given}
use Rattle.server.proofs.sessions.block_query.make_with_snapshot.Goals as goal

pub returns : goal.returns
returns g c =
    let told = rw c.as_str.ensures.value at c.create_with_snapshot-answer.ensures in
    let says = rw c.as_str-2.ensures.value at c.say_created-said.ensures in
    rw (c.held.ensures, c.is_made.ensures)
    (gave_given g.D.Backend.told (λ held. UsesSnapshot Begun c.args.block.now c.args.slot.now held) (is_made c.create_with_snapshot-answer.result) (CreateSnapshot c.args.slot.now c.create_with_snapshot-answer.result ∷ []) (answer_to_create c.args.slot.now c.create_with_snapshot-answer.result) c.say_created-said.result
    c.args.backend.now c.args.plain.now.items c.create_with_snapshot-answer.new.self c.say_created-said.new.out.items (c.create_with_snapshot-answer.new.self, told, refl) (c.create_with_snapshot-answer.result, refl, refl, refl) says)
