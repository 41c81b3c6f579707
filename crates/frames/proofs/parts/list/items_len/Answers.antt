use Rattle.std.proofs.Common.{arith}
use Rattle.std.proofs.lemmas.List.Folds.{length-flat_map-take}
use Rattle.frames.proofs.parts.list.items_len.Goals as goal

pub len-total-requires : goal.len-total-requires
len-total-requires g c =
    let room = length-flat_map-take g.T.Put.spelled c.args.items.now c.loop-item.item-index c.item-item.result c.loop-item-test.true in
    let here = rw (← c.item-item.is) at room in
    omega (arith, here, c.requires)

pub overflow_add-total : goal.overflow_add-total
overflow_add-total g c =
    let room = length-flat_map-take g.T.Put.spelled c.args.items.now c.loop-item.item-index c.item-item.result c.loop-item-test.true in
    let here = rw (← c.item-item.is) at room in
    record { fits = omega (arith, here, c.requires, c.loop-item.invariant, c.len-total.ensures) }
