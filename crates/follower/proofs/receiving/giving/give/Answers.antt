use Rattle.std.proofs.Common.{◌≡◌, ◌-◌, length, take, drop, arith}
use Rattle.std.proofs.lemmas.List.{length-drop, take_rest}
use Rattle.follower.proofs.Given.{more_given}
use Rattle.follower.proofs.receiving.giving.give.Goals as goal

pub loop-preserved : goal.loop-preserved
loop-preserved g c =
    let (within, written) = c.loop.invariant in
    let bytes = c.args.bytes.now in
    let taken = c.loop.taken in
    let rest : take (length bytes - taken) (drop taken bytes) ≡ drop taken bytes = take_rest bytes taken in
    let bound = rw rest at c.in-Ok.ensures.within in
    (omega (arith, bound, length-drop taken bytes), more_given _ _ _ bytes taken c.in-Ok.count written (rw rest at c.in-Ok.ensures.taken))
