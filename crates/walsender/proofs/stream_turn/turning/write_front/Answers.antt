use Rattle.std.proofs.Common.{◌≡◌, ◌-◌, length, take, drop, arith}
use Rattle.std.proofs.lemmas.List.{length-drop, take_rest}
use Rattle.walsender.proofs.Turns.{more_taken}
use Rattle.walsender.proofs.stream_turn.turning.write_front.Goals as goal

pub loop-taken-preserved : goal.loop-taken-preserved
loop-taken-preserved g c =
    let (within, written) = c.loop-taken.invariant in
    let bytes = c.args.bytes.now in
    let taken = c.loop-taken.taken in
    let rest : take (length bytes - taken) (drop taken bytes) ≡ drop taken bytes = take_rest bytes taken in
    let bound = rw rest at c.in-Ok.ensures.bound in
    (omega (arith, bound, length-drop taken bytes), more_taken _ _ _ bytes taken c.in-Ok.count written (rw rest at c.in-Ok.ensures.bytes))
