use Rattle.std.proofs.Common.{◌<◌, ◌^◌, List, [], ◌∷◌, ◌++◌, None, ap, ◌∙◌, arith, w64}
use Rattle.std.proofs.lemmas.Int.{to_z-of_z}
use Rattle.copyboth.specs.declared.status.Status.{Status}
use Rattle.world.specs.PipeBack.{statuses_in}
use Rattle.world.specs.Slots.{status_with}
use Rattle.world.specs.Machine.{subscriber_state}
use Rattle.world.proofs.PipeBytes.{holds_one, is_spelled}
use Rattle.world.proofs.PipesBack.{on_ok}
use Rattle.world.proofs.subscriber.Subscriber.put_back.Goals as goal

pub send-requires : goal.send-requires
send-requires c =
    let p = c.args.self.now.applier.subscriber.position in
    let short : p < 2 ^ 64 = omega arith in
    let sent = holds_one (status_with None c.args.clock p) (is_spelled p p p c.args.clock short short short c.ranges.clock) in
    rw (rw (to_z-of_z w64 c.args.clock c.ranges.clock) at c.status-frame.ensures) sent.pipe

pub returns-in-None-clause-ok : goal.returns-in-None-clause-ok
returns-in-None-clause-ok c =
    let p = c.args.self.now.applier.subscriber.position in
    let short : p < 2 ^ 64 = omega arith in
    let old = c.args.self.now in
    let sent = holds_one (status_with None c.args.clock p) (is_spelled p p p c.args.clock short short short c.ranges.clock) in
    rw c.in-None.is (on_ok c.send.result (λ (back : List Status). record (subscriber_state old) { back = back }) c.send.new.self (old.back ++ statuses_in c.status-frame.result) (old.back ++ status_with None c.args.clock p ∷ [])
    c.send.ensures.ok (ap (λ (l : List Status). old.back ++ l) (ap statuses_in (rw (to_z-of_z w64 c.args.clock c.ranges.clock) at c.status-frame.ensures) ∙ sent.read)))
