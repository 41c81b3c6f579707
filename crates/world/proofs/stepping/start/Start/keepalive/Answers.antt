use Rattle.std.proofs.Common.{◌≡◌, sym, subst}
use Rattle.std.specs.Int.{w64}
use Rattle.std.proofs.lemmas.Int.{to_z-of_z}
use Rattle.walsender.specs.Sending.{SenderState}
use Rattle.world.specs.declared.stepping.action.Action.TheVariants as actions
use Rattle.world.specs.declared.stepping.start.StartStage.{StartStage}
use Rattle.world.specs.Acting.{Acts, answer_of}
use Rattle.world.specs.Starts.{IsServedBy, open_state, state_with}
use Rattle.world.proofs.Sections.{keepalive_acts}
use Rattle.world.proofs.stepping.start.Start.keepalive.Goals as goal

pub returns-clause-served : goal.returns-clause-served
returns-clause-served g c =
    let log = c.args.publisher.now.log in
    let produced = c.args.self.now.produced.items in
    let P : StartStage _ → Type 0 = λ o. IsServedBy log produced o in
    c.keepalive.ensures.serves log produced (subst P c.in-Open.is c.requires.served)

pub returns-clause-acts : goal.returns-clause-acts
returns-clause-acts g c =
    let log = c.args.publisher.now.log in
    let produced = c.args.self.now.produced.items in
    let name = c.args.self.now.connection in
    let s : SenderState = c.in-Open.walsender.sender in
    let new : SenderState = c.keepalive.new.self.sender in
    let told = rw (to_z-of_z w64 c.args.clock c.ranges.clock) at c.keepalive.ensures.ok in
    let Q : StartStage _ → Type 0 = λ o. Acts log (actions.Keepalive c.args.clock) (state_with name produced o) (answer_of c.keepalive.result) (open_state name produced new) in
    rw c.answer_of.ensures (subst Q (sym c.in-Open.is) (keepalive_acts log c.args.clock name produced s new c.keepalive.result c.keepalive.ensures.failed c.keepalive.ensures.gap c.keepalive.ensures.full told c.keepalive.ensures.err))
