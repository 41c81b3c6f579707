use Rattle.std.proofs.Common.{◌≡◌, sym, subst}
use Rattle.std.specs.Int.{w64}
use Rattle.std.proofs.lemmas.Int.{to_z-of_z}
use Rattle.schedule.specs.declared.fault.WorldFault.TheVariants as worlds
use Rattle.shared_log.specs.declared.fault.ReadFault.{ReadFault}
use Rattle.shared_log.specs.SeenPrefixes.{settled_records}
use Rattle.shared_log.specs.Readers.{HasSeen, seen_of}
use Rattle.shared_log.proofs.Prefixes.{begins_longer}
use Rattle.walsender.specs.Sending.{SenderState}
use Rattle.walsender.specs.Serving.{IsServing}
use Rattle.world.specs.declared.stepping.action.Action.TheVariants as actions
use Rattle.world.specs.declared.stepping.start.StartStage.{StartStage}
use Rattle.world.specs.Acting.{Acts, answer_of}
use Rattle.world.specs.Starts.{IsServedBy, open_state, state_with}
use Rattle.world.proofs.Sections.{read_acts}
use Rattle.world.proofs.stepping.start.Start.read.Goals as goal

pub returns-in-Ok-clause-served : goal.returns-in-Ok-clause-served
returns-in-Ok-clause-served g c =
    let P : StartStage _ → Type 0 = λ o. IsServedBy c.args.publisher.now.log c.args.self.now.produced.items o in
    c.read_on.ensures.serves c.args.self.now.produced.items (subst P c.in-Open.is c.requires.served)

pub returns-in-Err-clause-served : goal.returns-in-Err-clause-served
returns-in-Err-clause-served g c =
    let P : StartStage _ → Type 0 = λ o. IsServedBy c.args.publisher.now.log c.args.self.now.produced.items o in
    c.read_on.ensures.serves c.args.self.now.produced.items (subst P c.in-Open.is c.requires.served)

pub returns-in-Err-clause-memory : goal.returns-in-Err-clause-memory
returns-in-Err-clause-memory g c = λ is.
    let refused : c.fault_of.result ≡ worlds.Memory = cc in
    let new = c.read_on.new.walsender.reader in
    let Seen : ReadFault → Type 0 = λ f. HasSeen f c.in-Open.walsender.reader new in
    let seen = subst Seen (c.fault_of.ensures.memory refused) c.in-Err.ensures.why in
    begins_longer c.args.publisher.now.log (settled_records new.told) (seen_of new) c.read_on.ensures.told seen.0

pub returns-in-Ok-clause-acts : goal.returns-in-Ok-clause-acts
returns-in-Ok-clause-acts g c =
    let log = c.args.publisher.now.log in
    let place = c.in-Open.walsender.reader.place in
    let produced = c.args.self.now.produced.items in
    let name = c.args.self.now.connection in
    let s : SenderState = c.in-Open.walsender.sender in
    let new : SenderState = c.read_on.new.walsender.sender in
    let P : StartStage _ → Type 0 = λ o. IsServedBy log produced o in
    let serving : IsServing log place produced s = subst P c.in-Open.is c.requires.served in
    let reads = rw (to_z-of_z w64 c.args.clock c.ranges.clock) at c.in-Ok.ensures.reads in
    let Q : StartStage _ → Type 0 = λ o. Acts log (actions.Read c.args.max c.args.clock) (state_with name produced o) (answer_of c.in-Ok.fed) (open_state name produced new) in
    rw c.answer_of.ensures (subst Q (sym c.in-Open.is) (read_acts log place c.args.max c.args.clock name produced s new c.in-Ok.fed c.read_on.ensures.publisher.log.good serving reads))
