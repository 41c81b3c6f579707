use Rattle.std.proofs.Common.{◌≡◌, true, false, Err, List, ap, refl, sym, subst, ◌∙◌, arith}
use Rattle.std.specs.Prelude.{IsOk}
use Rattle.std.specs.Int.{w64}
use Rattle.std.proofs.lemmas.Int.{to_z-of_z}
use Rattle.wal.specs.declared.record.Record.{Record}
use Rattle.reorder.specs.Settled.{FillsReady, LeavesNoRoomBeside, lent_chunks}
use Rattle.reorder.specs.Taking.{HasTaken, MayCome, Takes, promised_changes, readied_changes}
use Rattle.reorder.specs.declared.fault.ReorderFault.{ReorderFault}
use Rattle.walsender.specs.declared.fault.SendFault.{SendFault}
use Rattle.walsender.specs.Waiting.{ready_states}
use Rattle.walsender.proofs.GivingWay.{lacks_room_alone, lacks_room_beside, read_after, running_then, taken_then, tidy_then}
use Rattle.walsender.proofs.Lent.{keeps_lent}
use Rattle.walsender.proofs.Noting.{on_err}
use Rattle.walsender.proofs.Sized.{filled_alone, none_waits, size_settled}
use Rattle.walsender.proofs.Taken.{lent_step, quiet_of, read_one, tidy_step}
use Rattle.walsender.proofs.sender.Sender.take.Goals as goal

-- what waits has given way

pub invariant_of-self : goal.invariant_of-self
invariant_of-self c = c.give_way.ensures.same.good

-- the regrouping has taken the record, and what waits still stays in it

pub invariant_of-self-in-Err : goal.invariant_of-self-in-Err
invariant_of-self-in-Err c = (keeps_lent c.self.inside.selection c.give_way.new.reorder c.take.new.self c.give_way.new.self c.give_way.ensures.same.good c.take.ensures.lent).good

pub add_record-requires-clause-good : goal.add_record-requires-clause-good
add_record-requires-clause-good c = (keeps_lent c.self.inside.selection c.give_way.new.reorder c.take.new.self c.give_way.new.self c.give_way.ensures.same.good c.take.ensures.lent).good

pub add_record-requires-clause-lent : goal.add_record-requires-clause-lent
add_record-requires-clause-lent c =
    lent_step c.give_way.new.reorder c.take.new.self (ready_states c.give_way.new.self.waiting.items) c.in-Ok.step c.give_way.ensures.same.good.lent c.take.ensures.lent c.in-Ok.ensures.held c.in-Ok.ensures.apart

-- refused

pub returns-in-Err-clause-err : goal.returns-in-Err-clause-err
returns-in-Err-clause-err c =
    let i = c.self.inside in
    let kept = keeps_lent i.selection c.give_way.new.reorder c.take.new.self c.give_way.new.self c.give_way.ensures.same.good c.take.ensures.lent in
    rw (← c.self.view_is) (record { selection = refl; start = refl; position = refl; held = kept.held ∙ c.give_way.ensures.same.held })

pub returns-in_err-add_record-in-Ok-clause-err : goal.returns-in_err-add_record-in-Ok-clause-err
returns-in_err-add_record-in-Ok-clause-err c =
    let i = c.self.inside in
    let kept = keeps_lent i.selection c.give_way.new.reorder c.take.new.self c.give_way.new.self c.give_way.ensures.same.good c.take.ensures.lent in
    rw (← c.self.view_is) (on_err c.from_residual-in_err-add_record-in-Ok.result _ (record { selection = refl; start = refl; position = refl; held = c.in_err-add_record-in-Ok.ensures.grows.err ∙ (kept.held ∙ c.give_way.ensures.same.held) }))

pub returns-in-Err-clause-room : goal.returns-in-Err-clause-room
returns-in-Err-clause-room c = λ is.
    let i = c.self.inside in
    let g = c.give_way.new in
    let ws = ready_states g.self.waiting.items in
    let told : c.refusal_of.result ≡ SendFault.ArenaFull = cc in
    let full : c.take.result ≡ Err ReorderFault.Full = c.in-Err.is ∙ ap Err (c.refusal_of.ensures.full told) in
    rw (← c.self.view_is) (λ rs count taken may tidy.
    lacks_room_alone i.selection i.reorder g.reorder i.outgoing g.self c.give_way.ensures.same rs count c.args.next.now.value c.in_ok-give_way.ensures.free taken tidy
    (λ taken_then tidy_then. subst (λ (r : Record). LeavesNoRoomBeside (lent_chunks g.reorder ws) count rs r) c.deref.ensures
    (c.take.ensures.full_beside full rs ws count taken_then (subst (λ (r : Record). MayCome rs r.body) (sym c.deref.ensures) may) c.give_way.ensures.same.good.lent tidy_then)))

-- memory was refused

pub returns-in_err-give_way-clause-left : goal.returns-in_err-give_way-clause-left
returns-in_err-give_way-clause-left c = λ is. rw (← c.self.view_is) (λ rs count running taken may behind tidy full. let low = c.in_err-give_way.ensures.left rs count taken tidy in let all = full.all in omega (arith, low, all))

pub returns-in-Err-clause-left : goal.returns-in-Err-clause-left
returns-in-Err-clause-left c = λ is.
    let i = c.self.inside in
    let g = c.give_way.new in
    let ws = ready_states g.self.waiting.items in
    let same = c.give_way.ensures.same in
    rw (← c.self.view_is) (λ rs count running taken may behind tidy full.
    let none = lacks_room_beside i.selection i.reorder g.reorder i.outgoing g.self same rs count c.args.next.now.value c.in_ok-give_way.ensures.free taken tidy full in
    let told : c.take.result ≡ Err ReorderFault.Full =
    c.take.ensures.lacks_beside rs ws count (running_then i.selection i.reorder g.reorder i.outgoing g.self same running) (taken_then i.selection i.reorder g.reorder i.outgoing g.self same rs taken)
    (subst (λ (r : Record). MayCome rs r.body) (sym c.deref.ensures) may) same.good.lent (tidy_then i.selection i.reorder g.reorder i.outgoing g.self same count tidy)
    (subst (λ (r : Record). LeavesNoRoomBeside (lent_chunks g.reorder ws) count rs r) (sym c.deref.ensures) none) in
    let memory : c.refusal_of.result ≡ SendFault.Memory = cc in
    let same : c.in-Err.fault ≡ ReorderFault.Full = cc in
    c.refusal_of.ensures.memory memory same)

pub returns-in_err-add_record-in-Ok-clause-left : goal.returns-in_err-add_record-in-Ok-clause-left
returns-in_err-add_record-in-Ok-clause-left c = λ is.
    let i = c.self.inside in
    let g = c.give_way.new in
    let r = c.args.next.now.value in
    rw (← c.self.view_is) (λ rs count running taken may behind tidy full.
    let takes = subst (λ (q : Record). Takes g.reorder c.take.new.self q (readied_changes c.take.new.self c.in-Ok.step)) c.deref.ensures c.in-Ok.ensures.ok in
    let ready = (takes.after rs (taken_then i.selection i.reorder g.reorder i.outgoing g.self c.give_way.ensures.same rs taken) may behind).1 in
    let quiet = quiet_of c.take.new.self c.in-Ok.step (ready ∙ ap (promised_changes rs) full.is) in
    let change = rw c.deref-in-Ok.ensures at c.add_record.ensures.change in
    let done = subst (λ (o : _). IsOk o) c.in_err-add_record-in-Ok.was (change full.xid full.change full.is quiet) in
    let never : false ≡ true = done in
    cc)

-- read

pub returns-clause-ok : goal.returns-clause-ok
returns-clause-ok c =
    let i = c.self.inside in
    let g = c.give_way.new in
    let m = c.take.new.self in
    let told = c.in_ok-add_record-in-Ok.ensures in
    let ready = readied_changes m c.in-Ok.step in
    let grows = rw (to_z-of_z w64 c.args.clock c.ranges.clock, c.deref-in-Ok.ensures) at told.grows in
    let fit = rw c.deref-in-Ok.ensures at told.fit in
    let takes = subst (λ (r : Record). Takes g.reorder m r ready) c.deref.ensures c.in-Ok.ensures.ok in
    let fills = subst (λ (r : Record). (rs : List Record) → HasTaken g.reorder rs → MayCome rs r.body → FillsReady m c.in-Ok.step) c.deref.ensures c.in-Ok.ensures.chunks in
    let lents = rw c.deref-in-Ok.ensures at told.lent in
    rw (← c.self.view_is)
    (read_after i.selection i.reorder g.reorder i.outgoing g.self c.give_way.ensures.same c.args.clock i.start i.position i.failed c.args.next.now.value _
    (read_one c.args.clock i.selection i.start i.position c.deref-2.result.now.end i.failed c.args.next.now.value g.reorder m c.add_record.new.reorder g.self c.add_record.new.self c.in-Ok.step c.give_way.ensures.same.good.lent
    (keeps_lent i.selection g.reorder m g.self c.give_way.ensures.same.good c.take.ensures.lent) takes (ap (λ (r : Record). r.end) c.deref-2.ensures) grows fit told.taken fills lents (told.running ∙ c.in-Ok.ensures.running.1)))

pub returns-clause-chunks : goal.returns-clause-chunks
returns-clause-chunks c =
    let i = c.self.inside in
    let g = c.give_way.new in
    let ws = ready_states g.self.waiting.items in
    rw (← c.self.view_is) (λ count tidy.
    c.in_ok-add_record-in-Ok.ensures.tidy count
    (tidy_step g.reorder c.take.new.self ws c.in-Ok.step count c.give_way.ensures.same.good.lent
    (lent_step g.reorder c.take.new.self ws c.in-Ok.step c.give_way.ensures.same.good.lent c.take.ensures.lent c.in-Ok.ensures.held c.in-Ok.ensures.apart)
    c.in-Ok.ensures.tidy (tidy_then i.selection i.reorder g.reorder i.outgoing g.self c.give_way.ensures.same count tidy)))

-- the arena

pub returns-in-Err-clause-filled : goal.returns-in-Err-clause-filled
returns-in-Err-clause-filled c = λ is.
    let i = c.self.inside in
    let g = c.give_way.new in
    let ws = ready_states g.self.waiting.items in
    let told : c.refusal_of.result ≡ SendFault.ArenaFull = cc in
    let full : c.take.result ≡ Err ReorderFault.Full = c.in-Err.is ∙ ap Err (c.refusal_of.ensures.full told) in
    rw (← c.self.view_is) (λ rs count taken may tidy.
    filled_alone i.selection i.start i.position i.failed _ _ c.take.new.self g.self
    (none_waits i.selection i.reorder g.reorder i.outgoing g.self c.give_way.ensures.same rs count c.args.next.now.value c.in_ok-give_way.ensures.free taken tidy
    (λ taken_then tidy_then. subst (λ (r : Record). LeavesNoRoomBeside (lent_chunks g.reorder ws) count rs r) c.deref.ensures
    (c.take.ensures.full_beside full rs ws count taken_then (subst (λ (r : Record). MayCome rs r.body) (sym c.deref.ensures) may) c.give_way.ensures.same.good.lent tidy_then)))
    (c.take.ensures.filled full))

pub returns-in_err-give_way-clause-size : goal.returns-in_err-give_way-clause-size
returns-in_err-give_way-clause-size c =
    let i = c.self.inside in
    let g = c.give_way.new in
    rw (← c.self.view_is) (λ count has. size_settled i.selection i.reorder g.reorder g.reorder i.outgoing g.self g.self c.give_way.ensures.same refl ∙ has)

pub returns-in-Err-clause-size : goal.returns-in-Err-clause-size
returns-in-Err-clause-size c =
    let i = c.self.inside in
    let g = c.give_way.new in
    rw (← c.self.view_is) (λ count has. size_settled i.selection i.reorder g.reorder c.take.new.self i.outgoing g.self g.self c.give_way.ensures.same c.take.ensures.size ∙ has)

pub returns-in_err-add_record-in-Ok-clause-size : goal.returns-in_err-add_record-in-Ok-clause-size
returns-in_err-add_record-in-Ok-clause-size c =
    let i = c.self.inside in
    let g = c.give_way.new in
    rw (← c.self.view_is) (λ count has. size_settled i.selection i.reorder g.reorder c.add_record.new.reorder i.outgoing g.self c.add_record.new.self c.give_way.ensures.same (c.add_record.ensures.size ∙ c.take.ensures.size) ∙ has)

pub returns-clause-size : goal.returns-clause-size
returns-clause-size c =
    let i = c.self.inside in
    let g = c.give_way.new in
    rw (← c.self.view_is) (λ count has. size_settled i.selection i.reorder g.reorder c.add_record.new.reorder i.outgoing g.self c.add_record.new.self c.give_way.ensures.same (c.add_record.ensures.size ∙ c.take.ensures.size) ∙ has)
