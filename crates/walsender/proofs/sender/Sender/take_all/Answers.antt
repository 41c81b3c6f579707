use Rattle.std.proofs.Common.{length, ◌∷◌, [], true, take, ap, refl, sym, ◌∙◌, arith}
use Rattle.std.specs.Int.{w64}
use Rattle.std.proofs.lemmas.Int.{to_z-of_z}
use Rattle.wal.specs.Records.{shared_records}
use Rattle.walsender.specs.Outgoing.{held_of, lent_of, sent_of, settled_of}
use Rattle.walsender.specs.Sending.{SenderState}
use Rattle.walsender.proofs.Batches.{ReadOne-ReadAll, ReadAll-append, fills_all, has_room, lacks_room, shared_at, shared_more, stopped_at}
use Rattle.walsender.proofs.States.{state}
use Rattle.walsender.proofs.sender.Sender.take_all.Goals as goal

pub returns-in-Err-clause-out : goal.returns-in-Err-clause-out
returns-in-Err-clause-out c =
    let i = c.self.inside in
    let new : SenderState = state i.selection i.start i.position true (held_of i.selection i.reorder i.outgoing) (sent_of i.selection i.reorder i.outgoing) (settled_of i.reorder i.outgoing) (lent_of i.reorder i.outgoing) in
    stopped_at c.args.clock c.args.self.now c.loop-record.self c.take.new.self new c.args.records.now c.loop-record.record-index (omega arith) (rw (to_z-of_z w64 c.args.clock c.ranges.clock) at c.loop-record.invariant.read) c.in-Err.ensures.err
    (ap (λ (s : SenderState). s.selection) c.self.view_is) (ap (λ (s : SenderState). s.start) c.self.view_is) (ap (λ (s : SenderState). s.position) c.self.view_is) (ap (λ (s : SenderState). s.held) c.self.view_is) refl

pub loop-record-preserved : goal.loop-record-preserved
loop-record-preserved c =
    let item = shared_more c.args.records.now c.loop-record.record-index c.record-item.result (omega arith) (sym c.record-item.is) in
    record {
      read = rw item (ReadAll-append _ c.args.self.now c.loop-record.self c.take.new.self (shared_records (take c.loop-record.record-index c.args.records.now)) (c.record-item.result.value ∷ [])
          c.loop-record.invariant.read (ReadOne-ReadAll _ c.loop-record.self c.take.new.self c.record-item.result.value c.in-Ok.ensures.ok));
      running = c.in-Ok.ensures.failed ∙ c.loop-record.invariant.running;
      chunks = λ count before. c.in-Ok.ensures.chunks count (c.loop-record.invariant.chunks count before);
      size = λ count before. c.take.ensures.size count (c.loop-record.invariant.size count before);
    }

pub returns-in-Err-clause-room : goal.returns-in-Err-clause-room
returns-in-Err-clause-room c = λ full.
    let i = c.self.inside in
    let new : SenderState = state i.selection i.start i.position true (held_of i.selection i.reorder i.outgoing) (sent_of i.selection i.reorder i.outgoing) (settled_of i.reorder i.outgoing) (lent_of i.reorder i.outgoing) in
    lacks_room c.args.clock c.args.self.now c.loop-record.self c.args.records.now c.loop-record.record-index c.record-item.result.value (omega arith)
    (shared_at c.args.records.now c.loop-record.record-index c.record-item.result (omega arith) c.record-item.is) (rw (to_z-of_z w64 c.args.clock c.ranges.clock) at c.loop-record.invariant.read)
    c.take.new.self new c.in-Err.ensures.err (ap (λ (s : SenderState). s.position) c.self.view_is) c.loop-record.invariant.chunks (c.in-Err.ensures.room full)

pub returns-in-Err-clause-left : goal.returns-in-Err-clause-left
returns-in-Err-clause-left c = λ lacks.
    let i = c.self.inside in
    let new : SenderState = state i.selection i.start i.position true (held_of i.selection i.reorder i.outgoing) (sent_of i.selection i.reorder i.outgoing) (settled_of i.reorder i.outgoing) (lent_of i.reorder i.outgoing) in
    has_room c.args.clock c.args.self.now c.loop-record.self c.args.records.now c.loop-record.record-index c.record-item.result.value (omega arith)
    (shared_at c.args.records.now c.loop-record.record-index c.record-item.result (omega arith) c.record-item.is) (rw (to_z-of_z w64 c.args.clock c.ranges.clock) at c.loop-record.invariant.read)
    c.take.new.self new c.in-Err.ensures.err (ap (λ (s : SenderState). s.position) c.self.view_is) c.loop-record.invariant.chunks (c.in-Err.ensures.left lacks)

pub returns-in-Err-clause-filled : goal.returns-in-Err-clause-filled
returns-in-Err-clause-filled c = λ full.
    let i = c.self.inside in
    let new : SenderState = state i.selection i.start i.position true (held_of i.selection i.reorder i.outgoing) (sent_of i.selection i.reorder i.outgoing) (settled_of i.reorder i.outgoing) (lent_of i.reorder i.outgoing) in
    fills_all c.args.clock c.args.self.now c.loop-record.self c.args.records.now c.loop-record.record-index c.record-item.result.value (omega arith)
    (shared_at c.args.records.now c.loop-record.record-index c.record-item.result (omega arith) c.record-item.is) (rw (to_z-of_z w64 c.args.clock c.ranges.clock) at c.loop-record.invariant.read)
    c.take.new.self new (ap (λ (s : SenderState). s.reorder) c.self.view_is) (ap (λ (s : SenderState). s.lent) c.self.view_is) c.loop-record.invariant.chunks (c.in-Err.ensures.filled full)

pub returns-in-Err-clause-size : goal.returns-in-Err-clause-size
returns-in-Err-clause-size c = λ count has.
    ap (λ (s : SenderState). length s.reorder.strands.pool.arena) c.self.view_is ∙ c.take.ensures.size count (c.loop-record.invariant.size count has)
