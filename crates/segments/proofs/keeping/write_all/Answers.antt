use Rattle.std.proofs.Common.{◌≡◌, [], ◌∷◌, ◌++◌, ◌<◌, List, length, take, get_or, subst, sym, arith}
use Rattle.wal.specs.Records.{shared_records}
use Rattle.wal.specs.declared.record.Record.{Record}
use Rattle.segments.specs.Keeping.{HasLogged}
use Rattle.segments.proofs.Kept.{taken}
use Rattle.segments.proofs.keeping.write_all.Goals as goal

pub loop-record-preserved : goal.loop-record-preserved
loop-record-preserved g c =
    let n = c.loop-record.written in
    let arcs = c.args.records.now in
    let front = take n (shared_records arcs) in
    let at = c.loop-record.invariant.0 in
    let within = c.loop-record-test.true in
    let below : n < length arcs = omega (arith, at, within) in
    let is = subst (λ i. c.record-item.result ≡ get_or arcs i c.record-item.result) (sym at) c.record-item.is in
    (omega (arith, at), λ log has. subst (λ (l : List Record). HasLogged g.D.Disk.seen c.write_one.new.segment l) (taken log arcs n c.record-item.result below is) (subst (λ (r : Record). HasLogged g.D.Disk.seen c.write_one.new.segment ((log ++ front) ++ r ∷ [])) c.deref.ensures (c.in_default.ensures.logged (log ++ front) (c.loop-record.invariant.1 log has))))
