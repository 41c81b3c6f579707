use Rattle.std.proofs.Common.{◌≡◌, ◌≤◌, ◌+◌, ℕ, List, length, take, Result, Ok, Err, ap, subst, sym, ◌∙◌, arith}
use Rattle.shared_log.specs.Readers.{seen_of}
use Rattle.wal.specs.Records.{shared_records}
use Rattle.wal.specs.declared.record.Record.{Record}
use Rattle.segments.specs.Keeping.{HasLogged}
use Rattle.segments.specs.declared.fault.SegmentFault.{SegmentFault}
use Rattle.segments.specs.declared.fault.SegmentFault.TheVariants.{Disk}
use Rattle.segments.specs.declared.keep_fault.KeepFault.{KeepFault}
use Rattle.segments.specs.declared.keep_fault.KeepFault.TheVariants.{Segment}
use Rattle.segments.proofs.Kept.{ok_of, reached_there, still_within}
use Rattle.segments.proofs.log_keeper.LogKeeper.write_on.Goals as goal

abbrev as_answer : Result (Unit {0}) SegmentFault → Result ℕ KeepFault
as_answer (Ok u) = Ok 0
as_answer (Err fault) = Err (Segment fault)

pub returns-clause-keeps : goal.returns-clause-keeps
returns-clause-keeps g c = λ never has.
    let old = c.args.self.now.reader in
    let arcs = c.as_slice.result.now in
    let written = c.write_all-written.result.0 in
    let gives = c.in_ok-records.ensures.gives in
    let whole : written ≡ length arcs = ok_of c.write_all-written.result.1 c.in_default.not-Err c.write_all-written.ensures.whole in
    let items = c.as_slice.ensures.value in
    let is = ap (λ l. shared_records l) items ∙ gives.0 in
    let wrote = c.write_all-written.ensures.logged (c.in_default.not-Err Disk) (take old.place (seen_of old)) has in
    let log = reached_there (seen_of old) (seen_of c.fetch.new.self) arcs old.place written c.args.max c.fetch.new.self.place c.fetch.ensures.grows c.args.self.now.within is (omega (arith, whole)) (omega (arith, gives.1, whole, c.as_slice.ensures.len)) in
    subst (λ (l : List Record). HasLogged g.D.Disk.seen c.write_all-written.new.segment l) log wrote

pub returns-in-Err-clause-keeps : goal.returns-in-Err-clause-keeps
returns-in-Err-clause-keeps g c = λ never has.
    let old = c.args.self.now.reader in
    let arcs = c.as_slice.result.now in
    let written = c.write_all-written.result.0 in
    let gives = c.in_ok-records.ensures.gives in
    let items = c.as_slice.ensures.value in
    let is = ap (λ l. shared_records l) items ∙ gives.0 in
    let failed : c.write_all-written.result.1 ≡ Err c.in-Err.fault = c.in-Err.is in
    let other = λ (bad : c.write_all-written.result.1 ≡ Err Disk). never (ap as_answer (sym failed ∙ bad)) in
    let wrote = c.write_all-written.ensures.logged other (take old.place (seen_of old)) has in
    let few : written ≤ length arcs = c.write_all-written.ensures.within in
    let at : c.seek.new.self.place ≡ old.place + written = omega (arith, c.seek.ensures.moved, c.place.ensures, c.len-count.ensures, gives.1, few, c.as_slice.ensures.len) in
    let log = reached_there (seen_of old) (seen_of c.fetch.new.self) arcs old.place written c.args.max c.seek.new.self.place c.fetch.ensures.grows c.args.self.now.within is few at in
    let again = log ∙ ap (λ (l : List Record). take c.seek.new.self.place l) (sym c.seek.ensures.same.0) in
    subst (λ (l : List Record). HasLogged g.D.Disk.seen c.write_all-written.new.segment l) again wrote

pub invariant_of-self-in_default : goal.invariant_of-self-in_default
invariant_of-self-in_default g c =
    let gives = c.in_ok-records.ensures.gives in
    let items = c.as_slice.ensures.value in
    record { within = still_within (seen_of c.args.self.now.reader) (seen_of c.fetch.new.self) c.in_ok-records.records.items c.args.self.now.reader.place c.args.max c.fetch.new.self.place c.fetch.ensures.grows c.args.self.now.within gives.0 (omega (arith, gives.1, c.as_slice.ensures.len, ap length items)) }
