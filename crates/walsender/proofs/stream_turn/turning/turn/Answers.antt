use Rattle.std.proofs.Common.{◌≡◌, ℕ, ◌+◌, ap, refl, sym, subst, ◌∙◌, false, length, rules, arith}
use Rattle.std.specs.Int.{w64}
use Rattle.std.proofs.lemmas.Bool.{false≢true, false_from_ne_true}
use Rattle.std.proofs.lemmas.Int.{to_z-of_z}
use Rattle.shared_log.specs.Readers.{seen_of}
use Rattle.wal.specs.Records.{shared_records}
use Rattle.walsender.specs.Turning.{fetched_from}
use Rattle.walsender.proofs.Refusing.{apart, count_is, error_is, fetch_failed, fetch_not_sender, fetch_not_write, fetch_why, fetched, no_count, not_both, not_fetch, nothing_sent, ok_no_error, refused_is, same_refusal}
use Rattle.walsender.proofs.Turns.{turned}
use Rattle.shared_log.specs.declared.fault.ReadFault.{ReadFault}
use Rattle.shared_log.specs.Readers.{HasSeen}
use Rattle.walsender.specs.Faults.{fault_of_fetch, has_written}
use Rattle.walsender.specs.declared.stream_turn.turn_fault.TurnFault.TheVariants as turns
use Rattle.walsender.specs.declared.fault.SendFault.{SendFault}
use Rattle.walsender.specs.Turning.{IsRefused}
use Rattle.walsender.proofs.stream_turn.turning.turn.Goals as goal

pub returns-clause-sent : goal.returns-clause-sent
returns-clause-sent g c =
    let told = c.in_ok-fed.ensures in
    let (given, parts, appended) = c.write_held.ensures.given in
    let same : shared_records c.as_slice.result.now ≡ fetched_from c.args.most c.args.reader.now.place (seen_of c.fetch.new.self) = ap shared_records c.as_slice.ensures.value ∙ c.in_ok-records.ensures.gives.0 in
    let read = rw (to_z-of_z w64 c.args.clock c.ranges.clock) at told.ok in
    let running : c.args.sender.now.failed ≡ false = false_from_ne_true _ (λ t. let e = told.failed.1 t in search rules) in
    (given, turned c.args.clock c.args.sender.now c.feed-fed.new.self c.write_held.new.self (shared_records c.as_slice.result.now) _ given same running told.follow read told.running parts c.write_held.ensures.rest c.write_held.ensures.lent, c.in_ok-write_held.ensures.ok, appended)

-- The same where the writer took a beginning alone.
pub returns-in_err-write_held-clause-broken : goal.returns-in_err-write_held-clause-broken
returns-in_err-write_held-clause-broken g c e is =
    let told = c.in_ok-fed.ensures in
    let (given, parts, appended) = c.write_held.ensures.given in
    let same : shared_records c.as_slice.result.now ≡ fetched_from c.args.most c.args.reader.now.place (seen_of c.fetch.new.self) = ap shared_records c.as_slice.ensures.value ∙ c.in_ok-records.ensures.gives.0 in
    let read = rw (to_z-of_z w64 c.args.clock c.ranges.clock) at told.ok in
    let running : c.args.sender.now.failed ≡ false = false_from_ne_true _ (λ t. let e = told.failed.1 t in search rules) in
    (given, turned c.args.clock c.args.sender.now c.feed-fed.new.self c.write_held.new.self (shared_records c.as_slice.result.now) _ given same running told.follow read told.running parts c.write_held.ensures.rest c.write_held.ensures.lent, c.in_err-write_held.ensures.err, appended)

pub returns-in_err-records-clause-grows : goal.returns-in_err-records-clause-grows
returns-in_err-records-clause-grows g c =
    c.fetch.ensures.grows

pub returns-in_err-records-clause-told : goal.returns-in_err-records-clause-told
returns-in_err-records-clause-told g c =
    c.fetch.ensures.told

pub returns-in_err-fed-clause-grows : goal.returns-in_err-fed-clause-grows
returns-in_err-fed-clause-grows g c =
    c.fetch.ensures.grows

pub returns-in_err-fed-clause-told : goal.returns-in_err-fed-clause-told
returns-in_err-fed-clause-told g c =
    c.fetch.ensures.told

pub returns-in_err-write_held-clause-grows : goal.returns-in_err-write_held-clause-grows
returns-in_err-write_held-clause-grows g c =
    c.fetch.ensures.grows

pub returns-in_err-write_held-clause-told : goal.returns-in_err-write_held-clause-told
returns-in_err-write_held-clause-told g c =
    c.fetch.ensures.told

pub returns-clause-grows : goal.returns-clause-grows
returns-clause-grows g c =
    c.fetch.ensures.grows

pub returns-clause-told : goal.returns-clause-told
returns-clause-told g c =
    c.fetch.ensures.told

pub returns-in_err-records-clause-count : goal.returns-in_err-records-clause-count
returns-in_err-records-clause-count g c =
    let is = error_is c.from_residual.result (fault_of_fetch c.in_err-records.field-0.0) c.from_residual.ensures.1 in
    no_count c.from_residual.result (fault_of_fetch c.in_err-records.field-0.0) _ is

pub returns-in_err-records-clause-moved : goal.returns-in_err-records-clause-moved
returns-in_err-records-clause-moved g c holds =
    let is = error_is c.from_residual.result (fault_of_fetch c.in_err-records.field-0.0) c.from_residual.ensures.1 in
    absurd (fetch_failed c.from_residual.result c.in_err-records.field-0.0 is holds)

pub returns-in_err-records-clause-fresh : goal.returns-in_err-records-clause-fresh
returns-in_err-records-clause-fresh g c holds =
    let is = error_is c.from_residual.result (fault_of_fetch c.in_err-records.field-0.0) c.from_residual.ensures.1 in
    absurd (fetch_failed c.from_residual.result c.in_err-records.field-0.0 is holds)

pub returns-in_err-records-clause-why : goal.returns-in_err-records-clause-why
returns-in_err-records-clause-why g c fault told =
    let is = error_is c.from_residual.result (fault_of_fetch c.in_err-records.field-0.0) c.from_residual.ensures.1 in
    subst (λ (f : ReadFault). HasSeen f c.args.reader.now c.fetch.new.self) (fetch_why c.from_residual.result c.in_err-records.field-0.0 fault is told) c.in_err-records.ensures.why

pub returns-in_err-records-clause-unfetched : goal.returns-in_err-records-clause-unfetched
returns-in_err-records-clause-unfetched g c lacks =
    (c.in_err-records.ensures.err, refl)

pub returns-in_err-records-clause-sent : goal.returns-in_err-records-clause-sent
returns-in_err-records-clause-sent g c =
    let is = error_is c.from_residual.result (fault_of_fetch c.in_err-records.field-0.0) c.from_residual.ensures.1 in
    nothing_sent c.from_residual.result (fault_of_fetch c.in_err-records.field-0.0) _ is

pub returns-in_err-records-clause-broken : goal.returns-in_err-records-clause-broken
returns-in_err-records-clause-broken g c e told =
    let is = error_is c.from_residual.result (fault_of_fetch c.in_err-records.field-0.0) c.from_residual.ensures.1 in
    absurd (fetch_not_write c.from_residual.result c.in_err-records.field-0.0 e is told)

pub returns-in_err-records-clause-refused : goal.returns-in_err-records-clause-refused
returns-in_err-records-clause-refused g c e told =
    let is = error_is c.from_residual.result (fault_of_fetch c.in_err-records.field-0.0) c.from_residual.ensures.1 in
    absurd (fetch_not_sender c.from_residual.result c.in_err-records.field-0.0 e is told)

pub returns-in_err-records-clause-silent : goal.returns-in_err-records-clause-silent
returns-in_err-records-clause-silent g c lacks =
    refl

pub returns-in_err-fed-clause-count : goal.returns-in_err-fed-clause-count
returns-in_err-fed-clause-count g c =
    let is = error_is c.from_residual-in_err-fed.result (turns.Sender c.in_err-fed.field-0.0) c.from_residual-in_err-fed.ensures.1 in
    no_count c.from_residual-in_err-fed.result (turns.Sender c.in_err-fed.field-0.0) _ is

pub returns-in_err-fed-clause-moved : goal.returns-in_err-fed-clause-moved
returns-in_err-fed-clause-moved g c holds =
    let count : length c.in_ok-records.records.items ≡ length (fetched_from c.args.most c.args.reader.now.place (seen_of c.fetch.new.self)) = count_is _ c.in_ok-records.records.items _ c.in_ok-records.ensures.gives.0 in
    let size = c.in_ok-records.records.ok in
    c.in_ok-records.ensures.gives.1 ∙ ap (λ (n : ℕ). c.args.reader.now.place + n) (omega (arith, count, size))

pub returns-in_err-fed-clause-fresh : goal.returns-in_err-fed-clause-fresh
returns-in_err-fed-clause-fresh g c holds =
    c.in_ok-records.ensures.holds

pub returns-in_err-fed-clause-why : goal.returns-in_err-fed-clause-why
returns-in_err-fed-clause-why g c fault told =
    let is = error_is c.from_residual-in_err-fed.result (turns.Sender c.in_err-fed.field-0.0) c.from_residual-in_err-fed.ensures.1 in
    absurd (not_fetch c.from_residual-in_err-fed.result (turns.Sender c.in_err-fed.field-0.0) fault refl is told)

pub returns-in_err-fed-clause-unfetched : goal.returns-in_err-fed-clause-unfetched
returns-in_err-fed-clause-unfetched g c lacks =
    let is = error_is c.from_residual-in_err-fed.result (turns.Sender c.in_err-fed.field-0.0) c.from_residual-in_err-fed.ensures.1 in
    absurd (fetched c.from_residual-in_err-fed.result (turns.Sender c.in_err-fed.field-0.0) refl is lacks)

pub returns-in_err-fed-clause-sent : goal.returns-in_err-fed-clause-sent
returns-in_err-fed-clause-sent g c =
    let is = error_is c.from_residual-in_err-fed.result (turns.Sender c.in_err-fed.field-0.0) c.from_residual-in_err-fed.ensures.1 in
    nothing_sent c.from_residual-in_err-fed.result (turns.Sender c.in_err-fed.field-0.0) _ is

pub returns-in_err-fed-clause-broken : goal.returns-in_err-fed-clause-broken
returns-in_err-fed-clause-broken g c e told =
    let is = error_is c.from_residual-in_err-fed.result (turns.Sender c.in_err-fed.field-0.0) c.from_residual-in_err-fed.ensures.1 in
    absurd (not_both c.from_residual-in_err-fed.result c.in_err-fed.field-0.0 e is told)

pub returns-in_err-fed-clause-refused : goal.returns-in_err-fed-clause-refused
returns-in_err-fed-clause-refused g c e told =
    let is = error_is c.from_residual-in_err-fed.result (turns.Sender c.in_err-fed.field-0.0) c.from_residual-in_err-fed.ensures.1 in
    let f = c.feed-fed.ensures in
    let clock = to_z-of_z w64 c.args.clock c.ranges.clock in
    let same : shared_records c.as_slice.result.now ≡ fetched_from c.args.most c.args.reader.now.place (seen_of c.fetch.new.self) = ap shared_records c.as_slice.ensures.value ∙ c.in_ok-records.ensures.gives.0 in
    subst (λ (s : SendFault). IsRefused c.args.clock c.args.sender.now c.feed-fed.new.self (fetched_from c.args.most c.args.reader.now.place (seen_of c.fetch.new.self)) s) (same_refusal c.from_residual-in_err-fed.result c.in_err-fed.field-0.0 e is told)
    (refused_is c.args.clock c.args.sender.now c.feed-fed.new.self (shared_records c.as_slice.result.now) _ c.feed-fed.result c.in_err-fed.field-0.0 c.in_err-fed.was same (rw clock at f.full) (rw clock at f.memory) f.failed f.gap f.unchanged f.unread)

pub returns-in_err-fed-clause-silent : goal.returns-in_err-fed-clause-silent
returns-in_err-fed-clause-silent g c lacks =
    refl

pub returns-in_err-write_held-clause-count : goal.returns-in_err-write_held-clause-count
returns-in_err-write_held-clause-count g c =
    let is = error_is c.from_residual-in_err-write_held.result (turns.Write c.in_err-write_held.field-0.0) c.from_residual-in_err-write_held.ensures.1 in
    no_count c.from_residual-in_err-write_held.result (turns.Write c.in_err-write_held.field-0.0) _ is

pub returns-in_err-write_held-clause-moved : goal.returns-in_err-write_held-clause-moved
returns-in_err-write_held-clause-moved g c holds =
    let count : length c.in_ok-records.records.items ≡ length (fetched_from c.args.most c.args.reader.now.place (seen_of c.fetch.new.self)) = count_is _ c.in_ok-records.records.items _ c.in_ok-records.ensures.gives.0 in
    let size = c.in_ok-records.records.ok in
    c.in_ok-records.ensures.gives.1 ∙ ap (λ (n : ℕ). c.args.reader.now.place + n) (omega (arith, count, size))

pub returns-in_err-write_held-clause-fresh : goal.returns-in_err-write_held-clause-fresh
returns-in_err-write_held-clause-fresh g c holds =
    c.in_ok-records.ensures.holds

pub returns-in_err-write_held-clause-why : goal.returns-in_err-write_held-clause-why
returns-in_err-write_held-clause-why g c fault told =
    let is = error_is c.from_residual-in_err-write_held.result (turns.Write c.in_err-write_held.field-0.0) c.from_residual-in_err-write_held.ensures.1 in
    absurd (not_fetch c.from_residual-in_err-write_held.result (turns.Write c.in_err-write_held.field-0.0) fault refl is told)

pub returns-in_err-write_held-clause-unfetched : goal.returns-in_err-write_held-clause-unfetched
returns-in_err-write_held-clause-unfetched g c lacks =
    let is = error_is c.from_residual-in_err-write_held.result (turns.Write c.in_err-write_held.field-0.0) c.from_residual-in_err-write_held.ensures.1 in
    absurd (fetched c.from_residual-in_err-write_held.result (turns.Write c.in_err-write_held.field-0.0) refl is lacks)

pub returns-in_err-write_held-clause-sent : goal.returns-in_err-write_held-clause-sent
returns-in_err-write_held-clause-sent g c =
    let is = error_is c.from_residual-in_err-write_held.result (turns.Write c.in_err-write_held.field-0.0) c.from_residual-in_err-write_held.ensures.1 in
    nothing_sent c.from_residual-in_err-write_held.result (turns.Write c.in_err-write_held.field-0.0) _ is

pub returns-in_err-write_held-clause-refused : goal.returns-in_err-write_held-clause-refused
returns-in_err-write_held-clause-refused g c e told =
    let is = error_is c.from_residual-in_err-write_held.result (turns.Write c.in_err-write_held.field-0.0) c.from_residual-in_err-write_held.ensures.1 in
    absurd (not_both c.from_residual-in_err-write_held.result e c.in_err-write_held.field-0.0 told is)

pub returns-in_err-write_held-clause-silent : goal.returns-in_err-write_held-clause-silent
returns-in_err-write_held-clause-silent g c lacks =
    let is = error_is c.from_residual-in_err-write_held.result (turns.Write c.in_err-write_held.field-0.0) c.from_residual-in_err-write_held.ensures.1 in
    absurd (apart _ (ap has_written is) lacks)

pub returns-clause-count : goal.returns-clause-count
returns-clause-count g c =
    let count : length c.in_ok-records.records.items ≡ length (fetched_from c.args.most c.args.reader.now.place (seen_of c.fetch.new.self)) = count_is _ c.in_ok-records.records.items _ c.in_ok-records.ensures.gives.0 in
    let size = c.in_ok-records.records.ok in
    c.len-count.ensures ∙ omega (arith, count, size)

pub returns-clause-moved : goal.returns-clause-moved
returns-clause-moved g c holds =
    let count : length c.in_ok-records.records.items ≡ length (fetched_from c.args.most c.args.reader.now.place (seen_of c.fetch.new.self)) = count_is _ c.in_ok-records.records.items _ c.in_ok-records.ensures.gives.0 in
    let size = c.in_ok-records.records.ok in
    c.in_ok-records.ensures.gives.1 ∙ ap (λ (n : ℕ). c.args.reader.now.place + n) (omega (arith, count, size))

pub returns-clause-fresh : goal.returns-clause-fresh
returns-clause-fresh g c holds =
    c.in_ok-records.ensures.holds

pub returns-clause-why : goal.returns-clause-why
returns-clause-why g c fault told =
    absurd (ok_no_error c.len-count.result (fault_of_fetch fault) told)

pub returns-clause-unfetched : goal.returns-clause-unfetched
returns-clause-unfetched g c lacks =
    absurd (false≢true (sym lacks))

pub returns-clause-broken : goal.returns-clause-broken
returns-clause-broken g c e told =
    absurd (ok_no_error c.len-count.result (turns.Write e) told)

pub returns-clause-refused : goal.returns-clause-refused
returns-clause-refused g c e told =
    absurd (ok_no_error c.len-count.result (turns.Sender e) told)

pub returns-clause-silent : goal.returns-clause-silent
returns-clause-silent g c lacks =
    absurd (false≢true (sym lacks))
