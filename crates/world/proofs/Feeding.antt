-- A subscriber and the open start that feeds it: what was delivered, what is on its way, and what it has told.
use Rattle.std.proofs.Common.{◌≡◌, ◌≤◌, ◌+◌, ℕ, max, min, List, [], ◌++◌, length, take, drop, Option, Some, None, Result, Ok, Err, refl, sym, ap, subst, ◌∙◌, append_assoc, arith}
use Rattle.std.specs.Prelude.{◌||◌, Bool, nat_lt}
use Rattle.std.specs.List.{AllByRecursion}
use Rattle.std.proofs.Math.Seq.{take-add}
use Rattle.std.proofs.lemmas.List.{length-append, length-drop, length-take, take-append-drop, take-append-le, take_min}
use Rattle.wal.specs.declared.record.Record.{Record}
use Rattle.wal.specs.declared.record.TheConstants.{FIRST_POSITION}
use Rattle.wal.specs.Log.{IsWellFormedLog, end_of}
use Rattle.wal.proofs.Laws.{all_when}
use Rattle.publication.specs.Publications.{PublicationSet}
use Rattle.publication.specs.Selection.{relation}
use Rattle.copyboth.specs.declared.status.Status.{Status}
use Rattle.pgoutput.specs.declared.messages.relation.Relation.{Relation}
use Rattle.pgoutput.specs.declared.published.Published.{Published}
use Rattle.pgoutput.specs.Items.{Item, bytes_of_items}
use Rattle.pgoutput.specs.Stream.{IsStream}
use Rattle.walsender.specs.Published.{published_transactions}
use Rattle.client.specs.declared.fault.ClientFault.{ClientFault}
use Rattle.client.specs.Subscriber.{Subscriber, subscriber_at_rest}
use Rattle.client.specs.Taking.{ApplierState, HasTaken, Takes, TakesFrom}
use Rattle.client.specs.Law.{Ends, Gained}
use Rattle.client.proofs.Reaching.{reached_none}
use Rattle.world.specs.declared.printed.answer.Answer.{Answer}
use Rattle.world.specs.declared.printed.answer.Answer.TheVariants as answers
use Rattle.world.specs.Start.{StartState}
use Rattle.world.specs.Acting.{read_by}
use Rattle.world.specs.State.{SubscriberState, in_pipe}
use Rattle.world.specs.Law.{IsExact}
use Rattle.world.specs.Delivering.{AnswersTo, Gets}
use Rattle.world.proofs.Raising.{takes_follows, takes_raises}
use Rattle.world.proofs.Settled.{IsSettled, items_forward, settled_by}

-- without a start nothing is on its way
pub record IsAtRest (sub : SubscriberState) : Type 0 where
  pub applier : sub.applier ≡ record { subscriber = subscriber_at_rest sub.applier.subscriber.position sub.applier.subscriber.applied; unread = []; fault = None }
  pub slot : sub.slot ≡ None
  pub delivered : sub.delivered ≡ 0
  pub back : sub.back ≡ []

-- What a start has produced begins a stream encoding of what it publishes of the log, read up to some position.
pub record BeginsIn (log : List Record) (l : StartState) : Type 0 where
  pub position : ℕ
  pub rest : List ℕ
  pub at : position ≡ end_of FIRST_POSITION (read_by position log)
  pub whole : IsStream (relation l.selection) (l.produced ++ rest) (published_transactions l.selection (read_by position log) l.start) position

pub exact_begins : (log : List Record) (l : StartState) → IsExact log l → BeginsIn log l
exact_begins log l exact = record { position = l.position; rest = exact.begins.rest; at = exact.reads; whole = exact.begins.whole }

-- and so does less of it
pub less_begins : (log : List Record) (old new : StartState) (more : List ℕ) → new.selection ≡ old.selection → new.start ≡ old.start → new.produced ≡ old.produced ++ more → BeginsIn log new → BeginsIn log old
less_begins log old new more selection_is start_is produced_is begins =
    let bytes : new.produced ++ begins.rest ≡ old.produced ++ (more ++ begins.rest) = ap (λ l. l ++ begins.rest) produced_is ∙ append_assoc old.produced more begins.rest in
    record {
      position = begins.position;
      rest = more ++ begins.rest;
      at = begins.at;
      whole = rw (← selection_is, ← start_is, ← bytes) begins.whole;
    }

-- Its start began where it stood, or earlier. What was delivered since it has taken, up to a fault; what it has told on the way back is
-- no more than its position.
pub record IsFed (log : List Record) (from : ℕ) (selection : PublicationSet) (s : List ℕ) (begun : Option (ℕ × List Published)) (l : StartState) (sub : SubscriberState) : Type 0 where
  pub base : Subscriber
  pub stood : begun ≡ Some (base.position, base.applied)
  pub rests : base ≡ subscriber_at_rest base.position base.applied
  pub settled : IsSettled log from selection base
  pub later : from ≤ l.start
  pub asked : l.start ≤ max from base.position
  pub selects : l.selection ≡ selection
  pub streams : sub.slot ≡ Some s
  pub within : sub.delivered ≤ length l.produced
  pub taken : sub.applier.fault ≡ None → HasTaken base sub.applier (take sub.delivered l.produced)
  pub back : AllByRecursion (λ (t : Status). t.flushed ≤ sub.applier.subscriber.position) sub.back

-- the subscriber went on, over the same start
pub fed_further : {log : List Record} {from : ℕ} {selection : PublicationSet} {s : List ℕ} {begun : Option (ℕ × List Published)} {l : StartState} {sub : SubscriberState} (new : SubscriberState) (fed : IsFed log from selection s begun l sub)
    → new.slot ≡ sub.slot → new.delivered ≤ length l.produced → (new.applier.fault ≡ None → HasTaken fed.base new.applier (take new.delivered l.produced))
    → AllByRecursion (λ (t : Status). t.flushed ≤ new.applier.subscriber.position) new.back → IsFed log from selection s begun l new
fed_further new fed slot within taken back = record {
  base = fed.base;
  stood = fed.stood;
  rests = fed.rests;
  settled = fed.settled;
  later = fed.later;
  asked = fed.asked;
  selects = fed.selects;
  streams = slot ∙ fed.streams;
  within = within;
  taken = taken;
  back = back;
}

-- ---- The start produces more.

pub fed_produced : (log : List Record) (from : ℕ) (selection : PublicationSet) (s : List ℕ) (begun : Option (ℕ × List Published)) (l new : StartState) (more : List ℕ) (sub : SubscriberState) → new.start ≡ l.start → new.selection ≡ l.selection → new.produced ≡ l.produced ++ more
    → IsFed log from selection s begun l sub → IsFed log from selection s begun new sub
fed_produced log from selection s begun l new more sub start_is selection_is produced_is fed =
    let same : take sub.delivered new.produced ≡ take sub.delivered l.produced = ap (take sub.delivered) produced_is ∙ take-append-le sub.delivered l.produced more fed.within in
    record {
      base = fed.base;
      stood = fed.stood;
      rests = fed.rests;
      settled = fed.settled;
      later = omega (arith, start_is, fed.later);
      asked = omega (arith, start_is, fed.asked);
      selects = selection_is ∙ fed.selects;
      streams = fed.streams;
      within = omega (arith, fed.within, ap (length {A = ℕ}) produced_is, length-append l.produced more);
      taken = λ sound. subst (HasTaken fed.base sub.applier) (sym same) (fed.taken sound);
      back = fed.back;
    }

-- ---- The start begins.

pub taken_at_rest : (sub : SubscriberState) → IsAtRest sub → HasTaken sub.applier.subscriber sub.applier []
taken_at_rest sub rest =
    let base = subscriber_at_rest sub.applier.subscriber.position sub.applier.subscriber.applied in
    let fresh : HasTaken base (record { subscriber = base; unread = []; fault = None }) [] = record { reached = reached_none base []; waits = refl; sound = refl } in
    subst (λ (a : ApplierState). HasTaken a.subscriber a []) (sym rest.applier) fresh

pub fed_begun : (log : List Record) (from : ℕ) (selection : PublicationSet) (s : List ℕ) (begun : Option (ℕ × List Published)) (l : StartState) (sub : SubscriberState) → begun ≡ Some (sub.applier.subscriber.position, sub.applier.subscriber.applied) → l.selection ≡ selection → l.produced ≡ [] → from ≤ l.start → l.start ≤ max from sub.applier.subscriber.position
    → IsSettled log from selection sub.applier.subscriber → IsAtRest sub → IsFed log from selection s begun l (record sub { slot = Some s })
fed_begun log from selection s begun l sub stood selects produced later asked settled rest = record {
  base = sub.applier.subscriber;
  stood = stood;
  rests = ap (λ (a : ApplierState). a.subscriber) rest.applier;
  settled = settled;
  later = later;
  asked = asked;
  selects = selects;
  streams = refl;
  within = omega (arith, rest.delivered);
  taken = λ sound. subst (HasTaken sub.applier.subscriber sub.applier) (sym (ap (λ (n : ℕ). take n l.produced) rest.delivered)) (taken_at_rest sub rest);
  back = subst (AllByRecursion (λ (t : Status). t.flushed ≤ sub.applier.subscriber.position)) (sym rest.back) tt;
}

-- ---- A delivery.

answered : (bytes : List ℕ) (old new : ApplierState) (a : Answer) → AnswersTo bytes old a new → (r : Result (Unit {0}) ClientFault) × Takes old new bytes r
answered bytes old new answers.Done takes = (Ok tt, takes)
answered bytes old new (answers.Subscriber fault) takes = (Err fault, takes)
answered bytes old new (answers.Session fault) takes = absurd takes
answered bytes old new (answers.Slot fault) takes = absurd takes
answered bytes old new (answers.Publication fault) takes = absurd takes
answered bytes old new answers.NoReader takes = absurd takes
answered bytes old new answers.Removed takes = absurd takes
answered bytes old new (answers.Front place) takes = absurd takes
answered bytes old new (answers.Sender fault) takes = absurd takes

-- the bytes after those that were delivered
next_taken : (d n : ℕ) (p : List ℕ) → take d p ++ take n (drop d p) ≡ take (d + length (take n (drop d p))) p
next_taken d n p =
    let count : length (take n (drop d p)) ≡ min n (length (drop d p)) = length-take n (drop d p) in
    ap (λ l. take d p ++ l) (sym (take_min n (drop d p)) ∙ ap (λ (k : ℕ). take k (drop d p)) (sym count)) ∙ sym (take-add d (length (take n (drop d p))) p)

gains_of : (relation : ℕ → Relation) (base : Subscriber) (a : ApplierState) (bytes : List ℕ) (items : List Item) (r : Result (Unit {0}) ClientFault) → Ends relation base a bytes items r → Gained relation base bytes items a.subscriber
gains_of relation base a bytes items (Ok u) ends = ends.1.gains
gains_of relation base a bytes items (Err e) ends = ends.1

taken_by : (relation : ℕ → Relation) (base : Subscriber) (old new : ApplierState) (bytes all : List ℕ) (items : List Item) (r : Result (Unit {0}) ClientFault) → TakesFrom None old new bytes r → Ends relation base new all items r → new.fault ≡ None → HasTaken base new all
taken_by relation base old new bytes all items (Ok u) takes ends sound = ends.0
taken_by relation base old new bytes all items (Err e) takes ends sound = let never : Option.Some e ≡ Option.None = sym takes.fails ∙ sound in absurd cc

pub record IsDelivered (log : List Record) (from : ℕ) (selection : PublicationSet) (s : List ℕ) (begun : Option (ℕ × List Published)) (l : StartState) (old new : SubscriberState) : Type 0 where
  pub settled : IsSettled log from selection new.applier.subscriber
  pub fed : IsFed log from selection s begun l new
  pub raised : old.applier.subscriber.position ≤ new.applier.subscriber.position

delivered_sound : (log : List Record) (from : ℕ) (selection : PublicationSet) (s : List ℕ) (begun : Option (ℕ × List Published)) (l : StartState) (old : SubscriberState) (after : ApplierState) (n : ℕ) (taken_once : Bool) (r : Result (Unit {0}) ClientFault) → IsWellFormedLog log → BeginsIn log l
    → IsFed log from selection s begun l old → old.applier.fault ≡ None → Takes old.applier after (take n (in_pipe l old)) r
    → IsDelivered log from selection s begun l old (record old { applier = after; delivered = old.delivered + length (take n (in_pipe l old)); has_taken = taken_once })
delivered_sound log from selection s begun l old after n taken_once r good begins fed sound takes =
    let d = old.delivered in
    let p = l.produced in
    let bytes = take n (drop d p) in
    let all = take d p ++ bytes in
    let more = drop (d + length bytes) p ++ begins.rest in
    let stream = begins.whole in
    let text : all ++ more ≡ bytes_of_items (relation l.selection) [] stream.items =
    ap (λ x. x ++ more) (next_taken d n p) ∙ sym (append_assoc (take (d + length bytes) p) (drop (d + length bytes) p) begins.rest) ∙ ap (λ x. x ++ begins.rest) (take-append-drop (d + length bytes) p) ∙ stream.spells in
    let forward = items_forward l.selection log l.start begins.position stream.items good stream.sends in
    let ends = takes_follows old.applier after bytes r sound takes (relation l.selection) fed.base (take d p) more stream.items fed.rests (fed.taken sound) stream.fits forward text in
    let plain : TakesFrom None old.applier after bytes r = (let P : Option ClientFault → Type 0 = λ f. TakesFrom f old.applier after bytes r in subst P sound takes) in
    let gained = gains_of (relation l.selection) fed.base after all stream.items r ends in
    let base_settled : IsSettled log from l.selection fed.base = subst (λ (x : PublicationSet). IsSettled log from x fed.base) (sym fed.selects) fed.settled in
    let settled = settled_by l.selection log from l.start begins.position fed.base after.subscriber all stream.items good base_settled fed.later fed.asked (record { at = begins.at; sends = stream.sends; safe = stream.safe }) gained in
    let raised = takes_raises old.applier after bytes r takes in
    record {
      settled = subst (λ (x : PublicationSet). IsSettled log from x after.subscriber) fed.selects settled;
      fed = fed_further _ fed refl (omega (arith, fed.within, length-take n (drop d p), length-drop d p))
          (λ whole. subst (HasTaken fed.base after) (next_taken d n p) (taken_by (relation l.selection) fed.base old.applier after bytes all stream.items r plain ends whole))
          (all_when (λ (t : Status). t.flushed ≤ old.applier.subscriber.position) (λ (t : Status). t.flushed ≤ after.subscriber.position) (λ t le. omega (arith, le, raised)) old.back fed.back);
      raised = raised;
    }

-- after a fault nothing changes but what was delivered
delivered_stopped : (log : List Record) (from : ℕ) (selection : PublicationSet) (s : List ℕ) (begun : Option (ℕ × List Published)) (l : StartState) (old : SubscriberState) (after : ApplierState) (n : ℕ) (taken_once : Bool) (fault : ClientFault) (r : Result (Unit {0}) ClientFault)
    → IsSettled log from selection old.applier.subscriber → IsFed log from selection s begun l old → old.applier.fault ≡ Some fault → Takes old.applier after (take n (in_pipe l old)) r
    → IsDelivered log from selection s begun l old (record old { applier = after; delivered = old.delivered + length (take n (in_pipe l old)); has_taken = taken_once })
delivered_stopped log from selection s begun l old after n taken_once fault r settled fed stopped takes =
    let d = old.delivered in
    let p = l.produced in
    let plain : TakesFrom (Some fault) old.applier after (take n (drop d p)) r = (let P : Option ClientFault → Type 0 = λ f. TakesFrom f old.applier after (take n (drop d p)) r in subst P stopped takes) in
    let same : after ≡ old.applier = plain.1 in
    record {
      settled = subst (λ (a : ApplierState). IsSettled log from selection a.subscriber) (sym same) settled;
      fed = fed_further _ fed refl (omega (arith, fed.within, length-take n (drop d p), length-drop d p))
          (λ whole. let never : Option.Some fault ≡ Option.None = sym stopped ∙ ap (λ (a : ApplierState). a.fault) (sym same) ∙ whole in absurd cc)
          (subst (λ (a : ApplierState). AllByRecursion (λ (t : Status). t.flushed ≤ a.subscriber.position) old.back) (sym same) fed.back);
      raised = omega (arith, ap (λ (a : ApplierState). a.subscriber.position) same);
    }

pub delivered : (log : List Record) (from : ℕ) (selection : PublicationSet) (s : List ℕ) (begun : Option (ℕ × List Published)) (l : StartState) (old new : SubscriberState) (n : ℕ) (a : Answer) → IsWellFormedLog log → BeginsIn log l
    → IsSettled log from selection old.applier.subscriber → IsFed log from selection s begun l old → Gets (take n (in_pipe l old)) old a new → IsDelivered log from selection s begun l old new
delivered log from selection s begun l old new n a good begins settled fed gets =
    let took = answered (take n (in_pipe l old)) old.applier new.applier a gets.answers in
    let Is : SubscriberState → Type 0 = λ x. IsDelivered log from selection s begun l old x in
    subst Is (sym gets.is) (by_fault old.applier.fault refl took.0 took.1)
  where
    by_fault : (fault : Option ClientFault) → old.applier.fault ≡ fault → (r : Result (Unit {0}) ClientFault) → Takes old.applier new.applier (take n (in_pipe l old)) r
        → IsDelivered log from selection s begun l old (record old { applier = new.applier; delivered = old.delivered + length (take n (in_pipe l old)); has_taken = (old.has_taken || nat_lt 0 (length (take n (in_pipe l old)))) })
    by_fault None is r takes = delivered_sound log from selection s begun l old new.applier n _ r good begins fed is takes
    by_fault (Some fault) is r takes = delivered_stopped log from selection s begun l old new.applier n _ fault r settled fed is takes
