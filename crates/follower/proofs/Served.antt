-- Where servers keep to their protocol, what stands in an output over all lives is a beginning of what is published.
use Rattle.std.proofs.Common.{◌≡◌, ◌⊎◌, inl, inr, ℕ, ◌≤◌, ◌<◌, ◌+◌, max, Bool, true, false, cond, List, [], ◌∷◌, ◌++◌, Option, Some, None, Result, Ok, Err, refl, sym, ap, subst, ◌∙◌, append_assoc, arith}
use Rattle.std.specs.List.{AllByRecursion}
use Rattle.std.proofs.lemmas.List.{append-nil, append_cancel_left}
use Rattle.std.proofs.lemmas.List.Concat.{flat_map-append, flat_map-cons}
use mathlib.Core.List.{IsPrefix}
use Rattle.frames.specs.Frame.{frame}
use Rattle.frames.specs.declared.copy_data.TheConstants.{COPY_DATA}
use Rattle.frames.proofs.Frames.{frame_begins}
use Rattle.pgoutput.specs.declared.copy_both_message.CopyBothMessage.{CopyBothMessage}
use Rattle.pgoutput.specs.declared.messages.relation.Relation.{Relation}
use Rattle.pgoutput.specs.declared.messages.relation.Identity.TheVariants.{Default}
use Rattle.pgoutput.specs.declared.published.Published.{Published}
use Rattle.pgoutput.specs.Items.{Item, FitItems, bytes_of_items, transactions_of, words_of}
use Rattle.pgoutput.specs.Words.{FitsWord, frames_of, word_body, word_bytes}
use Rattle.pgoutput.proofs.Ranges.{words_fit}
use Rattle.client.specs.declared.fault.ClientFault.{ClientFault}
use Rattle.client.specs.declared.fault.ClientFault.TheVariants.{Memory}
use Rattle.client.specs.Law.{AreForward, Gained}
use Rattle.client.specs.Subscriber.{Subscriber, subscriber_at_rest}
use Rattle.client.specs.Taking.{ApplierState, HasTaken, Reached, Takes, TakesFrom}
use Rattle.client.specs.Words.{AreSpelled}
use Rattle.client.proofs.Laws.{follows_err}
use Rattle.client.proofs.Reaching.{reached_none, reached_on}
use Rattle.follower.specs.Once.{applier_at_connection, applier_without_applied, before, with_printed}
use Rattle.follower.specs.Standing.{Standing, Deed, Asks, Connects, Waits, Receives, Prints, Sums, Breaks, Tells, Ends, Runs}
use Rattle.follower.specs.Promise.{printed_in}
use Rattle.follower.specs.Lives.{Life, Lives, beginning, place_after, place_after_all, printed_over}
use Rattle.follower.specs.Served.{AllBelow, AllFrom, AreServed, AreServedLives, InLogOrder, IsNoCopyData, IsServed, acknowledged_after, bytes_until_connection}
use Rattle.follower.proofs.Deeds.{applier_of, forgetting, summed}
use Rattle.follower.proofs.Ordered.{IsParted, IsStreamTo, all_first, all_forward, below_higher, from_greater, from_second, order_at, order_behind, order_from, parted_by, same_rest}
use Rattle.follower.proofs.Printed.{takes_before}

-- ---- What is taken of a stream.

-- Words that stand at the front of frames, and of what is no CopyData, stand within the frames.
within : (text : List ℕ) (ws vs : List CopyBothMessage) (rest ending : List ℕ) → AreSpelled text ws → AllByRecursion FitsWord vs → IsNoCopyData ending → text ++ rest ≡ frames_of vs ++ ending → (left : List ℕ) × (frames_of vs ≡ text ++ left)
within text [] vs rest ending spelled fits ends e = (frames_of vs, ap (λ (l : List ℕ). l ++ frames_of vs) (sym spelled))
within text (w ∷ ws) [] rest ending spelled fits ends e = absurd (never ending ends parted)
  where
    parted : frame COPY_DATA spelled.3.body ++ (spelled.1 ++ rest) ≡ ending
    parted = ap (λ (l : List ℕ). l ++ (spelled.1 ++ rest)) (sym spelled.3.frame) ∙ sym (append_assoc spelled.0 spelled.1 rest) ∙ ap (λ (l : List ℕ). l ++ rest) (sym spelled.2) ∙ e

    never : (bytes : List ℕ) → IsNoCopyData bytes → frame COPY_DATA spelled.3.body ++ (spelled.1 ++ rest) ≡ bytes → ⊥
    never [] ends e = absurd cc
    never (kind ∷ bytes) ends e = ends (let same : kind ≡ COPY_DATA = cc in same)
within text (w ∷ ws) (v ∷ vs) rest ending spelled fits ends e =
    let parted : frame COPY_DATA spelled.3.body ++ (spelled.1 ++ rest) ≡ frame COPY_DATA (word_body v) ++ (frames_of vs ++ ending) =
    ap (λ (l : List ℕ). l ++ (spelled.1 ++ rest)) (sym spelled.3.frame) ∙ sym (append_assoc spelled.0 spelled.1 rest) ∙ ap (λ (l : List ℕ). l ++ rest) (sym spelled.2) ∙ e
    ∙ ap (λ (l : List ℕ). l ++ ending) (flat_map-cons word_bytes v vs) ∙ append_assoc (word_bytes v) (frames_of vs) ending in
    let same = frame_begins COPY_DATA COPY_DATA spelled.3.body (word_body v) (spelled.1 ++ rest) (frames_of vs ++ ending) (omega (arith, spelled.3.short)) (omega (arith, fits.0.short)) parted in
    let inner = within spelled.1 ws vs rest ending spelled.4 fits.1 ends same.2 in
    let front : word_bytes v ≡ spelled.0 = sym (spelled.3.frame ∙ ap (frame COPY_DATA) same.1) in (
      inner.0,
      flat_map-cons word_bytes v vs ∙ ap (λ (l : List ℕ). word_bytes v ++ l) inner.1 ∙ ap (λ (l : List ℕ). l ++ (spelled.1 ++ inner.0)) front ∙ sym (append_assoc spelled.0 spelled.1 inner.0)
          ∙ ap (λ (l : List ℕ). l ++ inner.0) (sym spelled.2),
    )

-- what a subscriber has reached by words that begin those of a stream
gained_by : (relation : ℕ → Relation) (items : List Item) (base : Subscriber) (bytes : List ℕ) (new : Subscriber) (rest : List ℕ) (r : Reached base bytes new rest) (more : List ℕ) → base ≡ subscriber_at_rest base.position base.applied
    → FitItems relation items → AreForward items → r.text ++ more ≡ bytes_of_items relation [] items → Gained relation base r.text items new
gained_by relation items base bytes new rest r more rests fits forward e =
    let still : (s : Subscriber) → ApplierState = λ s. record { subscriber = s; unread = []; fault = None } in
    let whole : Reached base r.text new [] = record { words = r.words; text = r.text; spells = r.spells; is = sym (append-nil r.text); steps = r.steps } in
    (follows_err (still base) (still new) r.text Memory (record { rest = []; reached = whole; stops = tt }) relation base [] more items rests (record { reached = reached_none base []; waits = refl; sound = refl }) fits forward e).1

-- ---- On a connection.

-- Of what a server says on it so much was taken without a fault, or a fault was answered. These bytes are still to be taken.
record IsHearing (published printed : List Published) (a : ApplierState) (coming : List ℕ) : Type 0 where
  base : Subscriber
  relation : ℕ → Relation
  items : List Item
  rests : base ≡ subscriber_at_rest base.position base.applied
  stream : IsStreamTo published items base
  fits : FitItems relation items
  sent : List CopyBothMessage
  unsent : List CopyBothMessage
  words : words_of relation [] items ≡ sent ++ unsent
  ending : List ℕ
  ends : IsNoCopyData ending
  text : List ℕ
  more : List ℕ
  says : text ++ (coming ++ more) ≡ frames_of sent ++ ending
  taken : HasTaken base (with_printed printed a) text ⊎ ((fault : ClientFault) × (a.fault ≡ Some fault))

-- Wherever what was printed ends, nothing that is published after it starts below what was acknowledged.
abbrev IsPrintedTo : List Published → ℕ → List Published → Type 0
IsPrintedTo published acknowledged printed = (rest : List Published) → published ≡ printed ++ rest → AllFrom acknowledged rest

record IsKept (published : List Published) (acknowledged : ℕ) (printed : List Published) (a : ApplierState) (coming : List ℕ) : Type 0 where
  hearing : IsHearing published printed a coming
  parted : IsParted published (before printed a.subscriber)
  printed_to : IsPrintedTo published acknowledged printed

kept_same : (published : List Published) (acknowledged : ℕ) (printed : List Published) (old new : ApplierState) (coming : List ℕ) → new ≡ old → IsKept published acknowledged printed old coming → IsKept published acknowledged printed new coming
kept_same published acknowledged printed old new coming is kept = subst (λ (a : ApplierState). IsKept published acknowledged printed a coming) (sym is) kept

-- what a connection has gained by what was taken
parted_hearing : (published printed : List Published) (a new : ApplierState) (coming bytes rest : List ℕ) (h : IsHearing published printed a (bytes ++ coming)) → Reached h.base (h.text ++ bytes) (before printed new.subscriber) rest → IsParted published (before printed new.subscriber)
parted_hearing published printed a new coming bytes rest h r =
    let fit_all : AllByRecursion FitsWord (h.sent ++ h.unsent) = subst (λ (ws : List CopyBothMessage). AllByRecursion FitsWord ws) h.words (words_fit h.relation [] h.items h.fits) in
    let front : r.text ++ (rest ++ (coming ++ h.more)) ≡ frames_of h.sent ++ h.ending =
    sym (append_assoc r.text rest (coming ++ h.more)) ∙ ap (λ (l : List ℕ). l ++ (coming ++ h.more)) (sym r.is) ∙ append_assoc h.text bytes (coming ++ h.more) ∙ ap (λ (l : List ℕ). h.text ++ l) (sym (append_assoc bytes coming h.more)) ∙ h.says in
    let inner = within r.text r.words h.sent (rest ++ (coming ++ h.more)) h.ending r.spells (all_first FitsWord h.sent h.unsent fit_all) h.ends front in
    let whole : r.text ++ (inner.0 ++ frames_of h.unsent) ≡ bytes_of_items h.relation [] h.items =
    sym (append_assoc r.text inner.0 (frames_of h.unsent)) ∙ ap (λ (l : List ℕ). l ++ frames_of h.unsent) (sym inner.1) ∙ sym (flat_map-append word_bytes h.sent h.unsent) ∙ ap frames_of (sym h.words) in
    let forward = all_forward h.base.position (transactions_of h.items) h.stream.unsent h.stream.order in
    parted_by published h.relation h.items h.base (before printed new.subscriber) r.text h.stream
    (gained_by h.relation h.items h.base (h.text ++ bytes) (before printed new.subscriber) rest r (inner.0 ++ frames_of h.unsent) h.rests h.fits forward whole)

-- bytes are taken
kept_taking : (published : List Published) (acknowledged : ℕ) (printed : List Published) (old new : ApplierState) (bytes coming : List ℕ) (result : Result (Unit {0}) ClientFault) → Takes old new bytes result
    → IsKept published acknowledged printed old (bytes ++ coming) → IsKept published acknowledged printed new coming
kept_taking published acknowledged printed old new bytes coming result takes kept = by_taken kept.hearing.taken
  where
    after : HasTaken kept.hearing.base (with_printed printed new) (kept.hearing.text ++ bytes) ⊎ ((fault : ClientFault) × (new.fault ≡ Some fault)) → IsParted published (before printed new.subscriber) → IsKept published acknowledged printed new coming
    after taken parted = record {
      hearing = record {
        base = kept.hearing.base;
        relation = kept.hearing.relation;
        items = kept.hearing.items;
        rests = kept.hearing.rests;
        stream = kept.hearing.stream;
        fits = kept.hearing.fits;
        sent = kept.hearing.sent;
        unsent = kept.hearing.unsent;
        words = kept.hearing.words;
        ending = kept.hearing.ending;
        ends = kept.hearing.ends;
        text = kept.hearing.text ++ bytes;
        more = kept.hearing.more;
        says = append_assoc kept.hearing.text bytes (coming ++ kept.hearing.more) ∙ ap (λ (l : List ℕ). kept.hearing.text ++ l) (sym (append_assoc bytes coming kept.hearing.more)) ∙ kept.hearing.says;
        taken = taken;
      };
      parted = parted;
      printed_to = kept.printed_to;
    }

    reached : (rest : List ℕ) → HasTaken kept.hearing.base (with_printed printed old) kept.hearing.text → Reached (before printed old.subscriber) (old.unread ++ bytes) (before printed new.subscriber) rest
        → Reached kept.hearing.base (kept.hearing.text ++ bytes) (before printed new.subscriber) rest
    reached rest had more = reached_on kept.hearing.base kept.hearing.text (before printed old.subscriber) old.unread bytes (before printed new.subscriber) rest had.reached more

    by_result : (result : Result (Unit {0}) ClientFault) → HasTaken kept.hearing.base (with_printed printed old) kept.hearing.text → TakesFrom None (with_printed printed old) (with_printed printed new) bytes result → IsKept published acknowledged printed new coming
    by_result (Ok u) had takes =
        let r = reached new.unread had takes.reached in
        after (inl (record { reached = r; waits = takes.waits; sound = takes.sound })) (parted_hearing published printed old new coming bytes new.unread kept.hearing r)
    by_result (Err e) had takes =
        let r = reached takes.stops.rest had takes.stops.reached in
        after (inr (e, takes.fails)) (parted_hearing published printed old new coming bytes takes.stops.rest kept.hearing r)

    by_taken : HasTaken kept.hearing.base (with_printed printed old) kept.hearing.text ⊎ ((fault : ClientFault) × (old.fault ≡ Some fault)) → IsKept published acknowledged printed new coming
    by_taken (inl had) =
        let sound : old.fault ≡ None = had.sound in
        by_result result had (subst (λ (f : Option ClientFault). TakesFrom f (with_printed printed old) (with_printed printed new) bytes result) sound (takes_before printed old new bytes result takes))
    by_taken (inr failed) =
        let stays : (result ≡ Err failed.0) × (new ≡ old) = subst (λ (f : Option ClientFault). TakesFrom f old new bytes result) failed.1 takes in
        after (inr (failed.0, ap (λ (a : ApplierState). a.fault) stays.1 ∙ failed.1)) (subst (λ (a : ApplierState). IsParted published (before printed a.subscriber)) (sym stays.1) kept.parted)

-- what was there is printed
kept_printing : (published : List Published) (acknowledged : ℕ) (printed : List Published) (old new : ApplierState) (coming : List ℕ) → new ≡ applier_without_applied old
    → IsKept published acknowledged printed old coming → IsKept published acknowledged (printed ++ old.subscriber.applied) new coming
kept_printing published acknowledged printed old new coming is kept =
    let more = printed ++ old.subscriber.applied in
    let same : with_printed printed old ≡ with_printed more (applier_without_applied old) = sym (forgetting printed old) in
    subst (λ (a : ApplierState). IsKept published acknowledged more a coming) (sym is) (record {
      hearing = record {
        base = kept.hearing.base;
        relation = kept.hearing.relation;
        items = kept.hearing.items;
        rests = kept.hearing.rests;
        stream = kept.hearing.stream;
        fits = kept.hearing.fits;
        sent = kept.hearing.sent;
        unsent = kept.hearing.unsent;
        words = kept.hearing.words;
        ending = kept.hearing.ending;
        ends = kept.hearing.ends;
        text = kept.hearing.text;
        more = kept.hearing.more;
        says = kept.hearing.says;
        taken = elim (kept.hearing.taken) [
          | inl had ↦ inl (subst (λ (a : ApplierState). HasTaken kept.hearing.base a kept.hearing.text) same had)
          | inr failed ↦ inr (failed.0, failed.1)
        ];
      };
      parted = subst (λ (a : ApplierState). IsParted published a.subscriber) same kept.parted;
      printed_to = λ rest parts. from_second acknowledged old.subscriber.applied rest (kept.printed_to (old.subscriber.applied ++ rest) (parts ∙ append_assoc printed old.subscriber.applied rest));
    })

-- A position is acknowledged, and nothing waits to be printed.
kept_telling : (published : List Published) (acknowledged : ℕ) (printed : List Published) (old new : ApplierState) (coming : List ℕ) → new ≡ old → old.subscriber.applied ≡ []
    → IsKept published acknowledged printed old coming → IsKept published (max acknowledged old.subscriber.position) printed new coming
kept_telling published acknowledged printed old new coming is none kept =
    let place = old.subscriber.position in
    let all : printed ++ old.subscriber.applied ≡ printed = ap (λ (l : List Published). printed ++ l) none ∙ append-nil printed in
    let parts : published ≡ printed ++ kept.parted.later = kept.parted.is ∙ ap (λ (l : List Published). l ++ kept.parted.later) all in
    subst (λ (a : ApplierState). IsKept published (max acknowledged place) printed a coming) (sym is) (record {
      hearing = kept.hearing;
      parted = kept.parted;
      printed_to = λ rest these. (
          let same = append_cancel_left printed kept.parted.later rest (sym parts ∙ these) in
          from_greater acknowledged place (max acknowledged place) rest (omega arith) (kept.printed_to rest these) (subst (AllFrom place) same kept.parted.ahead)
          );
    })

-- A connection begins, and is served.
kept_connecting : (published : List Published) (start : ℕ) → InLogOrder start published → (acknowledged : ℕ) (printed : List Published) (old new : ApplierState) (left coming : List ℕ) → new ≡ applier_at_connection old
    → IsServed published old.subscriber.position acknowledged coming → IsKept published acknowledged printed old left → IsKept published acknowledged printed new coming
kept_connecting published start order acknowledged printed old new left coming is served kept =
    let place = old.subscriber.position in
    let done = printed ++ old.subscriber.applied in
    let later = kept.parted.later in
    let to_come = from_second acknowledged old.subscriber.applied later (kept.printed_to (old.subscriber.applied ++ later) (kept.parted.is ∙ append_assoc printed old.subscriber.applied later)) in
    let later_from = from_greater place acknowledged served.from later served.early kept.parted.ahead to_come in
    let done_below = below_higher place served.from done served.late kept.parted.below in
    let stream = served.stream in
    let all = same_rest served.from done later stream.passed (transactions_of served.items ++ stream.unsent) (sym kept.parted.is ∙ stream.parts) done_below later_from stream.passed_below stream.sent_from in
    let base = before printed (applier_at_connection old).subscriber in
    subst (λ (a : ApplierState). IsKept published acknowledged printed a coming) (sym is) (record {
      hearing = record {
        base = base;
        relation = served.relation;
        items = served.items;
        rests = refl;
        stream = record {
          limit = stream.read_to;
          unsent = stream.unsent;
          parts = kept.parted.is ∙ ap (λ (l : List Published). done ++ l) all;
          below = kept.parted.below;
          order = subst (InLogOrder place) all (order_behind place start done later (subst (InLogOrder start) kept.parted.is order) kept.parted.ahead);
          unsent_from = stream.unsent_from;
          safe = stream.safe;
        };
        fits = stream.fits;
        sent = served.sent;
        unsent = served.unsent;
        words = served.words;
        ending = served.ending;
        ends = served.ends;
        text = [];
        more = served.more;
        says = served.says;
        taken = inl (record { reached = reached_none base []; waits = refl; sound = refl });
      };
      parted = record { later = later; is = kept.parted.is; below = kept.parted.below; ahead = kept.parted.ahead };
      printed_to = kept.printed_to;
    })

-- ---- Over a life.

abbrev Goes : List Published → ℕ → List Published → Subscriber → Type 0
Goes published acknowledged printed s = IsParted published (before printed s) × IsPrintedTo published acknowledged printed

goes : (published : List Published) (start : ℕ) → InLogOrder start published → (acknowledged : ℕ) (printed : List Published) (old : Standing) (deeds : List Deed) (new : Standing) (run : Runs old deeds new)
    → AreServed published acknowledged old deeds new run → IsKept published acknowledged printed old.applier (bytes_until_connection deeds)
    → Goes published (acknowledged_after acknowledged old deeds new run) (printed ++ printed_in old deeds new run) new.applier.subscriber
goes published start order acknowledged printed old [] new run served kept =
    subst (λ (l : List Published). Goes published acknowledged l new.applier.subscriber) (sym (append-nil printed))
    (subst (λ (s : Standing). IsParted published (before printed s.applier.subscriber)) (sym run) kept.parted, kept.printed_to)
goes published start order acknowledged printed old (Asks ∷ deeds) new run served kept =
    goes published start order acknowledged printed run.0 deeds new run.2 served (kept_same published acknowledged printed old.applier run.0.applier (bytes_until_connection deeds) (ap applier_of run.1.1) kept)
goes published start order acknowledged printed old (Connects ∷ deeds) new run served kept =
    goes published start order acknowledged printed run.0 deeds new run.2 served.1
    (kept_connecting published start order acknowledged printed old.applier run.0.applier [] (bytes_until_connection deeds) (ap applier_of run.1) served.0 kept)
goes published start order acknowledged printed old (Waits ∷ deeds) new run served kept =
    goes published start order acknowledged printed run.0 deeds new run.2 served (kept_same published acknowledged printed old.applier run.0.applier (bytes_until_connection deeds) (ap applier_of run.1.2) kept)
goes published start order acknowledged printed old (Receives bytes result ∷ deeds) new run served kept =
    goes published start order acknowledged printed run.0 deeds new run.2 served (kept_taking published acknowledged printed old.applier run.0.applier bytes (bytes_until_connection deeds) result run.1.0 kept)
goes published start order acknowledged printed old (Prints lines ∷ deeds) new run served kept =
    let more = printed ++ old.applier.subscriber.applied in
    subst (λ (l : List Published). Goes published (acknowledged_after acknowledged run.0 deeds new run.2) l new.applier.subscriber) (append_assoc printed old.applier.subscriber.applied (printed_in run.0 deeds new run.2))
    (goes published start order acknowledged more run.0 deeds new run.2 served (kept_printing published acknowledged printed old.applier run.0.applier (bytes_until_connection deeds) run.1.applier kept))
goes published start order acknowledged printed old (Sums lines ∷ deeds) new run served kept =
    goes published start order acknowledged printed run.0 deeds new run.2 served
    (kept_same published acknowledged printed old.applier run.0.applier (bytes_until_connection deeds) (summed old run.0 lines run.1.0 run.1.1) kept)
goes published start order acknowledged printed old (Breaks lines ∷ deeds) new run served kept =
    goes published start order acknowledged printed run.0 deeds new run.2 served (kept_same published acknowledged printed old.applier run.0.applier (bytes_until_connection deeds) run.1.applier kept)
goes published start order acknowledged printed old (Tells clock ask count ∷ deeds) new run served kept =
    goes published start order (max acknowledged old.applier.subscriber.position) printed run.0 deeds new run.2 served
    (kept_telling published acknowledged printed old.applier run.0.applier (bytes_until_connection deeds) (ap applier_of run.1.same) run.1.printed kept)
goes published start order acknowledged printed old (Ends count ∷ deeds) new run served kept =
    goes published start order acknowledged printed run.0 deeds new run.2 served (kept_same published acknowledged printed old.applier run.0.applier (bytes_until_connection deeds) (ap applier_of run.1.same) kept)

-- ---- Over all lives.

placed : (is_note : Bool) (start end : ℕ) → start < end → (start < cond is_note (start + 1) end) × (cond is_note (start + 1) end ≤ end)
placed true start end lt = (omega arith, omega (arith, lt))
placed false start end lt = (lt, omega arith)

-- where a run goes on parts what stands from what is to come
record IsPlace (start place : ℕ) (ts us : List Published) : Type 0 where
  further : start ≤ place
  below : AllBelow place ts
  ahead : AllFrom place us

place_parts : (start : ℕ) (ts us : List Published) → InLogOrder start (ts ++ us) → IsPlace start (place_after_all start ts) ts us
place_parts start [] us order = record { further = omega arith; below = tt; ahead = order_from start us order }
place_parts start (t ∷ ts) us order =
    let here = placed t.is_note t.start t.end order.1 in
    let behind = order_from t.end (ts ++ us) order.2 in
    let next = place_parts (place_after t) ts us (order_at (place_after t) t.end (ts ++ us) order.2 (from_greater t.end t.end (place_after t) (ts ++ us) (omega (arith, here.1)) behind behind)) in
    record { further = omega (arith, order.0, here.0, next.further); below = (omega (arith, here.0, next.further), next.below); ahead = next.ahead }

no_relation : Relation
no_relation = record { oid = 0; namespace = []; name = []; identity = Default; columns = [] }

-- a life begins
kept_beginning : (published : List Published) (start : ℕ) → InLogOrder start published → (acknowledged : ℕ) (printed later : List Published) (from : ℕ) (coming : List ℕ) → published ≡ printed ++ later → IsPrintedTo published acknowledged printed
    → place_after_all start printed ≤ from → from ≤ place_after_all start printed → coming ≡ []
    → IsKept published acknowledged printed (record { subscriber = subscriber_at_rest from []; unread = []; fault = None }) coming
kept_beginning published start order acknowledged printed later from coming parts printed_to behind goes_on none =
    let ordered = subst (InLogOrder start) parts order in
    let place = place_parts start printed later ordered in
    let all : printed ++ [] ≡ printed = append-nil printed in
    let whole : published ≡ (printed ++ []) ++ later = parts ∙ ap (λ (l : List Published). l ++ later) (sym all) in
    let below = subst (AllBelow from) (sym all) (below_higher (place_after_all start printed) from printed behind place.below) in
    let ahead = from_greater (place_after_all start printed) (place_after_all start printed) from later (omega (arith, goes_on)) place.ahead place.ahead in
    let base = subscriber_at_rest from (printed ++ []) in
    record {
      hearing = record {
        base = base;
        relation = λ _. no_relation;
        items = [];
        rests = refl;
        stream = record {
          limit = 0;
          unsent = later;
          parts = whole;
          below = below;
          order = order_behind from start printed later ordered ahead;
          unsent_from = from_greater from from 0 later (omega arith) ahead ahead;
          safe = tt;
        };
        fits = tt;
        sent = [];
        unsent = [];
        words = refl;
        ending = [];
        ends = tt;
        text = [];
        more = [];
        says = ap (λ (l : List ℕ). l ++ []) none;
        taken = inl (record { reached = reached_none base []; waits = refl; sound = refl });
      };
      parted = record { later = later; is = whole; below = below; ahead = ahead };
      printed_to = printed_to;
    }

regroup : (a b c d e : List Published) → ((a ++ b) ++ (c ++ d)) ++ e ≡ (a ++ (b ++ c)) ++ (d ++ e)
regroup a b c d e = simp append_assoc

over_all : (published : List Published) (start : ℕ) → InLogOrder start published → (acknowledged : ℕ) (printed : List Published) (lives : List Life) (lived : Lives start printed lives) → IsPrintedTo published acknowledged printed → IsPrefix printed published
    → AreServedLives published acknowledged start printed lives lived → IsPrefix (printed_over start printed lives lived) published
over_all published start order acknowledged printed [] lived printed_to begins served = begins
over_all published start order acknowledged printed (life ∷ lives) lived printed_to begins served =
    let fresh = printed_in (beginning life) life.deeds life.now lived.0.run in
    let now = acknowledged_after acknowledged (beginning life) life.deeds life.now lived.0.run in
    let kept = kept_beginning published start order acknowledged printed begins.0 life.from (bytes_until_connection life.deeds) (sym begins.1) printed_to lived.0.behind served.0.goes_on served.0.none_before in
    let went = goes published start order acknowledged printed (beginning life) life.deeds life.now lived.0.run served.0.served kept in
    let later = went.0.later in
    let parts : published ≡ (printed ++ (fresh ++ life.whole)) ++ (life.rest ++ later) =
    went.0.is ∙ ap (λ (l : List Published). ((printed ++ fresh) ++ l) ++ later) lived.0.waited ∙ regroup printed fresh life.whole life.rest later in
    let printed_so : IsPrintedTo published now (printed ++ (fresh ++ life.whole)) = λ rest these. from_second now life.whole rest
    (went.1 (life.whole ++ rest) (these ∙ ap (λ (l : List Published). l ++ rest) (sym (append_assoc printed fresh life.whole)) ∙ append_assoc (printed ++ fresh) life.whole rest)) in
    over_all published start order now (printed ++ (fresh ++ life.whole)) lives lived.1 printed_so (life.rest ++ later, sym parts) served.1

pub begins_published : (start : ℕ) (published printed : List Published) (lives : List Life) (lived : Lives start printed lives) → InLogOrder start published → IsPrefix printed published → AreServedLives published start start printed lives lived
    → IsPrefix (printed_over start printed lives lived) published
begins_published start published printed lives lived order begins served =
    over_all published start order start printed lives lived (λ rest parts. from_second start printed rest (subst (AllFrom start) parts (order_from start published order))) begins served
