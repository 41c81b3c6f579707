-- The open snapshots as a list: one found and changed by its number.
use Rattle.std.proofs.Common.{◌≡◌, ℕ, zero, suc, ◌+◌, ◌-◌, ◌<◌, ◌≤◌, ◌==◌, Bool, true, false, cond, List, [], ◌∷◌, length, get_or, set, Some, None, refl, sym, ap, subst, ◌∙◌, arith}
use Rattle.std.specs.Prelude.{Option, IsSome, Result, Ok, Err, IfErr}
use Rattle.std.specs.List.{position, position_from}
use Rattle.std.proofs.lemmas.Iterator.Adapters.{position_from-zero}
use Rattle.std.proofs.lemmas.List.Quantifiers.{position-Some}
use Rattle.store.specs.Keeping.{StoreState}
use Rattle.tables.specs.declared.kinds.Value.{Value}
use Rattle.store.specs.Snapshots.{Gives, SnapshotState, standing_within}
use Rattle.txlog.specs.declared.answers.snapshot_fault.SnapshotFault.{SnapshotFault}
use Rattle.txlog.specs.declared.answers.snapshot_fault.SnapshotFault.TheVariants as faults
use Rattle.txlog.specs.declared.snapshots.OpenSnapshot.{OpenSnapshot}
use Rattle.txlog.specs.Snapshots.{IsRefusedBy, Reads, Scans, Snapshots, snapshot_of, with_snapshot}
use Rattle.txlog.specs.Publishing.{PublisherState, with_snapshots}
use Rattle.txlog.specs.Invariants.{IsPublisher, KeepsLog}

abbrev pub shown : ℕ → List OpenSnapshot → Snapshots
shown count items = record { count = count; opened = items }

-- AT A PLACE

changed_first : (id : ℕ) (opened : List OpenSnapshot) (place : ℕ) (d : OpenSnapshot) (one : SnapshotState) → place < length opened →
    ((get_or opened place d).id == id) ≡ true → ((k : ℕ) → k < place → ((get_or opened k d).id == id) ≡ false) →
    set opened place (record { id = (get_or opened place d).id; snapshot = one }) ≡ with_snapshot id one opened
changed_first id [] place d one lt is before = absurd (omega arith)
changed_first id (o ∷ opened) zero d one lt is before = rw is refl
changed_first id (o ∷ opened) (suc n) d one lt is before =
    let other : (o.id == id) ≡ false = before 0 (omega arith) in
    rw other (ap (λ rest. o ∷ rest) (changed_first id opened n d one (omega arith) is (λ k below. before (suc k) (omega arith))))

found_first : (id : ℕ) (opened : List OpenSnapshot) (place : ℕ) (d : OpenSnapshot) → place < length opened →
    ((get_or opened place d).id == id) ≡ true → ((k : ℕ) → k < place → ((get_or opened k d).id == id) ≡ false) → snapshot_of id opened ≡ Some (get_or opened place d).snapshot
found_first id [] place d lt is before = absurd (omega arith)
found_first id (o ∷ opened) zero d lt is before = rw is refl
found_first id (o ∷ opened) (suc n) d lt is before =
    let other : (o.id == id) ≡ false = before 0 (omega arith) in
    rw other (found_first id opened n d (omega arith) is (λ k below. before (suc k) (omega arith)))

pub changed_at : (id : ℕ) (items : List OpenSnapshot) (place : ℕ) (old new : OpenSnapshot) (one : SnapshotState) → old ≡ get_or items place old → new ≡ record { id = old.id; snapshot = one } →
    Some place ≡ position (λ o. o.id == id) items → set items place new ≡ with_snapshot id one items
changed_at id items place old new one at is found_at =
    let first = position-Some (λ o. o.id == id) items place old (sym found_at) in
    ap (set items place) (is ∙ ap (λ (o : OpenSnapshot). let p : OpenSnapshot = record { id = o.id; snapshot = one } in p) at)
    ∙ changed_first id items place old one first.0 first.1 first.2

pub found_at : (id : ℕ) (items : List OpenSnapshot) (place : ℕ) (old : OpenSnapshot) → old ≡ get_or items place old → Some place ≡ position (λ o. o.id == id) items → snapshot_of id items ≡ Some old.snapshot
found_at id items place old at is =
    let first = position-Some (λ o. o.id == id) items place old (sym is) in
    found_first id items place old first.0 first.1 first.2 ∙ ap (λ (o : OpenSnapshot). Some o.snapshot) (sym at)

none_from : (id i : ℕ) (opened : List OpenSnapshot) → position_from (λ o. o.id == id) i opened ≡ None → snapshot_of id opened ≡ None
none_from id i [] none = refl
none_from id i (o ∷ opened) none = by_test (o.id == id) none (none_from id (i + 1) opened)
  where
    by_test : (b : Bool) → cond b (Some i) (position_from (λ o. o.id == id) (i + 1) opened) ≡ None →
        (position_from (λ o. o.id == id) (i + 1) opened ≡ None → snapshot_of id opened ≡ None) → cond b (Some o.snapshot) (snapshot_of id opened) ≡ None
    by_test true none rest = absurd cc
    by_test false none rest = rest none

pub not_open : (id : ℕ) (opened : List OpenSnapshot) → position (λ o. o.id == id) opened ≡ None → snapshot_of id opened ≡ None
not_open id opened none = none_from id 0 opened (sym (position_from-zero (λ o. o.id == id) opened) ∙ none)

-- SCANS

pub scans_at : (id oid : ℕ) (old : Snapshots) (count : ℕ) (items : List OpenSnapshot) (place : ℕ) (now : OpenSnapshot) (one : SnapshotState) → shown count items ≡ old → now ≡ get_or items place now →
    Some place ≡ position (λ o. o.id == id) old.opened → one.rows ≡ now.snapshot.rows → one.left ≡ standing_within oid now.snapshot.rows →
    Scans id oid old (shown count (set items place (record { id = now.id; snapshot = one })))
scans_at id oid old count items place now one is at found rows left =
    let found_in : Some place ≡ position (λ o. o.id == id) items = found ∙ ap (λ (s : Snapshots). position (λ o. o.id == id) s.opened) (sym is) in
    let scanned : SnapshotState = record { rows = now.snapshot.rows; left = standing_within oid now.snapshot.rows; ahead = one.ahead } in
    let same : one ≡ scanned = λ i. record { rows = rows i; left = left i; ahead = one.ahead } in
    subst (λ (s : Snapshots). Scans id oid s (shown count (set items place (record { id = now.id; snapshot = one })))) is (record {
      one = now.snapshot;
      ahead = one.ahead;
      there = found_at id items place now at found_in;
      made = ap (shown count) (changed_at id items place now (record { id = now.id; snapshot = one }) scanned at (ap (λ (t : SnapshotState). let p : OpenSnapshot = record { id = now.id; snapshot = t } in p) same) found_in);
    })

pub reads_at : (id most : ℕ) (old : Snapshots) (count : ℕ) (items : List OpenSnapshot) (place : ℕ) (now : OpenSnapshot) (one : SnapshotState) (rows : List (List Value)) (is_last : Bool) →
    shown count items ≡ old → now ≡ get_or items place now → Some place ≡ position (λ o. o.id == id) old.opened → Gives now.snapshot.left rows one.left → length rows ≤ most → one.rows ≡ now.snapshot.rows →
    one.ahead ≡ now.snapshot.ahead - most → is_last ≡ (one.ahead == 0) → (one.ahead ≡ 0 → one.left ≡ []) →
    Reads id most rows is_last old (shown count (set items place (record { id = now.id; snapshot = one })))
reads_at id most old count items place now one rows is_last is at found gives few same ahead last end =
    let found_in : Some place ≡ position (λ o. o.id == id) items = found ∙ ap (λ (s : Snapshots). position (λ o. o.id == id) s.opened) (sym is) in
    subst (λ (s : Snapshots). Reads id most rows is_last s (shown count (set items place (record { id = now.id; snapshot = one })))) is (record {
      one = now.snapshot;
      rest = one;
      there = found_at id items place now at found_in;
      gives = gives;
      few = few;
      same = same;
      ahead = ahead;
      last = last;
      end = end;
      made = ap (shown count) (changed_at id items place now (record { id = now.id; snapshot = one }) one at refl found_in);
    })

pub is_open : (id : ℕ) (old : Snapshots) (count : ℕ) (items : List OpenSnapshot) (place : ℕ) (now : OpenSnapshot) → shown count items ≡ old → now ≡ get_or items place now →
    Some place ≡ position (λ o. o.id == id) old.opened → IsSome (snapshot_of id old.opened)
is_open id old count items place now is at found =
    let found_in : Some place ≡ position (λ o. o.id == id) items = found ∙ ap (λ (s : Snapshots). position (λ o. o.id == id) s.opened) (sym is) in
    subst (λ (s : Snapshots). IsSome (snapshot_of id s.opened)) is (subst (λ (o : Option SnapshotState). IsSome o) (sym (found_at id items place now at found_in)) refl)

pub refused_memory : {A : Type 0} (r : Result A SnapshotFault) (one : Option SnapshotState) → IsSome one → IfErr r (λ fault. fault ≡ faults.Memory) → IfErr r (IsRefusedBy one)
refused_memory (Ok x) one some memory = tt
refused_memory (Err fault) one some memory = subst (IsRefusedBy one) (sym memory) some

-- THE PUBLISHER

publisher_beside : (s : PublisherState) (snapshots : Snapshots) → IsPublisher s → IsPublisher (with_snapshots snapshots s)
publisher_beside s snapshots h = record {
  log = h.log;
  limit = h.limit;
  reserve = h.reserve;
  xids = h.xids;
  few = h.few;
  fresh = h.fresh;
  rising = h.rising;
  live = h.live;
}

-- snapshots have no part in what a publisher keeps
pub kept_beside : (store : StoreState) (s : PublisherState) (snapshots : Snapshots) → KeepsLog store s → KeepsLog store (with_snapshots snapshots s)
kept_beside store s snapshots h = record { publisher = publisher_beside s snapshots h.publisher; marked = h.marked; rows = h.rows }
