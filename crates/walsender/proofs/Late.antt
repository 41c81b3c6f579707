-- Where what is published starts.
use Rattle.std.proofs.Common.{◌≡◌, ◌≤◌, ℕ, Bool, true, false, cond, leb, List, [], ◌∷◌, ◌++◌, map, filter, arith}
use Rattle.std.specs.List.{AllByRecursion}
use Rattle.wal.specs.declared.record.Record.{Record}
use Rattle.wal.specs.declared.record.Body.{Body}
use Rattle.wal.specs.declared.record.Body.TheVariants.{Assign, Change as Changed, AbortSub, Abort, Commit, Note}
use Rattle.wal.specs.Log.{kept_changes, note_as_transaction, Transaction, committed_at, committed_by, committed_from, IsSized, follows}
use Rattle.publication.specs.Publications.{PublicationSet}
use Rattle.pgoutput.specs.declared.published.Published.{Published}
use Rattle.pgoutput.proofs.Lists.{all_of_both}
use Rattle.walsender.specs.Published.{published_as, has_message, published_from}
use Rattle.walsender.proofs.Sections.{followed}

all_filter : {A : Type 0} (P : A → Type 0) (p : A → Bool) (xs : List A) → AllByRecursion P xs → AllByRecursion P (filter p xs)
all_filter P p [] all = tt
all_filter P p (x ∷ xs) all = by_test (p x) (all_filter P p xs all.1)
  where
    by_test : (b : Bool) → AllByRecursion P (filter p xs) → AllByRecursion P (cond b (x ∷ filter p xs) (filter p xs))
    by_test true inner = (all.0, inner)
    by_test false inner = inner

all_map : {A B : Type 0} (P : A → Type 0) (Q : B → Type 0) (f : A → B) → ((x : A) → P x → Q (f x)) → (xs : List A) → AllByRecursion P xs → AllByRecursion Q (map f xs)
all_map P Q f step [] all = tt
all_map P Q f step (x ∷ xs) all = (step x all.0, all_map P Q f step xs all.1)

late_at : (selection : PublicationSet) (s at : ℕ) (before : List Record) (start end : ℕ) (body : Body) → at ≤ start → AllByRecursion (λ (t : Transaction). at ≤ t.start) (committed_at s before start end body)
late_at selection s at before start end (Assign sub parent) le = tt
late_at selection s at before start end (Changed xid change) le = tt
late_at selection s at before start end (AbortSub xid) le = tt
late_at selection s at before start end (Abort xid) le = tt
late_at selection s at before start end (Note change) le = by_test (leb s start)
  where
    by_test : (b : Bool) → AllByRecursion (λ (t : Transaction). at ≤ t.start) (cond b (note_as_transaction start end change ∷ []) [])
    by_test true = (le, tt)
    by_test false = tt
late_at selection s at before start end (Commit xid time) le = by_test (leb s start)
  where
    by_test : (b : Bool) → AllByRecursion (λ (t : Transaction). at ≤ t.start) (cond b (record { is_note = false; start = start; end = end; time = time; xid = xid; changes = kept_changes before xid } ∷ []) [])
    by_test true = (le, tt)
    by_test false = tt

committed_late : (selection : PublicationSet) (s at from : ℕ) (before rs : List Record) → at ≤ from → follows from rs ≡ true → AllByRecursion IsSized rs → AllByRecursion (λ (t : Transaction). at ≤ t.start) (committed_from s before rs)
committed_late selection s at from before [] le goes sized = tt
committed_late selection s at from before (r ∷ rs) le goes sized =
    let next = followed from r rs goes in
    all_of_both (λ (t : Transaction). at ≤ t.start) (committed_by s before r) (committed_from s (before ++ r ∷ []) rs)
    (late_at selection s at before r.start r.end r.body (omega (arith, next.0)))
    (committed_late selection s at r.end (before ++ r ∷ []) rs (omega (arith, next.0, sized.0)) next.1 sized.1)

pub published_late : (selection : PublicationSet) (s at : ℕ) (before rs : List Record) → follows at rs ≡ true → AllByRecursion IsSized rs → AllByRecursion (λ (t : Published). at ≤ t.start) (published_from selection s before rs)
published_late selection s at before rs goes sized =
    all_filter (λ (t : Published). at ≤ t.start) has_message (map (published_as selection) (committed_from s before rs))
    (all_map (λ (t : Transaction). at ≤ t.start) (λ (t : Published). at ≤ t.start) (published_as selection) (λ t le. le) (committed_from s before rs) (committed_late selection s at at before rs (omega arith) goes sized))
