-- The records of a section of a well-formed log may follow each other.
use Rattle.std.proofs.Common.{◌≡◌, ◌<◌, ◌≤◌, ◌==◌, ℕ, Bool, true, false, cond, List, [], ◌∷◌, ◌++◌, refl, sym, subst, ◌∙◌, append_assoc, arith}
use Rattle.std.specs.List.{AllByRecursion}
use Rattle.std.proofs.lemmas.Bool.{eqb-true}
use Rattle.wal.specs.declared.record.TheConstants.{FIRST_POSITION}
use Rattle.wal.specs.declared.record.Record.{Record}
use Rattle.wal.specs.Log.{IsWellFormedLog, IsSized, WellFormedAfter, follows, end_of}
use Rattle.wal.proofs.Laws.{follows-append, WellFormedAfter-front, WellFormedAfter-back}
use Rattle.reorder.specs.Taking.{StartsBehind}
use Rattle.reorder.proofs.Sections.{next_within}
use Rattle.row_messages.proofs.Rows.{both_true}
use Rattle.walsender.specs.Sending.{MayFollow}

pub all_front : {A : Type 0} (P : A → Type 0) (xs ys : List A) → AllByRecursion P (xs ++ ys) → AllByRecursion P xs
all_front P [] ys all = tt
all_front P (x ∷ xs) ys all = (all.0, all_front P xs ys all.1)

pub all_back : {A : Type 0} (P : A → Type 0) (xs ys : List A) → AllByRecursion P (xs ++ ys) → AllByRecursion P ys
all_back P [] ys all = all
all_back P (x ∷ xs) ys all = all_back P xs ys all.1

-- the first record starts where it is to, and the others follow it
pub followed : (at : ℕ) (r : Record) (rs : List Record) → follows at (r ∷ rs) ≡ true → (r.start ≡ at) × (follows r.end rs ≡ true)
followed at r rs e = by_test (r.start == at) (λ is. eqb-true r.start at is) e
  where
    by_test : (b : Bool) → (b ≡ true → r.start ≡ at) → cond b (follows r.end rs) false ≡ true → (r.start ≡ at) × (follows r.end rs ≡ true)
    by_test true same e = (same refl, e)
    by_test false same e = absurd cc

-- the parts of records that follow each other
pub follows_parts : (at : ℕ) (m n : List Record) → follows at (m ++ n) ≡ true → (follows at m ≡ true) × (follows (end_of at m) n ≡ true)
follows_parts at m n e = both_true (follows at m) (follows (end_of at m) n) (sym (follows-append at m n) ∙ e)

-- each of them starts before their end
pub starts_below : (at : ℕ) (before : List Record) → follows at before ≡ true → AllByRecursion IsSized before → (at ≤ end_of at before) × AllByRecursion (λ (q : Record). q.start < end_of at before) before
starts_below at [] goes sized = (omega arith, tt)
starts_below at (r ∷ before) goes sized =
    let next = followed at r before goes in
    let inner = starts_below r.end before next.1 sized.1 in
    (omega (arith, next.0, sized.0, inner.0), (omega (arith, next.0, sized.0, inner.0), inner.1))

-- Records `skipped`, `before` and `rs` of a log: after `before` the others may follow, whatever was skipped.
pub may_follow : (at : ℕ) (skipped before rs : List Record) → follows at (before ++ rs) ≡ true → AllByRecursion IsSized (before ++ rs) → WellFormedAfter skipped (before ++ rs) → MayFollow before rs
may_follow at skipped before [] goes sized order = tt
may_follow at skipped before (r ∷ rs) goes sized order =
    let parts = follows_parts at before (r ∷ rs) goes in
    let here = followed (end_of at before) r rs parts.1 in
    let below = starts_below at before parts.0 (all_front IsSized before (r ∷ rs) sized) in
    let behind : StartsBehind before r = let P : ℕ → Type 0 = λ n. AllByRecursion (λ (q : Record). q.start < n) before in subst P (sym here.0) below.1 in
    let next = next_within skipped before r.body (WellFormedAfter-front skipped before (r ∷ rs) order) (WellFormedAfter-back skipped before (r ∷ rs) order).0 in
    let regrouped : (before ++ r ∷ []) ++ rs ≡ before ++ r ∷ rs = append_assoc before (r ∷ []) rs in
    let F : List Record → Type 0 = λ l. follows at l ≡ true in
    let S : List Record → Type 0 = λ l. AllByRecursion IsSized l in
    let W : List Record → Type 0 = λ l. WellFormedAfter skipped l in
    (next, behind, may_follow at skipped (before ++ r ∷ []) rs (subst F (sym regrouped) goes) (subst S (sym regrouped) sized) (subst W (sym regrouped) order))

-- the same of a section of a log: what stands before it was skipped, what stands after it is not read yet
pub section_may_follow : (log skipped before rs rest : List Record) → IsWellFormedLog log → log ≡ skipped ++ ((before ++ rs) ++ rest) → MayFollow before rs
section_may_follow log skipped before rs rest good whole =
    let F : List Record → Type 0 = λ l. follows FIRST_POSITION l ≡ true in
    let S : List Record → Type 0 = λ l. AllByRecursion IsSized l in
    let W : List Record → Type 0 = λ l. WellFormedAfter [] l in
    let goes = (follows_parts FIRST_POSITION skipped ((before ++ rs) ++ rest) (subst F whole good.follows)).1 in
    let sized = all_back IsSized skipped ((before ++ rs) ++ rest) (subst S whole good.sizes) in
    let order = WellFormedAfter-back [] skipped ((before ++ rs) ++ rest) (subst W whole good.order) in
    may_follow (end_of FIRST_POSITION skipped) skipped before rs (follows_parts (end_of FIRST_POSITION skipped) (before ++ rs) rest goes).0
    (all_front IsSized (before ++ rs) rest sized) (WellFormedAfter-front skipped (before ++ rs) rest order)
