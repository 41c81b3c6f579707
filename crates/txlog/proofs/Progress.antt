-- Transactions in progress: their xids are open, belong to no other, and stay so where a record names none of them.
use Rattle.std.proofs.Common.{◌≡◌, ℕ, zero, suc, ◌+◌, ◌<◌, ◌≤◌, ◌==◌, Bool, true, false, List, [], ◌∷◌, ◌++◌, length, take, get_or, length-take, length-append, add-one, refl, sym, ap, ◌∙◌, arith}
use Rattle.std.specs.List.{list_any, AllByRecursion}
use Rattle.std.proofs.lemmas.Bool.{eqb-true, eqb-false}
use Rattle.txlog.specs.declared.limits.TheConstants.{MAX_DEPTH}
use Rattle.wal.specs.declared.record.Record.{Record}
use Rattle.wal.specs.declared.record.Body.{Body}
use Rattle.wal.specs.Log.{assigns, is_assigned, chain, last_of, top_of, undoes, is_undone, ends, IsOpen}
use Rattle.txlog.specs.Invariants.{IsNested, IsInProgress}
use Rattle.wal.proofs.Lists.{all_append}
use Rattle.wal.proofs.Laws.{has_ended-one, is_assigned-one, is_undone-one, chain-unassigned, chain-quiet}

-- the chain of the innermost savepoint, from the chain of what is below
abbrev pub onto : List ℕ → List ℕ → List ℕ
onto below [] = below
onto below (x ∷ above) = onto (x ∷ below) above

last_of-chain : (y x : ℕ) (ys : List ℕ) → last_of y (x ∷ ys) ≡ last_of x ys
last_of-chain y x ys = refl

pub chain-innermost : (log : List Record) (y : ℕ) (below xs : List ℕ) → chain log y ≡ y ∷ below → IsNested log (y ∷ below) xs → chain log (last_of y xs) ≡ onto (y ∷ below) xs
chain-innermost log y below [] is nested = is
chain-innermost log y below (x ∷ xs) is nested = chain-innermost log x (y ∷ below) xs nested.0 nested.2

-- whatever the chain grows by, it ends in the same xid
last_of-onto : (z y : ℕ) (below xs : List ℕ) → last_of z (onto (y ∷ below) xs) ≡ last_of y below
last_of-onto z y below [] = refl
last_of-onto z y below (x ∷ xs) = last_of-onto z x (y ∷ below) xs

any-onto : (p : ℕ → Bool) (below xs : List ℕ) → AllByRecursion (λ x. p x ≡ false) below → AllByRecursion (λ x. p x ≡ false) xs → list_any p (onto below xs) ≡ false
any-onto p [] [] none more = refl
any-onto p (y ∷ below) [] none more = rw none.0 (any-onto p below [] none.1 tt)
any-onto p below (x ∷ xs) none more = any-onto p (x ∷ below) xs (more.0, none) more.1

pub IsOpen-innermost : (log : List Record) (next : ℕ) (t : ℕ) (xs : List ℕ) → IsInProgress log next t xs → IsOpen log (last_of t xs)
IsOpen-innermost log next t xs h =
    let whole : chain log (last_of t xs) ≡ onto (t ∷ []) xs =
    chain-innermost log t [] xs (chain-unassigned log t h.top) h.nested in
    record {
      running = rw (whole, last_of-onto (last_of t xs) t [] xs) h.running;
      undropped = rw whole (any-onto (is_undone log) (t ∷ []) xs (h.undropped.0, tt) h.undropped.1);
    }

nested-tops : (log : List Record) (t y : ℕ) (below xs : List ℕ) → last_of y below ≡ t → IsNested log (y ∷ below) xs → AllByRecursion (λ x. top_of log x ≡ t) xs
nested-tops log t y below [] is nested = tt
nested-tops log t y below (x ∷ xs) is nested = (rw nested.0 is, nested-tops log t x (y ∷ below) xs is nested.2)

-- the xids of a transaction have it as their top
pub xids-top : (log : List Record) (next : ℕ) (t : ℕ) (xs : List ℕ) → IsInProgress log next t xs → AllByRecursion (λ x. top_of log x ≡ t) (t ∷ xs)
xids-top log next t xs h = (rw (chain-unassigned log t h.top) refl, nested-tops log t t [] xs refl h.nested)

-- CUT AT A DEPTH

pub all_take : {A : Type 0} (P : A → Type 0) (n : ℕ) (xs : List A) → AllByRecursion P xs → AllByRecursion P (take n xs)
all_take P zero xs all = tt
all_take P (suc n) [] all = tt
all_take P (suc n) (x ∷ xs) all = (all.0, all_take P n xs all.1)

nested_take : (log : List Record) (n : ℕ) (below xs : List ℕ) → IsNested log below xs → IsNested log below (take n xs)
nested_take log zero below xs h = tt
nested_take log (suc n) below [] h = tt
nested_take log (suc n) below (x ∷ xs) h = (h.0, h.1, nested_take log n (x ∷ below) xs h.2)

pub in_progress_cut : (log : List Record) (next n : ℕ) (t : ℕ) (xs : List ℕ) → IsInProgress log next t xs → IsInProgress log next t (take n xs)
in_progress_cut log next n t xs h = record {
  below = (h.below.0, all_take _ n xs h.below.1);
  top = h.top;
  running = h.running;
  subs = all_take _ n xs h.subs;
  undropped = (h.undropped.0, all_take _ n xs h.undropped.1);
  nested = nested_take log n (t ∷ []) xs h.nested;
  deep = omega (arith, length-take n xs, h.deep);
}

-- ONE MORE RECORD

-- a body does nothing to an xid
pub record IsQuiet (body : Body) (x : ℕ) : Type 0 where
  pub assigned : assigns x body ≡ false
  pub ended : ends x body ≡ false
  pub undone : undoes x body ≡ false

nested-quiet : (log : List Record) (r : Record) (below xs : List ℕ) → AllByRecursion (IsQuiet r.body) xs → IsNested log below xs → IsNested (log ++ r ∷ []) below xs
nested-quiet log r below [] quiet h = tt
nested-quiet log r below (x ∷ xs) quiet h = (chain-quiet log r x quiet.0.assigned ∙ h.0, h.1, nested-quiet log r (x ∷ below) xs quiet.1 h.2)

undropped-quiet : (log : List Record) (r : Record) (xs : List ℕ) → AllByRecursion (IsQuiet r.body) xs → AllByRecursion (λ x. is_undone log x ≡ false) xs → AllByRecursion (λ x. is_undone (log ++ r ∷ []) x ≡ false) xs
undropped-quiet log r [] quiet all = tt
undropped-quiet log r (x ∷ xs) quiet all = (is_undone-one log r x ∙ rw (all.0, quiet.0.undone) refl, undropped-quiet log r xs quiet.1 all.1)

subs-more : (log : List Record) (r : Record) (xs : List ℕ) → AllByRecursion (λ x. is_assigned log x ≡ true) xs → AllByRecursion (λ x. is_assigned (log ++ r ∷ []) x ≡ true) xs
subs-more log r [] all = tt
subs-more log r (x ∷ xs) all = (is_assigned-one log r x ∙ rw all.0 refl, subs-more log r xs all.1)

below-more : (next more : ℕ) (xs : List ℕ) → next ≤ more → AllByRecursion (λ x. x < next) xs → AllByRecursion (λ x. x < more) xs
below-more next more [] le all = tt
below-more next more (x ∷ xs) le all = (omega (arith, all.0), below-more next more xs le all.1)

pub in_progress_quiet : (log : List Record) (r : Record) (next more : ℕ) (t : ℕ) (xs : List ℕ) → next ≤ more → AllByRecursion (IsQuiet r.body) (t ∷ xs) →
    IsInProgress log next t xs → IsInProgress (log ++ r ∷ []) more t xs
in_progress_quiet log r next more t xs le quiet h = record {
  below = below-more next more (t ∷ xs) le h.below;
  top = is_assigned-one log r t ∙ rw (h.top, quiet.0.assigned) refl;
  running = has_ended-one log r t ∙ rw (h.running, quiet.0.ended) refl;
  subs = subs-more log r xs h.subs;
  undropped = undropped-quiet log r (t ∷ xs) quiet h.undropped;
  nested = nested-quiet log r (t ∷ []) xs quiet.1 h.nested;
  deep = h.deep;
}

-- xids of different transactions differ
pub tops_apart : (log : List Record) (x y s t : ℕ) → top_of log x ≡ s → top_of log y ≡ t → (s == t) ≡ false → (x == y) ≡ false
tops_apart log x y s t x_top y_top other = by_test (x == y) (λ same.
    let one : s ≡ t = sym x_top ∙ ap (top_of log) (eqb-true x y same) ∙ y_top in
    eqb-false s t other one)
  where
    by_test : (b : Bool) → (b ≡ true → ⊥) → b ≡ false
    by_test true f = absurd (f refl)
    by_test false f = refl

-- A SAVEPOINT MORE

all_onto : (P : ℕ → Type 0) (below xs : List ℕ) → AllByRecursion P below → AllByRecursion P xs → AllByRecursion P (onto below xs)
all_onto P below [] low high = low
all_onto P below (x ∷ xs) low high = all_onto P (x ∷ below) xs (high.0, low) high.1

nested_push : (log : List Record) (x : ℕ) (below xs : List ℕ) → IsNested log below xs → chain log x ≡ x ∷ onto below xs → AllByRecursion (λ y. y < x) (onto below xs) → IsNested log below (xs ++ x ∷ [])
nested_push log x below [] h is low = (is, low, tt)
nested_push log x below (y ∷ xs) h is low = (h.0, h.1, nested_push log x (y ∷ below) xs h.2 is low)

pub in_progress_push : (log : List Record) (next x : ℕ) (t : ℕ) (xs : List ℕ) → IsInProgress log next t xs → x < next → is_assigned log x ≡ true → is_undone log x ≡ false →
    chain log x ≡ x ∷ onto (t ∷ []) xs → AllByRecursion (λ y. y < x) (t ∷ xs) → length xs < MAX_DEPTH →
    IsInProgress log next t (xs ++ x ∷ [])
in_progress_push log next x t xs h lt sub undropped is low shallow = record {
  below = (h.below.0, all_append _ xs (x ∷ []) h.below.1 (lt, tt));
  top = h.top;
  running = h.running;
  subs = all_append _ xs (x ∷ []) h.subs (sub, tt);
  undropped = (h.undropped.0, all_append _ xs (x ∷ []) h.undropped.1 (undropped, tt));
  nested = nested_push log x (t ∷ []) xs h.nested is (all_onto (λ y. y < x) (t ∷ []) xs (low.0, tt) low.1);
  deep = omega (arith, shallow, length-append xs (x ∷ []));
}

-- A SAVEPOINT AND WHAT IS BELOW IT

all_from_onto : (P : ℕ → Type 0) (below xs : List ℕ) → AllByRecursion P (onto below xs) → AllByRecursion P below × AllByRecursion P xs
all_from_onto P below [] all = (all, tt)
all_from_onto P below (x ∷ xs) all = let both = all_from_onto P (x ∷ below) xs all in (both.0.1, (both.0.0, both.1))

nested_at : (log : List Record) (n : ℕ) (below xs : List ℕ) → n < length xs → IsNested log below xs → AllByRecursion (λ y. y < get_or xs n 0) (onto below (take n xs))
nested_at log n below [] lt h = absurd (omega arith)
nested_at log zero below (x ∷ xs) lt h = h.1
nested_at log (suc n) below (x ∷ xs) lt h = nested_at log n (x ∷ below) xs (omega arith) h.2

-- the savepoint at a place is above all xids before it
pub above_xids : (log : List Record) (next n : ℕ) (t : ℕ) (xs : List ℕ) → IsInProgress log next t xs → n < length xs →
    AllByRecursion (λ y. y < get_or xs n 0) (t ∷ take n xs)
above_xids log next n t xs h lt =
    let both = all_from_onto (λ y. y < get_or xs n 0) (t ∷ []) (take n xs) (nested_at log n (t ∷ []) xs lt h.nested) in
    (both.0.0, both.1)

pub last_of-take : (y n : ℕ) (xs : List ℕ) → n < length xs → last_of y (take (n + 1) xs) ≡ get_or xs n 0
last_of-take y n xs lt = rw add-one (by_place y n xs lt)
  where
    by_place : (y n : ℕ) (xs : List ℕ) → n < length xs → last_of y (take (suc n) xs) ≡ get_or xs n 0
    by_place y n [] lt = absurd (omega arith)
    by_place y zero (x ∷ xs) lt = refl
    by_place y (suc n) (x ∷ xs) lt = by_place x n xs (omega arith)

pub all_at : (P : ℕ → Type 0) (n : ℕ) (xs : List ℕ) → n < length xs → AllByRecursion P xs → P (get_or xs n 0)
all_at P n [] lt all = absurd (omega arith)
all_at P zero (x ∷ xs) lt all = all.0
all_at P (suc n) (x ∷ xs) lt all = all_at P n xs (omega arith) all.1
