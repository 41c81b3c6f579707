-- What stays of a strand's chunks while the books of others change.
use Rattle.std.proofs.Common.{◌≡◌, ◌≢◌, ℕ, zero, suc, ◌+◌, ◌<◌, ◌≤◌, Bool, true, false, cond, List, [], ◌∷◌, ◌++◌, length, get_or, nat_lt, refl, sym, ap, ◌∙◌, subst, arith}
use Rattle.std.specs.List.{Contains, sum_by}
use Rattle.std.proofs.lemmas.Bool.{ltb-true, ltb-false, lt-ltb, le-ltb}
use Rattle.std.proofs.lemmas.List.Sums.{sum_by-cons}
use Rattle.chgarena.specs.Books.{Books, IsOwned, IsRun, at, count_to, run}

-- a chunk is in both books with the same owner, rank and next chunk
pub record Same (old new : Books) (x : ℕ) : Type 0 where
  pub owner : at new.owner x ≡ at old.owner x
  pub rank : at new.rank x ≡ at old.rank x
  pub next : at new.next x ≡ at old.next x

-- the last chunk of a run
pub run_last : (b : Books) (h l r m c : ℕ) → IsRun b h l r m c → IsOwned b h (r + m) l
run_last b h l r zero c is =
    let P : ℕ → Type 0 = λ x. IsOwned b h (r + 0) x in
    subst P is.1 (is.0.0, is.0.1, is.0.2 ∙ omega arith)
run_last b h l r (suc m) c is =
    let P : ℕ → Type 0 = λ k. IsOwned b h k l in
    subst P (omega arith) (run_last b h l (r + 1) m (at b.next c) is.1)

-- its first chunk
pub run_first : (b : Books) (h l r m c : ℕ) → IsRun b h l r m c → IsOwned b h r c
run_first b h l r zero c is = is.0
run_first b h l r (suc m) c is = is.0

-- its last chunk is one of it
pub last_in : (b : Books) (h l r m c : ℕ) → IsRun b h l r m c → Contains (run b.next m c) l
last_in b h l r zero c is = (0, omega arith, is.1)
last_in b h l r (suc m) c is = let rest = last_in b h l (r + 1) m (at b.next c) is.1 in (suc rest.0, let low = rest.1 in omega arith, rest.2)

-- a chunk of a run that is not the first one is in the rest
pub behind_first : (next : List ℕ) (m c x : ℕ) → x ≢ c → Contains (run next m c) x → (less : ℕ) × (m ≡ less + 1) × Contains (run next less (at next c)) x
behind_first next m c x ne is = by_place next m c x ne is.0 is.1 is.2
  where
    by_place : (next : List ℕ) (m c x : ℕ) → x ≢ c → (i : ℕ) → i < length (run next m c) → get_or (run next m c) i x ≡ x → (less : ℕ) × (m ≡ less + 1) × Contains (run next less (at next c)) x
    by_place next zero c x ne zero low is = absurd (ne (sym is))
    by_place next zero c x ne (suc i) low is = absurd (omega arith)
    by_place next (suc m) c x ne zero low is = absurd (ne (sym is))
    by_place next (suc m) c x ne (suc i) low is = (m, omega arith, (i, omega arith, is))

-- a run stays where its chunks from this rank on stay
pub same_run : (b b' : Books) (h l : ℕ) → b'.chunks ≡ b.chunks → (r m c : ℕ) → ((x : ℕ) → x < b.chunks → at b.owner x ≡ h → r ≤ at b.rank x → Same b b' x) →
    IsRun b h l r m c → IsRun b' h l r m c × (run b'.next m c ≡ run b.next m c)
same_run b b' h l n r zero c same is =
    let s = same c is.0.0 is.0.1 (omega (arith, is.0.2)) in
    (((omega (arith, is.0.0), s.owner ∙ is.0.1, s.rank ∙ is.0.2), is.1), refl)
same_run b b' h l n r (suc m) c same is =
    let s = same c is.0.0 is.0.1 (omega (arith, is.0.2)) in
    let rest = same_run b b' h l n (r + 1) m (at b.next c) (λ x low o more. same x low o (omega arith)) is.1 in
    let P : ℕ → Type 0 = λ x. IsRun b' h l (r + 1) m x in (
      ((omega (arith, is.0.0), s.owner ∙ is.0.1, s.rank ∙ is.0.2), subst P (sym s.next) rest.0),
      ap (λ x. c ∷ run b'.next m x) s.next ∙ ap (λ xs. c ∷ xs) rest.1,
    )

-- a run with one chunk more at its end
pub longer_run : (b b' : Books) (h l k x : ℕ) → b'.chunks ≡ b.chunks → ((y : ℕ) → y < b.chunks → at b.owner y ≡ h → at b.rank y < k → Same b b' y) →
    at b'.owner l ≡ h → at b'.rank l ≡ k → at b'.next l ≡ x → IsOwned b' h (k + 1) x → (r m c : ℕ) → r + m ≡ k → IsRun b h l r m c →
    IsRun b' h x r (suc m) c × (run b'.next (suc m) c ≡ run b.next m c ++ x ∷ [])
longer_run b b' h l k x n same owner rank next owned r zero c e is =
    let P : ℕ → Type 0 = λ y. IsRun b' h x r 1 y × (run b'.next 1 y ≡ y ∷ x ∷ []) in
    let low : l < b'.chunks = omega (arith, (run_last b h l r 0 c is).0) in
    let Q : ℕ → Type 0 = λ y. IsOwned b' h (r + 1) y × (y ≡ x) in
    let R : ℕ → Type 0 = λ j. IsOwned b' h j x in
    subst P (sym is.1) (((low, owner, rank ∙ omega arith), subst Q (sym next) (subst R (omega arith) owned, refl)), ap (λ y. l ∷ y ∷ []) next)
longer_run b b' h l k x n same owner rank next owned r (suc m) c e is =
    let s = same c is.0.0 is.0.1 (omega (arith, is.0.2)) in
    let rest = longer_run b b' h l k x n same owner rank next owned (r + 1) m (at b.next c) (omega arith) is.1 in
    let P : ℕ → Type 0 = λ y. IsRun b' h x (r + 1) (suc m) y in (
      ((omega (arith, is.0.0), s.owner ∙ is.0.1, s.rank ∙ is.0.2), subst P (sym s.next) rest.0),
      ap (λ y. c ∷ run b'.next (suc m) y) s.next ∙ ap (λ xs. c ∷ xs) rest.1,
    )

-- sums of the same numbers
pub sum_by_same : (f g : ℕ → ℕ) (xs : List ℕ) → ((i : ℕ) → i < length xs → f (at xs i) ≡ g (at xs i)) → sum_by f xs ≡ sum_by g xs
sum_by_same f g [] same = refl
sum_by_same f g (x ∷ xs) same =
    let first : f x ≡ g x = same 0 (omega arith) in
    let rest : sum_by f xs ≡ sum_by g xs = sum_by_same f g xs (λ i low. same (suc i) (omega arith)) in
    omega (arith, sum_by-cons f x xs, sum_by-cons g x xs)

pub sum_by_none : (f : ℕ → ℕ) (xs : List ℕ) → ((i : ℕ) → i < length xs → f (at xs i) ≡ 0) → sum_by f xs ≡ 0
sum_by_none f [] none = refl
sum_by_none f (x ∷ xs) none =
    let first : f x ≡ 0 = none 0 (omega arith) in
    let rest : sum_by f xs ≡ 0 = sum_by_none f xs (λ i low. none (suc i) (omega arith)) in
    omega (arith, sum_by-cons f x xs)

-- how many chunks a strand has
pub count_of_strand : (b : Books) (l : ℕ) → l < b.chunks → count_to b l ≡ at b.rank l + 1
count_of_strand b l low = ap (λ t. cond t (at b.rank l + 1) 0) (lt-ltb l b.chunks low)

pub count_of_none : (b : Books) (l : ℕ) → b.chunks ≤ l → count_to b l ≡ 0
count_of_none b l high = ap (λ t. cond t (at b.rank l + 1) 0) (le-ltb l b.chunks high)

pub count_same : (b b' : Books) (l : ℕ) → b'.chunks ≡ b.chunks → (l < b.chunks → at b'.rank l ≡ at b.rank l) → count_to b' l ≡ count_to b l
count_same b b' l n same = by_test (nat_lt l b.chunks) refl
  where
    by_test : (t : Bool) → nat_lt l b.chunks ≡ t → count_to b' l ≡ count_to b l
    by_test true is =
        let low : l < b.chunks = ltb-true l b.chunks is in
        count_of_strand b' l (omega arith) ∙ (ap (λ k. k + 1) (same low) ∙ sym (count_of_strand b l low))
    by_test false is = let high = le_of is in count_of_none b' l (omega arith) ∙ sym (count_of_none b l high)
      where
        le_of : nat_lt l b.chunks ≡ false → b.chunks ≤ l
        le_of e = ltb-false l b.chunks e
