-- Lists parted by a mark: pushed to, filtered, and rolled back to it.
use Rattle.std.proofs.Common.{◌≡◌, ℕ, zero, suc, Bool, true, false, cond, not, List, [], ◌∷◌, ◌++◌, map, refl, sym, ap, subst, ◌∙◌, eq-eqb}
use Rattle.std.specs.List.{filter, AllByRecursion}
use Rattle.tables.specs.declared.changes.change.Change.{Change}
use Rattle.store.specs.History.{Made, change_made, is_top, history_after_rollback, count_of}
use Rattle.wal.specs.Log.{Entry}
use Rattle.txlog.specs.Invariants.{IsBehind}

-- two tests that agree at each element
pub after_agrees : (own under own' under' : Entry → Bool) (n : ℕ) (es : List Entry) → AllByRecursion (λ e. (own' e ≡ own e) × (under' e ≡ under e)) es →
    IsBehind own under n es → IsBehind own' under' n es
after_agrees own under own' under' n [] same h = h
after_agrees own under own' under' zero (e ∷ es) same h = (same.0.1 ∙ h.0 ∙ sym same.0.0, after_agrees own under own' under' zero es same.1 h.1)
after_agrees own under own' under' (suc n) (e ∷ es) same h = (
  same.0.1 ∙ h.0,
  subst (λ (b : Bool). IsBehind own' under' (cond b n (suc n)) es) (sym same.0.0) (after_agrees own under own' under' (cond (own e) n (suc n)) es same.1 h.1),
)

-- a change of the transaction under the savepoint, or another's
pub after_push : (own under : Entry → Bool) (n : ℕ) (es : List Entry) (e : Entry) → under e ≡ own e → IsBehind own under n es → IsBehind own under n (es ++ e ∷ [])
after_push own under n [] e is h = subst (λ (m : ℕ). IsBehind own under m (e ∷ [])) (sym h) (is, refl)
after_push own under zero (d ∷ es) e is h = (h.0, after_push own under zero es e is h.1)
after_push own under (suc n) (d ∷ es) e is h = (h.0, after_push own under (cond (own d) n (suc n)) es e is h.1)

-- what is taken out is another's, or under the savepoint
pub after_filter : (own under q : Entry → Bool) (n : ℕ) (es : List Entry) → AllByRecursion (λ e. q e ≡ false → own e ≡ true → under e ≡ true) es →
    IsBehind own under n es → IsBehind own under n (filter q es)
after_filter own under q n [] keep h = h
after_filter own under q zero (e ∷ es) keep h = by_test (q e) (after_filter own under q zero es keep.1 h.1)
  where
    by_test : (b : Bool) → IsBehind own under zero (filter q es) → IsBehind own under zero (cond b (e ∷ filter q es) (filter q es))
    by_test true rest = (h.0, rest)
    by_test false rest = rest
after_filter own under q (suc n) (e ∷ es) keep h = by_test (q e) refl (after_filter own under q (cond (own e) n (suc n)) es keep.1 h.1)
  where
    dropped : (c : Bool) → own e ≡ c → q e ≡ false → IsBehind own under (cond c n (suc n)) (filter q es) → IsBehind own under (suc n) (filter q es)
    dropped true is none rest = let never : true ≡ false = sym (keep.0 none is) ∙ h.0 in cc
    dropped false is none rest = rest

    by_test : (b : Bool) → q e ≡ b → IsBehind own under (cond (own e) n (suc n)) (filter q es) → IsBehind own under (suc n) (cond b (e ∷ filter q es) (filter q es))
    by_test true is rest = (h.0, rest)
    by_test false is rest = dropped (own e) refl is rest

-- how a list of entries is told as a history
abbrev pub Tells : ℕ → (Entry → Made) → (Entry → Bool) → Type 0
Tells t made_of own = (e : Entry) → is_top t (made_of e).top ≡ own e

-- nothing is under a savepoint that is new
pub after_all : (t : ℕ) (made_of : Entry → Made) (own under : Entry → Bool) (es : List Entry) → Tells t made_of own → AllByRecursion (λ e. under e ≡ false) es →
    IsBehind own under (count_of t (map made_of es)) es
after_all t made_of own under [] tells none = refl
after_all t made_of own under (e ∷ es) tells none =
    subst (λ (b : Bool). IsBehind own under (cond b (suc (count_of t (map made_of es))) (count_of t (map made_of es))) (e ∷ es)) (sym (tells e))
    (by_test (own e) refl (count_of t (map made_of es)) (after_all t made_of own under es tells none.1))
  where
    by_test : (b : Bool) → own e ≡ b → (k : ℕ) → IsBehind own under k es → IsBehind own under (cond b (suc k) k) (e ∷ es)
    by_test true is k rest = (none.0, subst (λ (c : Bool). IsBehind own under (cond c k (suc k)) es) (sym is) rest)
    by_test false is zero rest = (none.0 ∙ sym is, rest)
    by_test false is (suc k) rest = (none.0, subst (λ (c : Bool). IsBehind own under (cond c k (suc k)) es) (sym is) rest)

-- rolled back to its mark, a history is without what is under the savepoint
pub undone_behind : (t : ℕ) (made_of : Entry → Made) (own under : Entry → Bool) (n : ℕ) (es : List Entry) → Tells t made_of own → IsBehind own under n es →
    history_after_rollback t n (map made_of es) ≡ map made_of (filter (λ e. not (under e)) es)
undone_behind t made_of own under n [] tells h = refl
undone_behind t made_of own under zero (e ∷ es) tells h = by_test (own e) (tells e) h.0 (undone_behind t made_of own under zero es tells h.1)
  where
    by_test : (b : Bool) → is_top t (made_of e).top ≡ b → under e ≡ b → history_after_rollback t zero (map made_of es) ≡ map made_of (filter (λ e. not (under e)) es) →
        history_after_rollback t zero (map made_of (e ∷ es)) ≡ map made_of (filter (λ e. not (under e)) (e ∷ es))
    by_test true is u rest = rw (is, u) rest
    by_test false is u rest = rw (is, u) (ap (λ (ms : List Made). made_of e ∷ ms) rest)
undone_behind t made_of own under (suc n) (e ∷ es) tells h = by_test (own e) (tells e) (undone_behind t made_of own under (cond (own e) n (suc n)) es tells h.1)
  where
    by_test : (b : Bool) → is_top t (made_of e).top ≡ b → history_after_rollback t (cond b n (suc n)) (map made_of es) ≡ map made_of (filter (λ e. not (under e)) es) →
        history_after_rollback t (suc n) (map made_of (e ∷ es)) ≡ map made_of (filter (λ e. not (under e)) (e ∷ es))
    by_test true is rest = rw (is, h.0) (ap (λ (ms : List Made). made_of e ∷ ms) rest)
    by_test false is rest = rw (is, h.0) (ap (λ (ms : List Made). made_of e ∷ ms) rest)

-- all of a transaction's are undone
pub undone_all : (t : ℕ) (made_of : Entry → Made) (own : Entry → Bool) (es : List Entry) → Tells t made_of own →
    history_after_rollback t 0 (map made_of es) ≡ map made_of (filter (λ e. not (own e)) es)
undone_all t made_of own es tells = undone_behind t made_of own own zero es tells (all_own es)
  where
    all_own : (es : List Entry) → IsBehind own own zero es
    all_own [] = refl
    all_own (e ∷ es) = (refl, all_own es)

-- the last change undone
pub rolled_last : (t : ℕ) (c : Change) (h : List Made) → history_after_rollback t (count_of t h) (h ++ change_made t c ∷ []) ≡ h
rolled_last t c [] = rw (eq-eqb t t refl) refl
rolled_last t c (m ∷ h) = by_test (is_top t m.top) refl (count_of t h) (rolled_last t c h)
  where
    by_test : (b : Bool) → is_top t m.top ≡ b → (k : ℕ) → history_after_rollback t k (h ++ change_made t c ∷ []) ≡ h → history_after_rollback t (cond b (suc k) k) (m ∷ (h ++ change_made t c ∷ [])) ≡ m ∷ h
    by_test true is k rest = rw is (ap (λ (ms : List Made). m ∷ ms) rest)
    by_test false is zero rest = rw is (ap (λ (ms : List Made). m ∷ ms) rest)
    by_test false is (suc k) rest = rw is (ap (λ (ms : List Made). m ∷ ms) rest)
