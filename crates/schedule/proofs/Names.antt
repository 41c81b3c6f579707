-- A transaction stands where it was found by its name.
use Rattle.std.proofs.Common.{◌≡◌, ◌+◌, ◌≤◌, ℕ, zero, suc, Bool, true, false, cond, List, [], ◌∷◌, map, Option, Some, None, refl, sym, ap, ◌∙◌, arith}
use Rattle.std.specs.Prelude.{IsNone, is_some}
use Rattle.std.specs.Str.{bytes_eq}
use Rattle.schedule.specs.declared.session.Session.{Session}
use Rattle.schedule.specs.Transactions.{NamedTx, xid_of}
use Rattle.schedule.specs.Sessions.{named_tx, place_from, IsNamedAt}

abbrev or_that : {A : Type 0} → A → Option A → A
or_that d None = d
or_that d (Some x) = x

pub same_inside : {A : Type 0} (x y : A) → Option.Some x ≡ Option.Some y → x ≡ y
same_inside x y e = ap (or_that x) e

abbrev pub place_is : ℕ → Option ℕ
place_is n = Some n

no_sooner : (name : List ℕ) (names : List NamedTx) (at p : ℕ) → place_from at name names ≡ Some p → at ≤ p
no_sooner name [] at p e = absurd cc
no_sooner name (n ∷ names) at p e = by_test (bytes_eq n.name name) e (no_sooner name names (at + 1) p)
  where
    by_test : (b : Bool) → cond b (Some at) (place_from (at + 1) name names) ≡ Some p → (place_from (at + 1) name names ≡ Some p → at + 1 ≤ p) → at ≤ p
    by_test true e later = omega (arith, same_inside at p e)
    by_test false e later = omega (arith, later e)

found_named : (name : List ℕ) (ss : List Session) (at k : ℕ) → place_from at name (map named_tx ss) ≡ Some (at + k) → IsNamedAt name k ss
found_named name [] at k e = absurd cc
found_named name (s ∷ ss) at zero e = by_test (bytes_eq s.name name) refl e
  where
    by_test : (b : Bool) → bytes_eq s.name name ≡ b → cond b (Some at) (place_from (at + 1) name (map named_tx ss)) ≡ Some (at + 0) → IsNamedAt name 0 (s ∷ ss)
    by_test true is e = record { session = s; there = refl; xid = rw is refl; without = rw is refl }
    by_test false is e = absurd (omega (arith, no_sooner name (map named_tx ss) (at + 1) (at + 0) e))
found_named name (s ∷ ss) at (suc k) e = by_test (bytes_eq s.name name) refl e (found_named name ss (at + 1) k)
  where
    next : at + suc k ≡ (at + 1) + k
    next = omega arith

    by_test : (b : Bool) → bytes_eq s.name name ≡ b → cond b (Some at) (place_from (at + 1) name (map named_tx ss)) ≡ Some (at + suc k)
        → (place_from (at + 1) name (map named_tx ss) ≡ Some ((at + 1) + k) → IsNamedAt name k ss) → IsNamedAt name (suc k) (s ∷ ss)
    by_test true is e later = absurd (omega (arith, same_inside at (at + suc k) e))
    by_test false is e later =
        let inner = later (e ∙ ap place_is next) in
        record { session = inner.session; there = inner.there; xid = rw is inner.xid; without = rw is (ap (λ l. named_tx s ∷ l) inner.without) }

pub named_at : (name : List ℕ) (ss : List Session) (k : ℕ) → place_from 0 name (map named_tx ss) ≡ Some k → IsNamedAt name k ss
named_at name ss k e = let plain : k ≡ 0 + k = omega arith in found_named name ss 0 k (e ∙ ap place_is plain)

pub is_named_alike : (name : List ℕ) (names : List NamedTx) (at : ℕ) → is_some (place_from at name names) ≡ is_some (xid_of name names)
is_named_alike name [] at = refl
is_named_alike name (n ∷ names) at = by_test (bytes_eq n.name name) (is_named_alike name names (at + 1))
  where
    by_test : (b : Bool) → is_some (place_from (at + 1) name names) ≡ is_some (xid_of name names) → is_some (cond b (Some at) (place_from (at + 1) name names)) ≡ is_some (cond b (Some n.xid) (xid_of name names))
    by_test true later = refl
    by_test false later = later

pub none_named : (name : List ℕ) (names : List NamedTx) → place_from 0 name names ≡ None → IsNone (xid_of name names)
none_named name names e = sym (is_named_alike name names 0) ∙ ap is_some e
