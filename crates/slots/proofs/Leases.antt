-- The leases at their places: one is read, another stands there, and the rest are as they were.
use Rattle.std.proofs.Common.{◌≡◌, ℕ, zero, suc, ◌<◌, true, false, List, [], ◌∷◌, ◌++◌, length, map, Option, Some, None, option_map, refl, sym, ap, subst, ◌∙◌, arith, ⊎_elim}
use Rattle.std.specs.List.{AllByRecursion}
use Rattle.std.specs.Prelude.{is_some, slice_get, slice_set, slice_index_or}
use Rattle.std.proofs.lemmas.Bool.{cases_eq}
use Rattle.std.proofs.lemmas.List.{length-map, map-append, map-set}
use Rattle.std.proofs.lemmas.Option.{same_Some, slice_get-map, slice_get_read, slice_get_within}
use Rattle.slots.specs.State.{SlotsState, holds_at}
use Rattle.slots.specs.Leasing.{AreLeases, IsLeasedAs}

pub set_there : (ls : List (Option ℕ)) (p : ℕ) (x o : Option ℕ) → slice_get (slice_set ls p x) p ≡ Some o → x ≡ o
set_there [] p x o found = absurd cc
set_there (y ∷ ls) zero x o found = same_Some x o found
set_there (y ∷ ls) (suc p) x o found = set_there ls p x o found

pub set_else : (ls : List (Option ℕ)) (p q : ℕ) (x : Option ℕ) → (q ≡ p → ⊥) → slice_get (slice_set ls p x) q ≡ slice_get ls q
set_else [] p q x not = refl
set_else (y ∷ ls) zero zero x not = absurd (not refl)
set_else (y ∷ ls) zero (suc q) x not = refl
set_else (y ∷ ls) (suc p) zero x not = refl
set_else (y ∷ ls) (suc p) (suc q) x not = set_else ls p q x (λ e. not (ap suc e))

-- a place whose slot is held as before is leased as before
pub leased_on : (s t : SlotsState) (q : ℕ) (o : Option ℕ) → holds_at q t ≡ holds_at q s → IsLeasedAs s q o → IsLeasedAs t q o
leased_on s t q None same is = same ∙ is
leased_on s t q (Some leased) same is = (is.0, same ∙ is.1)

pub all_leased_on : (s t : SlotsState) (ls : List (Option ℕ)) → ((q : ℕ) → holds_at q t ≡ holds_at q s) → AreLeases s ls → AreLeases t ls
all_leased_on s t ls same all q o found = leased_on s t q o (same q) (all q o found)

pub leased_with : (s t : SlotsState) (ls : List (Option ℕ)) (p : ℕ) (x : Option ℕ) → AreLeases s ls → IsLeasedAs t p x → ((q : ℕ) → (q ≡ p → ⊥) → holds_at q t ≡ holds_at q s) → AreLeases t (slice_set ls p x)
leased_with s t ls p x all here else q o found = ⊎_elim
    (λ is. let there : slice_get (slice_set ls p x) p ≡ Some o = subst (λ (r : ℕ). slice_get (slice_set ls p x) r ≡ Some o) is found in
    subst (λ (r : ℕ). IsLeasedAs t r o) (sym is) (subst (λ (y : Option ℕ). IsLeasedAs t p y) (set_there ls p x o there) here))
    (λ not. leased_on s t q o (else q not) (all q o (sym (set_else ls p q x not) ∙ found)))
    (cases_eq q p)

module _ {A : Type 0} (place : A → ℕ) where
  abbrev pub leased : List (Option A) → List (Option ℕ)
  leased ls = map (option_map place) ls

  pub read_lease : (s : SlotsState) (ls : List (Option A)) (p : ℕ) (o : Option A) → AreLeases s (leased ls) → p < length ls → o ≡ slice_index_or ls p o → IsLeasedAs s p (option_map place o)
  read_lease s ls p o all low value = all p (option_map place o) (slice_get-map (option_map place) ls p ∙ ap (option_map (option_map place)) (slice_get_read ls (length ls) p o refl low value))

  pub lease_there : (s : SlotsState) (ls : List (Option A)) (p : ℕ) (o : Option A) (x : A) → AreLeases s (leased ls) → p < length ls → o ≡ slice_index_or ls p o → o ≡ Some x → (place x ≡ p) × (holds_at p s ≡ true)
  lease_there s ls p o x all low value is = subst (λ (y : Option A). IsLeasedAs s p (option_map place y)) is (read_lease s ls p o all low value)

  pub no_lease : (s : SlotsState) (ls : List (Option A)) (p : ℕ) (o : Option A) → AreLeases s (leased ls) → p < length ls → o ≡ slice_index_or ls p o → o ≡ None → holds_at p s ≡ false
  no_lease s ls p o all low value is = subst (λ (y : Option A). IsLeasedAs s p (option_map place y)) is (read_lease s ls p o all low value)

  pub has_lease : (s : SlotsState) (ls : List (Option A)) (p : ℕ) (o : Option A) → AreLeases s (leased ls) → p < length ls → o ≡ slice_index_or ls p o → is_some o ≡ holds_at p s
  has_lease s ls p None all low value = sym (read_lease s ls p None all low value)
  has_lease s ls p (Some x) all low value = sym ((read_lease s ls p (Some x) all low value).1)

  pub is_low : (n p : ℕ) (ls : List (Option A)) → n ≡ 16 → n ≡ length ls → p < 16 → p < length ls
  is_low n p ls all items low = omega (arith, all, items, low)

  -- the last lease is taken out
  pub without_last : (s t : SlotsState) (ls : List (Option A)) (o : Option A) (new : List (Option A)) → ls ≡ new ++ o ∷ [] → AreLeases s (leased ls) → ((q : ℕ) → q < length new → holds_at q t ≡ holds_at q s) → AreLeases t (leased new)
  without_last s t ls o new is all same q x found =
      let low : q < length (leased new) = slice_get_within (leased new) q x found in
      let len = length-map new (option_map place) in
      leased_on s t q x (same q (omega (arith, low, len)))
      (all q x (ap (λ (l : List (Option A)). slice_get (leased l) q) is ∙ ap (λ (l : List (Option ℕ)). slice_get l q) (map-append (option_map place) new (o ∷ [])) ∙ front (leased new) (option_map place o) q x found))
    where
      front : (ls : List (Option ℕ)) (y : Option ℕ) (q : ℕ) (x : Option ℕ) → slice_get ls q ≡ Some x → slice_get (ls ++ y ∷ []) q ≡ Some x
      front [] y q x found = absurd cc
      front (z ∷ ls) y zero x found = found
      front (z ∷ ls) y (suc q) x found = front ls y q x found

  pub last_there : (s : SlotsState) (ls new : List (Option A)) (o : Option A) → ls ≡ new ++ o ∷ [] → AreLeases s (leased ls) → IsLeasedAs s (length new) (option_map place o)
  last_there s ls new o is all = all (length new) (option_map place o) (ap (λ (l : List (Option A)). slice_get (leased l) (length new)) is
      ∙ ap (λ (l : List (Option ℕ)). slice_get l (length new)) (map-append (option_map place) new (o ∷ []))
      ∙ ap (λ (n : ℕ). slice_get (leased new ++ option_map place o ∷ []) n) (sym (length-map new (option_map place))) ∙ end (leased new) (option_map place o))
    where
      end : (ls : List (Option ℕ)) (y : Option ℕ) → slice_get (ls ++ y ∷ []) (length ls) ≡ Some y
      end [] y = refl
      end (z ∷ ls) y = end ls y

  pub with_lease : (s t : SlotsState) (ls : List (Option A)) (p : ℕ) (x : Option A) → AreLeases s (leased ls) → IsLeasedAs t p (option_map place x) → ((q : ℕ) → (q ≡ p → ⊥) → holds_at q t ≡ holds_at q s) → AreLeases t (leased (slice_set ls p x))
  with_lease s t ls p x all here else = subst (λ (l : List (Option ℕ)). AreLeases t l) (sym (map-set (option_map place) ls p x)) (leased_with s t (leased ls) p (option_map place x) all here else)

-- ---- No slots, and no leases.

pub none_after : (ls : List (Option ℕ)) → AllByRecursion (λ (o : Option ℕ). o ≡ None) ls → AllByRecursion (λ (o : Option ℕ). o ≡ None) (ls ++ None ∷ [])
none_after [] all = (refl, tt)
none_after (o ∷ ls) all = (all.0, none_after ls all.1)

pub none_leased : (s : SlotsState) (ls : List (Option ℕ)) → ((q : ℕ) → holds_at q s ≡ false) → AllByRecursion (λ (o : Option ℕ). o ≡ None) ls → AreLeases s ls
none_leased s ls free all q o found = subst (λ (x : Option ℕ). IsLeasedAs s q x) (sym (is_none ls all q o found)) (free q)
  where
    is_none : (ls : List (Option ℕ)) → AllByRecursion (λ (o : Option ℕ). o ≡ None) ls → (q : ℕ) (o : Option ℕ) → slice_get ls q ≡ Some o → o ≡ None
    is_none [] all q o found = absurd cc
    is_none (x ∷ ls) all zero o found = sym (same_Some x o found) ∙ all.0
    is_none (x ∷ ls) all (suc q) o found = is_none ls all.1 q o found
