-- An arena of which one strand changes: all others stay, and so do the entries of every other xid.
use Rattle.std.proofs.Common.{◌≡◌, ℕ, ◌<◌, ◌==◌, Bool, true, false, cond, List, [], ◌∷◌, ◌++◌, Option, Some, None, length, get_or, is_some, set, refl, sym, ap, subst, ◌∙◌, length-set, eq-eqb}
use Rattle.std.specs.List.{AllByRecursion}
use Rattle.std.proofs.lemmas.List.{get_or-set_same, get_or-set_other}
use Rattle.chgarena.specs.Strands.{Strands as Arena, IsOf, IsHead, IsPushed, arena_without, entries_at as entries_in_place, entries_of}
use Rattle.reorder.specs.Entries.{IsEntry}
use Rattle.reorder.specs.Pool.{HoldEntries, IsPool, IsSameAt, PushesAt, entries_by, map_with, strand_of}
use Rattle.wal.proofs.Lists.{all_append}
use Rattle.reorder.proofs.Opening.{put_cases}

-- ONE STRAND OF AN ARENA

pub pushed_entries : (a a' : Arena) (o o' : Option ℕ) (entry : List ℕ) → IsPushed a o entry a' o' → entries_of a' o' ≡ entries_of a o ++ entry ∷ []
pushed_entries a a' o o' entry p =
    ap (entries_of a') p.begins ∙ ap (λ (b : Arena). entries_in_place (get_or b p.head None)) p.strands
    ∙ ap entries_in_place (get_or-set_same a p.head (Some (entries_of a o ++ entry ∷ [])) None p.within)

pub pushed_made : (a a' : Arena) (o o' : Option ℕ) (entry : List ℕ) → IsPushed a o entry a' o' → IsOf a' o'
pushed_made a a' o o' entry p =
    subst (IsOf a') (sym p.begins) (
      subst (λ (b : Arena). p.head < length b) (sym p.strands) (subst (λ (n : ℕ). p.head < n) (sym (length-set a p.head (Some (entries_of a o ++ entry ∷ [])))) p.within),
      entries_of a o ++ entry ∷ [],
      ap (λ (b : Arena). get_or b p.head None) p.strands ∙ get_or-set_same a p.head (Some (entries_of a o ++ entry ∷ [])) None p.within,
    )

-- a strand of the arena that isn't the one that grows begins elsewhere
pub pushed_elsewhere : (a a' : Arena) (o o' : Option ℕ) (entry : List ℕ) (p : IsPushed a o entry a' o') (q : ℕ) → IsOf a (Some q) → (o ≡ Some q → ⊥) → p.head ≡ q → ⊥
pushed_elsewhere a a' o o' entry p q made apart same = by_head o p.kept apart
  where
    by_head : (s : Option ℕ) → IsHead a s p.head → (s ≡ Some q → ⊥) → ⊥
    by_head None kept apart' = let never : None ≡ Some made.1 = sym kept ∙ ap (λ n. get_or a n None) same ∙ made.2 in cc
    by_head (Some first) kept apart' = apart' (ap Some (sym kept ∙ same))

pub record Stays (a a' : Arena) (r : Option ℕ) : Type 0 where
  pub made : IsOf a' r
  pub entries : entries_of a' r ≡ entries_of a r

set_stays : (a a' : Arena) (head : ℕ) (new : Option (List (List ℕ))) (q : ℕ) → a' ≡ set a head new → (head ≡ q → ⊥) → IsOf a (Some q) → Stays a a' (Some q)
set_stays a a' head new q is apart made =
    let same : get_or a' q None ≡ get_or a q None = ap (λ (b : Arena). get_or b q None) is ∙ get_or-set_other a head q new None (λ same. apart (sym same)) in
    record {
      made = (subst (λ (b : Arena). q < length b) (sym is) (subst (λ (n : ℕ). q < n) (sym (length-set a head new)) made.0), made.1, same ∙ made.2);
      entries = ap entries_in_place same;
    }

pub pushed_stays : (a a' : Arena) (o o' : Option ℕ) (entry : List ℕ) → IsPushed a o entry a' o' → (r : Option ℕ) → IsOf a r → ((q : ℕ) → r ≡ Some q → o ≡ Some q → ⊥) → Stays a a' r
pushed_stays a a' o o' entry p None made apart = record { made = tt; entries = refl }
pushed_stays a a' o o' entry p (Some q) made apart =
    set_stays a a' p.head (Some (entries_of a o ++ entry ∷ [])) q p.strands (pushed_elsewhere a a' o o' entry p q made (apart q refl)) made

pub back_stays : (a : Arena) (o r : Option ℕ) → IsOf a r → ((q : ℕ) → r ≡ Some q → o ≡ Some q → ⊥) → Stays a (arena_without a o) r
back_stays a None r made apart = record { made = made; entries = refl }
back_stays a (Some head) None made apart = record { made = tt; entries = refl }
back_stays a (Some head) (Some q) made apart = set_stays a (set a head None) head None q refl (λ same. apart q refl (ap Some same)) made

-- THE STRANDS OF ALL XIDS

apart_at : (arena : Arena) (strands : List (ℕ × Option ℕ)) → IsPool arena strands → (xid x : ℕ) (o r : Option ℕ) → strand_of strands xid ≡ Some o → strand_of strands x ≡ Some r → (xid == x) ≡ false →
    (q : ℕ) → r ≡ Some q → o ≡ Some q → ⊥
apart_at arena strands pool xid x o r was is other q at_r at_o =
    let same : xid ≡ x = pool.apart xid x q (was ∙ ap Some at_o) (is ∙ ap Some at_r) in
    let never : true ≡ false = sym (eq-eqb xid x same) ∙ other in cc

pub some_same : {A : Type 0} (x y : A) → Some x ≡ Some y → x ≡ y
some_same x y is = cc

pub pool_pushed : (xid : ℕ) (entry : List ℕ) (arena : Arena) (strands : List (ℕ × Option ℕ)) (arena' : Arena) (strands' : List (ℕ × Option ℕ)) →
    IsPool arena strands → PushesAt xid entry arena strands arena' strands' → IsPool arena' strands'
pool_pushed xid entry arena strands arena' strands' pool p = record {
  made = λ x r is. put_cases (λ o. o ≡ Some r → IsOf arena' r) xid x (Some p.head') (strand_of strands)
      (λ same o. subst (IsOf arena') (some_same p.head' r o) (pushed_made arena arena' p.head p.head' entry p.pushed))
      (λ other o. (pushed_stays arena arena' p.head p.head' entry p.pushed r (pool.made x r o) (apart_at arena strands pool xid x p.head r p.was o other)).made)
      (sym (p.others x) ∙ is);
  apart = λ x y q is_x is_y.
      put_cases (λ o. o ≡ Some (Some q) → x ≡ y) xid x (Some p.head') (strand_of strands)
      (λ same_x o. put_cases (λ o'. o' ≡ Some (Some q) → x ≡ y) xid y (Some p.head') (strand_of strands)
      (λ same_y o'. sym same_x ∙ same_y)
      (λ other_y o'. absurd (elsewhere y q (some_same p.head' (Some q) o) o' other_y))
      (sym (p.others y) ∙ is_y))
      (λ other_x o. put_cases (λ o'. o' ≡ Some (Some q) → x ≡ y) xid y (Some p.head') (strand_of strands)
      (λ same_y o'. absurd (elsewhere x q (some_same p.head' (Some q) o') o other_x))
      (λ other_y o'. pool.apart x y q o o')
      (sym (p.others y) ∙ is_y))
      (sym (p.others x) ∙ is_x);
}
  where
    elsewhere : (z q : ℕ) → p.head' ≡ Some q → strand_of strands z ≡ Some (Some q) → (xid == z) ≡ false → ⊥
    elsewhere z q at is other =
        pushed_elsewhere arena arena' p.head p.head' entry p.pushed q (pool.made z (Some q) is)
        (λ here. apart_at arena strands pool xid z p.head (Some q) p.was is other q refl here) (some_same p.pushed.head q (sym p.pushed.begins ∙ at))

pub entries_pushed : (xid : ℕ) (entry : List ℕ) (arena : Arena) (strands : List (ℕ × Option ℕ)) (arena' : Arena) (strands' : List (ℕ × Option ℕ)) →
    IsPool arena strands → PushesAt xid entry arena strands arena' strands' → (x : ℕ) →
    entries_by arena' (strand_of strands' x) ≡ cond (xid == x) (entries_by arena (strand_of strands xid) ++ entry ∷ []) (entries_by arena (strand_of strands x))
entries_pushed xid entry arena strands arena' strands' pool p x = ap (entries_by arena') (p.others x) ∙ by_test (xid == x) refl (strand_of strands x) refl
  where
    by_test : (b : Bool) → (xid == x) ≡ b → (found : Option (Option ℕ)) → strand_of strands x ≡ found →
        entries_by arena' (cond b (Some p.head') found) ≡ cond b (entries_by arena (strand_of strands xid) ++ entry ∷ []) (entries_by arena found)
    by_test true same found is = pushed_entries arena arena' p.head p.head' entry p.pushed ∙ ap (λ o. entries_by arena o ++ entry ∷ []) (sym p.was)
    by_test false other None is = refl
    by_test false other (Some r) is =
        (pushed_stays arena arena' p.head p.head' entry p.pushed r (pool.made x r is) (apart_at arena strands pool xid x p.head r p.was is other)).entries

pub pool_back : (xid : ℕ) (arena : Arena) (strands strands' : List (ℕ × Option ℕ)) (o : Option ℕ) → IsPool arena strands → strand_of strands xid ≡ Some o →
    ((x : ℕ) → strand_of strands' x ≡ map_with xid None (strand_of strands) x) → IsPool (arena_without arena o) strands'
pool_back xid arena strands strands' o pool was others = record {
  made = λ x r is. put_cases (λ s. s ≡ Some r → IsOf (arena_without arena o) r) xid x None (strand_of strands)
      (λ same s. let never : None ≡ Some r = s in cc)
      (λ other s. (back_stays arena o r (pool.made x r s) (apart_at arena strands pool xid x o r was s other)).made)
      (sym (others x) ∙ is);
  apart = λ x y q is_x is_y. pool.apart x y q (left x q is_x) (left y q is_y);
}
  where
    left : (z q : ℕ) → strand_of strands' z ≡ Some (Some q) → strand_of strands z ≡ Some (Some q)
    left z q is = put_cases (λ s. s ≡ Some (Some q) → strand_of strands z ≡ Some (Some q)) xid z None (strand_of strands)
        (λ same s. let never : None ≡ Some (Some q) = s in cc) (λ other s. s) (sym (others z) ∙ is)

pub entries_back : (xid : ℕ) (arena : Arena) (strands strands' : List (ℕ × Option ℕ)) (o : Option ℕ) → IsPool arena strands → strand_of strands xid ≡ Some o →
    ((x : ℕ) → strand_of strands' x ≡ map_with xid None (strand_of strands) x) → (x : ℕ) →
    entries_by (arena_without arena o) (strand_of strands' x) ≡ cond (xid == x) [] (entries_by arena (strand_of strands x))
entries_back xid arena strands strands' o pool was others x = ap (entries_by (arena_without arena o)) (others x) ∙ by_test (xid == x) refl (strand_of strands x) refl
  where
    by_test : (b : Bool) → (xid == x) ≡ b → (found : Option (Option ℕ)) → strand_of strands x ≡ found →
        entries_by (arena_without arena o) (cond b None found) ≡ cond b [] (entries_by arena found)
    by_test true same found is = refl
    by_test false other None is = refl
    by_test false other (Some r) is = (back_stays arena o r (pool.made x r is) (apart_at arena strands pool xid x o r was is other)).entries

-- a strand without entries more
pub pool_opened : (xid : ℕ) (arena : Arena) (strands strands' : List (ℕ × Option ℕ)) → IsPool arena strands → ((x : ℕ) → strand_of strands' x ≡ map_with xid (Some None) (strand_of strands) x) → IsPool arena strands'
pool_opened xid arena strands strands' pool others = record {
  made = λ x r is. put_cases (λ s. s ≡ Some r → IsOf arena r) xid x (Some None) (strand_of strands)
      (λ same s. subst (IsOf arena) (some_same None r s) tt) (λ other s. pool.made x r s) (sym (others x) ∙ is);
  apart = λ x y q is_x is_y. pool.apart x y q (left x q is_x) (left y q is_y);
}
  where
    left : (z q : ℕ) → strand_of strands' z ≡ Some (Some q) → strand_of strands z ≡ Some (Some q)
    left z q is = put_cases (λ s. s ≡ Some (Some q) → strand_of strands z ≡ Some (Some q)) xid z (Some None) (strand_of strands)
        (λ same s. let never : Some None ≡ Some (Some q) = s in cc) (λ other s. s) (sym (others z) ∙ is)

pub entries_opened : (xid : ℕ) (arena : Arena) (strands strands' : List (ℕ × Option ℕ)) → strand_of strands xid ≡ None → ((x : ℕ) → strand_of strands' x ≡ map_with xid (Some None) (strand_of strands) x) → (x : ℕ) →
    entries_by arena (strand_of strands' x) ≡ entries_by arena (strand_of strands x)
entries_opened xid arena strands strands' none others x =
    put_cases (λ s. strand_of strands' x ≡ s → entries_by arena (strand_of strands' x) ≡ entries_by arena (strand_of strands x)) xid x (Some None) (strand_of strands)
    (λ same s. ap (entries_by arena) s ∙ ap (entries_by arena) (sym none) ∙ ap (λ z. entries_by arena (strand_of strands z)) same)
    (λ other s. ap (entries_by arena) s) (others x)

pub pool_same : (xid : ℕ) (arena : Arena) (strands strands' : List (ℕ × Option ℕ)) → IsPool arena strands → IsSameAt xid strands strands' → IsPool arena strands'
pool_same xid arena strands strands' pool same = record {
  made = λ x r is. pool.made x r (left x (Some r) is);
  apart = λ x y q is_x is_y. pool.apart x y q (left x (Some (Some q)) is_x) (left y (Some (Some q)) is_y);
}
  where
    left : (z : ℕ) (s : Option (Option ℕ)) → strand_of strands' z ≡ s → strand_of strands z ≡ s
    left z s is = put_cases (λ t. t ≡ s → strand_of strands z ≡ s) xid z (Some same.head) (strand_of strands)
        (λ here t. ap (strand_of strands) (sym here) ∙ same.was ∙ t) (λ other t. t) (sym (same.all z) ∙ is)

pub none_of : {A : Type 0} (o : Option A) → is_some o ≡ false → o ≡ None
none_of None is = refl
none_of (Some a) is = let never : true ≡ false = is in cc

pub pushed_same : (b : Bool) (entry : List ℕ) (own own' other other' : List (List ℕ)) → own ≡ own' → other ≡ other' → cond b (own ++ entry ∷ []) other ≡ cond b (own' ++ entry ∷ []) other'
pushed_same b entry own own' other other' is is' = rw (is, is') refl

-- THE ENTRIES OF ALL XIDS

all_same : (entries entries' : List (List ℕ)) → entries' ≡ entries → AllByRecursion IsEntry entries → AllByRecursion IsEntry entries'
all_same entries entries' is all = subst (AllByRecursion IsEntry) (sym is) all

all_of : (b : Bool) (own other : List (List ℕ)) → AllByRecursion IsEntry own → AllByRecursion IsEntry other → AllByRecursion IsEntry (cond b own other)
all_of true own other all all' = all
all_of false own other all all' = all'

pub hold_pushed : (xid : ℕ) (entry : List ℕ) (arena : Arena) (strands : List (ℕ × Option ℕ)) (arena' : Arena) (strands' : List (ℕ × Option ℕ)) →
    IsPool arena strands → HoldEntries arena strands → IsEntry entry → PushesAt xid entry arena strands arena' strands' → HoldEntries arena' strands'
hold_pushed xid entry arena strands arena' strands' pool hold e p = λ x.
    all_same _ _ (entries_pushed xid entry arena strands arena' strands' pool p x)
    (all_of (xid == x) _ _ (all_append _ (entries_by arena (strand_of strands xid)) (entry ∷ []) (hold xid) (e, tt)) (hold x))

pub hold_back : (xid : ℕ) (arena : Arena) (strands strands' : List (ℕ × Option ℕ)) (o : Option ℕ) → IsPool arena strands → HoldEntries arena strands → strand_of strands xid ≡ Some o →
    ((x : ℕ) → strand_of strands' x ≡ map_with xid None (strand_of strands) x) → HoldEntries (arena_without arena o) strands'
hold_back xid arena strands strands' o pool hold was others = λ x.
    all_same _ _ (entries_back xid arena strands strands' o pool was others x) (all_of (xid == x) [] _ tt (hold x))

pub hold_opened : (xid : ℕ) (arena : Arena) (strands strands' : List (ℕ × Option ℕ)) → HoldEntries arena strands → strand_of strands xid ≡ None →
    ((x : ℕ) → strand_of strands' x ≡ map_with xid (Some None) (strand_of strands) x) → HoldEntries arena strands'
hold_opened xid arena strands strands' hold none others = λ x. all_same _ _ (entries_opened xid arena strands strands' none others x) (hold x)

pub hold_same : (xid : ℕ) (arena : Arena) (strands strands' : List (ℕ × Option ℕ)) → HoldEntries arena strands → IsSameAt xid strands strands' → HoldEntries arena strands'
hold_same xid arena strands strands' hold same = λ x.
    all_same _ _ (ap (entries_by arena) (same.all x ∙ put_cases (λ t. t ≡ strand_of strands x) xid x (Some same.head) (strand_of strands) (λ here. sym same.was ∙ ap (strand_of strands) here) (λ other. refl))) (hold x)
