-- Tables of which each has an OID and a name of its own, and one more that has too.
use Rattle.std.proofs.Common.{◌≡◌, ℕ, Bool, true, false, cond, List, [], ◌∷◌, ◌++◌, Some, None, refl, sym, ap, ◌∙◌, eq-eqb}
use Rattle.std.specs.Prelude.{◌||◌, ◌&&◌, ◌==◌}
use Rattle.std.specs.List.{list_any}
use Rattle.std.specs.Str.{bytes_eq}
use Rattle.std.proofs.lemmas.Bool.{eqb-true}
use Rattle.std.proofs.lemmas.List.Folds.{list_any-append}
use Rattle.std.proofs.lemmas.Slice.Eq.{bytes_eq-Decides}
use Rattle.tables.specs.declared.table.Table.{Table}
use Rattle.catalog.specs.declared.config_fault.CatalogMember.TheVariants as members
use Rattle.catalog.specs.Config.{clash}
use Rattle.tables.specs.Tables.{AreCatalogued, IsTable, has_namesakes, is_namesake, oids_of, repeats}
use Rattle.catalog.proofs.Behind.{all_with}

record BothFalse (a b : Bool) : Type 0 where
  one : a ≡ false
  other : b ≡ false

either_false : (a b : Bool) → (a || b) ≡ false → BothFalse a b
either_false false b e = record { one = refl; other = e }
either_false true b e = absurd cc

neither : (a b : Bool) → a ≡ false → b ≡ false → (a || b) ≡ false
neither a b one other = ap (λ (c : Bool). c || b) one ∙ other

-- A test that fails, of which another is the turned one.
fails_too : (a b : Bool) → (b ≡ true → a ≡ true) → a ≡ false → b ≡ false
fails_too a true there none = absurd (let yes = there refl in cc)
fails_too a false there none = refl

none_with : {X : Type 0} (p : X → Bool) (xs : List X) (x : X) → list_any p xs ≡ false → p x ≡ false → list_any p (xs ++ x ∷ []) ≡ false
none_with p xs x none other = list_any-append p xs (x ∷ []) ∙ neither (list_any p xs) (list_any p (x ∷ [])) none (neither (p x) false other refl)

-- ---- OIDs

same_oid : (m n : ℕ) → (m == n) ≡ true → (n == m) ≡ true
same_oid m n e = eq-eqb n m (sym (eqb-true m n e))

no_oid_twice : (tables : List Table) (t : Table) → repeats (oids_of tables) ≡ false → list_any (λ u. u.oid == t.oid) tables ≡ false → repeats (oids_of (tables ++ t ∷ [])) ≡ false
no_oid_twice [] t once none = refl
no_oid_twice (s ∷ tables) t once none =
    let had = either_false (list_any (λ m. m == s.oid) (oids_of tables)) (repeats (oids_of tables)) once in
    let new = either_false (s.oid == t.oid) (list_any (λ u. u.oid == t.oid) tables) none in
    let apart = fails_too (s.oid == t.oid) (t.oid == s.oid) (same_oid t.oid s.oid) new.one in
    neither (list_any (λ m. m == s.oid) (oids_of (tables ++ t ∷ []))) (repeats (oids_of (tables ++ t ∷ [])))
    (no_such tables apart had.one)
    (no_oid_twice tables t had.other new.other)
  where
    no_such : (tables : List Table) → (t.oid == s.oid) ≡ false → list_any (λ m. m == s.oid) (oids_of tables) ≡ false → list_any (λ m. m == s.oid) (oids_of (tables ++ t ∷ [])) ≡ false
    no_such [] apart none = neither (t.oid == s.oid) false apart refl
    no_such (u ∷ tables) apart none =
        let both = either_false (u.oid == s.oid) (list_any (λ m. m == s.oid) (oids_of tables)) none in
        neither (u.oid == s.oid) (list_any (λ m. m == s.oid) (oids_of (tables ++ t ∷ []))) both.one (no_such tables apart both.other)

-- ---- names

same_text : (a b : List ℕ) → bytes_eq a b ≡ true → bytes_eq b a ≡ true
same_text a b e = (bytes_eq-Decides b a).1 (sym ((bytes_eq-Decides a b).0 e))

both_true : (a b : Bool) → (a && b) ≡ true → (a ≡ true) × (b ≡ true)
both_true true b e = (refl, e)
both_true false b e = absurd cc

same_name : (u t : Table) → is_namesake u t ≡ true → is_namesake t u ≡ true
same_name u t e =
    let both = both_true (bytes_eq u.schema t.schema) (bytes_eq u.name t.name) e in
    ap (λ (c : Bool). c && bytes_eq t.name u.name) (same_text u.schema t.schema both.0) ∙ same_text u.name t.name both.1

no_name_twice : (tables : List Table) (t : Table) → has_namesakes tables ≡ false → list_any (λ u. is_namesake u t) tables ≡ false → has_namesakes (tables ++ t ∷ []) ≡ false
no_name_twice [] t once none = refl
no_name_twice (s ∷ tables) t once none =
    let had = either_false (list_any (λ u. is_namesake u s) tables) (has_namesakes tables) once in
    let new = either_false (is_namesake s t) (list_any (λ u. is_namesake u t) tables) none in
    let apart = fails_too (is_namesake s t) (is_namesake t s) (same_name t s) new.one in
    neither (list_any (λ u. is_namesake u s) (tables ++ t ∷ [])) (has_namesakes (tables ++ t ∷ []))
    (none_with (λ u. is_namesake u s) tables t had.one apart)
    (no_name_twice tables t had.other new.other)

-- ---- one more table

no_clash : (a b : Bool) → cond a (Some members.Oid) (cond b (Some members.Name) None) ≡ None → BothFalse a b
no_clash true b e = absurd cc
no_clash false true e = absurd cc
no_clash false false e = record { one = refl; other = refl }

unnamed : (tables : List Table) (t : Table) → clash tables t ≡ None → BothFalse (list_any (λ u. u.oid == t.oid) tables) (list_any (λ u. is_namesake u t) tables)
unnamed tables t e = no_clash (list_any (λ u. u.oid == t.oid) tables) (list_any (λ u. is_namesake u t) tables) e

pub one_more : (tables : List Table) (t : Table) → AreCatalogued tables → IsTable t → clash tables t ≡ None → AreCatalogued (tables ++ t ∷ [])
one_more tables t are is e =
    let new = unnamed tables t e in
    record {
      each = all_with IsTable tables t are.each is;
      oids = no_oid_twice tables t are.oids new.one;
      names = no_name_twice tables t are.names new.other;
    }
