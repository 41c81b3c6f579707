-- Tables of a selection, each once, are no more than the selection has.
use Rattle.std.proofs.Common.{◌≡◌, ◌≤◌, ◌<◌, ◌+◌, ℕ, Bool, true, false, cond, eqb, List, [], ◌∷◌, length, Option, Some, None, refl, sym, ap, ◌∙◌, arith}
use Rattle.std.specs.Prelude.{◌==◌, ◌||◌, IsSome, filter, find, map, option_map}
use Rattle.std.specs.List.{AllByRecursion, list_any}
use Rattle.std.proofs.lemmas.Bool.{eq-eqb, eqb-true}
use Rattle.tables.specs.declared.table.Table.{Table}
use Rattle.tables.specs.Tables.{table_of}
use Rattle.publication.specs.Publications.{PublicationSet}
use Rattle.row_messages.specs.Relations.{table_as_published}
use Rattle.publication.specs.Selection.{has_table, list_by, selected_oids, selected_table}
use Rattle.walsender.proofs.Heads.{either}
use Rattle.walsender.specs.Waiting.{AreEach, AreSelected}

abbrev pub is_in : List ℕ → ℕ → Bool
is_in xs n = list_any (λ m. m == n) xs

-- without the first that is this one
abbrev pub without : ℕ → List ℕ → List ℕ
without n [] = []
without n (x ∷ xs) = cond (x == n) xs (x ∷ without n xs)

one_less : (n : ℕ) (xs : List ℕ) → is_in xs n ≡ true → length xs ≡ length (without n xs) + 1
one_less n [] e = absurd cc
one_less n (x ∷ xs) e = by_test (x == n) e (one_less n xs)
  where
    by_test : (b : Bool) → (b || is_in xs n) ≡ true → (is_in xs n ≡ true → length xs ≡ length (without n xs) + 1) → length (x ∷ xs) ≡ length (cond b xs (x ∷ without n xs)) + 1
    by_test true e rest = omega arith
    by_test false e rest = omega (arith, rest e)

-- what is another one is there still
there_still : (n m : ℕ) (xs : List ℕ) → (m == n) ≡ false → is_in xs m ≡ true → is_in (without n xs) m ≡ true
there_still n m [] other e = absurd cc
there_still n m (x ∷ xs) other e = by_test (x == n) (x == m) refl refl e (there_still n m xs other)
  where
    not_both : (x == n) ≡ true → (x == m) ≡ true → ⊥
    not_both a b =
        let same : eqb m n ≡ true = eq-eqb m n (sym (eqb-true x m b) ∙ eqb-true x n a) in
        cc

    by_test : (b c : Bool) → (x == n) ≡ b → (x == m) ≡ c → (c || is_in xs m) ≡ true → (is_in xs m ≡ true → is_in (without n xs) m ≡ true) → is_in (cond b xs (x ∷ without n xs)) m ≡ true
    by_test true true is_n is_m e rest = absurd (not_both is_n is_m)
    by_test true false is_n is_m e rest = e
    by_test false true is_n is_m e rest = ap (λ (d : Bool). d || is_in (without n xs) m) is_m
    by_test false false is_n is_m e rest = either (x == m) (is_in (without n xs) m) (rest e)

all_still : (n : ℕ) (xs ys : List ℕ) → is_in xs n ≡ false → AllByRecursion (λ m. is_in ys m ≡ true) xs → AllByRecursion (λ m. is_in (without n ys) m ≡ true) xs
all_still n [] ys e all = tt
all_still n (x ∷ xs) ys e all = let both = either_apart (x == n) (is_in xs n) e in (there_still n x ys both.0 all.0, all_still n xs ys both.1 all.1)
  where
    either_apart : (a b : Bool) → (a || b) ≡ false → (a ≡ false) × (b ≡ false)
    either_apart false b e = (refl, e)
    either_apart true b e = absurd cc

-- each once, and all of them among those
pub no_more : (xs ys : List ℕ) → AreEach xs → AllByRecursion (λ m. is_in ys m ≡ true) xs → length xs ≤ length ys
no_more [] ys each all = omega arith
no_more (x ∷ xs) ys each all =
    let rest = no_more xs (without x ys) each.1 (all_still x xs ys each.0 all.1) in
    omega (arith, rest, one_less x ys all.0)

-- ---- the tables of a selection

stands_among : (p : ℕ → Bool) (oid : ℕ) (tables : List Table) → p oid ≡ true → IsSome (find (λ t. t.oid == oid) tables) → is_in (filter p (map (λ t. t.oid) tables)) oid ≡ true
stands_among p oid [] passes some = absurd cc
stands_among p oid (t ∷ tables) passes some = by_test (t.oid == oid) refl some (stands_among p oid tables passes)
  where
    rest : List ℕ
    rest = filter p (map (λ t. t.oid) tables)

    first : (t.oid == oid) ≡ true → is_in (cond (p t.oid) (t.oid ∷ rest) rest) oid ≡ true
    first is =
        let passes_it : p t.oid ≡ true = ap p (eqb-true t.oid oid is) ∙ passes in
        ap (λ (b : Bool). is_in (cond b (t.oid ∷ rest) rest) oid) passes_it ∙ ap (λ (b : Bool). b || is_in rest oid) is

    later : (b : Bool) → is_in rest oid ≡ true → is_in (cond b (t.oid ∷ rest) rest) oid ≡ true
    later true e = either (t.oid == oid) (is_in rest oid) e
    later false e = e

    by_test : (b : Bool) → (t.oid == oid) ≡ b → IsSome (cond b (Some t) (find (λ t. t.oid == oid) tables)) → (IsSome (find (λ t. t.oid == oid) tables) → is_in rest oid ≡ true) → is_in (cond (p t.oid) (t.oid ∷ rest) rest) oid ≡ true
    by_test true is some go = first is
    by_test false is some go = later (p t.oid) (go some)

is_selected : (selection : PublicationSet) (oid : ℕ) → IsSome (selected_table selection oid) → is_in (selected_oids selection) oid ≡ true
is_selected selection oid some = by_test (has_table selection oid) refl some
  where
    narrow : Table → Table
    narrow t = table_as_published (list_by selection.publications oid) t

    some_before : (o : Option Table) → IsSome (option_map narrow o) → IsSome o
    some_before None e = e
    some_before (Some t) e = refl

    by_test : (b : Bool) → has_table selection oid ≡ b → IsSome (option_map narrow (cond b (table_of oid selection.tables) None)) → is_in (selected_oids selection) oid ≡ true
    by_test true is e = stands_among (has_table selection) oid selection.tables is (some_before (table_of oid selection.tables) e)
    by_test false is e = absurd cc

all_selected : (selection : PublicationSet) (oids : List ℕ) → AllByRecursion (λ oid. IsSome (selected_table selection oid)) oids → AllByRecursion (λ oid. is_in (selected_oids selection) oid ≡ true) oids
all_selected selection [] all = tt
all_selected selection (oid ∷ oids) all = (is_selected selection oid all.0, all_selected selection oids all.1)

-- one more that was not sent yet is one of the selection's, so fewer were sent than those are
pub one_more_fits : (selection : PublicationSet) (sent : List ℕ) (oid : ℕ) → AreSelected selection (oid ∷ sent) → length sent < length (selected_oids selection)
one_more_fits selection sent oid are = omega (arith, no_more (oid ∷ sent) (selected_oids selection) are.0 (all_selected selection (oid ∷ sent) are.1))
