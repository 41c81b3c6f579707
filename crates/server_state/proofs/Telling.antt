-- What subscribers are told fits its rows.
use Rattle.std.proofs.Common.{◌≡◌, ℕ, ◌<◌, ◌^◌, Bool, true, false, cond, List, [], ◌∷◌, ◌++◌, length, refl, arith}
use Rattle.std.specs.Prelude.{◌&&◌, nat_le, filter}
use Rattle.std.specs.List.{AllByRecursion, list_any}
use Rattle.std.specs.Str.{bytes_eq}
use Rattle.std.proofs.lemmas.Bool.Decides.{nat_tests}
use Rattle.publication.specs.Publications.{PublicationSet}
use Rattle.server.specs.Answers.{IsShort}
use Rattle.server_state.specs.Published.{is_publication}

short_name : (n : ℕ) (rest : Bool) → (nat_le n 63 && rest) ≡ true → n < 2 ^ 16
short_name n rest is = grind (arith, nat_tests)

-- names that are publications are short
pub short_names : (s : PublicationSet) (names : List (List ℕ)) → AllByRecursion IsShort (filter (is_publication s) names)
short_names s [] = tt
short_names s (n ∷ names) = by_test (is_publication s n) (λ is. short_name (length n) (list_any (λ p. bytes_eq p.name n) s.publications) is) (short_names s names)
  where
    by_test : (t : Bool) → (t ≡ true → IsShort n) → AllByRecursion IsShort (filter (is_publication s) names)
        → AllByRecursion IsShort (cond t (n ∷ filter (is_publication s) names) (filter (is_publication s) names))
    by_test true short others = (short refl, others)
    by_test false short others = others

-- one more of them
pub all_more : {X : Type 0} (P : X → Type 0) (xs : List X) (x : X) → AllByRecursion P xs → P x → AllByRecursion P (xs ++ x ∷ [])
all_more P [] x all one = (one, tt)
all_more P (y ∷ xs) x all one = (all.0, all_more P xs x all.1 one)
