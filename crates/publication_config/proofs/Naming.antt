-- What is asked of the publications of some names is asked of all, after the question whether they have one of the names.
use Rattle.std.proofs.Common.{◌≡◌, ℕ, Bool, true, false, cond, List, [], ◌∷◌, refl, ap}
use Rattle.std.specs.Prelude.{◌&&◌, ◌||◌}
use Rattle.std.specs.List.{list_any}
use Rattle.publication_config.specs.declared.publication.Publication.{Publication}
use Rattle.publication_config.specs.Published.{is_among, publications_named}

pub any_named : (test : Publication → Bool) (names : List (List ℕ)) (publications : List Publication) → list_any test (publications_named names publications) ≡ list_any (λ p. is_among names p && test p) publications
any_named test names [] = refl
any_named test names (p ∷ publications) = by_name (is_among names p) (any_named test names publications)
  where
    by_name : (b : Bool) → list_any test (publications_named names publications) ≡ list_any (λ q. is_among names q && test q) publications
        → list_any test (cond b (p ∷ publications_named names publications) (publications_named names publications)) ≡ ((b && test p) || list_any (λ q. is_among names q && test q) publications)
    by_name true later = ap (λ (b : Bool). test p || b) later
    by_name false later = later
