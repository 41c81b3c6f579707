-- Worked names, by which the definitions were checked.
use Rattle.std.proofs.Common.{◌≡◌, ℕ, true, false, List, [], ◌∷◌, refl}
use Rattle.std.specs.Prelude.{codes}
use Rattle.publication_config.specs.declared.publication.Publication.{Publication}
use Rattle.publication_config.specs.Published.{PublicationSet, all_operations}
use Rattle.publication.specs.Choosing.{is_unknown, selected_publications}

abbrev publication_of : List ℕ → Publication
publication_of name = record { name = name; operations = all_operations; tables = [] }

abbrev p_and_t : PublicationSet
p_and_t = record { tables = []; publications = publication_of (codes "p") ∷ publication_of (codes "t") ∷ []; messages = false }

no_such_name : is_unknown (selected_publications p_and_t (codes "p" ∷ codes "t" ∷ [])) (codes "p" ∷ codes "f" ∷ []) ≡ true
no_such_name = refl

named_twice : selected_publications p_and_t (codes "t" ∷ codes "t" ∷ []) ≡ record p_and_t { publications = publication_of (codes "t") ∷ [] }
named_twice = refl
