-- What the judgement of names says of them.
use Rattle.std.proofs.Common.{◌≡◌, ℕ, List, Bool, true, false, cond, Result, Ok, Err, refl}
use Rattle.publication_config.specs.declared.fault.PubFault.{PubFault}
use Rattle.publication_config.specs.declared.fault.PubFault.TheVariants.{Unknown, ListConflict}
use Rattle.publication.specs.Choosing.{PublicationSet, conflicts, is_unknown, judgement_of_names, selected_publications}

pub selects : (s : PublicationSet) (names : List (List ℕ)) → Ok tt ≡ judgement_of_names s names → (is_unknown s names ≡ false) × (conflicts (selected_publications s names).publications ≡ false)
selects s names judged = by_tests (is_unknown s names) (conflicts (selected_publications s names).publications) judged
  where
    judgement : Bool → Bool → Result (Unit {0}) PubFault
    judgement unknown differ = cond unknown (Err Unknown) (cond differ (Err ListConflict) (Ok tt))

    by_tests : (unknown differ : Bool) → Ok tt ≡ judgement unknown differ → (unknown ≡ false) × (differ ≡ false)
    by_tests true differ judged = absurd cc
    by_tests false true judged = absurd cc
    by_tests false false judged = (refl, refl)
