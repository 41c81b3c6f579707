-- Which of a publisher's publications names select (PostgreSQL 15, 31.1 to 31.4).
use Rattle.std.specs.Prelude.{ℕ, Bool, not, List, filter, if◌then◌else◌, Result, Ok, Err}
use Rattle.std.specs.List.{list_any}
use Rattle.std.specs.Str.{bytes_eq}
use Rattle.publication_config.specs.declared.fault.PubFault.{PubFault}
use Rattle.publication_config.specs.declared.fault.PubFault.TheVariants.{Unknown, ListConflict, Memory}
-- for whoever tells of publications
pub use Rattle.publication_config.specs.Published.{PublicationSet, conflicts}

-- whether one of the names is no publication's
abbrev pub is_unknown : PublicationSet → List (List ℕ) → Bool
is_unknown s names = list_any (λ n. not (list_any (λ p. bytes_eq p.name n) s.publications)) names

-- the publications of these names, each once however often it is named
abbrev pub selected_publications : PublicationSet → List (List ℕ) → PublicationSet
selected_publications s names = record s { publications = filter (λ p. list_any (λ n. bytes_eq p.name n) names) s.publications }

-- why names select nothing: P1 where one is no publication's, else P2 where those that are named differ
abbrev pub judgement_of_names : PublicationSet → List (List ℕ) → Result (Unit {0}) PubFault
judgement_of_names s names = if is_unknown s names then Err Unknown else if conflicts (selected_publications s names).publications then Err ListConflict else Ok tt

-- the faults of select
abbrev pub IsOfSelect : PubFault → Type 0
IsOfSelect Unknown = Unit {0}
IsOfSelect ListConflict = Unit {0}
IsOfSelect Memory = Unit {0}
IsOfSelect fault = ⊥
