-- Whose log a file is: an entry that tells it as a text, before all others.
use Rattle.std.specs.Prelude.{ℕ, ◌==◌, List, ◌∷◌, Result, Ok, Err, if◌then◌else◌}
use Rattle.pqformat.specs.Fields.{byte_at}
use Rattle.pqformat.specs.Steps.{◌>>=◌}
use Rattle.segments.specs.Entries.{there}
use Rattle.segments.specs.SlotEvents.{text_of}
use Rattle.segments.specs.declared.identity.TheConstants.{IDENTITY_TAG}

abbrev pub spell_identity : List ℕ → List ℕ
spell_identity text = IDENTITY_TAG ∷ text

abbrev pub identity_in : List ℕ → Result (List ℕ) (Unit {0})
identity_in bytes = there (byte_at bytes) >>= λ tag. if tag.0 == IDENTITY_TAG then text_of tag.1 else Err tt
