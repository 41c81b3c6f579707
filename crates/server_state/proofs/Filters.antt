-- What follows a row filter and an OR, in the text that a subscriber sends back.
use Rattle.std.proofs.Common.{◌≡◌, ℕ, ◌<◌, List, ◌++◌, length, refl, ap, subst, arith}
use Rattle.std.specs.Prelude.{codes}
use Rattle.std.specs.Str.{IsUtf8}
use Rattle.std.proofs.lemmas.List.{length-append}
use Rattle.pqformat.specs.Quoting.{in_quotes}
use Rattle.pqformat.proofs.Quoting.{found}
use Rattle.server.specs.Reading.{quoted_front}
use Rattle.server.proofs.Lists.{after_text}
use Rattle.server.proofs.Quotes.{quoted_leaves_text, quoted_spells}
use Rattle.server_state.specs.declared.publications.row_filters.TheConstants.{NAME_QUOTE}

-- it is shorter
pub or_shrinks : (place name rest more : List ℕ) → quoted_front NAME_QUOTE place ≡ found name rest → rest ≡ codes " OR " ++ more → length more < length place
or_shrinks place name rest more read or =
    omega (arith, ap length (quoted_spells NAME_QUOTE place name rest read), length-append (in_quotes NAME_QUOTE name) rest, ap length or)

-- and is a text
pub or_leaves_text : (place name rest more : List ℕ) → IsUtf8 place → quoted_front NAME_QUOTE place ≡ found name rest → rest ≡ codes " OR " ++ more → IsUtf8 more
or_leaves_text place name rest more valid read or =
    after_text (codes " OR ") more refl (subst IsUtf8 or (quoted_leaves_text NAME_QUOTE place name rest (omega arith) valid read))
