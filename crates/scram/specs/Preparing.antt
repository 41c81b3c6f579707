-- Passwords as PostgreSQL 15 prepares them before SCRAM (`pg_saslprep`): by SASLprep (RFC 4013), where they can be.
use Rattle.std.specs.Prelude.{ℕ, Bool, not, ◌||◌, ◌==◌, List, map, filter, length, Option, Some, None, unwrap_or, if◌then◌else◌, chars, encode_utf8_all}
use Rattle.std.specs.Char.{is_ascii}
use Rattle.std.specs.List.{list_all}
use Rattle.std.specs.Str.{is_utf8}
use Rattle.unicode_normalization.specs.Forms.{nfkc}
use Rattle.scram.specs.CodeSets.{has_any, is_in}
use Rattle.scram.specs.Refusing.{is_mixed}
use Rattle.scram.specs.declared.saslprep.tables.TheConstants.{NOTHING, PROHIBITED, RIGHT_TO_LEFT, SPACES}
use Rattle.scram.specs.declared.saslprep.unassigned.TheConstants.{UNASSIGNED}
use Rattle.scram.specs.declared.saslprep.left_to_right.TheConstants.{LEFT_TO_RIGHT}

-- each space as that of ASCII, and without what counts as nothing (2.1)
unfoldable pub mapped : List ℕ → List ℕ
mapped codes = map (λ code. if is_in SPACES code then 32 else code) (filter (λ code. is_in SPACES code || not (is_in NOTHING code)) codes)

unfoldable pub is_refused : List ℕ → Bool
is_refused codes = length codes == 0 || has_any PROHIBITED codes || has_any UNASSIGNED codes || is_mixed RIGHT_TO_LEFT LEFT_TO_RIGHT codes

-- None: it can't be prepared
unfoldable pub prepared_text : List ℕ → Option (List ℕ)
prepared_text codes = if is_refused (mapped codes) then None else Some (encode_utf8_all (nfkc (mapped codes)))

unfoldable pub prepared : List ℕ → List ℕ
prepared password =
    if list_all is_ascii password || not (is_utf8 password) then password
    else unwrap_or (prepared_text (chars password)) password
