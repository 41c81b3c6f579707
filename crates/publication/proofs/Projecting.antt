-- Which changes the log can hold, and what is read of their messages.
use Rattle.std.proofs.Common.{◌≡◌, ℕ, suc, ◌<◌, ◌≤◌, ◌^◌, true, leb, List, [], ◌∷◌, length, get_or, take, Option, Some, None, refl, sym, ap, arith}
use Rattle.std.specs.Prelude.{MatchOption, OnSome, is_some}
use Rattle.std.specs.List.{AllByRecursion}
use Rattle.std.specs.Str.{is_utf8}
use Rattle.std.proofs.lemmas.Bool.{leb-true}
use Rattle.pgoutput.specs.declared.logical.Logical.{Logical}
use Rattle.pgoutput.specs.Logical.{FitsLogical, SpellsLogical}
use Rattle.tables.specs.Kinds.{IsValue}
use Rattle.tables.specs.Reading.{IsCodedMessage, IsCodedOids}
use Rattle.tables.specs.Spelling.{row_length}
use Rattle.tables.specs.declared.changes.change_body.TheConstants.{MAX_TRUNCATED}
use Rattle.tables.specs.declared.kinds.Value.{Value}
use Rattle.tables.specs.declared.changes.message.Message.{Message}
use Rattle.tables.specs.declared.rows.row.TheConstants.{MAX_ROW_LENGTH}
use Rattle.tables.proofs.Lengths.{coded_row}
use Rattle.row_messages.specs.Spelling.{IsPut}
use Rattle.publication.specs.Logged.{fits_log}
use Rattle.publication.specs.Read.{IsShortRow}
use Rattle.publication.proofs.LoggedMessages.{short}

pub short_row : (row : List Value) (o : Option ℕ) → MatchOption o (MAX_ROW_LENGTH < row_length row) (λ n. (n ≡ row_length row) × (n ≤ MAX_ROW_LENGTH)) → OnSome o (AllByRecursion IsValue row)
    → is_some o ≡ true → IsShortRow row
short_row row None len values is = absurd cc
short_row row (Some n) len values is = let short : row_length row ≤ MAX_ROW_LENGTH = omega (arith, len.0, len.1) in (coded_row row values short, short)

numbers : (oids : List ℕ) → ((i : ℕ) → get_or oids i 0 < 2 ^ 32) → AllByRecursion (λ oid. oid < 2 ^ 32) oids
numbers [] small = tt
numbers (oid ∷ oids) small = (small 0, numbers oids (λ i. small (suc i)))

pub few_coded : (oids : List ℕ) → ((i : ℕ) → get_or oids i 0 < 2 ^ 32) → leb (length oids) MAX_TRUNCATED ≡ true → IsCodedOids oids
few_coded oids small few = (omega (arith, leb-true (length oids) MAX_TRUNCATED few), numbers oids small)

pub coded_message : (m : Message) → fits_log m ≡ true → is_utf8 m.prefix ≡ true → IsCodedMessage m
coded_message m fits text = let s = short m fits in ((omega (arith, s.prefix), text), omega (arith, s.content))

-- what is read of the bytes that were put is the message
pub read_put : (len : ℕ) (out : List ℕ) (o : Option Logical) (read : Logical) → IsPut (Some len) out o → ((m : Logical) → o ≡ Some m → FitsLogical m)
    → ((m : Logical) → SpellsLogical (take len out) m → read ≡ m) → o ≡ Some read
read_put len out None read put fits reads = absurd put
read_put len out (Some m) read put fits reads = ap Some (sym (reads m (record { in_range = fits m refl; text = put.1 })))
