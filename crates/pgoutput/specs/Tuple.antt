-- TupleData (PostgreSQL 15, 55.9): the count of the cells, and each cell: n for null, u for an unchanged value that
-- isn't sent, or t, a length and that many bytes of text.
use Rattle.std.specs.Prelude.{◌≡◌, ℕ, ◌<◌, ◌^◌, ◌==◌, true, List, [], ◌∷◌, ◌++◌, length, Result, Ok, Err, if◌then◌else◌}
use Rattle.std.specs.List.{flat_map, AllByRecursion}
use Rattle.std.specs.Str.{is_utf8}
use Rattle.pqformat.specs.Fields.{int16, int32, byte_at}
use Rattle.pqformat.specs.Steps.{◌>>=◌, repeat_at}
use Rattle.pgoutput.specs.Reading.{short, count16_at, text_at}
use Rattle.pgoutput.specs.declared.fault.PgoutputError.{PgoutputError}
use Rattle.pgoutput.specs.declared.fault.PgoutputError.TheVariants.{BadMark}
use Rattle.pgoutput.specs.declared.parts.tuple.Cell.{Cell}
use Rattle.pgoutput.specs.declared.parts.tuple.Cell.TheVariants as cells
use Rattle.pgoutput.specs.declared.parts.tuple.TheConstants.{NULL, UNCHANGED, TEXT}

abbrev pub counted_text : List ℕ → List ℕ
counted_text text = int32 (length text) ++ text

abbrev pub cell : Cell → List ℕ
cell cells.Null = NULL ∷ []
cell cells.Unchanged = UNCHANGED ∷ []
cell (cells.Text text) = TEXT ∷ counted_text text

abbrev pub tuple : List Cell → List ℕ
tuple cells = int16 (length cells) ++ flat_map cell cells

abbrev pub FitsText : List ℕ → Type 0
FitsText text = (length text < 2 ^ 31) × (is_utf8 text ≡ true)

abbrev pub FitsCell : Cell → Type 0
FitsCell (cells.Text text) = FitsText text
FitsCell _ = Unit {0}

abbrev pub FitsTuple : List Cell → Type 0
FitsTuple cells = (length cells < 2 ^ 15) × AllByRecursion FitsCell cells

-- the cells of a row that nobody has yet, of which every value is sent
abbrev pub FitsSentCell : Cell → Type 0
FitsSentCell cells.Unchanged = ⊥
FitsSentCell cell = FitsCell cell

abbrev pub FitsSentTuple : List Cell → Type 0
FitsSentTuple cells = (length cells < 2 ^ 15) × AllByRecursion FitsSentCell cells

-- what a writer asks: the count and the lengths fit their fields
abbrev pub IsShortCell : Cell → Type 0
IsShortCell (cells.Text text) = length text < 2 ^ 31
IsShortCell _ = Unit {0}

abbrev pub IsShortTuple : List Cell → Type 0
IsShortTuple cells = (length cells < 2 ^ 15) × AllByRecursion IsShortCell cells

unfoldable pub cell_at : List ℕ → Result (Cell × List ℕ) PgoutputError
cell_at bytes = short (byte_at bytes) >>= λ b.
    if b.0 == NULL then Ok (cells.Null, b.1)
    else if b.0 == UNCHANGED then Ok (cells.Unchanged, b.1)
    else if b.0 == TEXT then (text_at b.1 >>= λ t. Ok (cells.Text t.0, t.1))
    else Err BadMark

unfoldable pub tuple_at : List ℕ → Result (List Cell × List ℕ) PgoutputError
tuple_at bytes = count16_at bytes >>= λ n. repeat_at cell_at n.0 n.1

unfoldable pub sent_cell_at : List ℕ → Result (Cell × List ℕ) PgoutputError
sent_cell_at bytes = short (byte_at bytes) >>= λ b.
    if b.0 == NULL then Ok (cells.Null, b.1)
    else if b.0 == TEXT then (text_at b.1 >>= λ t. Ok (cells.Text t.0, t.1))
    else Err BadMark

unfoldable pub sent_tuple_at : List ℕ → Result (List Cell × List ℕ) PgoutputError
sent_tuple_at bytes = count16_at bytes >>= λ n. repeat_at sent_cell_at n.0 n.1
