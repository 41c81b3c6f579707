-- Reading a question: a text in quotes from the front, a literal, and the questions without names.
use Rattle.std.specs.Prelude.{◌≡◌, ℕ, ◌==◌, List, [], ◌∷◌, ◌++◌, Option, Some, None, option_map, false, if◌then◌else◌}
use Rattle.pqformat.specs.Quoting.{begins, quoted_at}
use Rattle.server.specs.declared.asked.quoted.TheConstants.{BACKSLASH, LITERAL_QUOTE}
use Rattle.server.specs.declared.asked.question.Question.{Question}
use Rattle.server.specs.declared.asked.question.Question.TheVariants.{Publications, Tables, Columns, Table, ColumnLists, Attributes, RowFilters, Show, DropWhenFree}

-- what is meant by it, and what follows it
abbrev pub quoted_front : ℕ → List ℕ → Option (List ℕ × List ℕ)
quoted_front quote [] = None
quoted_front quote (b ∷ bytes) = if b == quote then quoted_at false quote bytes else None

-- a text that nothing follows
abbrev pub alone : Option (List ℕ × List ℕ) → Option (List ℕ)
alone None = None
alone (Some (text, [])) = Some text
alone (Some (text, b ∷ bytes)) = None

-- what is meant by a text in which each backslash stands twice: it is read as one in quotes that are backslashes
abbrev pub undoubled : List ℕ → Option (List ℕ)
undoubled text = alone (quoted_at false BACKSLASH (text ++ BACKSLASH ∷ []))

abbrev pub undoubled_front : Option (List ℕ × List ℕ) → Option (List ℕ × List ℕ)
undoubled_front None = None
undoubled_front (Some x) = option_map (λ text. (text, x.1)) (undoubled x.0)

-- what is meant by a literal, and what follows it
abbrev pub literal_front : List ℕ → Option (List ℕ × List ℕ)
literal_front [] = None
literal_front (b ∷ bytes) = if b == 69 then undoubled_front (quoted_front LITERAL_QUOTE bytes) else quoted_front LITERAL_QUOTE (b ∷ bytes)

-- No quote and no comma stands at the front of what closes a list.
abbrev pub ClosesList : List ℕ → Type 0
ClosesList end = (begins (λ b. b == LITERAL_QUOTE) end ≡ false) × (begins (λ b. b == 44) end ≡ false)

abbrev pub IsPlain : Question → Type 0
IsPlain (Publications names) = ⊥
IsPlain (Tables names) = ⊥
IsPlain (Columns names) = ⊥
IsPlain (Table table) = ⊥
IsPlain (ColumnLists oid names) = ⊥
IsPlain (Attributes oid) = ⊥
IsPlain (RowFilters oid names) = ⊥
IsPlain (Show name) = ⊥
IsPlain (DropWhenFree slot) = ⊥
IsPlain _ = Unit {0}

-- of publications, or of their tables
abbrev pub AsksPublished : Question → Type 0
AsksPublished (Publications names) = Unit {0}
AsksPublished (Tables names) = Unit {0}
AsksPublished (Columns names) = Unit {0}
AsksPublished _ = ⊥

-- of one table
abbrev pub AsksTable : Question → Type 0
AsksTable (Table table) = Unit {0}
AsksTable (ColumnLists oid names) = Unit {0}
AsksTable (Attributes oid) = Unit {0}
AsksTable (RowFilters oid names) = Unit {0}
AsksTable _ = ⊥
