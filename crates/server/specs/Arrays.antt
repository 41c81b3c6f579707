-- Arrays of texts, as PostgreSQL writes them (PostgreSQL 15, 8.15.6): in curly brackets, with commas between the elements.
use Rattle.std.specs.Prelude.{ℕ, ◌==◌, List, [], ◌∷◌, ◌++◌, Bool, true, ◌||◌, codes, if◌then◌else◌}
use Rattle.std.specs.List.{flat_map, list_any}
use Rattle.replcmd.specs.Words.{is_keyword}

-- blanks: a space, and the bytes from a tab to a carriage return
abbrev pub is_space : ℕ → Bool
is_space b = b == 32 || (b == 9 || (b == 10 || (b == 11 || (b == 12 || b == 13))))

-- a double quote and a backslash
abbrev pub is_escaped : ℕ → Bool
is_escaped b = b == 34 || b == 92

-- what the array itself is written with
abbrev pub is_of_arrays : ℕ → Bool
is_of_arrays b = is_escaped b || (b == 123 || (b == 125 || (b == 44 || is_space b)))

-- Empty texts, the word NULL, and texts with such bytes stand in double quotes.
abbrev pub needs_quotes : List ℕ → Bool
needs_quotes [] = true
needs_quotes (b ∷ bytes) = list_any is_of_arrays (b ∷ bytes) || is_keyword (codes "NULL") (b ∷ bytes)

abbrev pub escaped_byte : ℕ → List ℕ
escaped_byte b = if is_escaped b then 92 ∷ b ∷ [] else b ∷ []

abbrev pub element : List ℕ → List ℕ
element text = if needs_quotes text then 34 ∷ (flat_map escaped_byte text ++ (34 ∷ [])) else text

abbrev pub further_element : List ℕ → List ℕ
further_element text = 44 ∷ element text

unfoldable pub array_text : List (List ℕ) → List ℕ
array_text [] = codes "{}"
array_text (text ∷ texts) = 123 ∷ (element text ++ (flat_map further_element texts ++ (125 ∷ [])))
