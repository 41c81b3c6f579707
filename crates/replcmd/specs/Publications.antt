-- The value of publication_names (PostgreSQL 15, 55.4): names with commas between them, and any blanks round each, as in all lists of
-- names that PostgreSQL takes.
use Rattle.std.specs.Prelude.{ℕ, List, [], ◌∷◌, ◌++◌}
use Rattle.replcmd.specs.declared.text.token.Token.{Token}
use Rattle.replcmd.specs.declared.text.token.TheConstants.{COMMA}
use Rattle.replcmd.specs.Tokens.{is_blank, Each, StartsWith}
use Rattle.replcmd.specs.Words.{IsName}

-- The whole text spells these names, one at least.
abbrev pub SpellsNames : List ℕ → List (List ℕ) → Type 0
SpellsNames text [] = ⊥
SpellsNames text (name ∷ []) = (token : Token) × (behind : List ℕ) × IsName name token × StartsWith text token behind × Each is_blank behind
SpellsNames text (name ∷ other ∷ names) =
    (token : Token) × (behind rest : List ℕ) × IsName name token × StartsWith text token (behind ++ (COMMA ∷ rest)) × Each is_blank behind
    × SpellsNames rest (other ∷ names)
