-- The tokens of a command: words, names in double quotes, values in single quotes, and marks. Between them stand any
-- blanks. Which token follows is told of the whole text that is left, so a text spells one list of tokens at most.
use Rattle.std.specs.Prelude.{◌≡◌, ℕ, ◌==◌, List, [], ◌∷◌, ◌++◌, Bool, true, false, ◌||◌, not}
use Rattle.std.specs.List.{AllByRecursion}
use Rattle.pqformat.specs.Quoting.{begins, in_quotes}
use Rattle.replcmd.specs.declared.text.token.Token.{Token}
use Rattle.replcmd.specs.declared.text.token.Token.TheVariants.{Word, Quoted, Value, Mark, Unclosed}
use Rattle.replcmd.specs.declared.text.token.TheConstants.{NAME_QUOTE, VALUE_QUOTE, OPEN, CLOSE, COMMA, SEMICOLON}

-- spaces, tabs and line ends
abbrev pub is_blank : ℕ → Bool
is_blank b = b == 32 || (b == 9 || (b == 10 || b == 13))

-- brackets, comma and semicolon
abbrev pub is_mark : ℕ → Bool
is_mark b = b == OPEN || (b == CLOSE || (b == COMMA || b == SEMICOLON))

-- what may stand in a word
abbrev pub is_plain : ℕ → Bool
is_plain b = not (is_blank b || (is_mark b || (b == NAME_QUOTE || b == VALUE_QUOTE)))

abbrev pub spelling_of_token : Token → List ℕ
spelling_of_token (Word w) = w
spelling_of_token (Quoted n) = in_quotes NAME_QUOTE n
spelling_of_token (Value v) = in_quotes VALUE_QUOTE v
spelling_of_token (Mark b) = b ∷ []
spelling_of_token Unclosed = []

abbrev pub Each : (ℕ → Bool) → List ℕ → Type 0
Each is bytes = AllByRecursion (λ b. is b ≡ true) bytes

-- The token is one, and ends where this text follows: a word isn't followed by more of it, nor a closing quote by another.
abbrev pub IsWhole : Token → List ℕ → Type 0
IsWhole (Word w) rest = (begins is_plain w ≡ true) × Each is_plain w × (begins is_plain rest ≡ false)
IsWhole (Quoted n) rest = begins (λ b. b == NAME_QUOTE) rest ≡ false
IsWhole (Value v) rest = begins (λ b. b == VALUE_QUOTE) rest ≡ false
IsWhole (Mark b) rest = is_mark b ≡ true
IsWhole Unclosed rest = ⊥

pub record StartsWith (text : List ℕ) (token : Token) (rest : List ℕ) : Type 0 where
  pub blanks : List ℕ
  pub are_blank : Each is_blank blanks
  pub parts : text ≡ blanks ++ (spelling_of_token token ++ rest)
  pub whole : IsWhole token rest

-- The whole text spells these tokens, with blanks round them.
abbrev pub Spells : List ℕ → List Token → Type 0
Spells text [] = Each is_blank text
Spells text (token ∷ tokens) = (rest : List ℕ) × StartsWith text token rest × Spells rest tokens
