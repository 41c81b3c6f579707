-- The tokens of a filter's text: words, numbers, names in double quotes, texts in single quotes, brackets and comparisons.
-- Between them stand any blanks. Which token follows is told of the whole text that is left, so a text spells one list of
-- tokens at most.
use Rattle.std.specs.Prelude.{◌≡◌, ℕ, ◌==◌, List, [], ◌∷◌, ◌++◌, Bool, true, false, ◌||◌, ◌&&◌, if◌then◌else◌}
use Rattle.std.specs.List.{AllByRecursion}
use Rattle.std.specs.Char.{is_ascii_alphabetic, is_ascii_alphanumeric, is_ascii_digit}
use Rattle.pqformat.specs.Quoting.{begins, in_quotes}
use Rattle.conditions.specs.declared.words.token.Token.{Token}
use Rattle.conditions.specs.declared.words.token.Token.TheVariants.{Word, Number, Quoted, Text, Mark, Pair, Stray}
use Rattle.conditions.specs.declared.words.token.TheConstants.{NAME_QUOTE, TEXT_QUOTE, MINUS}

-- spaces, tabs and line ends
abbrev pub is_blank : ℕ → Bool
is_blank b = b == 32 || (b == 9 || (b == 10 || b == 13))

-- a word begins with a letter or an underscore, and goes on with letters, digits, underscores and dollar signs
abbrev pub is_first : ℕ → Bool
is_first b = is_ascii_alphabetic b || b == 95

abbrev pub is_later : ℕ → Bool
is_later b = is_ascii_alphanumeric b || (b == 95 || b == 36)

-- ( ) = < >
abbrev pub is_mark : ℕ → Bool
is_mark b = b == 40 || (b == 41 || (b == 61 || (b == 60 || b == 62)))

-- <> != <= >=
abbrev pub is_pair : ℕ → ℕ → Bool
is_pair b c = (b == 60 && c == 62) || ((b == 33 && c == 61) || ((b == 60 && c == 61) || (b == 62 && c == 61)))

abbrev pub spelling_of_token : Token → List ℕ
spelling_of_token (Word w) = w
spelling_of_token (Number w) = w
spelling_of_token (Quoted n) = in_quotes NAME_QUOTE n
spelling_of_token (Text t) = in_quotes TEXT_QUOTE t
spelling_of_token (Mark b) = b ∷ []
spelling_of_token (Pair b c) = b ∷ c ∷ []
spelling_of_token Stray = []

abbrev pub Each : (ℕ → Bool) → List ℕ → Type 0
Each is bytes = AllByRecursion (λ b. is b ≡ true) bytes

abbrev pub AreDigits : List ℕ → Type 0
AreDigits w = (begins is_ascii_digit w ≡ true) × Each is_ascii_digit w

-- digits, or a minus and digits
abbrev pub without_minus : List ℕ → List ℕ
without_minus [] = []
without_minus (b ∷ w) = if b == MINUS then w else b ∷ w

abbrev pub IsInteger : List ℕ → Type 0
IsInteger w = AreDigits (without_minus w)

-- The token is one, and ends where this text follows, of which nothing would belong to it.
abbrev pub IsWhole : Token → List ℕ → Type 0
IsWhole (Word w) rest = (begins is_first w ≡ true) × Each is_later w × (begins is_later rest ≡ false)
IsWhole (Number w) rest = IsInteger w × (begins is_ascii_digit rest ≡ false)
IsWhole (Quoted n) rest = begins (λ b. b == NAME_QUOTE) rest ≡ false
IsWhole (Text t) rest = begins (λ b. b == TEXT_QUOTE) rest ≡ false
IsWhole (Mark b) rest = (is_mark b ≡ true) × (begins (is_pair b) rest ≡ false)
IsWhole (Pair b c) rest = is_pair b c ≡ true
IsWhole Stray rest = ⊥

pub record StartsWith (text : List ℕ) (token : Token) (rest : List ℕ) : Type 0 where
  pub blanks : List ℕ
  pub are_blank : Each is_blank blanks
  pub parts : text ≡ blanks ++ (spelling_of_token token ++ rest)
  pub whole : IsWhole token rest

-- The whole text spells these tokens, with blanks round them.
abbrev pub Spells : List ℕ → List Token → Type 0
Spells text [] = Each is_blank text
Spells text (token ∷ tokens) = (rest : List ℕ) × StartsWith text token rest × Spells rest tokens
