-- Reading tokens from the front of a text. A quote that is never closed is a last token of its own, which no command has.
use Rattle.std.specs.Prelude.{◌≡◌, ℕ, ◌==◌, List, [], ◌∷◌, Option, Some, None, option_map, false, if◌then◌else◌}
use Rattle.std.specs.Borrow.{Bor}
use Rattle.pqformat.specs.Quoting.{quoted_at}
use Rattle.replcmd.specs.declared.text.token.Token.{Token}
use Rattle.replcmd.specs.declared.text.token.Token.TheVariants.{Word, Quoted, Value, Mark, Unclosed}
use Rattle.replcmd.specs.declared.text.token.TheConstants.{NAME_QUOTE, VALUE_QUOTE}
use Rattle.replcmd.specs.Tokens.{is_blank, is_mark, is_plain}

abbrev pub after_blanks : List ℕ → List ℕ
after_blanks [] = []
after_blanks (b ∷ bytes) = if is_blank b then after_blanks bytes else b ∷ bytes

abbrev pub word_of : List ℕ → List ℕ
word_of [] = []
word_of (b ∷ bytes) = if is_plain b then b ∷ word_of bytes else []

abbrev pub after_word : List ℕ → List ℕ
after_word [] = []
after_word (b ∷ bytes) = if is_plain b then after_word bytes else b ∷ bytes

abbrev pub closed_token : (List ℕ → Token) → Option (List ℕ × List ℕ) → Token × List ℕ
closed_token make None = (Unclosed, [])
closed_token make (Some found) = (make found.0, found.1)

abbrev pub token_from : List ℕ → Option (Token × List ℕ)
token_from [] = None
token_from (b ∷ bytes) =
    if b == NAME_QUOTE then Some (closed_token (λ n. Quoted n) (quoted_at false NAME_QUOTE bytes))
    else if b == VALUE_QUOTE then Some (closed_token (λ v. Value v) (quoted_at false VALUE_QUOTE bytes))
    else if is_mark b then Some (Mark b, bytes)
    else Some (Word (word_of (b ∷ bytes)), after_word (b ∷ bytes))

-- the first token, and what follows it; None where only blanks are left
unfoldable pub token_at : List ℕ → Option (Token × List ℕ)
token_at bytes = token_from (after_blanks bytes)

-- all tokens of a text, one after the other
abbrev pub Lexes : List ℕ → List Token → Type 0
Lexes text [] = token_at text ≡ None
Lexes text (token ∷ tokens) = (rest : List ℕ) × (token_at text ≡ Some (token, rest)) × Lexes rest tokens

-- a token, and the text after it that a reader lends
abbrev pub lent : Option (Token × Bor (List ℕ)) → Option (Token × List ℕ)
lent found = option_map (λ x. (x.0, x.1.now)) found
