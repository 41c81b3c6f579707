-- Reading tokens from the front of a text. Where none begins, the rest of the text is one of its own, which no filter has.
use Rattle.std.specs.Prelude.{Result, Ok, Err, ◌≡◌, ℕ, ◌==◌, List, [], ◌∷◌, Option, Some, None, option_map, Bool, true, false, if◌then◌else◌}
use Rattle.std.specs.declared.vec.Vec.{Vec}
use Rattle.std.specs.declared.alloc.Global.{Global}
use Rattle.pqformat.specs.Quoting.{begins, quoted_at}
use Rattle.conditions.specs.declared.fault.FilterFault.{FilterFault}
use Rattle.conditions.specs.declared.fault.FilterFault.TheVariants.{Memory}
use Rattle.std.specs.Borrow.{Bor}
use Rattle.std.specs.Char.{is_ascii_digit}
use Rattle.conditions.specs.declared.words.class.Class.{Class}
use Rattle.conditions.specs.declared.words.class.Class.TheVariants as classes
use Rattle.conditions.specs.declared.words.token.Token.{Token}
use Rattle.conditions.specs.declared.words.token.Token.TheVariants.{Word, Number, Quoted, Text, Mark, Pair, Stray}
use Rattle.conditions.specs.declared.words.token.TheConstants.{NAME_QUOTE, TEXT_QUOTE, MINUS}
use Rattle.conditions.specs.Tokens.{is_blank, is_first, is_later, is_mark, is_pair}

abbrev pub is_of : Class → ℕ → Bool
is_of classes.Blank b = is_blank b
is_of classes.Later b = is_later b
is_of classes.Digit b = is_ascii_digit b

-- the bytes of a class at the front, and what follows them
abbrev pub run_of : Class → List ℕ → List ℕ
run_of class [] = []
run_of class (b ∷ bytes) = if is_of class b then b ∷ run_of class bytes else []

abbrev pub after_run : Class → List ℕ → List ℕ
after_run class [] = []
after_run class (b ∷ bytes) = if is_of class b then after_run class bytes else b ∷ bytes

abbrev pub closed_token : (List ℕ → Token) → Option (List ℕ × List ℕ) → Token × List ℕ
closed_token make None = (Stray, [])
closed_token make (Some found) = (make found.0, found.1)

-- the digits after a minus
abbrev pub signed_at : List ℕ → Token × List ℕ
signed_at bytes = if begins is_ascii_digit bytes then (Number (MINUS ∷ run_of classes.Digit bytes), after_run classes.Digit bytes) else (Stray, [])

abbrev pub one_mark : ℕ → List ℕ → Token × List ℕ
one_mark b bytes = if is_mark b then (Mark b, bytes) else (Stray, [])

abbrev pub mark_at : ℕ → List ℕ → Token × List ℕ
mark_at b [] = one_mark b []
mark_at b (c ∷ bytes) = if is_pair b c then (Pair b c, bytes) else one_mark b (c ∷ bytes)

abbrev pub token_after : ℕ → List ℕ → Token × List ℕ
token_after b bytes =
    if b == NAME_QUOTE then closed_token (λ n. Quoted n) (quoted_at false NAME_QUOTE bytes)
    else if b == TEXT_QUOTE then closed_token (λ t. Text t) (quoted_at false TEXT_QUOTE bytes)
    else if is_first b then (Word (run_of classes.Later (b ∷ bytes)), after_run classes.Later (b ∷ bytes))
    else if is_ascii_digit b then (Number (run_of classes.Digit (b ∷ bytes)), after_run classes.Digit (b ∷ bytes))
    else if b == MINUS then signed_at bytes
    else mark_at b bytes

abbrev pub token_from : List ℕ → Option (Token × List ℕ)
token_from [] = None
token_from (b ∷ bytes) = Some (token_after b bytes)

-- the first token, and what follows it; None where only blanks are left
unfoldable pub token_at : List ℕ → Option (Token × List ℕ)
token_at bytes = token_from (after_run classes.Blank bytes)

-- all tokens of a text, one after the other
abbrev pub Lexes : List ℕ → List Token → Type 0
Lexes text [] = token_at text ≡ None
Lexes text (token ∷ tokens) = (rest : List ℕ) × (token_at text ≡ Some (token, rest)) × Lexes rest tokens

-- a token, and the text after it that a reader lends
abbrev pub lent_token : Token × Bor (List ℕ) → Token × List ℕ
lent_token found = (found.0, found.1.now)

abbrev pub lent : Option (Token × Bor (List ℕ)) → Option (Token × List ℕ)
lent found = option_map (λ x. (x.0, x.1.now)) found

abbrev pub is_stray : Token → Bool
is_stray Stray = true
is_stray _ = false

-- A call that gives these tokens, unless memory ran out.
abbrev pub GivesTokens : Result (Vec Token Global) FilterFault → List Token → Type 0
GivesTokens (Ok x) tokens = x.items ≡ tokens
GivesTokens (Err Memory) tokens = Unit {0}
GivesTokens (Err _) tokens = ⊥
