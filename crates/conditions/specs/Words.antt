-- What a token says in a filter: a keyword, in either case, a name, a literal, a comparison or a bracket.
use Rattle.std.specs.Prelude.{ℕ, ◌==◌, ℤ, pos, neg_ℤ, List, [], ◌∷◌, map, Option, Some, None, option_map, codes, if◌then◌else◌, Bool, true, false}
use Rattle.std.specs.Char.{to_ascii_lowercase}
use Rattle.std.specs.Str.{bytes_eq}
use Rattle.std.specs.Str.Parse.{digits_value}
use Rattle.conditions.specs.declared.values.comparison.Comparison.{Comparison}
use Rattle.conditions.specs.declared.values.comparison.Comparison.TheVariants.{Equal, NotEqual, Less, Greater, LessOrEqual, GreaterOrEqual}
use Rattle.conditions.specs.declared.words.token.Token.{Token}
use Rattle.conditions.specs.declared.words.token.Token.TheVariants.{Word, Number, Quoted, Text, Mark, Pair, Stray}
use Rattle.conditions.specs.declared.words.token.TheConstants.{MINUS}

pub data Saying : Type 0 where
  SayAnd : Saying
  SayOr : Saying
  SayNot : Saying
  SayIs : Saying
  SayNull : Saying
  SayBool : Bool → Saying
  -- the bare word, which is a name too
  SayUnknown : Saying
  SayName : List ℕ → Saying
  SayNumber : ℤ → Saying
  SayText : List ℕ → Saying
  SayComparison : Comparison → Saying
  SayOpen : Saying
  SayClose : Saying

-- AND OR NOT IS NULL TRUE FALSE are no names unless they stand in quotes.
abbrev pub said_by_word : List ℕ → Saying
said_by_word folded =
    if bytes_eq folded (codes "and") then SayAnd
    else if bytes_eq folded (codes "or") then SayOr
    else if bytes_eq folded (codes "not") then SayNot
    else if bytes_eq folded (codes "is") then SayIs
    else if bytes_eq folded (codes "null") then SayNull
    else if bytes_eq folded (codes "true") then SayBool true
    else if bytes_eq folded (codes "false") then SayBool false
    else if bytes_eq folded (codes "unknown") then SayUnknown
    else SayName folded

abbrev pub integer_of : List ℕ → ℤ
integer_of [] = pos 0
integer_of (b ∷ digits) = if b == MINUS then neg_ℤ (pos (digits_value 10 digits)) else pos (digits_value 10 (b ∷ digits))

abbrev pub said_by_mark : ℕ → Option Saying
said_by_mark b =
    if b == 40 then Some SayOpen
    else if b == 41 then Some SayClose
    else if b == 61 then Some (SayComparison Equal)
    else if b == 60 then Some (SayComparison Less)
    else if b == 62 then Some (SayComparison Greater)
    else None

-- <= and >= end with the equal sign; <> and != remain
abbrev pub said_by_pair : ℕ → ℕ → Saying
said_by_pair b c =
    if b == 33 then SayComparison NotEqual
    else if c == 62 then SayComparison NotEqual
    else if b == 60 then SayComparison LessOrEqual
    else SayComparison GreaterOrEqual

-- bare names are folded to lower case
abbrev pub said_by : Token → Option Saying
said_by (Word w) = Some (said_by_word (map to_ascii_lowercase w))
said_by (Number w) = Some (SayNumber (integer_of w))
said_by (Quoted n) = Some (SayName n)
said_by (Text t) = Some (SayText t)
said_by (Mark b) = said_by_mark b
said_by (Pair b c) = Some (said_by_pair b c)
said_by Stray = None

abbrev pub with_first : Option Saying → Option (List Saying) → Option (List Saying)
with_first None sayings = None
with_first (Some saying) sayings = option_map (λ others. saying ∷ others) sayings

-- what tokens say, one by one
abbrev pub said_by_all : List Token → Option (List Saying)
said_by_all [] = Some []
said_by_all (token ∷ tokens) = with_first (said_by token) (said_by_all tokens)
