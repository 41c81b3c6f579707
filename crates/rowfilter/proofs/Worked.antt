-- Worked filters over public.tag (k text in the key, v int4), by which the definitions were checked.
use Rattle.std.proofs.Common.{◌≡◌, ℕ, zero, suc, List, [], ◌∷◌, None, Ok, Err, refl, lit≤, true, false, pos}
use Rattle.std.specs.Prelude.{codes}
use Rattle.tables.specs.declared.column.Column.{Column as TableColumn}
use Rattle.tables.specs.Kinds.{uuid_of_text}
use Rattle.tables.specs.declared.kinds.Kind.TheVariants as kinds
use Rattle.tables.specs.declared.kinds.Value.TheVariants as values
use Rattle.conditions.specs.declared.values.comparison.Comparison.TheVariants.{Equal, Greater}
use Rattle.conditions.specs.declared.values.is_test.IsTest.TheVariants as questions
use Rattle.conditions.specs.declared.words.token.Token.{Token}
use Rattle.conditions.specs.declared.words.token.Token.TheVariants.{Word, Number, Mark}
use Rattle.conditions.specs.declared.truth.Truth.TheVariants.{True, False, Unknown}
use Rattle.conditions.specs.declared.fault.FilterFault.TheVariants.{Syntax, UnknownColumn, TypeMismatch, NumberRange}
use Rattle.tables.specs.declared.identity.Identity.TheVariants as identities
use Rattle.tables.specs.declared.table.Table.{Table}
use Rattle.rowfilter.specs.Answers.{read_filter}
use Rattle.conditions.specs.Conditions.{Number, Column, Literal, Compare}
use Rattle.conditions.specs.Truth.{truth}
use Rattle.conditions.specs.Lexing.{token_at}
use Rattle.conditions.specs.Tokens.{Spells}
use Rattle.conditions.specs.Kinds.{sort_of, IsCondition}
use Rattle.conditions.specs.Grammar.{Phrase, InName, InNumber, InText, InCompare, InIs, InNot, InOr, levels, meaning_of, SpellsPhrase}

abbrev columns : List TableColumn
columns = record { name = codes "k"; kind = kinds.Text; is_key = true } ∷ record { name = codes "v"; kind = kinds.Int4; is_key = false } ∷ []

-- v > 5 OR v IS NULL
abbrev either_phrase : Phrase
either_phrase = InOr (InCompare Greater (InName (codes "v")) (InNumber (pos 5))) (InIs questions.Null false (InName (codes "v")))

abbrev either_tokens : List Token
either_tokens = Word (codes "v") ∷ Mark 62 ∷ Number (codes "5") ∷ Word (codes "OR") ∷ Word (codes "v") ∷ Word (codes "IS") ∷ Word (codes "NULL") ∷ []

-- blanks are needed between words alone: a number and a word stand together
either_spelled : Spells (codes "v>5OR v IS NULL ") either_tokens
either_spelled = (
  codes ">5OR v IS NULL ",
  record { blanks = []; are_blank = tt; parts = refl; whole = (refl, (refl, tt), refl) },
  (
    codes "5OR v IS NULL ",
    record { blanks = []; are_blank = tt; parts = refl; whole = (refl, refl) },
    (
      codes "OR v IS NULL ",
      record { blanks = []; are_blank = tt; parts = refl; whole = ((refl, (refl, tt)), refl) },
      (
        codes " v IS NULL ",
        record { blanks = []; are_blank = tt; parts = refl; whole = (refl, (refl, (refl, tt)), refl) },
        (
          codes " IS NULL ",
          record { blanks = codes " "; are_blank = (refl, tt); parts = refl; whole = (refl, (refl, tt), refl) },
          (
            codes " NULL ",
            record { blanks = codes " "; are_blank = (refl, tt); parts = refl; whole = (refl, (refl, (refl, tt)), refl) },
            (
              codes " ",
              record { blanks = codes " "; are_blank = (refl, tt); parts = refl; whole = (refl, (refl, (refl, (refl, (refl, tt)))), refl) },
              (refl, tt),
            ),
          ),
        ),
      ),
    ),
  ),
)

either_spells : SpellsPhrase (codes "v>5OR v IS NULL ") either_phrase
either_spells = record {
  short = lit≤ tt;
  tokens = either_tokens;
  are_spelled = either_spelled;
  say = refl;
  bound = (lit≤ tt, ((lit≤ tt, lit≤ tt, (tt, tt)), (lit≤ tt, tt)));
}

either_fits : IsCondition columns (meaning_of columns either_phrase)
either_fits = refl

-- at v null, at v 6 and at v 5
either_at_null : truth (meaning_of columns either_phrase) (values.Text (codes "a") ∷ values.Null ∷ []) ≡ True
either_at_null = refl

either_at_six : truth (meaning_of columns either_phrase) (values.Text (codes "a") ∷ values.Int4 (pos 6) ∷ []) ≡ True
either_at_six = refl

either_at_five : truth (meaning_of columns either_phrase) (values.Text (codes "a") ∷ values.Int4 (pos 5) ∷ []) ≡ False
either_at_five = refl

-- NOT v > 5
not_at_null : truth (meaning_of columns (InNot (InCompare Greater (InName (codes "v")) (InNumber (pos 5))))) (values.Text (codes "a") ∷ values.Null ∷ []) ≡ Unknown
not_at_null = refl

-- v = 'a' compares kinds that don't go together
unlike : sort_of columns (meaning_of columns (InCompare Equal (InName (codes "v")) (InText (codes "a")))) ≡ None
unfolding uuid_of_text
unlike = refl

-- w = 1 names no column of the table
unheard : sort_of columns (meaning_of columns (InCompare Equal (InName (codes "w")) (InNumber (pos 1)))) ≡ None
unheard = refl

-- 62 times NOT, and v = 1, are 64 levels
abbrev nots : ℕ → Phrase → Phrase
nots zero a = a
nots (suc n) a = InNot (nots n a)

deepest : levels (nots 62 (InCompare Equal (InName (codes "v")) (InNumber (pos 1)))) ≡ 64
deepest = refl

-- ---- texts as they are read

abbrev tag : Table
tag = record { oid = 16385; schema = codes "public"; name = codes "tag"; identity = identities.Default; columns = columns }

read_greater : read_filter tag (codes " V>5") ≡ Ok (Compare Greater (Column 1) (Literal (Number (pos 5))))
unfolding read_filter token_at
read_greater = refl

read_half : read_filter tag (codes "v >") ≡ Err Syntax
unfolding read_filter token_at
read_half = refl

read_unknown : read_filter tag (codes "w = 1") ≡ Err UnknownColumn
unfolding read_filter token_at
read_unknown = refl

read_unlike : read_filter tag (codes "v = 'a'") ≡ Err TypeMismatch
unfolding read_filter token_at uuid_of_text
read_unlike = refl

-- a number of over 64 bits comes before an unknown column
read_large : read_filter tag (codes "w = 9223372036854775808") ≡ Err NumberRange
unfolding read_filter token_at
read_large = refl
