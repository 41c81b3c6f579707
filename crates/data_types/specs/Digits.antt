-- Decimal digits at the front of a text.
use Rattle.std.specs.Prelude.{ℕ, ◌+◌, ◌-◌, ◌*◌, ◌^◌, ◌==◌, ◌||◌, ◌&&◌, Bool, true, false, List, [], ◌∷◌, nat_lt, nat_le, Option, Some, None, if◌then◌else◌}
use Rattle.std.specs.List.{list_all}
use Rattle.std.specs.Char.{is_ascii_digit}
use Rattle.data_types.specs.declared.texts.digits.Digits.{Digits}

-- the number that digits spell, how many they are, and what stands after them
pub record Run : Type 0 where
  pub value : ℕ
  pub count : ℕ
  pub rest : List ℕ

-- what follows digits that spell n and are k; None where the number is of over 64 bits
abbrev pub run_after : ℕ → ℕ → List ℕ → Option Run
run_after n k [] = Some record { value = n; count = k; rest = [] }
run_after n k (b ∷ bs) =
    if is_ascii_digit b
    then (if nat_lt (n * 10 + (b - 48)) (2 ^ 64) then run_after (n * 10 + (b - 48)) (k + 1) bs else None)
    else Some record { value = n; count = k; rest = b ∷ bs }

abbrev pub digits_at : List ℕ → Option Run
digits_at text = run_after 0 0 text

abbrev pub lent_run : Digits → Run
lent_run digits = record { value = digits.value; count = digits.count; rest = digits.rest.now }

-- what PostgreSQL takes for a blank: a space, and what moves on a page (C's isspace)
abbrev pub is_blank : ℕ → Bool
is_blank b = b == 32 || (nat_le 9 b && nat_le b 13)

-- the text from the first byte on that is no blank
abbrev pub after_blanks : List ℕ → List ℕ
after_blanks [] = []
after_blanks (b ∷ bs) = if is_blank b then after_blanks bs else b ∷ bs

abbrev pub are_blanks : List ℕ → Bool
are_blanks text = list_all is_blank text

-- how many bytes stand before the first blank
abbrev pub word_length : List ℕ → ℕ
word_length [] = 0
word_length (b ∷ bs) = if is_blank b then 0 else word_length bs + 1
