-- Reading one field after the other, up to the first fault. The faults are each reader's own: `short` where the field
-- isn't there whole, `other` where it is there and can't be read.
use Rattle.std.specs.Prelude.{ℕ, ℤ, zero, suc, ◌==◌, nat_lt, List, [], ◌∷◌, ◌++◌, Option, Some, None, Result, Ok, Err, if◌then◌else◌}
use Rattle.std.specs.List.{flat_map}
use Rattle.std.specs.Option.{ok_or}
use Rattle.std.specs.Int.{Width, cast_signed}
use Rattle.pqformat.specs.Fields.{byte_at, number_at}

infixl 10 ◌>>=◌
abbrev pub ◌>>=◌ : {A B E : Type 0} → Result A E → (A → Result B E) → Result B E
(Ok x) >>= f = f x
(Err e) >>= f = Err e

-- the byte k and no other
abbrev pub mark_at : {E : Type 0} → E → E → ℕ → List ℕ → Result (Unit {0} × List ℕ) E
mark_at short other k bytes = ok_or (byte_at bytes) short >>= λ b. if b.0 == k then Ok (tt, b.1) else Err other

-- a byte that stands for one of a few values
abbrev pub letter_at : {X E : Type 0} → E → E → (ℕ → Option X) → List ℕ → Result (X × List ℕ) E
letter_at short other of bytes = do
  b ← ok_or (byte_at bytes) short
  x ← ok_or (of b.0) other
  Ok (x, b.1)

-- a number below a limit
abbrev pub count_at : {E : Type 0} → E → E → Width → ℕ → List ℕ → Result (ℕ × List ℕ) E
count_at short other w limit bytes = ok_or (number_at w bytes) short >>= λ n. if nat_lt n.0 limit then Ok n else Err other

-- a number in two's complement
abbrev pub signed_at : {E : Type 0} → E → Width → List ℕ → Result (ℤ × List ℕ) E
signed_at short w bytes = ok_or (number_at w bytes) short >>= λ n. Ok (cast_signed w n.0, n.1)

-- n of them, one after the other
unfoldable pub repeat_at : {A E : Type 0} → (List ℕ → Result (A × List ℕ) E) → ℕ → List ℕ → Result (List A × List ℕ) E
repeat_at f zero bytes = Ok ([], bytes)
repeat_at f (suc n) bytes = do
  first ← f bytes
  others ← repeat_at f n first.1
  Ok (first.0 ∷ others.0, others.1)

-- one more of them, or the zero byte that ends them
unfoldable pub next_at : {A E : Type 0} → E → (List ℕ → Result (A × List ℕ) E) → List ℕ → Result (Option A × List ℕ) E
next_at short f [] = Err short
next_at short f (b ∷ bytes) = if b == 0 then Ok (None, bytes) else (f (b ∷ bytes) >>= λ x. Ok (Some x.0, x.1))

abbrev pub go_on : {A E : Type 0} → Option A → List ℕ → Result (List A × List ℕ) E → Result (List A × List ℕ) E
go_on None rest others = Ok ([], rest)
go_on (Some x) rest others = others >>= λ y. Ok (x ∷ y.0, y.1)

-- fewer than n of them, up to a zero byte
unfoldable pub until_at : {A E : Type 0} → E → (List ℕ → Result (A × List ℕ) E) → ℕ → List ℕ → Result (List A × List ℕ) E
until_at short f zero bytes = Err short
until_at short f (suc n) bytes = next_at short f bytes >>= λ x. go_on x.0 x.1 (until_at short f n x.1)

-- a list and the zero byte that ends it
abbrev pub closed_list : {A : Type 0} → (A → List ℕ) → List A → List ℕ
closed_list text xs = flat_map text xs ++ 0 ∷ []
