-- The plain fields, read as they are spelled, with their faults: numbers, counts, bytes, names, texts and letters.
use Rattle.std.proofs.Common.{◌≡◌, ℕ, zero, suc, ◌+◌, ◌^◌, ◌≤◌, ◌<◌, Bool, true, false, cond, ltb, eqb, List, [], ◌∷◌, length, take, Option, Some, None, Result, Ok, Err, ◌++◌, refl, subst, arith}
use Rattle.std.specs.Prelude.{FitsSigned, ◌||◌}
use Rattle.std.specs.List.{AllByRecursion, flat_map, position_or_len}
use Rattle.std.specs.Option.{ok_or}
use Rattle.std.specs.Str.{is_utf8}
use Rattle.std.specs.Int.{Width, w16, w32, w64, byte_len, to_be_bytes, cast_signed, cast_unsigned}
use Rattle.std.proofs.lemmas.Bool.{ltb-true, lt-ltb, le-ltb}
use Rattle.std.proofs.lemmas.List.{length-take}
use Rattle.std.proofs.lemmas.List.Recursion.{is_position_or_len}
use Rattle.std.proofs.Math.Facts.{Fits-of_z, Fits-lt-pow}
use Rattle.pqformat.specs.Fields.{bytes_at, number_at, string, string_at, has_zero, int16, int32, int64}
use Rattle.pqformat.specs.Steps.{◌>>=◌, repeat_at}
use Rattle.pqformat.proofs.Numbers as numbers
use Rattle.pqformat.proofs.Numbers.{IsWide, wide16, wide32, wide64}
use Rattle.pgoutput.specs.declared.fault.PgoutputError.{PgoutputError}
use Rattle.pgoutput.specs.declared.fault.PgoutputError.TheVariants.{Short, BadMark, BadText}
use Rattle.pgoutput.specs.Reading.{short, expected_letter, one_of, count16_at, count32_at, signed32_at, signed64_at, name_at, text_at}
use Rattle.pgoutput.specs.Relation.{FitsName}
use Rattle.pgoutput.specs.Tuple.{counted_text, FitsText}
use Rattle.pgoutput.proofs.Engine.{Wire, IsFieldFault, converted, tested, with_range, counted, repeated}

-- ---- a field that isn't there whole

only_short : {A : Type 0} (found : Option A) (e : PgoutputError) → short found ≡ Err e → IsFieldFault e
only_short None e is = let same : Short ≡ e = cc in subst IsFieldFault same tt
only_short (Some x) e is = absurd cc

is_missing : {A : Type 0} (b : Bool) (x : A) → b ≡ true → short (cond b None (Some x)) ≡ Err Short
is_missing true x holds = refl
is_missing false x holds = absurd cc

cut_short : (n : ℕ) (text : List ℕ) → n < length text → length (take n text) < length text
cut_short n text lt = omega (arith, length-take n text)

-- ---- numbers

number_wire : (w : Width) (limit : ℕ) → IsWide w limit → Wire (λ bytes. short (number_at w bytes)) (to_be_bytes w) (λ n. n < limit)
number_wire w limit wide = record {
  codec = numbers.number_codec Short w limit wide;
  own = λ bytes e is. only_short (number_at w bytes) e is;
  cut = λ x n fits lt. is_missing (ltb (length (take n (to_be_bytes w x))) (byte_len w)) _ (lt-ltb _ _ (omega (arith, cut_short n (to_be_bytes w x) lt, wide.len x)));
}

pub number16 : Wire (λ bytes. short (number_at w16 bytes)) int16 (λ n. n < 2 ^ 16)
unfolding int16
number16 = number_wire w16 (2 ^ 16) wide16

pub number32 : Wire (λ bytes. short (number_at w32 bytes)) int32 (λ n. n < 2 ^ 32)
unfolding int32
number32 = number_wire w32 (2 ^ 32) wide32

pub number64 : Wire (λ bytes. short (number_at w64 bytes)) int64 (λ n. n < 2 ^ 64)
unfolding int64
number64 = number_wire w64 (2 ^ 64) wide64

pub signed32 : Wire signed32_at (λ z. int32 (cast_unsigned w32 z)) (FitsSigned w32)
signed32 = converted number32 (cast_signed w32) (cast_unsigned w32) (FitsSigned w32) (numbers.signed32 Short) (λ z fits. Fits-lt-pow (Fits-of_z fits))

pub signed64 : Wire signed64_at (λ z. int64 (cast_unsigned w64 z)) (FitsSigned w64)
signed64 = converted number64 (cast_signed w64) (cast_unsigned w64) (FitsSigned w64) (numbers.signed64 Short) (λ z fits. Fits-lt-pow (Fits-of_z fits))

pub count16 : Wire count16_at int16 (λ n. n < 2 ^ 15)
count16 = with_range (λ n. n < 2 ^ 15) (tested number16 (λ n. ltb n (2 ^ 15)) BadMark tt) (λ n fits. ltb-true n (2 ^ 15) fits.1) (λ n fits. (omega arith, lt-ltb n (2 ^ 15) fits))

pub count32 : Wire count32_at int32 (λ n. n < 2 ^ 31)
count32 = with_range (λ n. n < 2 ^ 31) (tested number32 (λ n. ltb n (2 ^ 31)) BadMark tt) (λ n fits. ltb-true n (2 ^ 31) fits.1) (λ n fits. (omega arith, lt-ltb n (2 ^ 31) fits))

-- ---- texts

pub bytes_of : (n : ℕ) → Wire (λ bytes. short (bytes_at n bytes)) (λ text. text) (λ text. length text ≡ n)
bytes_of n = record {
  codec = numbers.bytes_codec Short n;
  own = λ bytes e is. only_short (bytes_at n bytes) e is;
  cut = λ x i fits lt. is_missing (ltb (length (take i x)) n) _ (lt-ltb _ _ (omega (arith, cut_short i x lt, fits)));
}

-- how many bytes stand before the first zero byte, by recursion
pub before_zero : List ℕ → ℕ
before_zero [] = 0
before_zero (b ∷ bytes) = cond (eqb b 0) 0 (1 + before_zero bytes)

pub before_zero-is : (bytes : List ℕ) → before_zero bytes ≡ position_or_len (λ b. eqb b 0) bytes
unfolding before_zero
before_zero-is bytes = is_position_or_len before_zero (λ b. eqb b 0) refl (λ b bytes. refl) bytes

all_before : (bytes : List ℕ) → has_zero bytes ≡ false → length bytes ≤ before_zero bytes
unfolding before_zero
all_before [] none = omega arith
all_before (b ∷ bytes) none = by_test (eqb b 0) (λ none. all_before bytes none) none
  where
    by_test : (t : Bool) → (has_zero bytes ≡ false → length bytes ≤ before_zero bytes) → (t || has_zero bytes) ≡ false → length (b ∷ bytes) ≤ cond t 0 (1 + before_zero bytes)
    by_test true inner none = absurd cc
    by_test false inner none = omega (arith, inner none)

-- and where none is found, none is
pub zero_free : (bytes : List ℕ) → length bytes ≤ before_zero bytes → has_zero bytes ≡ false
unfolding before_zero
zero_free [] all = refl
zero_free (b ∷ bytes) all = by_test (eqb b 0) all (λ all. zero_free bytes all)
  where
    by_test : (t : Bool) → length (b ∷ bytes) ≤ cond t 0 (1 + before_zero bytes) → (length bytes ≤ before_zero bytes → has_zero bytes ≡ false) → (t || has_zero bytes) ≡ false
    by_test true all inner = absurd (omega arith)
    by_test false all inner = inner (omega arith)

-- no zero byte is found where none is
pub none_there : (bytes : List ℕ) → has_zero bytes ≡ false → string_at bytes ≡ None
none_there bytes none =
    let far : length bytes ≤ position_or_len (λ b. eqb b 0) bytes = rw (← before_zero-is bytes) (all_before bytes none) in
    rw (le-ltb (position_or_len (λ b. eqb b 0) bytes) (length bytes) far) refl

-- a text without a zero byte has none in its beginnings, with the zero byte after it cut off
zero_cut : (text : List ℕ) (n : ℕ) → has_zero text ≡ false → n < length (string text) → has_zero (take n (string text)) ≡ false
zero_cut [] zero none lt = refl
zero_cut [] (suc n) none lt = absurd (omega arith)
zero_cut (b ∷ text) zero none lt = refl
zero_cut (b ∷ text) (suc n) none lt = by_test (eqb b 0) (λ none. zero_cut text n none (omega arith)) none
  where
    by_test : (t : Bool) → (has_zero text ≡ false → has_zero (take n (string text)) ≡ false) → (t || has_zero text) ≡ false → (t || has_zero (take n (string text))) ≡ false
    by_test true inner none = absurd cc
    by_test false inner none = inner none

pub ended_by_zero : Wire (λ bytes. short (string_at bytes)) string (λ text. has_zero text ≡ false)
ended_by_zero = record {
  codec = numbers.string_codec Short;
  own = λ bytes e is. only_short (string_at bytes) e is;
  cut = λ x n fits lt. rw (none_there (take n (string x)) (zero_cut x n fits lt)) refl;
}

pub name_wire : Wire name_at string FitsName
unfolding name_at
name_wire = tested ended_by_zero is_utf8 BadText tt

pub text_wire : Wire text_at counted_text FitsText
unfolding text_at
text_wire = counted count32 length _ (λ text. text) (λ text. is_utf8 text ≡ true) (λ n. tested (bytes_of n) is_utf8 BadText tt)

-- items after their count
pub list_wire : {A : Type 0} {read : List ℕ → Result (A × List ℕ) PgoutputError} {t : A → List ℕ} {F : A → Type 0} → Wire read t F
    → Wire (λ bytes. count16_at bytes >>= λ n. repeat_at read n.0 n.1) (λ xs. int16 (length xs) ++ flat_map t xs) (λ xs. (length xs < 2 ^ 15) × AllByRecursion F xs)
list_wire {A} {read} {t} {F} c = counted count16 length _ (flat_map t) (AllByRecursion F) (λ n. repeated c n)

-- ---- letters

abbrev pub lettered : {X : Type 0} → List ℕ → Option X → Result (X × List ℕ) PgoutputError
lettered rest found = ok_or found BadMark >>= λ x. Ok (x, rest)

no_letter : {X : Type 0} (rest : List ℕ) (found : Option X) (e : PgoutputError) → lettered rest found ≡ Err e → IsFieldFault e
no_letter rest (Some x) e is = absurd cc
no_letter rest None e is = let same : BadMark ≡ e = cc in subst IsFieldFault same tt

pub letter_wire : {X : Type 0} (of : ℕ → Option X) (letter : X → ℕ) → ((b : ℕ) (x : X) → of b ≡ Some x → letter x ≡ b) → ((x : X) → of (letter x) ≡ Some x)
    → Wire (one_of of) (λ x. letter x ∷ []) (λ _. Unit {0})
letter_wire {X} of letter there back = record {
  codec = numbers.letter_codec Short BadMark of letter there back;
  own = own;
  cut = λ x n fits lt. cut x n lt;
} where
  own : (bytes : List ℕ) (e : PgoutputError) → one_of of bytes ≡ Err e → IsFieldFault e
  own [] e is = let same : Short ≡ e = cc in subst IsFieldFault same tt
  own (b ∷ bytes) e is = no_letter bytes (of b) e is

  cut : (x : X) (n : ℕ) → n < 1 → one_of of (take n (letter x ∷ [])) ≡ Err Short
  cut x zero lt = refl
  cut x (suc n) lt = absurd (omega arith)

abbrev pub marked : Bool → List ℕ → Result (Unit {0} × List ℕ) PgoutputError
marked same rest = cond same (Ok (tt, rest)) (Err BadMark)

no_mark : (same : Bool) (rest : List ℕ) (e : PgoutputError) → marked same rest ≡ Err e → IsFieldFault e
no_mark true rest e is = absurd cc
no_mark false rest e is = let bad : BadMark ≡ e = cc in subst IsFieldFault bad tt

pub expected_wire : (k : ℕ) → Wire (expected_letter k) (λ _. k ∷ []) (λ _. Unit {0})
expected_wire k = record {
  codec = numbers.mark_codec Short BadMark k;
  own = own;
  cut = λ x n fits lt. cut n lt;
} where
  own : (bytes : List ℕ) (e : PgoutputError) → expected_letter k bytes ≡ Err e → IsFieldFault e
  own [] e is = let same : Short ≡ e = cc in subst IsFieldFault same tt
  own (b ∷ bytes) e is = no_mark (eqb b k) bytes e is

  cut : (n : ℕ) → n < 1 → expected_letter k (take n (k ∷ [])) ≡ Err Short
  cut zero lt = refl
  cut (suc n) lt = absurd (omega arith)

-- nothing at all
pub nothing : Wire numbers.nothing_at (λ (_ : Unit {0}). []) (λ _. Unit {0})
nothing = record {
  codec = numbers.nothing_codec;
  own = λ bytes e is. absurd cc;
  cut = λ x n fits lt. absurd (omega arith);
}
