-- The codecs of the plain fields: numbers, counts, bytes, strings and letters.
use Rattle.std.proofs.Common.{◌≡◌, ℕ, suc, ◌+◌, ◌^◌, ◌<◌, ◌≤◌, Bool, true, false, cond, ltb, eqb, List, [], ◌∷◌, ◌++◌, length, take, drop, Option, Some, None, Result, Ok, Err, refl, sym, ap, subst, ◌∙◌, append_assoc, arith}
use Rattle.std.specs.Prelude.{option_map, ◌||◌, FitsSigned}
use Rattle.std.specs.Option.{ok_or}
use Rattle.std.specs.List.{position_or_len}
use Rattle.std.specs.Int.{Width, w16, w32, w64, byte_len, from_be_bytes, to_be_bytes, cast_signed, cast_unsigned}
use Rattle.std.proofs.lemmas.Int.{of_z-to_z, to_z-of_z}
use Rattle.std.proofs.Math.Facts.{sfits_to_z, Fits-of_z, Fits-lt-pow}
use Rattle.std.proofs.lemmas.Bool.{ltb-true, ltb-false, le-ltb, lt-ltb, eqb-true, eq-eqb}
use Rattle.std.proofs.lemmas.List.{take_at, drop_at, take-append-drop, length-append, length-take}
use Rattle.std.proofs.lemmas.List.Recursion.{is_position_or_len}
use Rattle.std.proofs.lemmas.Nat.{be_bytes_2, be_bytes_4, be_bytes_8, from_be_bytes-to_be_bytes_2, from_be_bytes-to_be_bytes_4, from_be_bytes-to_be_bytes_8}
use Rattle.pqformat.specs.Fields.{byte_at, bytes_at, number_at, string, string_at, has_zero, int16, int32, int64}
use Rattle.pqformat.specs.Steps.{◌>>=◌, mark_at, letter_at}
use Rattle.pqformat.proofs.Codec.{IsBytes, IsBytes-drop, IsBytes-take, IsBytes-rest, bind_ok, found_some, not_missing, ok_is, Takes, Codec, tested, with_range, converted}

-- what the numbers of a width are
pub record IsWide (w : Width) (limit : ℕ) : Type 0 where
  pub len : (n : ℕ) → length (to_be_bytes w n) ≡ byte_len w
  pub back : (bytes : List ℕ) → length bytes ≡ byte_len w → IsBytes bytes → to_be_bytes w (from_be_bytes w bytes) ≡ bytes
  pub again : (n : ℕ) → n < limit → from_be_bytes w (to_be_bytes w n) ≡ n
  pub below : (bytes : List ℕ) → IsBytes bytes → from_be_bytes w bytes < limit

pub wide16 : IsWide w16 (2 ^ 16)
wide16 = record {
  len = λ n. refl;
  back = λ bytes len fits. be_bytes_2 bytes _ len fits refl;
  again = λ n lt. from_be_bytes-to_be_bytes_2 n lt;
  below = λ bytes fits. omega (arith, fits 0, fits 1);
}

pub wide32 : IsWide w32 (2 ^ 32)
wide32 = record {
  len = λ n. refl;
  back = λ bytes len fits. be_bytes_4 bytes _ len fits refl;
  again = λ n lt. from_be_bytes-to_be_bytes_4 n lt;
  below = λ bytes fits. omega (arith, fits 0, fits 1, fits 2, fits 3);
}

pub wide64 : IsWide w64 (2 ^ 64)
wide64 = record {
  len = λ n. refl;
  back = λ bytes len fits. be_bytes_8 bytes _ len fits refl;
  again = λ n lt. from_be_bytes-to_be_bytes_8 n lt;
  below = λ bytes fits. omega (arith, fits 0, fits 1, fits 2, fits 3, fits 4, fits 5, fits 6, fits 7);
}

number_takes : {E : Type 0} (d : E) (w : Width) (limit : ℕ) (wide : IsWide w limit) (bytes : List ℕ) (n : ℕ) (rest : List ℕ) → IsBytes bytes → ok_or (number_at w bytes) d ≡ Ok (n, rest) → Takes bytes (to_be_bytes w n) rest × (n < limit)
number_takes d w limit wide bytes n rest fits e =
    let read : ℕ × List ℕ = (from_be_bytes w (take (byte_len w) bytes), drop (byte_len w) bytes) in
    let answer : ℕ × List ℕ = (n, rest) in
    let g = not_missing (ltb (length bytes) (byte_len w)) read answer (found_some (number_at w bytes) d answer e) in
    let room : byte_len w ≤ length bytes = ltb-false _ _ g.0 in
    let n-is : from_be_bytes w (take (byte_len w) bytes) ≡ n = ap (λ (p : ℕ × List ℕ). p.0) g.1 in
    let rest-is : drop (byte_len w) bytes ≡ rest = ap (λ (p : ℕ × List ℕ). p.1) g.1 in
    let front : to_be_bytes w n ≡ take (byte_len w) bytes = rw (← n-is) (wide.back (take (byte_len w) bytes) (omega (arith, length-take (byte_len w) bytes)) (IsBytes-take (byte_len w) bytes fits)) in
    (record { parts = rw (front, ← rest-is) (sym (take-append-drop (byte_len w) bytes)); rest_fits = rw (← rest-is) (IsBytes-drop (byte_len w) bytes fits) }, rw (← n-is) (wide.below (take (byte_len w) bytes) (IsBytes-take (byte_len w) bytes fits)))

number_again : {E : Type 0} (d : E) (w : Width) (limit : ℕ) (wide : IsWide w limit) (n : ℕ) (rest : List ℕ) → n < limit → ok_or (number_at w (to_be_bytes w n ++ rest)) d ≡ Ok (n, rest)
number_again d w limit wide n rest lt =
    let len = wide.len n in
    let long : ltb (length (to_be_bytes w n ++ rest)) (byte_len w) ≡ false = le-ltb _ _ (omega (arith, length-append (to_be_bytes w n) rest)) in
    rw (long, take_at (to_be_bytes w n) rest (byte_len w) len, drop_at (to_be_bytes w n) rest (byte_len w) len, wide.again n lt) refl

pub number_codec : {E : Type 0} (d : E) (w : Width) (limit : ℕ) → IsWide w limit → Codec (λ bytes. ok_or (number_at w bytes) d) (to_be_bytes w) (λ n. n < limit)
number_codec d w limit wide = record { takes = number_takes d w limit wide; again = number_again d w limit wide }

pub number16 : {E : Type 0} (d : E) → Codec (λ bytes. ok_or (number_at w16 bytes) d) int16 (λ n. n < 2 ^ 16)
unfolding int16
number16 d = number_codec d w16 (2 ^ 16) wide16

pub number32 : {E : Type 0} (d : E) → Codec (λ bytes. ok_or (number_at w32 bytes) d) int32 (λ n. n < 2 ^ 32)
unfolding int32
number32 d = number_codec d w32 (2 ^ 32) wide32

pub number64 : {E : Type 0} (d : E) → Codec (λ bytes. ok_or (number_at w64 bytes) d) int64 (λ n. n < 2 ^ 64)
unfolding int64
number64 d = number_codec d w64 (2 ^ 64) wide64

pub length-int16 : (n : ℕ) → length (int16 n) ≡ 2
unfolding int16
length-int16 n = refl

pub length-int32 : (n : ℕ) → length (int32 n) ≡ 4
unfolding int32
length-int32 n = refl

pub length-int64 : (n : ℕ) → length (int64 n) ≡ 8
unfolding int64
length-int64 n = refl

-- the next n bytes
pub bytes_codec : {E : Type 0} (d : E) (n : ℕ) → Codec (λ bytes. ok_or (bytes_at n bytes) d) (λ s. s) (λ s. length s ≡ n)
bytes_codec d n = record { takes = takes; again = again }
  where
    takes : (bytes text rest : List ℕ) → IsBytes bytes → ok_or (bytes_at n bytes) d ≡ Ok (text, rest) → Takes bytes text rest × (length text ≡ n)
    takes bytes text rest fits e =
        let read : List ℕ × List ℕ = (take n bytes, drop n bytes) in
        let answer : List ℕ × List ℕ = (text, rest) in
        let g = not_missing (ltb (length bytes) n) read answer (found_some (bytes_at n bytes) d answer e) in
        let room : n ≤ length bytes = ltb-false _ _ g.0 in
        let front : take n bytes ≡ text = ap (λ (p : List ℕ × List ℕ). p.0) g.1 in
        let back : drop n bytes ≡ rest = ap (λ (p : List ℕ × List ℕ). p.1) g.1 in
        (record { parts = rw (← front, ← back) (sym (take-append-drop n bytes)); rest_fits = rw (← back) (IsBytes-drop n bytes fits) }, rw (← front) (omega (arith, length-take n bytes)))

    again : (text rest : List ℕ) → length text ≡ n → ok_or (bytes_at n (text ++ rest)) d ≡ Ok (text, rest)
    again text rest len =
        let long : ltb (length (text ++ rest)) n ≡ false = le-ltb _ _ (omega (arith, length-append text rest)) in
        rw (long, take_at text rest n len, drop_at text rest n len) refl

pub byte_codec : {E : Type 0} (d : E) → Codec (λ bytes. ok_or (byte_at bytes) d) (λ b. b ∷ []) (λ b. b < 256)
byte_codec {E} d = record { takes = takes; again = λ b rest fits. refl }
  where
    takes : (bytes : List ℕ) (b : ℕ) (rest : List ℕ) → IsBytes bytes → ok_or (byte_at bytes) d ≡ Ok (b, rest) → Takes bytes (b ∷ []) rest × (b < 256)
    takes [] b rest fits e = absurd cc
    takes (c ∷ bytes) b rest fits e =
        let P : ℕ × List ℕ → Type 0 = λ y. Takes (c ∷ bytes) (y.0 ∷ []) y.1 × (y.0 < 256) in
        subst P (ok_is E (c, bytes) (b, rest) e) (record { parts = refl; rest_fits = IsBytes-rest c bytes fits }, fits 0)

-- nothing at all
abbrev pub nothing_at : {E : Type 0} → List ℕ → Result (Unit {0} × List ℕ) E
nothing_at bytes = Ok (tt, bytes)

pub nothing_codec : {E : Type 0} → Codec (nothing_at {E = E}) (λ _. []) (λ _. Unit {0})
nothing_codec {E} = record { takes = takes; again = λ x rest fits. refl }
  where
    takes : (bytes : List ℕ) (x : Unit {0}) (rest : List ℕ) → IsBytes bytes → nothing_at {E = E} bytes ≡ Ok (x, rest) → Takes bytes [] rest × Unit {0}
    takes bytes x rest fits e =
        let read : Unit {0} × List ℕ = (tt, bytes) in
        let P : Unit {0} × List ℕ → Type 0 = λ y. Takes bytes [] y.1 × Unit {0} in
        subst P (ok_is E read (x, rest) e) (record { parts = refl; rest_fits = fits }, tt)

-- ---- strings

not_left : {A : Type 0} (b : Bool) (x y : A) → cond b (Some x) None ≡ Some y → (b ≡ true) × (x ≡ y)
not_left true x y e = (refl, cc)
not_left false x y e = absurd cc

abbrev parts_of : List ℕ → ℕ → List ℕ × List ℕ
parts_of bytes i = (take i bytes, drop (i + 1) bytes)

from_map : (b : Bool) (i : ℕ) (bytes : List ℕ) → cond b (Some (parts_of bytes i)) None ≡ option_map (parts_of bytes) (cond b (Some i) None)
from_map true i bytes = refl
from_map false i bytes = refl

-- how many bytes stand before the first zero byte, by recursion
before_zero : List ℕ → ℕ
before_zero [] = 0
before_zero (b ∷ bytes) = cond (eqb b 0) 0 (1 + before_zero bytes)

-- what stands round the first zero byte
abbrev Splits : List ℕ → ℕ → Type 0
Splits bytes n = (bytes ≡ take n bytes ++ (0 ∷ drop (n + 1) bytes)) × (has_zero (take n bytes) ≡ false)

split_zero : (bytes : List ℕ) → before_zero bytes < length bytes → Splits bytes (before_zero bytes)
unfolding before_zero
split_zero [] lt = absurd (omega arith)
split_zero (b ∷ bytes) lt = by_test (eqb b 0) (λ is. eqb-true b 0 is) refl (λ lt. split_zero bytes lt) lt
  where
    by_test : (t : Bool) → (t ≡ true → b ≡ 0) → eqb b 0 ≡ t → (before_zero bytes < length bytes → Splits bytes (before_zero bytes))
        → cond t 0 (1 + before_zero bytes) < length (b ∷ bytes) → Splits (b ∷ bytes) (cond t 0 (1 + before_zero bytes))
    by_test true zero_is is inner lt = let e : b ≡ 0 = zero_is refl in (rw e refl, refl)
    by_test false zero_is is inner lt =
        let k : 1 + before_zero bytes ≡ suc (before_zero bytes) = omega arith in
        let l : suc (before_zero bytes) + 1 ≡ suc (before_zero bytes + 1) = omega arith in
        let here = inner (omega arith) in
        rw (k, l) (ap (λ (x : List ℕ). b ∷ x) here.0, rw is here.1)

found_zero : (text rest : List ℕ) → has_zero text ≡ false → before_zero (text ++ (0 ∷ rest)) ≡ length text
unfolding before_zero
found_zero [] rest none = refl
found_zero (b ∷ text) rest none = by_test (eqb b 0) none (λ none. found_zero text rest none)
  where
    by_test : (t : Bool) → (t || has_zero text) ≡ false → (has_zero text ≡ false → before_zero (text ++ (0 ∷ rest)) ≡ length text)
        → cond t 0 (1 + before_zero (text ++ (0 ∷ rest))) ≡ length (b ∷ text)
    by_test true none inner = absurd cc
    by_test false none inner = omega (arith, inner none)

before_zero-is : (bytes : List ℕ) → before_zero bytes ≡ position_or_len (λ b. eqb b 0) bytes
unfolding before_zero
before_zero-is bytes = is_position_or_len before_zero (λ b. eqb b 0) refl (λ b bytes. refl) bytes

pub string_codec : {E : Type 0} (d : E) → Codec (λ bytes. ok_or (string_at bytes) d) string (λ text. has_zero text ≡ false)
string_codec d = record { takes = takes; again = again }
  where
    takes : (bytes text rest : List ℕ) → IsBytes bytes → ok_or (string_at bytes) d ≡ Ok (text, rest) → Takes bytes (string text) rest × (has_zero text ≡ false)
    takes bytes text rest fits e =
        let answer : List ℕ × List ℕ = (text, rest) in
        let n = before_zero bytes in
        let read : List ℕ × List ℕ = (take n bytes, drop (n + 1) bytes) in
        let there : cond (ltb n (length bytes)) (Some read) None ≡ Some answer = rw (before_zero-is bytes) (from_map (ltb (position_or_len (λ b. eqb b 0) bytes) (length bytes)) (position_or_len (λ b. eqb b 0) bytes) bytes ∙ found_some (string_at bytes) d answer e) in
        let g = not_left (ltb n (length bytes)) read answer there in
        let front : take n bytes ≡ text = ap (λ (p : List ℕ × List ℕ). p.0) g.1 in
        let back : drop (n + 1) bytes ≡ rest = ap (λ (p : List ℕ × List ℕ). p.1) g.1 in
        let split = split_zero bytes (ltb-true _ _ g.0) in (
          record {
            parts = rw (← front, ← back) (split.0 ∙ sym (append_assoc (take n bytes) (0 ∷ []) (drop (n + 1) bytes)));
            rest_fits = rw (← back) (IsBytes-drop (n + 1) bytes fits);
          },
          rw (← front) split.1,
        )

    again : (text rest : List ℕ) → has_zero text ≡ false → ok_or (string_at (string text ++ rest)) d ≡ Ok (text, rest)
    again text rest none =
        let regrouped : string text ++ rest ≡ text ++ (0 ∷ rest) = append_assoc text (0 ∷ []) rest in
        let at : position_or_len (λ b. eqb b 0) (text ++ (0 ∷ rest)) ≡ length text = sym (before_zero-is (text ++ (0 ∷ rest))) ∙ found_zero text rest none in
        let within : ltb (length text) (length (text ++ (0 ∷ rest))) ≡ true = lt-ltb _ _ (omega (arith, length-append text (0 ∷ rest))) in
        let behind : drop (length text + 1) (text ++ (0 ∷ rest)) ≡ rest = ap (λ (x : List ℕ). drop (length text + 1) x) (sym (append_assoc text (0 ∷ []) rest)) ∙ drop_at (text ++ 0 ∷ []) rest (length text + 1) (omega (arith, length-append text (0 ∷ []))) in
        ap (λ (x : List ℕ). ok_or (string_at x) d) regrouped ∙ rw (at, within, take_at text (0 ∷ rest) (length text) refl, behind) refl

-- ---- letters, counts and signed numbers

abbrev tested_mark : {E : Type 0} → E → Bool → List ℕ → Result (Unit {0} × List ℕ) E
tested_mark e t bytes = cond t (Ok (tt, bytes)) (Err e)

-- byte k and no other
pub mark_codec : {E : Type 0} (d e : E) (k : ℕ) → Codec (mark_at d e k) (λ (_ : Unit {0}). k ∷ []) (λ _. Unit {0})
mark_codec {E} d e k = record { takes = takes; again = again }
  where
    by_test : (b : ℕ) (bytes : List ℕ) (x : Unit {0}) (rest : List ℕ) → IsBytes bytes → (t : Bool) → (t ≡ true → b ≡ k) → tested_mark e t bytes ≡ Ok (x, rest) → Takes (b ∷ bytes) (k ∷ []) rest × Unit {0}
    by_test b bytes x rest fits true same is =
        let read : Unit {0} × List ℕ = (tt, bytes) in
        let there : bytes ≡ rest = ap (λ (p : Unit {0} × List ℕ). p.1) (ok_is E read (x, rest) is) in
        let is_k : b ≡ k = same refl in
        (record { parts = rw (is_k, there) refl; rest_fits = rw (← there) fits }, tt)
    by_test b bytes x rest fits false same is = absurd cc

    takes : (bytes : List ℕ) (x : Unit {0}) (rest : List ℕ) → IsBytes bytes → mark_at d e k bytes ≡ Ok (x, rest) → Takes bytes (k ∷ []) rest × Unit {0}
    takes [] x rest fits is = absurd cc
    takes (b ∷ bytes) x rest fits is = by_test b bytes x rest (IsBytes-rest b bytes fits) (eqb b k) (λ same. eqb-true b k same) is

    again : (x : Unit {0}) (rest : List ℕ) → Unit {0} → mark_at d e k ((k ∷ []) ++ rest) ≡ Ok (x, rest)
    again x rest fits = rw (eq-eqb k k refl) refl

-- a byte that stands for one of a few values
pub letter_codec : {X E : Type 0} (d e : E) (of : ℕ → Option X) (letter : X → ℕ) → ((b : ℕ) (x : X) → of b ≡ Some x → letter x ≡ b) → ((x : X) → of (letter x) ≡ Some x)
    → Codec (letter_at d e of) (λ x. letter x ∷ []) (λ _. Unit {0})
letter_codec {X} {E} d e of letter there back = record { takes = takes; again = again }
  where
    takes : (bytes : List ℕ) (x : X) (rest : List ℕ) → IsBytes bytes → letter_at d e of bytes ≡ Ok (x, rest) → Takes bytes (letter x ∷ []) rest × Unit {0}
    takes [] x rest fits is = absurd cc
    takes (b ∷ bytes) x rest fits is =
        let a = bind_ok (ok_or (of b) e) (λ x. Ok (x, bytes)) (x, rest) is in
        let spelled : letter a.0 ≡ b = there b a.0 (found_some (of b) e a.0 a.1) in
        let made : X × List ℕ = (a.0, bytes) in
        let P : X × List ℕ → Type 0 = λ y. Takes (b ∷ bytes) (letter y.0 ∷ []) y.1 × Unit {0} in
        subst P (ok_is E made (x, rest) a.2) (record { parts = rw spelled refl; rest_fits = IsBytes-rest b bytes fits }, tt)

    again : (x : X) (rest : List ℕ) → Unit {0} → letter_at d e of ((letter x ∷ []) ++ rest) ≡ Ok (x, rest)
    again x rest fits = rw (back x) refl

-- a number below a limit, as the length of a list
pub count_codec : {E : Type 0} {f : List ℕ → Result (ℕ × List ℕ) E} {t : ℕ → List ℕ} (limit wide : ℕ) (e : E) → Codec f t (λ n. n < wide) → limit ≤ wide
    → Codec (λ bytes. f bytes >>= λ n. cond (ltb n.0 limit) (Ok n) (Err e)) t (λ n. n < limit)
count_codec limit wide e c le = with_range (λ n. n < limit) (tested c (λ n. ltb n limit) e) (λ n fits. ltb-true n limit fits.1) (λ n fits. (omega arith, lt-ltb n limit fits))

-- two's complement
pub signed64 : {E : Type 0} (d : E) → Codec (λ bytes. ok_or (number_at w64 bytes) d >>= λ n. Ok (cast_signed w64 n.0, n.1)) (λ z. int64 (cast_unsigned w64 z)) (FitsSigned w64)
signed64 d = converted (number64 d) (cast_signed w64) (cast_unsigned w64) (FitsSigned w64)
    (λ n lt. sfits_to_z (record { fits = lt }))
    (λ z fits. Fits-lt-pow (Fits-of_z fits))
    (λ n lt. of_z-to_z w64 n lt)
    (λ z fits. to_z-of_z w64 z fits)

pub signed16 : {E : Type 0} (d : E) → Codec (λ bytes. ok_or (number_at w16 bytes) d >>= λ n. Ok (cast_signed w16 n.0, n.1)) (λ z. int16 (cast_unsigned w16 z)) (FitsSigned w16)
signed16 d = converted (number16 d) (cast_signed w16) (cast_unsigned w16) (FitsSigned w16)
    (λ n lt. sfits_to_z (record { fits = lt }))
    (λ z fits. Fits-lt-pow (Fits-of_z fits))
    (λ n lt. of_z-to_z w16 n lt)
    (λ z fits. to_z-of_z w16 z fits)

pub signed32 : {E : Type 0} (d : E) → Codec (λ bytes. ok_or (number_at w32 bytes) d >>= λ n. Ok (cast_signed w32 n.0, n.1)) (λ z. int32 (cast_unsigned w32 z)) (FitsSigned w32)
signed32 d = converted (number32 d) (cast_signed w32) (cast_unsigned w32) (FitsSigned w32)
    (λ n lt. sfits_to_z (record { fits = lt }))
    (λ z fits. Fits-lt-pow (Fits-of_z fits))
    (λ n lt. of_z-to_z w32 n lt)
    (λ z fits. to_z-of_z w32 z fits)
