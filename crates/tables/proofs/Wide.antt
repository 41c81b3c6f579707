-- Numbers of sixteen bytes, the highest first: those that are written are those that were read.
use Rattle.std.proofs.Common.{◌≡◌, ℕ, zero, suc, ◌+◌, ◌*◌, ◌/◌, ◌%◌, ◌^◌, ◌<◌, List, [], ◌∷◌, length, get_or, refl, sym, ap, ◌∙◌, arith}
use Rattle.std.specs.Int.{w128, from_be_bytes, to_be_bytes}
use Rattle.std.proofs.lemmas.Nat.{div-mul-add, mod-mul-add}
use Rattle.pqformat.proofs.Codec.{IsBytes}
use Rattle.pqformat.proofs.Numbers.{IsWide}
use Rattle.uuid.proofs.OrderLemmas.{from_be_bytes-to_be_bytes_16}
use native.Mathlib.Nat as nat

-- the number that the bytes up to this place are
abbrev digits : List ℕ → ℕ → ℕ
digits bytes zero = get_or bytes 0 0
digits bytes (suc i) = digits bytes i * 256 + get_or bytes (suc i) 0

at_place : (n p high b : ℕ) → b < 256 → n / p ≡ high * 256 + b → (n / p % 256 ≡ b) × (n / (p * 256) ≡ high)
at_place n p high b small is =
    (ap (λ m. m % 256) is ∙ mod-mul-add high 256 b small, sym (nat.div-div-eq-div-mul n p 256) ∙ ap (λ m. m / 256) is ∙ div-mul-add high 256 b small)

written : (bytes : List ℕ) → length bytes ≡ 16 → get_or bytes 0 0 ∷ get_or bytes 1 0 ∷ get_or bytes 2 0 ∷ get_or bytes 3 0 ∷ get_or bytes 4 0 ∷ get_or bytes 5 0 ∷ get_or bytes 6 0 ∷ get_or bytes 7 0 ∷ get_or bytes 8 0 ∷ get_or bytes 9 0 ∷ get_or bytes 10 0 ∷ get_or bytes 11 0 ∷ get_or bytes 12 0 ∷ get_or bytes 13 0 ∷ get_or bytes 14 0 ∷ get_or bytes 15 0 ∷ [] ≡ bytes
written [] len = absurd (omega arith)
written (a ∷ []) len = absurd (omega arith)
written (a ∷ b ∷ []) len = absurd (omega arith)
written (a ∷ b ∷ c ∷ []) len = absurd (omega arith)
written (a ∷ b ∷ c ∷ d ∷ []) len = absurd (omega arith)
written (a ∷ b ∷ c ∷ d ∷ e ∷ []) len = absurd (omega arith)
written (a ∷ b ∷ c ∷ d ∷ e ∷ f ∷ []) len = absurd (omega arith)
written (a ∷ b ∷ c ∷ d ∷ e ∷ f ∷ g ∷ []) len = absurd (omega arith)
written (a ∷ b ∷ c ∷ d ∷ e ∷ f ∷ g ∷ h ∷ []) len = absurd (omega arith)
written (a ∷ b ∷ c ∷ d ∷ e ∷ f ∷ g ∷ h ∷ i ∷ []) len = absurd (omega arith)
written (a ∷ b ∷ c ∷ d ∷ e ∷ f ∷ g ∷ h ∷ i ∷ j ∷ []) len = absurd (omega arith)
written (a ∷ b ∷ c ∷ d ∷ e ∷ f ∷ g ∷ h ∷ i ∷ j ∷ k ∷ []) len = absurd (omega arith)
written (a ∷ b ∷ c ∷ d ∷ e ∷ f ∷ g ∷ h ∷ i ∷ j ∷ k ∷ l ∷ []) len = absurd (omega arith)
written (a ∷ b ∷ c ∷ d ∷ e ∷ f ∷ g ∷ h ∷ i ∷ j ∷ k ∷ l ∷ m ∷ []) len = absurd (omega arith)
written (a ∷ b ∷ c ∷ d ∷ e ∷ f ∷ g ∷ h ∷ i ∷ j ∷ k ∷ l ∷ m ∷ n ∷ []) len = absurd (omega arith)
written (a ∷ b ∷ c ∷ d ∷ e ∷ f ∷ g ∷ h ∷ i ∷ j ∷ k ∷ l ∷ m ∷ n ∷ o ∷ []) len = absurd (omega arith)
written (a ∷ b ∷ c ∷ d ∷ e ∷ f ∷ g ∷ h ∷ i ∷ j ∷ k ∷ l ∷ m ∷ n ∷ o ∷ p ∷ []) len = refl
written (a ∷ b ∷ c ∷ d ∷ e ∷ f ∷ g ∷ h ∷ i ∷ j ∷ k ∷ l ∷ m ∷ n ∷ o ∷ p ∷ q ∷ bytes) len = absurd (omega arith)

back : (bytes : List ℕ) → length bytes ≡ 16 → IsBytes bytes → (n : ℕ) → n ≡ digits bytes 15 → to_be_bytes w128 n ≡ bytes
back bytes len small n is =
    let last : n % 256 ≡ get_or bytes 15 0 = ap (λ m. m % 256) is ∙ mod-mul-add (digits bytes 14) 256 (get_or bytes 15 0) (small 15) in
    let above : n / 256 ≡ digits bytes 14 = ap (λ m. m / 256) is ∙ div-mul-add (digits bytes 14) 256 (get_or bytes 15 0) (small 15) in
    let at_14 = at_place n (256 ^ 1) (digits bytes 13) (get_or bytes 14 0) (small 14) above in
    let at_13 = at_place n (256 ^ 2) (digits bytes 12) (get_or bytes 13 0) (small 13) at_14.1 in
    let at_12 = at_place n (256 ^ 3) (digits bytes 11) (get_or bytes 12 0) (small 12) at_13.1 in
    let at_11 = at_place n (256 ^ 4) (digits bytes 10) (get_or bytes 11 0) (small 11) at_12.1 in
    let at_10 = at_place n (256 ^ 5) (digits bytes 9) (get_or bytes 10 0) (small 10) at_11.1 in
    let at_9 = at_place n (256 ^ 6) (digits bytes 8) (get_or bytes 9 0) (small 9) at_10.1 in
    let at_8 = at_place n (256 ^ 7) (digits bytes 7) (get_or bytes 8 0) (small 8) at_9.1 in
    let at_7 = at_place n (256 ^ 8) (digits bytes 6) (get_or bytes 7 0) (small 7) at_8.1 in
    let at_6 = at_place n (256 ^ 9) (digits bytes 5) (get_or bytes 6 0) (small 6) at_7.1 in
    let at_5 = at_place n (256 ^ 10) (digits bytes 4) (get_or bytes 5 0) (small 5) at_6.1 in
    let at_4 = at_place n (256 ^ 11) (digits bytes 3) (get_or bytes 4 0) (small 4) at_5.1 in
    let at_3 = at_place n (256 ^ 12) (digits bytes 2) (get_or bytes 3 0) (small 3) at_4.1 in
    let at_2 = at_place n (256 ^ 13) (digits bytes 1) (get_or bytes 2 0) (small 2) at_3.1 in
    let at_1 = at_place n (256 ^ 14) (digits bytes 0) (get_or bytes 1 0) (small 1) at_2.1 in
    let first : n / 256 ^ 15 % 256 ≡ get_or bytes 0 0 = ap (λ m. m % 256) at_1.1 ∙ omega (arith, small 0) in
    (λ i. first i ∷ at_1.0 i ∷ at_2.0 i ∷ at_3.0 i ∷ at_4.0 i ∷ at_5.0 i ∷ at_6.0 i ∷ at_7.0 i ∷ at_8.0 i ∷ at_9.0 i ∷ at_10.0 i ∷ at_11.0 i ∷ at_12.0 i ∷ at_13.0 i ∷ at_14.0 i ∷ last i ∷ []) ∙ written bytes len

pub wide128 : IsWide w128 (2 ^ 128)
wide128 = record {
  len = λ n. refl;
  back = λ bytes len fits. back bytes len fits (from_be_bytes w128 bytes) (omega arith);
  again = λ n lt. from_be_bytes-to_be_bytes_16 n lt;
  below = λ bytes fits. omega (arith, fits 0, fits 1, fits 2, fits 3, fits 4, fits 5, fits 6, fits 7, fits 8, fits 9, fits 10, fits 11, fits 12, fits 13, fits 14, fits 15);
}
