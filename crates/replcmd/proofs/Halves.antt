-- Hexadecimal digits: their value is below what as many digits can write, none of them is a slash, and the digits of 32
-- bits are 8 at most.
use Rattle.std.proofs.Common.{◌≡◌, ◌≢◌, ℕ, zero, suc, ◌+◌, ◌*◌, ◌^◌, ◌/◌, ◌%◌, ◌≤◌, ◌<◌, Bool, true, false, cond, eqb, List, [], ◌∷◌, length, get_or, Option, Some, None, Result, Ok, Err, refl, sym, ap, subst, ◌∙◌, arith}
use Rattle.std.specs.Prelude.{IfOk, MatchOption}
use Rattle.std.specs.Borrow.{Bor}
use Rattle.std.specs.Option.{ok_or}
use Rattle.std.specs.Result.{result_ok}
use Rattle.std.proofs.lemmas.Str.Pattern.{IsSplitOnceResult, split_after}
use Rattle.std.proofs.lemmas.Str.Parse.{without_leading_plus_none}
use Rattle.std.specs.Str.Parse.{AllDigits, IsNumeral, ParsesUnsigned, without_leading_plus, digits_value, digits_value_after}
use Rattle.std.specs.Char.{digit_value}
use Rattle.std.specs.Fmt.{digits, digits_onto, digit_glyph}
use Rattle.std.proofs.lemmas.Bool.{eqb-false}
use Rattle.std.proofs.lemmas.Fmt.{digits_is_IsNumeral}
use Rattle.std.proofs.Math.Nat.{pow-succ', pow-le-pow_right, mul-le-mul_right}
use Rattle.replcmd.specs.Position.{IsHalf, SpellsPosition, position_text}

value_after : (n : ℕ) (ds : List ℕ) → AllDigits 16 ds → digits_value_after 16 n ds < (n + 1) * 16 ^ length ds
value_after n [] all = omega arith
value_after n (c ∷ cs) all =
    let rest = value_after (n * 16 + digit_value c) cs all.1 in
    let more : (n * 16 + digit_value c + 1) * 16 ^ length cs ≤ ((n + 1) * 16) * 16 ^ length cs = mul-le-mul_right (16 ^ length cs) (omega (arith, all.0)) in
    let power : 16 ^ suc (length cs) ≡ 16 * 16 ^ length cs = pow-succ' 16 (length cs) in
    rw power (grind (arith, rest, more))

pub half_small : (text : List ℕ) → IsHalf text → digits_value 16 text < 2 ^ 32
half_small text half =
    let below = value_after 0 text half.numeral.1 in
    let most : 16 ^ length text ≤ 16 ^ 8 = pow-le-pow_right {n = 16} (omega arith) half.short in
    omega arith

pub no_slash : (ds : List ℕ) → AllDigits 16 ds → (i : ℕ) → i < length ds → get_or ds i 0 ≢ 47
no_slash [] all i lt = absurd (omega arith)
no_slash (c ∷ cs) all zero lt = λ is. let P : ℕ → Type 0 = λ d. digit_value d < 16 in absurd (slash_is_none (subst P is all.0))
  where
    slash_is_none : digit_value 47 < 16 → ⊥
    slash_is_none lt = omega arith
no_slash (c ∷ cs) all (suc i) lt = no_slash cs all.1 i (omega arith)

length-onto : (k fuel n : ℕ) (acc : List ℕ) → 0 < k → k ≤ fuel → n < 16 ^ k → length (digits_onto fuel 16 true n acc) ≤ k + length acc
length-onto zero fuel n acc some le lt = absurd (omega arith)
length-onto (suc k) zero n acc some le lt = absurd (omega arith)
length-onto (suc k) (suc fuel) n acc some le lt = by_test (eqb (n / 16) 0) (λ is. eqb-false (n / 16) 0 is) (λ k_some less. length-onto k fuel (n / 16) (digit_glyph true (n % 16) ∷ acc) k_some (omega arith) less)
  where
    power : 16 ^ suc k ≡ 16 * 16 ^ k
    power = pow-succ' 16 k

    k_some : (j : ℕ) → n / 16 ≢ 0 → n / 16 < 16 ^ j → 0 < j
    k_some zero high less = absurd (omega (arith, high, less))
    k_some (suc j) high less = omega arith

    by_test : (b : Bool) → (b ≡ false → n / 16 ≢ 0) → (0 < k → n / 16 < 16 ^ k → length (digits_onto fuel 16 true (n / 16) (digit_glyph true (n % 16) ∷ acc)) ≤ k + suc (length acc))
        → length (cond b (digit_glyph true (n % 16) ∷ acc) (digits_onto fuel 16 true (n / 16) (digit_glyph true (n % 16) ∷ acc))) ≤ suc k + length acc
    by_test true differs inner = omega arith
    by_test false differs inner =
        let less : n / 16 < 16 ^ k = omega (arith, power) in
        let high : n / 16 ≢ 0 = differs refl in
        omega (arith, inner (k_some k high less) less)

pub printed_half : (n : ℕ) → n < 2 ^ 32 → IsHalf (digits 16 true n)
unfolding digits
printed_half n lt = record {
  numeral = (digits_is_IsNumeral 16 true (omega arith) (omega arith) n (omega arith)).0;
  short = length-onto 8 64 n [] (omega arith) (omega arith) (omega arith);
}

pub printed_is_read : (position : ℕ) → position < 2 ^ 64 → SpellsPosition (position_text position) position
printed_is_read position lt =
    let high : position / 2 ^ 32 < 2 ^ 32 = omega arith in
    let low : position % 2 ^ 32 < 2 ^ 32 = omega arith in
    record {
      upper = digits 16 true (position / 2 ^ 32);
      lower = digits 16 true (position % 2 ^ 32);
      parts = refl;
      is_upper = printed_half (position / 2 ^ 32) high;
      is_lower = printed_half (position % 2 ^ 32) low;
      value = rw ((digits_is_IsNumeral 16 true (omega arith) (omega arith) (position / 2 ^ 32) (omega arith)).1, (digits_is_IsNumeral 16 true (omega arith) (omega arith) (position % 2 ^ 32) (omega arith)).1) (omega arith);
    }

pub written_is_read : {S E : Type 0} (view : S → List ℕ) (r : Result S E) (position : ℕ) → position < 2 ^ 64 → IfOk r (λ s. view s ≡ position_text position) → IfOk r (λ s. SpellsPosition (view s) position)
written_is_read view (Ok s) position lt is = subst (λ (text : List ℕ). SpellsPosition text position) (sym is) (printed_is_read position lt)
written_is_read view (Err e) position lt is = tt

-- ---- what is read of a half

abbrev pub HalfRead : List ℕ → Option ℕ → Type 0
HalfRead text read = MatchOption read (¬ IsHalf text) (λ n. IsHalf text × (n ≡ digits_value 16 text))

no_plus : (text : List ℕ) → ((rest : List ℕ) → text ≢ 43 ∷ rest) → without_leading_plus text ≡ text
no_plus [] other = refl
no_plus (c ∷ cs) other = without_leading_plus_none (c ∷ cs) (λ is. other cs (ap (λ (b : ℕ). b ∷ cs) is))

pub half_parsed : {E : Type 0} (text : List ℕ) (r : Result ℕ E) (o : Option ℕ) → ParsesUnsigned 32 16 text r → ((rest : List ℕ) → text ≢ 43 ∷ rest) → length text ≤ 8 → o ≡ result_ok r → HalfRead text o
half_parsed text (Ok n) o parsed other short is =
    let same = no_plus text other in
    let value : n ≡ digits_value 16 text = parsed.1 ∙ ap (digits_value 16) same in
    subst (HalfRead text) (sym is) (record { numeral = subst (IsNumeral 16) same parsed.0.0; short = short }, value)
half_parsed text (Err e) o parsed other short is =
    let same = sym (no_plus text other) in
    let none : ¬ IsHalf text = λ half. parsed (subst (IsNumeral 16) same half.numeral, subst (λ (t : List ℕ). digits_value 16 t < 2 ^ 32) same (half_small text half)) in
    subst (HalfRead text) (sym is) none

pub not_half : (text half : List ℕ) (o : Option ℕ) → HalfRead text o → o ≡ None → text ≡ half → IsHalf half → ⊥
not_half text half o read is same is_half =
    let none : ¬ IsHalf text = subst (HalfRead text) is read in
    none (subst IsHalf (sym same) is_half)

pub half_is : (text half : List ℕ) (o : Option ℕ) (n : ℕ) → HalfRead text o → o ≡ Some n → text ≡ half → n ≡ digits_value 16 half
half_is text half o n read is same =
    let there : HalfRead text (Some n) = subst (HalfRead text) is read in
    there.1 ∙ ap (digits_value 16) same

-- ---- where a text is cut

pub refused : {A E : Type 0} (o : Option A) (d e : E) → Err e ≡ ok_or o d → o ≡ None
refused None d e is = refl
refused (Some x) d e is = absurd cc

pub no_slash_there : (text : List ℕ) (r : Option (Bor (List ℕ) × Bor (List ℕ))) → IsSplitOnceResult 47 text r → r ≡ None → (n : ℕ) → SpellsPosition text n → ⊥
no_slash_there text r cut is n spells =
    let there = split_after 47 text spells.upper spells.lower r cut (omega arith) spells.parts (no_slash spells.upper spells.is_upper.numeral.1) in
    let P : Option (Bor (List ℕ) × Bor (List ℕ)) → Type 0 = λ o. MatchOption o ⊥ (λ x. (x.0.now ≡ spells.upper) × (x.1.now ≡ spells.lower)) in
    subst P is there

pub halves_are : (text : List ℕ) (r : Option (Bor (List ℕ) × Bor (List ℕ))) (x : Bor (List ℕ) × Bor (List ℕ)) → IsSplitOnceResult 47 text r → r ≡ Some x → (n : ℕ) (spells : SpellsPosition text n)
    → (x.0.now ≡ spells.upper) × (x.1.now ≡ spells.lower)
halves_are text r x cut is n spells =
    let there = split_after 47 text spells.upper spells.lower r cut (omega arith) spells.parts (no_slash spells.upper spells.is_upper.numeral.1) in
    let P : Option (Bor (List ℕ) × Bor (List ℕ)) → Type 0 = λ o. MatchOption o ⊥ (λ x. (x.0.now ≡ spells.upper) × (x.1.now ≡ spells.lower)) in
    subst P is there
