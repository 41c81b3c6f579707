-- The position that is read of a text is the one that it spells.
use Rattle.std.proofs.Common.{◌≡◌, ℕ, ◌<◌, ◌+◌, ◌*◌, ◌^◌, Bool, true, false, cond, eqb, List, [], ◌∷◌, ◌++◌, length, Option, Some, None, Result, Ok, Err, refl, sym, ap, subst, ◌∙◌, arith}
use Rattle.std.specs.Prelude.{IfOk, ◌&&◌, nat_lt}
use Rattle.std.specs.Option.{option_map}
use Rattle.std.specs.Result.{result_ok}
use Rattle.std.specs.List.{list_all}
use Rattle.std.specs.Char.{digit_value}
use Rattle.std.specs.Str.Parse.{AllDigits, digits_value}
use Rattle.std.proofs.lemmas.Bool.{ltb-true, lt-ltb, leb-true, le-leb, eqb-true, ne_eqb, and_parts, and_from}
use Rattle.replcmd.specs.declared.fault.CmdFault.{CmdFault}
use Rattle.replcmd.specs.Position.{IsHalf, SpellsPosition}
use Rattle.replcmd.specs.Reading.{halves_of, is_half, position_of}

abbrev two : List ℕ → List ℕ → List ℕ × List ℕ
two a b = (a, b)

abbrev halves : List ℕ → List ℕ → Option (List ℕ × List ℕ)
halves a b = Some (a, b)

-- ---- where the text is cut

all_digits : (text : List ℕ) → list_all (λ b. nat_lt (digit_value b) 16) text ≡ true → AllDigits 16 text
all_digits [] is = tt
all_digits (b ∷ bytes) is =
    let both = and_parts (nat_lt (digit_value b) 16) (list_all (λ b. nat_lt (digit_value b) 16) bytes) is in
    (ltb-true (digit_value b) 16 both.0, all_digits bytes both.1)

digits_all : (text : List ℕ) → AllDigits 16 text → list_all (λ b. nat_lt (digit_value b) 16) text ≡ true
digits_all [] all = refl
digits_all (b ∷ bytes) all = and_from (nat_lt (digit_value b) 16) (list_all (λ b. nat_lt (digit_value b) 16) bytes) (lt-ltb (digit_value b) 16 all.0) (digits_all bytes all.1)

half_is : (text : List ℕ) → is_half text ≡ true → IsHalf text
half_is text is =
    let outer = and_parts (nat_lt 0 (length text)) _ is in
    let inner = and_parts _ (list_all (λ b. nat_lt (digit_value b) 16) text) outer.1 in
    record { numeral = (ltb-true 0 (length text) outer.0, all_digits text inner.1); short = leb-true (length text) 8 inner.0 }

is_a_half : (text : List ℕ) → IsHalf text → is_half text ≡ true
is_a_half text half =
    and_from (nat_lt 0 (length text)) _ (lt-ltb 0 (length text) half.numeral.0)
    (and_from _ (list_all (λ b. nat_lt (digit_value b) 16) text) (le-leb (length text) 8 half.short) (digits_all text half.numeral.1))

halves_take : (text a b : List ℕ) → halves_of text ≡ halves a b → text ≡ a ++ (47 ∷ b)
halves_take [] a b e = absurd cc
halves_take (c ∷ bytes) a b e = by_test (eqb c 47) (λ is. eqb-true c 47 is) (halves_of bytes) (λ x y is. halves_take bytes x y is) e
  where
    by_test : (t : Bool) → (t ≡ true → c ≡ 47) → (o : Option (List ℕ × List ℕ)) → ((x y : List ℕ) → o ≡ halves x y → bytes ≡ x ++ (47 ∷ y))
        → cond t (halves [] bytes) (option_map (λ halves. (c ∷ halves.0, halves.1)) o) ≡ halves a b → c ∷ bytes ≡ a ++ (47 ∷ b)
    by_test true same o inner e =
        let both : two [] bytes ≡ two a b = cc in
        let P : List ℕ × List ℕ → Type 0 = λ x. c ∷ bytes ≡ x.0 ++ (47 ∷ x.1) in
        subst P both (ap (λ (d : ℕ). d ∷ bytes) (same refl))
    by_test false same None inner e = absurd cc
    by_test false same (Some x) inner e =
        let both : two (c ∷ x.0) x.1 ≡ two a b = cc in
        let P : List ℕ × List ℕ → Type 0 = λ y. c ∷ bytes ≡ y.0 ++ (47 ∷ y.1) in
        subst P both (ap (λ (l : List ℕ). c ∷ l) (inner x.0 x.1 refl))

no_slash : (c : ℕ) → digit_value c < 16 → eqb c 47 ≡ false
no_slash c digit = ne_eqb c 47 (λ is. let P : ℕ → Type 0 = λ d. digit_value d < 16 in absurd (slash_is_none (subst P is digit)))
  where
    slash_is_none : digit_value 47 < 16 → ⊥
    slash_is_none lt = omega arith

halves_again : (a b : List ℕ) → AllDigits 16 a → halves_of (a ++ (47 ∷ b)) ≡ halves a b
halves_again [] b all = refl
halves_again (c ∷ a) b all = rw (no_slash c all.0, halves_again a b all.1) refl

-- ---- positions

abbrev whole : List ℕ → List ℕ → Option ℕ
whole a b = cond (is_half a && is_half b) (Some (digits_value 16 a * 2 ^ 32 + digits_value 16 b)) None

pub position_again : (text : List ℕ) (n : ℕ) → SpellsPosition text n → position_of text ≡ Some n
unfolding position_of
position_again text n spells =
    let cut : halves_of text ≡ halves spells.upper spells.lower = ap halves_of spells.parts ∙ halves_again spells.upper spells.lower spells.is_upper.numeral.1 in
    rw (cut, is_a_half spells.upper spells.is_upper, is_a_half spells.lower spells.is_lower, spells.value) refl

pub position_takes : (text : List ℕ) (n : ℕ) → position_of text ≡ Some n → SpellsPosition text n
unfolding position_of
position_takes text n e = by_cut (halves_of text) refl e
  where
    by_halves : (a b : List ℕ) → text ≡ a ++ (47 ∷ b) → (t : Bool) → (is_half a && is_half b) ≡ t
        → cond t (Some (digits_value 16 a * 2 ^ 32 + digits_value 16 b)) None ≡ Some n → SpellsPosition text n
    by_halves a b parts true is e =
        let both = and_parts (is_half a) (is_half b) is in
        let value : digits_value 16 a * 2 ^ 32 + digits_value 16 b ≡ n = cc in
        record { upper = a; lower = b; parts = parts; is_upper = half_is a both.0; is_lower = half_is b both.1; value = sym value }
    by_halves a b parts false is e = absurd cc

    by_cut : (o : Option (List ℕ × List ℕ)) → halves_of text ≡ o → Rattle.std.specs.Option.option_and_then (λ halves. whole halves.0 halves.1) o ≡ Some n → SpellsPosition text n
    by_cut None is e = absurd cc
    by_cut (Some x) is e = by_halves x.0 x.1 (halves_take text x.0 x.1 is) (is_half x.0 && is_half x.1) refl e

pub position_told : (text : List ℕ) (r : Result ℕ CmdFault) → IfOk r (λ n. SpellsPosition text n) → ((n : ℕ) → SpellsPosition text n → r ≡ Ok n) → result_ok r ≡ position_of text
position_told text (Ok n) found only = sym (position_again text n found)
position_told text (Err e) found only = by_position (position_of text) refl
  where
    by_position : (o : Option ℕ) → position_of text ≡ o → None ≡ o
    by_position None is = refl
    by_position (Some n) is = absurd (let no = only n (position_takes text n is) in cc)
