-- A Commit's line is read again.
use Rattle.std.proofs.Common.{◌≡◌, ◌≢◌, ℕ, ℤ, zero, suc, ◌<◌, ◌^◌, List, [], ◌∷◌, ◌++◌, Option, Some, None, length, get_or, refl, sym, ap, subst, ◌∙◌, arith}
use Rattle.std.proofs.lemmas.List.{append-nil, append_cancel_left, append_cancel_right}
use Rattle.std.specs.Prelude.{codes, IfSome}
use Rattle.std.specs.Borrow.{Bor}
use Rattle.std.proofs.lemmas.Str.Pattern.{IsSplitOnceResult, split_parts}
use Rattle.std.specs.Char.{digit_value}
use Rattle.std.specs.Fmt.{signed_decimal}
use Rattle.std.specs.Str.Parse.{AllDigits}
use Rattle.replcmd.specs.Position.{SpellsPosition, position_text}
use Rattle.replcmd.proofs.Halves.{printed_is_read}
use Rattle.follower.specs.TextLines.{HasNoBlank}
use Rattle.message_lines.specs.Texts.{commit_text}

no_blank : (c : ℕ) → digit_value c < 16 → c ≢ 32
no_blank c digit = λ is. absurd (blank_is_none (subst (λ (d : ℕ). digit_value d < 16) is digit))
  where
    blank_is_none : digit_value 32 < 16 → ⊥
    blank_is_none lt = omega arith

in_digits : (ds rest : List ℕ) → AllDigits 16 ds → HasNoBlank rest → HasNoBlank (ds ++ rest)
in_digits [] rest all none = none
in_digits (c ∷ ds) rest all none = by (in_digits ds rest all.1 none)
  where
    by : HasNoBlank (ds ++ rest) → HasNoBlank (c ∷ (ds ++ rest))
    by more zero lt = no_blank c all.0
    by more (suc i) lt = more i (omega (arith, lt))

in_nothing : HasNoBlank []
in_nothing i lt = absurd (omega (arith, lt))

in_slash : (rest : List ℕ) → HasNoBlank rest → HasNoBlank (47 ∷ rest)
in_slash rest none zero lt = λ is. absurd (omega (arith, is))
in_slash rest none (suc i) lt = none i (omega (arith, lt))

in_position : (text : List ℕ) (n : ℕ) → SpellsPosition text n → HasNoBlank text
in_position text n spells =
    let lower : HasNoBlank (spells.lower ++ []) = in_digits spells.lower [] spells.is_lower.numeral.1 in_nothing in
    let whole = in_digits spells.upper (47 ∷ (spells.lower ++ [])) spells.is_upper.numeral.1 (in_slash (spells.lower ++ []) lower) in
    subst HasNoBlank (ap (λ (l : List ℕ). spells.upper ++ (47 ∷ l)) (append-nil spells.lower) ∙ sym spells.parts) whole

pub parted : (a b x y : List ℕ) → HasNoBlank a → HasNoBlank x → a ++ (32 ∷ b) ≡ x ++ (32 ∷ y) → (a ≡ x) × (b ≡ y)
parted [] b [] y p q is = (refl, cc)
parted [] b (c ∷ x) y p q is = absurd (q 0 (omega arith) (let same : c ≡ 32 = cc in same))
parted (c ∷ a) b [] y p q is = absurd (p 0 (omega arith) (let same : c ≡ 32 = cc in same))
parted (c ∷ a) b (d ∷ x) y p q is =
    let head : c ≡ d = cc in
    let tail : a ++ (32 ∷ b) ≡ x ++ (32 ∷ y) = cc in
    let same = parted a b x y (λ i lt. p (suc i) (omega (arith, lt))) (λ i lt. q (suc i) (omega (arith, lt))) tail in
    (rw (head, same.0) refl, same.1)

-- ---- Where a text is parted.

at_blank : (front rest : List ℕ) → (length front < length (front ++ (32 ∷ rest))) × (get_or (front ++ (32 ∷ rest)) (length front) 0 ≡ 32)
at_blank [] rest = (omega arith, refl)
at_blank (c ∷ front) rest = let more = at_blank front rest in (omega (arith, more.0), more.1)

pub none_before : (bs : List ℕ) (r : Option (Bor (List ℕ) × Bor (List ℕ))) → IsSplitOnceResult 32 bs r → IfSome r (λ both. HasNoBlank both.0.now)
none_before bs None h = tt
none_before bs (Some x) h = (split_parts 32 bs (Some x) h (omega arith)).1

pub parts_if_any : (bs : List ℕ) (r : Option (Bor (List ℕ) × Bor (List ℕ))) → IsSplitOnceResult 32 bs r → r ≡ None → (front rest : List ℕ) → bs ≡ front ++ (32 ∷ rest) → ⊥
parts_if_any bs None h is front rest e =
    let blank = at_blank front rest in
    split_parts 32 bs None h (omega arith) (length front) (subst (λ (l : List ℕ). length front < length l) (sym e) blank.0) (ap (λ (l : List ℕ). get_or l (length front) 0) e ∙ blank.1)
parts_if_any bs (Some x) h is front rest e = absurd cc

-- ---- A Commit's.

abbrev numbers_of : (start end : ℕ) → ℤ → List ℕ
numbers_of start end time = position_text start ++ (32 ∷ (position_text end ++ (32 ∷ signed_decimal time)))

pub text_is : (line whole text : List ℕ) → line ≡ whole ++ (10 ∷ []) → line ≡ text ++ (10 ∷ []) → whole ≡ text
text_is line whole text p q = append_cancel_right whole text (10 ∷ []) (sym p ∙ q)

pub numbers_are : (line whole numbers : List ℕ) (start end : ℕ) (time : ℤ) → line ≡ whole ++ (10 ∷ []) → whole ≡ codes "COMMIT " ++ numbers → line ≡ commit_text start end time ++ (10 ∷ []) → numbers ≡ numbers_of start end time
numbers_are line whole numbers start end time p q is = append_cancel_left (codes "COMMIT ") numbers (numbers_of start end time) (sym q ∙ text_is line whole (commit_text start end time) p is)

pub first_is : (text front rest more : List ℕ) (position : ℕ) → position < 2 ^ 64 → text ≡ front ++ (32 ∷ rest) → HasNoBlank front → text ≡ position_text position ++ (32 ∷ more) → (front ≡ position_text position) × (rest ≡ more)
first_is text front rest more position lt parts none is = parted front rest (position_text position) more none (in_position (position_text position) position (printed_is_read position lt)) (sym parts ∙ is)

pub spells : (text : List ℕ) (position : ℕ) → position < 2 ^ 64 → text ≡ position_text position → SpellsPosition text position
spells text position lt is = subst (λ (l : List ℕ). SpellsPosition l position) (sym is) (printed_is_read position lt)
