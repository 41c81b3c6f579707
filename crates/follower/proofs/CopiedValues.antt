-- A value that COPY tells is read as it was.
use Rattle.std.proofs.Common.{◌≡◌, ◌==◌, ◌<◌, ◌+◌, zero, suc, ℕ, Bool, true, false, cond, List, [], ◌∷◌, ◌++◌, Option, Some, None, append_assoc, drop, get_or, length, refl, sym, ap, subst, ◌∙◌, arith}
use Rattle.std.specs.List.{flat_map}
use Rattle.std.proofs.lemmas.Bool.{eq-eqb, eqb-true, ne_eqb}
use Rattle.pgoutput.specs.declared.parts.tuple.Cell.TheVariants as cells
use Rattle.follower.specs.CopiedRows.{cell_of, escaped, escaped_byte, field_of, meant_by}

-- what is left to be read of a value, after a backslash or not
abbrev pub told : Bool → List ℕ → List ℕ
told is_escaped [] = []
told true (b ∷ bs) = meant_by b ∷ told false bs
told false (b ∷ bs) = cond (b == 92) (told true bs) (b ∷ told false bs)

module _ (b : ℕ) (rest : List ℕ) where
  abbrev sixth : Bool → List ℕ
  sixth t = cond t (92 ∷ 114 ∷ []) (b ∷ [])

  abbrev fifth : Bool → List ℕ
  fifth t = cond t (92 ∷ 102 ∷ []) (sixth (b == 13))

  abbrev fourth : Bool → List ℕ
  fourth t = cond t (92 ∷ 118 ∷ []) (fifth (b == 12))

  abbrev third : Bool → List ℕ
  third t = cond t (92 ∷ 110 ∷ []) (fourth (b == 11))

  abbrev second : Bool → List ℕ
  second t = cond t (92 ∷ 116 ∷ []) (third (b == 10))

  abbrev first : Bool → List ℕ
  first t = cond t (92 ∷ 98 ∷ []) (second (b == 9))

  plain : (b == 92) ≡ false → told false (b ∷ rest) ≡ b ∷ told false rest
  plain other = ap (λ t. cond t (told true rest) (b ∷ told false rest)) other

  named : (letter : ℕ) → b ≡ meant_by letter → told false ((92 ∷ letter ∷ []) ++ rest) ≡ b ∷ told false rest
  named letter is = ap (λ n. n ∷ told false rest) (sym is)

  by_sixth : (b == 92) ≡ false → (t : Bool) → (b == 13) ≡ t → told false (sixth t ++ rest) ≡ b ∷ told false rest
  by_sixth other true at = named 114 (eqb-true b 13 at)
  by_sixth other false at = plain other

  by_fifth : (b == 92) ≡ false → (t : Bool) → (b == 12) ≡ t → told false (fifth t ++ rest) ≡ b ∷ told false rest
  by_fifth other true at = named 102 (eqb-true b 12 at)
  by_fifth other false at = by_sixth other (b == 13) refl

  by_fourth : (b == 92) ≡ false → (t : Bool) → (b == 11) ≡ t → told false (fourth t ++ rest) ≡ b ∷ told false rest
  by_fourth other true at = named 118 (eqb-true b 11 at)
  by_fourth other false at = by_fifth other (b == 12) refl

  by_third : (b == 92) ≡ false → (t : Bool) → (b == 10) ≡ t → told false (third t ++ rest) ≡ b ∷ told false rest
  by_third other true at = named 110 (eqb-true b 10 at)
  by_third other false at = by_fourth other (b == 11) refl

  by_second : (b == 92) ≡ false → (t : Bool) → (b == 9) ≡ t → told false (second t ++ rest) ≡ b ∷ told false rest
  by_second other true at = named 116 (eqb-true b 9 at)
  by_second other false at = by_third other (b == 10) refl

  by_first : (b == 92) ≡ false → (t : Bool) → (b == 8) ≡ t → told false (first t ++ rest) ≡ b ∷ told false rest
  by_first other true at = named 98 (eqb-true b 8 at)
  by_first other false at = by_second other (b == 9) refl

  by_backslash : (t : Bool) → (b == 92) ≡ t → told false (cond t (92 ∷ 92 ∷ []) (first (b == 8)) ++ rest) ≡ b ∷ told false rest
  by_backslash true at = named 92 (eqb-true b 92 at)
  by_backslash false at = by_first at (b == 8) refl

  byte_told : told false (escaped_byte b ++ rest) ≡ b ∷ told false rest
  byte_told = by_backslash (b == 92) refl

pub value_told : (bytes : List ℕ) → told false (escaped bytes) ≡ bytes
value_told [] = refl
value_told (b ∷ bytes) = byte_told b (flat_map escaped_byte bytes) ∙ ap (λ l. b ∷ l) (value_told bytes)

-- a value never stands as a null does
pub no_null : (bytes : List ℕ) → escaped bytes ≡ field_of None → ⊥
no_null bytes is =
    let same : bytes ≡ 78 ∷ [] = sym (value_told bytes) ∙ ap (told false) is in
    let never : ◌≡◌ {A = List ℕ} (78 ∷ []) (92 ∷ 78 ∷ []) = subst (λ (l : List ℕ). escaped l ≡ field_of None) same is in
    cc

-- what stands as a null does is one
pub null_told : (field : List ℕ) (value : Option (List ℕ)) → field ≡ field_of None → field ≡ field_of value → cells.Null ≡ cell_of value
null_told field None at is = refl
null_told field (Some bytes) at is = absurd (no_null bytes (sym is ∙ at))

pub nothing_told : (b : Bool) → told b [] ≡ []
nothing_told true = refl
nothing_told false = refl

-- what is left from the next byte on
pub next_left : (i : ℕ) (l : List ℕ) (x : ℕ) → i < length l → drop i l ≡ get_or l i x ∷ drop (i + 1) l
next_left i [] x low = absurd (omega (arith, low))
next_left zero (y ∷ l) x low = refl
next_left (suc i) (y ∷ l) x low =
    let next : suc i + 1 ≡ suc (i + 1) = omega arith in
    next_left i l x (omega (arith, low)) ∙ ap (λ n. get_or l i x ∷ drop n (y ∷ l)) (sym next)

module _ (before : List ℕ) (l : List ℕ) (i : ℕ) (low : i < length l) (is_escaped : Bool) (kept : before ++ told is_escaped (drop i l) ≡ told false l) where
  abbrev b : ℕ
  b = get_or l i 0

  abbrev rest : List ℕ
  rest = drop (i + 1) l

  -- the next byte, after a backslash or not
  next_is : (t : Bool) → is_escaped ≡ t → before ++ told t (b ∷ rest) ≡ told false l
  next_is t is = ap (λ u. before ++ told u (b ∷ rest)) (sym is) ∙ ap (λ r. before ++ told is_escaped r) (sym (next_left i l 0 low)) ∙ kept

  added : (m : ℕ) (after : List ℕ) → after ≡ before ++ m ∷ [] → before ++ (m ∷ told false rest) ≡ told false l → after ++ told false rest ≡ told false l
  added m after is whole = ap (λ a. a ++ told false rest) is ∙ append_assoc before (m ∷ []) (told false rest) ∙ whole

  pub escaped_added : (m : ℕ) (after : List ℕ) → is_escaped ≡ true → m ≡ meant_by b → after ≡ before ++ m ∷ [] → after ++ told false rest ≡ told false l
  escaped_added m after is means adds = added m after adds (ap (λ n. before ++ (n ∷ told false rest)) means ∙ next_is true is)

  pub plain_added : (after : List ℕ) → is_escaped ≡ false → (b ≡ 92 → ⊥) → after ≡ before ++ b ∷ [] → after ++ told false rest ≡ told false l
  plain_added after is other adds = added b after adds (ap (λ t. before ++ cond t (told true rest) (b ∷ told false rest)) (sym (ne_eqb b 92 other)) ∙ next_is false is)

  pub backslash_passed : is_escaped ≡ false → b ≡ 92 → before ++ told true rest ≡ told false l
  backslash_passed is at = ap (λ t. before ++ cond t (told true rest) (b ∷ told false rest)) (sym (eq-eqb b 92 at)) ∙ next_is false is
