-- Where a fault stands in a list, and in what is chosen by its first byte.
use Rattle.std.proofs.Common.{◌≡◌, ℕ, zero, suc, Bool, true, false, cond, eqb, List, [], ◌∷◌, ◌++◌, length, Result, Ok, Err, refl, sym, ap, subst, ◌∙◌, arith, inl, inr}
use Rattle.std.specs.Prelude.{◌⊎◌, ◌||◌, ◌==◌}
use Rattle.std.specs.List.{flat_map, list_any, AllByRecursion}
use Rattle.std.proofs.Math.ListN.{replicate}
use Rattle.std.proofs.lemmas.Bool.{eqb-true}
use Rattle.std.proofs.lemmas.List.{length-replicate}
use Rattle.std.proofs.lemmas.List.Concat.{flat_map-cons}
use Rattle.pqformat.specs.Steps.{◌>>=◌, repeat_at}
use Rattle.pqformat.proofs.Codec.{IsBytes, IsBytes-rest}
use Rattle.pgoutput.specs.declared.fault.PgoutputError.{PgoutputError}
use Rattle.pgoutput.specs.declared.fault.PgoutputError.TheVariants.{Short, UnknownKind, BadMark, BadText, Trailing, Memory}
use Rattle.pgoutput.specs.Layout.{Field, spell_field, spell_fields, IsAtFault, Stops}
use Rattle.pgoutput.specs.Layout.Field.{Letter}
use Rattle.pgoutput.proofs.Engine as engine
use Rattle.pgoutput.proofs.Engine.{Wire, bind_err, by_first}
use Rattle.pgoutput.proofs.Stopping.{Told, InRange, parted, none_in, spell-append, spell-cons, with_after, with_front, after_front}

-- ---- n of them, one after the other

all_same : {A : Type 0} (F : A → Type 0) (x : A) (n : ℕ) → F x → AllByRecursion F (replicate n x)
all_same F x zero fits = tt
all_same F x (suc n) fits = (fits, all_same F x n fits)

spelled_list : {A : Type 0} (t : A → List ℕ) (fa : A → List Field) → ((x : A) → spell_fields (fa x) ≡ t x) → (xs : List A) → spell_fields (flat_map fa xs) ≡ flat_map t xs
spelled_list t fa spelled [] = refl
spelled_list t fa spelled (x ∷ xs) =
    ap spell_fields (flat_map-cons fa x xs) ∙ spell-append (fa x) (flat_map fa xs) ∙ ap (λ l. l ++ spell_fields (flat_map fa xs)) (spelled x)
    ∙ ap (λ l. t x ++ l) (spelled_list t fa spelled xs) ∙ sym (flat_map-cons t x xs)

abbrev Listed : {A : Type 0} → (A → Type 0) → ℕ → List A → Type 0
Listed F n xs = (length xs ≡ n) × AllByRecursion F xs

list_stops : {A : Type 0} {read : List ℕ → Result (A × List ℕ) PgoutputError} {t : A → List ℕ} {F : A → Type 0} {fa : A → List Field} (c : Told read t F fa) (n : ℕ) (bytes : List ℕ) (e : PgoutputError)
    → IsBytes bytes → repeat_at read n bytes ≡ Err e → Stops (flat_map fa) (Listed F n) e bytes
unfolding repeat_at
list_stops c zero bytes e fits is = absurd cc
list_stops {A} {read} {t} {F} {fa} c (suc n) bytes e fits is =
    elim (bind_err (read bytes) (λ first. repeat_at read n first.1 >>= λ others. Ok (first.0 ∷ others.0, others.1)) e is) [
      | inl first ↦
          let s = c.stops bytes e fits first in
          let others = replicate n c.some.value in
          with_after s (s.value ∷ others) (flat_map fa others) (ap suc (length-replicate n c.some.value), (s.in_range, all_same F c.some.value n c.some.fits)) (flat_map-cons fa s.value others)
      | inr a ↦
          let took = c.wire.codec.takes bytes a.0.0 a.0.1 fits a.1 in
          elim (bind_err (repeat_at read n a.0.1) (λ others. Ok (a.0.0 ∷ others.0, others.1)) e a.2) [
            | inl others ↦
                let s = list_stops c n a.0.1 e took.0.rest_fits others in
                with_front bytes (t a.0.0) a.0.1 s (a.0.0 ∷ s.value) (fa a.0.0) took.0.parts (c.spelled a.0.0) (ap suc s.in_range.0, (took.1, s.in_range.1)) (flat_map-cons fa a.0.0 s.value)
            | inr b ↦ absurd (let why = b.2 in cc)
          ]
    ]

list_stands : {A : Type 0} {read : List ℕ → Result (A × List ℕ) PgoutputError} {t : A → List ℕ} {F : A → Type 0} {fa : A → List Field} (c : Told read t F fa) (xs : List A)
    (before : List Field) (next : Field) (after : List Field) (rest : List ℕ) (e : PgoutputError)
    → AllByRecursion F xs → flat_map fa xs ≡ before ++ next ∷ after → IsAtFault e next rest → repeat_at read (length xs) (spell_fields before ++ rest) ≡ Err e
unfolding repeat_at
list_stands c [] before next after rest e fits parts at_fault = absurd (none_in before next after parts)
list_stands {A} {read} {t} {F} {fa} c (x ∷ xs) before next after rest e fits parts at_fault =
    elim (parted (fa x) (flat_map fa xs) before next after (sym (flat_map-cons fa x xs) ∙ parts)) [
      | inl first ↦ rw (c.stands (spell_fields before ++ rest) e (record { value = x; in_range = fits.0; before = before; next = next; after = first.after; rest = rest; parts = first.is; text = refl; at_fault = at_fault })) refl
      | inr last ↦
          let left : List ℕ = spell_fields last.front ++ rest in
          let whole : spell_fields before ++ rest ≡ t x ++ left = after_front (t x) before last.front (fa x) rest last.is_before (c.spelled x) in
          rw (whole, c.wire.codec.again x left fits.0, list_stands c xs last.front next after rest e fits.1 last.is at_fault) refl
    ]

pub repeated : {A : Type 0} {read : List ℕ → Result (A × List ℕ) PgoutputError} {t : A → List ℕ} {F : A → Type 0} {fa : A → List Field} → Told read t F fa → (n : ℕ)
    → Told (repeat_at read n) (flat_map t) (λ xs. (length xs ≡ n) × AllByRecursion F xs) (flat_map fa)
repeated {A} {read} {t} {F} {fa} c n = record {
  wire = engine.repeated c.wire n;
  some = record { value = replicate n c.some.value; fits = (length-replicate n c.some.value, all_same F c.some.value n c.some.fits) };
  spelled = spelled_list t fa c.spelled;
  stops = list_stops c n;
  stands = λ bytes e s.
      let there = list_stands c s.value s.before s.next s.after s.rest e s.in_range.1 s.parts s.at_fault in
      rw (s.text, ← s.in_range.0) there;
}

-- ---- a choice by the first byte, which stands as the field `first`

pub record ChosenTold {X : Type 0} (d : PgoutputError) (read : ℕ → List ℕ → Result (X × List ℕ) PgoutputError) (fields : X → List Field) (Fits : X → Type 0) (is_kind : ℕ → Bool) : Type 0 where
  pub stops : (b : ℕ) (bytes : List ℕ) (e : PgoutputError) → IsBytes bytes → read b bytes ≡ Err e → Stops fields Fits e (b ∷ bytes) ⊎ ((e ≡ d) × (is_kind b ≡ false))

-- no byte is left to choose
pub no_choice : {X : Type 0} (d : PgoutputError) (fields : X → List Field) (Fits : X → Type 0) → ChosenTold {X = X} d (λ _ _. Err d) fields Fits (λ _. false)
no_choice d fields Fits = record { stops = λ b bytes e fits is. let same : d ≡ e = cc in inr (sym same, refl) }

-- byte k, and then a value from which the whole is made
pub choice : {A X : Type 0} {d : PgoutputError} {read : List ℕ → Result (A × List ℕ) PgoutputError} {t : A → List ℕ} {F : A → Type 0} {fa : A → List Field} (k : ℕ) (first : Field) → spell_field first ≡ k ∷ [] → Told read t F fa
    → (make : A → X) (fields : X → List Field) (Fits : X → Type 0) → ((a : A) → fields (make a) ≡ first ∷ fa a) → ((a : A) → F a → Fits (make a))
    → {others : ℕ → List ℕ → Result (X × List ℕ) PgoutputError} {is_other : ℕ → Bool} → ChosenTold d others fields Fits is_other
    → ChosenTold d (λ b bytes. cond (eqb b k) (read bytes >>= λ a. Ok (make a.0, a.1)) (others b bytes)) fields Fits (λ b. eqb b k || is_other b)
choice {A} {X} {d} {read} {t} {F} {fa} k first single c make fields Fits laid in_range {others} {is_other} rest_of = record {
  stops = λ b bytes e fits is. by_test b bytes e fits (eqb b k) (λ same. eqb-true b k same) is;
} where
  spelled_first : spell_fields (first ∷ []) ≡ k ∷ []
  spelled_first = spell-cons first [] ∙ ap (λ (l : List ℕ). l ++ []) single

  behind : (b : ℕ) (bytes : List ℕ) (e : PgoutputError) → b ≡ k → Stops fa F e bytes → Stops fields Fits e (b ∷ bytes)
  behind b bytes e is s = with_front (b ∷ bytes) (k ∷ []) bytes s (make s.value) (first ∷ []) (ap (λ (x : ℕ). x ∷ bytes) is) spelled_first (in_range s.value s.in_range) (laid s.value)

  by_test : (b : ℕ) (bytes : List ℕ) (e : PgoutputError) → IsBytes bytes → (is : Bool) → (is ≡ true → b ≡ k)
      → cond is (read bytes >>= λ a. Ok (make a.0, a.1)) (others b bytes) ≡ Err e → Stops fields Fits e (b ∷ bytes) ⊎ ((e ≡ d) × ((is || is_other b) ≡ false))
  by_test b bytes e fits true same is =
      elim (bind_err (read bytes) (λ a. Ok (make a.0, a.1)) e is) [
        | inl here ↦ inl (behind b bytes e (same refl) (c.stops bytes e fits here))
        | inr a ↦ absurd (let why = a.2 in cc)
      ]
  by_test b bytes e fits false same is = rest_of.stops b bytes e fits is

-- where the fields after the byte k stop, the whole does
pub chosen_stands : {A X : Type 0} {read : List ℕ → Result (A × List ℕ) PgoutputError} {t : A → List ℕ} {F : A → Type 0} {fa : A → List Field} (c : Told read t F fa)
    (k : ℕ) (first : Field) (make : A → X) (whole : List ℕ → Result (X × List ℕ) PgoutputError)
    → spell_field first ≡ k ∷ [] → ((bytes : List ℕ) → whole (k ∷ bytes) ≡ (read bytes >>= λ a. Ok (make a.0, a.1)))
    → ((e : PgoutputError) (rest : List ℕ) → IsAtFault e first rest → whole rest ≡ Err e)
    → (a : A) → F a → (before : List Field) (next : Field) (after : List Field) (rest : List ℕ) (e : PgoutputError)
    → first ∷ fa a ≡ before ++ next ∷ after → IsAtFault e next rest → whole (spell_fields before ++ rest) ≡ Err e
chosen_stands c k first make whole single chosen at_first a fits [] next after rest e parts at_fault =
    let same : next ≡ first = cc in
    at_first e rest (subst (λ (f : Field). IsAtFault e f rest) same at_fault)
chosen_stands {A} {X} {read} {t} {F} {fa} c k first make whole single chosen at_first a fits (f ∷ before) next after rest e parts at_fault =
    let same : f ≡ first = cc in
    let behind : fa a ≡ before ++ next ∷ after = cc in
    let left : List ℕ = spell_fields before ++ rest in
    let bytes : spell_fields (f ∷ before) ++ rest ≡ k ∷ left = ap (λ (l : List ℕ). l ++ rest) (spell-cons f before ∙ ap (λ (g : Field). spell_field g ++ spell_fields before) same ∙ ap (λ (l : List ℕ). l ++ spell_fields before) single) in
    ap whole bytes ∙ chosen left ∙ rw (c.stands left e (record { value = a; in_range = fits; before = before; next = next; after = after; rest = rest; parts = behind; text = refl; at_fault = at_fault })) refl

-- a byte that is none of these letters, or no byte
pub letter_stands : {Y : Type 0} (whole : List ℕ → Result Y PgoutputError) (letters : List ℕ) (k : ℕ) → whole [] ≡ Err Short
    → ((b : ℕ) (bytes : List ℕ) → list_any (λ l. b == l) letters ≡ false → whole (b ∷ bytes) ≡ Err BadMark)
    → (e : PgoutputError) (rest : List ℕ) → IsAtFault e (Letter letters k) rest → whole rest ≡ Err e
letter_stands whole letters k none other Short [] at_fault = none
letter_stands whole letters k none other Short (b ∷ rest) at_fault = absurd (omega arith)
letter_stands whole letters k none other BadMark rest at_fault = ap whole at_fault.2 ∙ other at_fault.0 at_fault.1 at_fault.3
letter_stands whole letters k none other BadText rest at_fault = absurd at_fault
letter_stands whole letters k none other UnknownKind rest at_fault = absurd at_fault
letter_stands whole letters k none other Trailing rest at_fault = absurd at_fault
letter_stands whole letters k none other Memory rest at_fault = absurd at_fault

-- What is chosen by a letter: some value of it has this letter first.
pub choice_told : {X : Type 0} {read : ℕ → List ℕ → Result (X × List ℕ) PgoutputError} {text : X → List ℕ} {Fits : X → Type 0} {fields : X → List Field}
    (letters : List ℕ) (k : ℕ) (tail : List Field) → Wire (by_first read) text Fits → ChosenTold BadMark read fields Fits (λ b. list_any (λ l. b == l) letters)
    → (some : InRange Fits) → fields some.value ≡ Letter letters k ∷ tail
    → ((x : X) → spell_fields (fields x) ≡ text x)
    → ((x : X) → Fits x → (before : List Field) (next : Field) (after : List Field) (rest : List ℕ) (e : PgoutputError) → fields x ≡ before ++ next ∷ after → IsAtFault e next rest → by_first read (spell_fields before ++ rest) ≡ Err e)
    → Told (by_first read) text Fits fields
choice_told {X} {read} {text} {Fits} {fields} letters k tail wire chosen some laid spelled stands = record {
  wire = wire;
  some = some;
  spelled = spelled;
  stops = stops;
  stands = λ bytes e s. ap (by_first read) s.text ∙ stands s.value s.in_range s.before s.next s.after s.rest e s.parts s.at_fault;
} where
  at_front : (bytes : List ℕ) (e : PgoutputError) → IsAtFault e (Letter letters k) bytes → Stops fields Fits e bytes
  at_front bytes e at_fault = record { value = some.value; in_range = some.fits; before = []; next = Letter letters k; after = tail; rest = bytes; parts = laid; text = refl; at_fault = at_fault }

  stops : (bytes : List ℕ) (e : PgoutputError) → IsBytes bytes → by_first read bytes ≡ Err e → Stops fields Fits e bytes
  stops [] e fits is =
      let same : Short ≡ e = cc in
      let early : IsAtFault Short (Letter letters k) [] = omega arith in
      at_front [] e (subst (λ (f : PgoutputError). IsAtFault f (Letter letters k) []) same early)
  stops (b ∷ bytes) e fits is = elim (chosen.stops b bytes e (IsBytes-rest b bytes fits) is) [
    | inl s ↦ s
    | inr other ↦
        let none : IsAtFault BadMark (Letter letters k) (b ∷ bytes) = (b, bytes, refl, other.1) in
        at_front (b ∷ bytes) e (subst (λ (f : PgoutputError). IsAtFault f (Letter letters k) (b ∷ bytes)) (sym other.0) none)
  ]

-- none of the letters was chosen
pub none_of_two : {R : Type 0} (a b : Bool) (x y z : R) → (a || (b || false)) ≡ false → cond a x (cond b y z) ≡ z
none_of_two true b x y z why = absurd cc
none_of_two false true x y z why = absurd cc
none_of_two false false x y z why = refl

pub none_of_three : {R : Type 0} (a b c : Bool) (x y z w : R) → (a || (b || (c || false))) ≡ false → cond a x (cond b y (cond c z w)) ≡ w
none_of_three true b c x y z w why = absurd cc
none_of_three false true c x y z w why = absurd cc
none_of_three false false true x y z w why = absurd cc
none_of_three false false false x y z w why = refl
