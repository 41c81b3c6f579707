-- The engine of the laws of each message: a reader of a field and the field's spelling, joined, and how they compose.
-- `codec`: what is read was spelled so, and what is spelled is read again. `own`: where reading fails, the fault is a
-- field's. `cut`: a beginning of a spelling that isn't the whole is Short.
use Rattle.std.proofs.Common.{◌≡◌, ℕ, zero, suc, ◌+◌, ◌-◌, ◌≤◌, ◌<◌, Bool, true, false, cond, eqb, List, [], ◌∷◌, ◌++◌, length, take, Result, Ok, Err, refl, sym, ap, subst, ◌∙◌, arith, inl, inr}
use Rattle.std.specs.Prelude.{◌⊎◌, ◌||◌}
use Rattle.std.specs.List.{flat_map, AllByRecursion}
use Rattle.std.specs.Option.{ok_or}
use Rattle.std.proofs.lemmas.Bool.{cases_lt}
use Rattle.std.proofs.lemmas.List.{take-append-le, length-append}
use Rattle.std.proofs.Math.Seq.{take-append-add}
use Rattle.std.proofs.lemmas.List.Concat.{flat_map-cons}
use Rattle.pqformat.specs.Fields.{byte_at}
use Rattle.pqformat.specs.Steps.{◌>>=◌, repeat_at}
use Rattle.pqformat.proofs.Codec.{Codec, Part, Chooses}
use Rattle.pqformat.proofs.Codec as codec
use Rattle.pgoutput.specs.declared.fault.PgoutputError.{PgoutputError}
use Rattle.pgoutput.specs.declared.fault.PgoutputError.TheVariants.{Short, BadMark, BadText}

-- A field ends too soon, or is none of its kind. Which message it is, and what follows it, is not a field's to judge.
abbrev pub IsFieldFault : PgoutputError → Type 0
IsFieldFault Short = Unit {0}
IsFieldFault BadMark = Unit {0}
IsFieldFault BadText = Unit {0}
IsFieldFault _ = ⊥

-- ---- steps

-- a step that failed, or the one after it
pub bind_err : {A B : Type 0} (r : Result A PgoutputError) (f : A → Result B PgoutputError) (e : PgoutputError) → (r >>= f) ≡ Err e → (r ≡ Err e) ⊎ ((x : A) × (r ≡ Ok x) × (f x ≡ Err e))
bind_err (Ok x) f e is = inr (x, refl, is)
bind_err (Err d) f e is = let same : d ≡ e = cc in inl (ap Err same)

-- a beginning of two texts ends in the first, or in the second
pub cut_within : (a b : List ℕ) (n : ℕ) → n < length a → take n (a ++ b) ≡ take n a
cut_within a b n lt = take-append-le n a b (omega arith)

pub cut_behind : (a b : List ℕ) (n : ℕ) → length a ≤ n → take n (a ++ b) ≡ a ++ take (n - length a) b
cut_behind a b n le =
    let is : n ≡ length a + (n - length a) = omega arith in
    ap (λ (k : ℕ). take k (a ++ b)) is ∙ take-append-add a b (n - length a)

-- ---- a field

pub record Wire {A : Type 0} (read : List ℕ → Result (A × List ℕ) PgoutputError) (text : A → List ℕ) (Fits : A → Type 0) : Type 0 where
  pub codec : Codec read text Fits
  pub own : (bytes : List ℕ) (e : PgoutputError) → read bytes ≡ Err e → IsFieldFault e
  pub cut : (x : A) (n : ℕ) → Fits x → n < length (text x) → read (take n (text x)) ≡ Err Short

-- the same after fields that were read already: Known says what they were
pub record Rest {M : Type 0} (read : List ℕ → Result (M × List ℕ) PgoutputError) (Known : M → Type 0) (text : M → List ℕ) (Fits : M → Type 0) : Type 0 where
  pub part : Part read Known text Fits
  pub own : (bytes : List ℕ) (e : PgoutputError) → read bytes ≡ Err e → IsFieldFault e
  pub cut : (m : M) (n : ℕ) → Known m → Fits m → n < length (text m) → read (take n (text m)) ≡ Err Short

-- a field p of a message, and the fields after it
pub field : {A M : Type 0} {read : List ℕ → Result (A × List ℕ) PgoutputError} {t : A → List ℕ} {F : A → Type 0} → Wire read t F
    → (p : M → A) (Known : M → Type 0) (k : A → List ℕ → Result (M × List ℕ) PgoutputError) (text : M → List ℕ) (Fits : M → Type 0)
    → ((a : A) → Rest (k a) (λ m. (p m ≡ a) × Known m) text Fits)
    → Rest (λ bytes. read bytes >>= λ a. k a.0 a.1) Known (λ m. t (p m) ++ text m) (λ m. F (p m) × Fits m)
field {A} {M} {read} {t} {F} c p Known k text Fits after = record {
  part = codec.field c.codec p Known k text Fits (λ a. (after a).part);
  own = λ bytes e is.
      elim (bind_err (read bytes) (λ a. k a.0 a.1) e is) [
        | inl first ↦ c.own bytes e first
        | inr a ↦ (after a.0.0).own a.0.1 e a.2
      ];
  cut = λ m n known fits lt.
      elim (cases_lt n (length (t (p m)))) [
        | inl within ↦ rw (cut_within (t (p m)) (text m) n within, c.cut (p m) n fits.0 within) refl
        | inr le ↦
            rw (cut_behind (t (p m)) (text m) n le, c.codec.again (p m) (take (n - length (t (p m))) (text m)) fits.0)
            ((after (p m)).cut m (n - length (t (p m))) (refl, known) fits.1 (omega (arith, length-append (t (p m)) (text m))))
      ];
}

-- a field from whose value another is made
mapped_own : {A B : Type 0} {read : List ℕ → Result (A × List ℕ) PgoutputError} {t : A → List ℕ} {F : A → Type 0} → Wire read t F → (make : A → B)
    → (bytes : List ℕ) (e : PgoutputError) → ◌>>=◌ {B = B × List ℕ} (read bytes) (λ a. Ok (make a.0, a.1)) ≡ Err e → IsFieldFault e
mapped_own {A} {B} {read} c make bytes e is =
    elim (bind_err (read bytes) (λ a. Ok (make a.0, a.1)) e is) [
      | inl first ↦ c.own bytes e first
      | inr a ↦ absurd (let no = a.2 in cc)
    ]

-- the last field, from which the message is made
pub last_field : {A M : Type 0} {read : List ℕ → Result (A × List ℕ) PgoutputError} {t : A → List ℕ} {F : A → Type 0} → Wire read t F
    → (p : M → A) (Known : M → Type 0) (make : A → M)
    → ((a : A) → p (make a) ≡ a) → ((a : A) → F a → Known (make a)) → ((m : M) → Known m → make (p m) ≡ m)
    → Rest (λ bytes. read bytes >>= λ a. Ok (make a.0, a.1)) Known (λ m. t (p m)) (λ m. F (p m))
last_field {A} {M} {read} {t} {F} c p Known make p_is known whole = record {
  part = codec.last_field c.codec p Known make p_is known whole;
  own = λ bytes e is. mapped_own c make bytes e is;
  cut = λ m n known fits lt. rw (c.cut (p m) n fits lt) refl;
}

-- a field that says nothing of the message, as a letter that is always the same
pub free_field : {A M : Type 0} {read : List ℕ → Result (A × List ℕ) PgoutputError} {t : A → List ℕ} {F : A → Type 0} → Wire read t F → ((a : A) → F a)
    → (p : M → A) (Known : M → Type 0) (k : A → List ℕ → Result (M × List ℕ) PgoutputError) (text : M → List ℕ) (Fits : M → Type 0)
    → ((a : A) → Rest (k a) (λ m. (p m ≡ a) × Known m) text Fits)
    → Rest (λ bytes. read bytes >>= λ a. k a.0 a.1) Known (λ m. t (p m) ++ text m) Fits
free_field c every p Known k text Fits after =
    let whole = field c p Known k text Fits after in
    record {
      part = record {
        takes = λ bytes m rest fits e. let t = whole.part.takes bytes m rest fits e in (t.0, t.1.1, t.2);
        again = λ m rest known fits. whole.part.again m rest known (every (p m), fits);
      };
      own = whole.own;
      cut = λ m n known fits lt. whole.cut m n known (every (p m), fits) lt;
    }

-- a message of such fields
pub wire_of : {M : Type 0} {read : List ℕ → Result (M × List ℕ) PgoutputError} {text : M → List ℕ} {Fits : M → Type 0} → Rest read (λ _. Unit {0}) text Fits → Wire read text Fits
wire_of r = record {
  codec = codec.codec_of r.part;
  own = r.own;
  cut = λ m n fits lt. r.cut m n tt fits lt;
}

-- a field whose value passes a test
pub tested : {A : Type 0} {read : List ℕ → Result (A × List ℕ) PgoutputError} {t : A → List ℕ} {F : A → Type 0} → Wire read t F → (test : A → Bool) (d : PgoutputError) → IsFieldFault d
    → Wire (λ bytes. read bytes >>= λ a. cond (test a.0) (Ok a) (Err d)) t (λ x. F x × (test x ≡ true))
tested {A} {read} {t} {F} c test d field_fault = record {
  codec = codec.tested c.codec test d;
  own = λ bytes e is.
      elim (bind_err (read bytes) (λ a. cond (test a.0) (Ok a) (Err d)) e is) [
        | inl first ↦ c.own bytes e first
        | inr a ↦ subst IsFieldFault (failed (test a.0.0) a.0 e a.2) field_fault
      ];
  cut = λ x n fits lt. rw (c.cut x n fits.0 lt) refl;
} where
  failed : (b : Bool) (x : A × List ℕ) (e : PgoutputError) → cond b (Ok x) (Err d) ≡ Err e → d ≡ e
  failed true x e is = absurd cc
  failed false x e is = cc

-- the same with another range
pub with_range : {A : Type 0} {read : List ℕ → Result (A × List ℕ) PgoutputError} {t : A → List ℕ} {F : A → Type 0} (G : A → Type 0) → Wire read t F
    → ((x : A) → F x → G x) → ((x : A) → G x → F x) → Wire read t G
with_range G c there back = record {
  codec = codec.with_range G c.codec there back;
  own = c.own;
  cut = λ x n fits lt. c.cut x n (back x fits) lt;
}

-- a value that is written as another
pub converted : {A B : Type 0} {read : List ℕ → Result (A × List ℕ) PgoutputError} {t : A → List ℕ} {F : A → Type 0} → Wire read t F → (to : A → B) (from : B → A) (G : B → Type 0)
    → Codec (λ bytes. read bytes >>= λ a. Ok (to a.0, a.1)) (λ b. t (from b)) G → ((b : B) → G b → F (from b))
    → Wire (λ bytes. read bytes >>= λ a. Ok (to a.0, a.1)) (λ b. t (from b)) G
converted c to from G codec back = record {
  codec = codec;
  own = λ bytes e is. mapped_own c to bytes e is;
  cut = λ x n fits lt. rw (c.cut (from x) n (back x fits) lt) refl;
}

-- a count, and what it counts
pub counted : {M : Type 0} {read : List ℕ → Result (ℕ × List ℕ) PgoutputError} {t : ℕ → List ℕ} {F : ℕ → Type 0} → Wire read t F
    → (size : M → ℕ) (k : ℕ → List ℕ → Result (M × List ℕ) PgoutputError) (text : M → List ℕ) (Fits : M → Type 0)
    → ((n : ℕ) → Wire (k n) text (λ m. (size m ≡ n) × Fits m))
    → Wire (λ bytes. read bytes >>= λ n. k n.0 n.1) (λ m. t (size m) ++ text m) (λ m. F (size m) × Fits m)
counted c size k text Fits after =
    wire_of (field c size (λ _. Unit {0}) k text Fits (λ n. record {
      part = record {
        takes = λ bytes m rest fits e. let t = (after n).codec.takes bytes m rest fits e in (t.0, t.1.1, (t.1.0, tt));
        again = λ m rest known fits. (after n).codec.again m rest (known.0, fits);
      };
      own = (after n).own;
      cut = λ m i known fits lt. (after n).cut m i (known.0, fits) lt;
    }))

-- n of them, one after the other
repeat_own : {A : Type 0} {read : List ℕ → Result (A × List ℕ) PgoutputError} {t : A → List ℕ} {F : A → Type 0} (c : Wire read t F) (n : ℕ) (bytes : List ℕ) (e : PgoutputError)
    → repeat_at read n bytes ≡ Err e → IsFieldFault e
unfolding repeat_at
repeat_own c zero bytes e is = absurd cc
repeat_own {A} {read} c (suc n) bytes e is =
    elim (bind_err (read bytes) (λ first. repeat_at read n first.1 >>= λ others. Ok (first.0 ∷ others.0, others.1)) e is) [
      | inl first ↦ c.own bytes e first
      | inr a ↦ elim (bind_err (repeat_at read n a.0.1) (λ others. Ok (a.0.0 ∷ others.0, others.1)) e a.2) [
        | inl others ↦ repeat_own c n a.0.1 e others
        | inr b ↦ absurd (let no = b.2 in cc)
      ]
    ]

repeat_cut : {A : Type 0} {read : List ℕ → Result (A × List ℕ) PgoutputError} {t : A → List ℕ} {F : A → Type 0} (c : Wire read t F) (xs : List A) (i : ℕ)
    → AllByRecursion F xs → i < length (flat_map t xs) → repeat_at read (length xs) (take i (flat_map t xs)) ≡ Err Short
unfolding repeat_at
repeat_cut c [] i fits lt = absurd (omega arith)
repeat_cut {A} {read} {t} {F} c (x ∷ xs) i fits lt =
    let spelled : flat_map t (x ∷ xs) ≡ t x ++ flat_map t xs = flat_map-cons t x xs in
    let less : i < length (t x) + length (flat_map t xs) = omega (arith, lt, ap (length {A = ℕ}) spelled, length-append (t x) (flat_map t xs)) in
    ap (λ (y : List ℕ). repeat_at read (suc (length xs)) (take i y)) spelled ∙
    elim (cases_lt i (length (t x))) [
      | inl within ↦ rw (cut_within (t x) (flat_map t xs) i within, c.cut x i fits.0 within) refl
      | inr le ↦ rw (
        cut_behind (t x) (flat_map t xs) i le,
        c.codec.again x (take (i - length (t x)) (flat_map t xs)) fits.0,
        repeat_cut c xs (i - length (t x)) fits.1 (omega arith),
      ) refl
    ]

pub repeated : {A : Type 0} {read : List ℕ → Result (A × List ℕ) PgoutputError} {t : A → List ℕ} {F : A → Type 0} → Wire read t F → (n : ℕ)
    → Wire (repeat_at read n) (flat_map t) (λ xs. (length xs ≡ n) × AllByRecursion F xs)
repeated {A} {read} {t} {F} c n = record {
  codec = codec.repeated c.codec n;
  own = repeat_own c n;
  cut = λ xs i fits lt. let P : ℕ → Type 0 = λ k. repeat_at read k (take i (flat_map t xs)) ≡ Err Short in subst P fits.0 (repeat_cut c xs i fits.1 lt);
}

-- ---- a choice by the first byte: is_kind tells which bytes are chosen, and any other is the fault d

pub record Chosen {X : Type 0} (d : PgoutputError) (read : ℕ → List ℕ → Result (X × List ℕ) PgoutputError) (text : X → List ℕ) (Fits : X → Type 0) (is_kind : ℕ → Bool) : Type 0 where
  pub chooses : Chooses read text Fits
  pub own : (b : ℕ) (bytes : List ℕ) (e : PgoutputError) → read b bytes ≡ Err e → IsFieldFault e ⊎ ((e ≡ d) × (is_kind b ≡ false))
  pub other : (b : ℕ) (bytes : List ℕ) → is_kind b ≡ false → read b bytes ≡ Err d

-- no byte is left to choose
pub no_choice : {X : Type 0} (d : PgoutputError) (text : X → List ℕ) (Fits : X → Type 0) → Chosen {X = X} d (λ _ _. Err d) text Fits (λ _. false)
no_choice d text Fits = record {
  chooses = codec.no_choice d text Fits;
  own = λ b bytes e is. let same : d ≡ e = cc in inr (sym same, refl);
  other = λ b bytes none. refl;
}

-- byte k, and then a value from which the whole is made
pub choice : {A X : Type 0} {d : PgoutputError} {read : List ℕ → Result (A × List ℕ) PgoutputError} {t : A → List ℕ} {F : A → Type 0} (k : ℕ) → Wire read t F
    → (make : A → X) (text : X → List ℕ) (Fits : X → Type 0) → ((a : A) → text (make a) ≡ k ∷ t a) → ((a : A) → F a → Fits (make a))
    → {others : ℕ → List ℕ → Result (X × List ℕ) PgoutputError} {is_other : ℕ → Bool} → Chosen d others text Fits is_other
    → Chosen d (λ b bytes. cond (eqb b k) (read bytes >>= λ a. Ok (make a.0, a.1)) (others b bytes)) text Fits (λ b. eqb b k || is_other b)
choice {A} {X} {d} {read} {t} {F} k c make text Fits spelled in_range {others} {is_other} rest_of = record {
  chooses = codec.choice k c.codec make text Fits spelled in_range rest_of.chooses;
  own = λ b bytes e is. by_test b bytes e (eqb b k) is;
  other = λ b bytes none. at_other b bytes (eqb b k) none;
} where
  by_test : (b : ℕ) (bytes : List ℕ) (e : PgoutputError) (is : Bool)
      → cond is (read bytes >>= λ a. Ok (make a.0, a.1)) (others b bytes) ≡ Err e → IsFieldFault e ⊎ ((e ≡ d) × ((is || is_other b) ≡ false))
  by_test b bytes e true is = inl (mapped_own c make bytes e is)
  by_test b bytes e false is = rest_of.own b bytes e is

  at_other : (b : ℕ) (bytes : List ℕ) (is : Bool) → (is || is_other b) ≡ false → cond is (read bytes >>= λ a. Ok (make a.0, a.1)) (others b bytes) ≡ Err d
  at_other b bytes true none = absurd cc
  at_other b bytes false none = rest_of.other b bytes none

abbrev pub by_first : {X : Type 0} → (ℕ → List ℕ → Result (X × List ℕ) PgoutputError) → List ℕ → Result (X × List ℕ) PgoutputError
by_first read bytes = ok_or (byte_at bytes) Short >>= λ b. read b.0 b.1

-- Cut after its first byte it is Short, and before it too.
pub choice_cut : {X : Type 0} (read : ℕ → List ℕ → Result (X × List ℕ) PgoutputError) (text : X → List ℕ) (Fits : X → Type 0)
    → ((x : X) (n : ℕ) → Fits x → suc n < length (text x) → by_first read (take (suc n) (text x)) ≡ Err Short)
    → (x : X) (n : ℕ) → Fits x → n < length (text x) → by_first read (take n (text x)) ≡ Err Short
choice_cut read text Fits cut x zero fits lt = refl
choice_cut read text Fits cut x (suc n) fits lt = cut x n fits lt

-- What is chosen by its first byte is a field, if the fault of the other bytes is a field's.
pub choice_wire : {X : Type 0} {d : PgoutputError} {read : ℕ → List ℕ → Result (X × List ℕ) PgoutputError} {text : X → List ℕ} {Fits : X → Type 0} {is_kind : ℕ → Bool} → Chosen d read text Fits is_kind → IsFieldFault d
    → ((x : X) (rest : List ℕ) → Fits x → by_first read (text x ++ rest) ≡ Ok (x, rest))
    → ((x : X) (n : ℕ) → Fits x → suc n < length (text x) → by_first read (take (suc n) (text x)) ≡ Err Short)
    → Wire (by_first read) text Fits
choice_wire {X} {d} {read} {text} {Fits} {is_kind} chosen field_fault again cut = record {
  codec = codec.choice_codec Short chosen.chooses again;
  own = from_front;
  cut = choice_cut read text Fits cut;
} where
  from_front : (bytes : List ℕ) (e : PgoutputError) → by_first read bytes ≡ Err e → IsFieldFault e
  from_front [] e is = let same : Short ≡ e = cc in subst IsFieldFault same tt
  from_front (b ∷ bytes) e is = elim (chosen.own b bytes e is) [
    | inl own ↦ own
    | inr other ↦ subst IsFieldFault (sym other.0) field_fault
  ]
