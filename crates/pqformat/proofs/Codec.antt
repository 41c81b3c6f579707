-- The engine of the laws of every message: a reader of a field and the field's spelling, joined, and how they compose.
-- `takes`: what is read was spelled so. `again`: what is spelled is read again, whatever follows it.
use Rattle.std.proofs.Common.{◌≡◌, ℕ, zero, suc, ◌+◌, ◌<◌, Bool, true, false, cond, eqb, List, [], ◌∷◌, ◌++◌, length, get_or, take, drop, Option, Some, None, Result, Ok, Err, refl, sym, ap, subst, ◌∙◌, append_assoc, arith, inl, inr}
use Rattle.std.specs.List.{flat_map, AllByRecursion}
use Rattle.std.specs.Option.{ok_or}
use Rattle.std.proofs.lemmas.Bool.{cases_lt, eqb-true}
use Rattle.std.proofs.lemmas.List.{get_or-drop, get_or-take, get_or_past, length-take}
use Rattle.std.proofs.lemmas.List.Concat.{flat_map-cons}
use Rattle.pqformat.specs.Fields.{byte_at}
use Rattle.pqformat.specs.Steps.{◌>>=◌, repeat_at}

-- every element is a byte
abbrev pub IsBytes : List ℕ → Type 0
IsBytes bytes = (i : ℕ) → get_or bytes i 0 < 256

pub IsBytes-drop : (n : ℕ) (bytes : List ℕ) → IsBytes bytes → IsBytes (drop n bytes)
IsBytes-drop n bytes h i = rw get_or-drop (h (n + i))

pub IsBytes-take : (n : ℕ) (bytes : List ℕ) → IsBytes bytes → IsBytes (take n bytes)
IsBytes-take n bytes h i =
    elim (cases_lt i n) [
      | inl lt ↦ rw (get_or-take n bytes i 0 lt) (h i)
      | inr le ↦ rw (get_or_past (take n bytes) i 0 (omega (arith, length-take n bytes))) (omega arith)
    ]

pub IsBytes-rest : (b : ℕ) (bytes : List ℕ) → IsBytes (b ∷ bytes) → IsBytes bytes
IsBytes-rest b bytes h i = h (suc i)

-- ---- steps that did not fail

pub bind_ok : {A B E : Type 0} (r : Result A E) (f : A → Result B E) (y : B) → (r >>= f) ≡ Ok y → (x : A) × (r ≡ Ok x) × (f x ≡ Ok y)
bind_ok (Ok x) f y e = (x, refl, e)
bind_ok (Err d) f y e = absurd cc

pub passed : {A E : Type 0} (b : Bool) (d : E) (x y : A) → cond b (Ok x) (Err d) ≡ Ok y → (b ≡ true) × (x ≡ y)
passed true d x y e = (refl, cc)
passed false d x y e = absurd cc

pub found_some : {A E : Type 0} (o : Option A) (d : E) (x : A) → ok_or o d ≡ Ok x → o ≡ Some x
found_some (Some y) d x e = cc
found_some None d x e = absurd cc

pub not_missing : {A : Type 0} (b : Bool) (x y : A) → cond b None (Some x) ≡ Some y → (b ≡ false) × (x ≡ y)
not_missing true x y e = absurd cc
not_missing false x y e = (refl, cc)

abbrev pub done : {A : Type 0} (E : Type 0) → A → Result A E
done E x = Ok x

pub ok_is : {A : Type 0} (E : Type 0) (x y : A) → done E x ≡ done E y → x ≡ y
ok_is E x y e = cc

pub some_is : {A : Type 0} (x y : A) → Some x ≡ Some y → x ≡ y
some_is x y e = cc

-- ---- fields

-- what a reader took from the front
pub record Takes (bytes text rest : List ℕ) : Type 0 where
  pub parts : bytes ≡ text ++ rest
  pub rest_fits : IsBytes rest

pub Takes-then : (a x b y c : List ℕ) → Takes a x b → Takes b y c → Takes a (x ++ y) c
Takes-then a x b y c p q = record { parts = p.parts ∙ ap (λ (t : List ℕ). x ++ t) q.parts ∙ sym (append_assoc x y c); rest_fits = q.rest_fits }

pub record Codec {A E : Type 0} (read : List ℕ → Result (A × List ℕ) E) (text : A → List ℕ) (Fits : A → Type 0) : Type 0 where
  pub takes : (bytes : List ℕ) (x : A) (rest : List ℕ) → IsBytes bytes → read bytes ≡ Ok (x, rest) → Takes bytes (text x) rest × Fits x
  pub again : (x : A) (rest : List ℕ) → Fits x → read (text x ++ rest) ≡ Ok (x, rest)

-- the same after fields that were read already: Known says what they were
pub record Part {M E : Type 0} (read : List ℕ → Result (M × List ℕ) E) (Known : M → Type 0) (text : M → List ℕ) (Fits : M → Type 0) : Type 0 where
  pub takes : (bytes : List ℕ) (m : M) (rest : List ℕ) → IsBytes bytes → read bytes ≡ Ok (m, rest) → Takes bytes (text m) rest × Fits m × Known m
  pub again : (m : M) (rest : List ℕ) → Known m → Fits m → read (text m ++ rest) ≡ Ok (m, rest)

-- a field p of a message, and the fields after it
pub field : {A M E : Type 0} {f : List ℕ → Result (A × List ℕ) E} {ft : A → List ℕ} {F : A → Type 0} → Codec f ft F
    → (p : M → A) (Known : M → Type 0) (k : A → List ℕ → Result (M × List ℕ) E) (text : M → List ℕ) (Fits : M → Type 0)
    → ((a : A) → Part (k a) (λ m. (p m ≡ a) × Known m) text Fits)
    → Part (λ bytes. f bytes >>= λ a. k a.0 a.1) Known (λ m. ft (p m) ++ text m) (λ m. F (p m) × Fits m)
field {A} {M} {E} {f} {ft} {F} c p Known k text Fits after = record {
  takes = λ bytes m rest fits e.
      let a = bind_ok (f bytes) (λ a. k a.0 a.1) (m, rest) e in
      let t = c.takes bytes a.0.0 a.0.1 fits a.1 in
      let u = (after a.0.0).takes a.0.1 m rest t.0.rest_fits a.2 in
      let is : p m ≡ a.0.0 = u.2.0 in
      (rw is (Takes-then bytes (ft a.0.0) a.0.1 (text m) rest t.0 u.0), (rw is t.1, u.1), u.2.1);
  again = λ m rest known fits.
      let regrouped : (ft (p m) ++ text m) ++ rest ≡ ft (p m) ++ (text m ++ rest) = append_assoc (ft (p m)) (text m) rest in
      ap (λ (bytes : List ℕ). f bytes >>= λ a. k a.0 a.1) regrouped
      ∙ rw (c.again (p m) (text m ++ rest) fits.0) ((after (p m)).again m rest (refl, known) fits.1);
}

-- the last field, from which the message is made
pub last_field : {A M E : Type 0} {f : List ℕ → Result (A × List ℕ) E} {ft : A → List ℕ} {F : A → Type 0} → Codec f ft F
    → (p : M → A) (Known : M → Type 0) (make : A → M)
    → ((a : A) → p (make a) ≡ a) → ((a : A) → F a → Known (make a)) → ((m : M) → Known m → make (p m) ≡ m)
    → Part (λ bytes. f bytes >>= λ a. Ok (make a.0, a.1)) Known (λ m. ft (p m)) (λ m. F (p m))
last_field {A} {M} {E} {f} {ft} {F} c p Known make p_is known whole = record {
  takes = λ bytes m rest fits e.
      let a = bind_ok (f bytes) (λ a. Ok (make a.0, a.1)) (m, rest) e in
      let t = c.takes bytes a.0.0 a.0.1 fits a.1 in
      let made : M × List ℕ = (make a.0.0, a.0.1) in
      let front : Takes bytes (ft (p (make a.0.0))) a.0.1 × F (p (make a.0.0)) × Known (make a.0.0) = (rw p_is t.0, rw p_is t.1, known a.0.0 t.1) in
      let P : M × List ℕ → Type 0 = λ y. Takes bytes (ft (p y.0)) y.1 × F (p y.0) × Known y.0 in
      subst P (ok_is E made (m, rest) a.2) front;
  again = λ m rest known fits.
      let back = whole m known in
      rw (c.again (p m) rest fits, back) refl;
}

-- a field that says nothing of the message, as a letter that is always the same
pub free_field : {A M E : Type 0} {f : List ℕ → Result (A × List ℕ) E} {ft : A → List ℕ} → Codec f ft (λ _. Unit {0})
    → (p : M → A) (Known : M → Type 0) (k : A → List ℕ → Result (M × List ℕ) E) (text : M → List ℕ) (Fits : M → Type 0)
    → ((a : A) → Part (k a) (λ m. (p m ≡ a) × Known m) text Fits)
    → Part (λ bytes. f bytes >>= λ a. k a.0 a.1) Known (λ m. ft (p m) ++ text m) Fits
free_field {A} {M} {E} {f} {ft} c p Known k text Fits after =
    let whole = field c p Known k text Fits after in
    record {
      takes = λ bytes m rest fits e. let t = whole.takes bytes m rest fits e in (t.0, t.1.1, t.2);
      again = λ m rest known fits. whole.again m rest known (tt, fits);
    }

-- a part with nothing known before it
pub codec_of : {M E : Type 0} {read : List ℕ → Result (M × List ℕ) E} {text : M → List ℕ} {Fits : M → Type 0}
    → Part read (λ _. Unit {0}) text Fits → Codec read text Fits
codec_of p = record {
  takes = λ bytes m rest fits e. let t = p.takes bytes m rest fits e in (t.0, t.1);
  again = λ m rest fits. p.again m rest tt fits;
}

-- the same with another range
pub with_range : {A E : Type 0} {f : List ℕ → Result (A × List ℕ) E} {t : A → List ℕ} {F : A → Type 0} (G : A → Type 0) → Codec f t F
    → ((x : A) → F x → G x) → ((x : A) → G x → F x) → Codec f t G
with_range G c there back = record {
  takes = λ bytes x rest fits e. let p = c.takes bytes x rest fits e in (p.0, there x p.1);
  again = λ x rest fits. c.again x rest (back x fits);
}

-- a field whose value passes a test
pub tested : {A E : Type 0} {f : List ℕ → Result (A × List ℕ) E} {t : A → List ℕ} {F : A → Type 0} → Codec f t F → (test : A → Bool) (d : E)
    → Codec (λ bytes. f bytes >>= λ a. cond (test a.0) (Ok a) (Err d)) t (λ x. F x × (test x ≡ true))
tested {A} {E} {f} {t} {F} c test d = record {
  takes = λ bytes x rest fits e.
      let a = bind_ok (f bytes) (λ a. cond (test a.0) (Ok a) (Err d)) (x, rest) e in
      let g = passed (test a.0.0) d a.0 (x, rest) a.2 in
      let p = c.takes bytes a.0.0 a.0.1 fits a.1 in
      let P : A × List ℕ → Type 0 = λ y. Takes bytes (t y.0) y.1 × (F y.0 × (test y.0 ≡ true)) in
      subst P g.1 (p.0, (p.1, g.0));
  again = λ x rest fits. rw (c.again x rest fits.0, fits.1) refl;
}

-- a value that is written as another
pub converted : {A B E : Type 0} {f : List ℕ → Result (A × List ℕ) E} {t : A → List ℕ} {F : A → Type 0} → Codec f t F
    → (to : A → B) (from : B → A) (G : B → Type 0) → ((a : A) → F a → G (to a)) → ((b : B) → G b → F (from b))
    → ((a : A) → F a → from (to a) ≡ a) → ((b : B) → G b → to (from b) ≡ b)
    → Codec (λ bytes. f bytes >>= λ a. Ok (to a.0, a.1)) (λ b. t (from b)) G
converted {A} {B} {E} {f} {t} {F} c to from G there back from-to to-from = record {
  takes = λ bytes x rest fits e.
      let a = bind_ok (f bytes) (λ a. Ok (to a.0, a.1)) (x, rest) e in
      let p = c.takes bytes a.0.0 a.0.1 fits a.1 in
      let same : from (to a.0.0) ≡ a.0.0 = from-to a.0.0 p.1 in
      let made : B × List ℕ = (to a.0.0, a.0.1) in
      let front : Takes bytes (t (from (to a.0.0))) a.0.1 × G (to a.0.0) = (rw same p.0, there a.0.0 p.1) in
      let P : B × List ℕ → Type 0 = λ y. Takes bytes (t (from y.0)) y.1 × G y.0 in
      subst P (ok_is E made (x, rest) a.2) front;
  again = λ x rest fits.
      let same = to-from x fits in
      rw (c.again (from x) rest (back x fits), same) refl;
}

-- a count, and what it counts
pub counted : {M E : Type 0} {f : List ℕ → Result (ℕ × List ℕ) E} {ft : ℕ → List ℕ} {F : ℕ → Type 0} → Codec f ft F
    → (size : M → ℕ) (read : ℕ → List ℕ → Result (M × List ℕ) E) (text : M → List ℕ) (Fits : M → Type 0)
    → ((n : ℕ) → Codec (read n) text (λ m. (size m ≡ n) × Fits m))
    → Codec (λ bytes. f bytes >>= λ n. read n.0 n.1) (λ m. ft (size m) ++ text m) (λ m. F (size m) × Fits m)
counted {M} {E} {f} {ft} {F} c size read text Fits after =
    codec_of (field c size (λ _. Unit {0}) read text Fits (λ n. record {
      takes = λ bytes m rest fits e. let t = (after n).takes bytes m rest fits e in (t.0, t.1.1, (t.1.0, tt));
      again = λ m rest known fits. (after n).again m rest (known.0, fits);
    }))

-- n of them, one after the other
repeat_takes : {A E : Type 0} {f : List ℕ → Result (A × List ℕ) E} {t : A → List ℕ} {F : A → Type 0} (c : Codec f t F) (n : ℕ) (bytes : List ℕ) (xs : List A) (rest : List ℕ)
    → IsBytes bytes → repeat_at f n bytes ≡ Ok (xs, rest) → Takes bytes (flat_map t xs) rest × ((length xs ≡ n) × AllByRecursion F xs)
unfolding repeat_at
repeat_takes {A} {E} {f} {t} {F} c zero bytes xs rest fits e =
    let P : List A × List ℕ → Type 0 = λ y. Takes bytes (flat_map t y.0) y.1 × ((length y.0 ≡ 0) × AllByRecursion F y.0) in
    subst P (ok_is E ([], bytes) (xs, rest) e) (record { parts = refl; rest_fits = fits }, (refl, tt))
repeat_takes {A} {E} {f} {t} {F} c (suc n) bytes xs rest fits e =
    let a = bind_ok (f bytes) (λ first. repeat_at f n first.1 >>= λ others. Ok (first.0 ∷ others.0, others.1)) (xs, rest) e in
    let b = bind_ok (repeat_at f n a.0.1) (λ others. Ok (a.0.0 ∷ others.0, others.1)) (xs, rest) a.2 in
    let first = c.takes bytes a.0.0 a.0.1 fits a.1 in
    let second = repeat_takes c n a.0.1 b.0.0 b.0.1 first.0.rest_fits b.1 in
    let both = Takes-then bytes (t a.0.0) a.0.1 (flat_map t b.0.0) b.0.1 first.0 second.0 in
    let made : List A × List ℕ = (a.0.0 ∷ b.0.0, b.0.1) in
    let P : List A × List ℕ → Type 0 = λ y. Takes bytes (flat_map t y.0) y.1 × ((length y.0 ≡ suc n) × AllByRecursion F y.0) in
    subst P (ok_is E made (xs, rest) b.2) (rw flat_map-cons both, (ap suc second.1.0, (first.1, second.1.1)))

repeat_again : {A E : Type 0} {f : List ℕ → Result (A × List ℕ) E} {t : A → List ℕ} {F : A → Type 0} (c : Codec f t F) (xs : List A) (rest : List ℕ)
    → AllByRecursion F xs → repeat_at f (length xs) (flat_map t xs ++ rest) ≡ Ok (xs, rest)
unfolding repeat_at
repeat_again {A} {E} {f} {t} {F} c [] rest fits = refl
repeat_again {A} {E} {f} {t} {F} c (x ∷ xs) rest fits =
    let regrouped : flat_map t (x ∷ xs) ++ rest ≡ t x ++ (flat_map t xs ++ rest) = ap (λ (y : List ℕ). y ++ rest) (flat_map-cons t x xs) ∙ append_assoc (t x) (flat_map t xs) rest in
    ap (repeat_at f (suc (length xs))) regrouped ∙ rw (c.again x (flat_map t xs ++ rest) fits.0, repeat_again c xs rest fits.1) refl

pub repeated : {A E : Type 0} {f : List ℕ → Result (A × List ℕ) E} {t : A → List ℕ} {F : A → Type 0} → Codec f t F → (n : ℕ)
    → Codec (repeat_at f n) (flat_map t) (λ xs. (length xs ≡ n) × AllByRecursion F xs)
repeated {A} {E} {f} {t} {F} c n = record {
  takes = repeat_takes c n;
  again = λ xs rest fits. let P : ℕ → Type 0 = λ k. repeat_at f k (flat_map t xs ++ rest) ≡ Ok (xs, rest) in subst P fits.0 (repeat_again c xs rest fits.1);
}

-- ---- a choice by the first byte

pub record Chooses {X E : Type 0} (read : ℕ → List ℕ → Result (X × List ℕ) E) (text : X → List ℕ) (Fits : X → Type 0) : Type 0 where
  pub takes : (b : ℕ) (bytes : List ℕ) (x : X) (rest : List ℕ) → IsBytes bytes → read b bytes ≡ Ok (x, rest) → Takes (b ∷ bytes) (text x) rest × Fits x

-- no byte is left to choose
pub no_choice : {X E : Type 0} (d : E) (text : X → List ℕ) (Fits : X → Type 0) → Chooses {X = X} {E = E} (λ _ _. Err d) text Fits
no_choice d text Fits = record { takes = λ b bytes x rest fits e. absurd cc }

-- byte k, and then a value from which the whole is made
pub choice : {A X E : Type 0} {f : List ℕ → Result (A × List ℕ) E} {t : A → List ℕ} {F : A → Type 0} (k : ℕ) → Codec f t F
    → (make : A → X) (text : X → List ℕ) (Fits : X → Type 0) → ((a : A) → text (make a) ≡ k ∷ t a) → ((a : A) → F a → Fits (make a))
    → {others : ℕ → List ℕ → Result (X × List ℕ) E} → Chooses others text Fits
    → Chooses (λ b bytes. cond (eqb b k) (f bytes >>= λ a. Ok (make a.0, a.1)) (others b bytes)) text Fits
choice {A} {X} {E} {f} {t} {F} k c make text Fits spelled in_range {others} rest_of = record {
  takes = λ b bytes x rest fits e. by_test b bytes x rest fits (eqb b k) (λ same. eqb-true b k same) e;
} where
  by_test : (b : ℕ) (bytes : List ℕ) (x : X) (rest : List ℕ) → IsBytes bytes → (is : Bool) → (is ≡ true → b ≡ k)
      → cond is (f bytes >>= λ a. Ok (make a.0, a.1)) (others b bytes) ≡ Ok (x, rest) → Takes (b ∷ bytes) (text x) rest × Fits x
  by_test b bytes x rest fits true same e =
      let a = bind_ok (f bytes) (λ a. Ok (make a.0, a.1)) (x, rest) e in
      let p = c.takes bytes a.0.0 a.0.1 fits a.1 in
      let is : b ≡ k = same refl in
      let made : X × List ℕ = (make a.0.0, a.0.1) in
      let parts : b ∷ bytes ≡ text (make a.0.0) ++ a.0.1 = rw (spelled a.0.0, is) (ap (λ (y : List ℕ). k ∷ y) p.0.parts) in
      let front : Takes (b ∷ bytes) (text (make a.0.0)) a.0.1 × Fits (make a.0.0) = (record { parts = parts; rest_fits = p.0.rest_fits }, in_range a.0.0 p.1) in
      let P : X × List ℕ → Type 0 = λ y. Takes (b ∷ bytes) (text y.0) y.1 × Fits y.0 in
      subst P (ok_is E made (x, rest) a.2) front
  by_test b bytes x rest fits false same e = rest_of.takes b bytes x rest fits e

pub choice_codec : {X E : Type 0} (d : E) {read : ℕ → List ℕ → Result (X × List ℕ) E} {text : X → List ℕ} {Fits : X → Type 0} → Chooses read text Fits
    → ((x : X) (rest : List ℕ) → Fits x → (ok_or (byte_at (text x ++ rest)) d >>= λ b. read b.0 b.1) ≡ Ok (x, rest))
    → Codec (λ bytes. ok_or (byte_at bytes) d >>= λ b. read b.0 b.1) text Fits
choice_codec {X} {E} d {read} {text} {Fits} chooses again = record {
  takes = from_front;
  again = again;
} where
  from_front : (bytes : List ℕ) (x : X) (rest : List ℕ) → IsBytes bytes → (ok_or (byte_at bytes) d >>= λ b. read b.0 b.1) ≡ Ok (x, rest) → Takes bytes (text x) rest × Fits x
  from_front [] x rest fits e = absurd cc
  from_front (b ∷ bytes) x rest fits e = chooses.takes b bytes x rest (IsBytes-rest b bytes fits) e
