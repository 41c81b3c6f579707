-- The engine of where a fault stands: a reader of a field or a message, and its layout. `stops`: where reading fails, the bytes
-- begin with whole fields, and what stands after them is at fault. `stands`: where that is so, reading fails.
use Rattle.std.proofs.Common.{◌≡◌, ℕ, List, [], ◌∷◌, ◌++◌, Result, Ok, Err, refl, sym, ap, subst, ◌∙◌, append_assoc, inl, inr}
use Rattle.std.specs.Prelude.{◌⊎◌}
use Rattle.std.proofs.lemmas.Grind.{flat_map-append}
use Rattle.std.proofs.lemmas.List.Concat.{flat_map-cons}
use Rattle.pqformat.specs.Steps.{◌>>=◌}
use Rattle.pqformat.proofs.Codec.{IsBytes}
use Rattle.pgoutput.specs.declared.fault.PgoutputError.{PgoutputError}
use Rattle.pgoutput.specs.Layout.{Field, spell_field, spell_fields, Stops}
use Rattle.pgoutput.proofs.Engine.{Wire, bind_err}

-- ---- lists of fields

pub record InFirst {X : Type 0} (xs before : List X) (next : X) : Type 0 where
  pub after : List X
  pub is : xs ≡ before ++ next ∷ after

pub record InLast {X : Type 0} (xs ys before : List X) (next : X) (after : List X) : Type 0 where
  pub front : List X
  pub is_before : before ≡ xs ++ front
  pub is : ys ≡ front ++ next ∷ after

-- one of two lists that stand one after the other has the element
pub parted : {X : Type 0} (xs ys before : List X) (next : X) (after : List X) → xs ++ ys ≡ before ++ next ∷ after → InFirst xs before next ⊎ InLast xs ys before next after
parted [] ys before next after e = inr (record { front = before; is_before = refl; is = e })
parted (x ∷ xs) ys [] next after e = inl (record { after = xs; is = let same : x ≡ next = cc in ap (λ y. y ∷ xs) same })
parted {X} (x ∷ xs) ys (b ∷ before) next after e =
    let same : x ≡ b = cc in
    let others : xs ++ ys ≡ before ++ next ∷ after = cc in
    elim (parted xs ys before next after others) [
      | inl first ↦ inl (record { after = first.after; is = ap (λ y. y ∷ xs) same ∙ ap (λ l. b ∷ l) first.is })
      | inr last ↦ inr (record { front = last.front; is_before = ap (λ y. y ∷ before) (sym same) ∙ ap (λ l. x ∷ l) last.is_before; is = last.is })
    ]

pub none_in : {X : Type 0} (before : List X) (next : X) (after : List X) → [] ≡ before ++ next ∷ after → ⊥
none_in [] next after e = cc
none_in (b ∷ before) next after e = cc

pub spell-append : (xs ys : List Field) → spell_fields (xs ++ ys) ≡ spell_fields xs ++ spell_fields ys
spell-append xs ys = flat_map-append spell_field xs ys

pub spell-cons : (x : Field) (xs : List Field) → spell_fields (x ∷ xs) ≡ spell_field x ++ spell_fields xs
spell-cons x xs = flat_map-cons spell_field x xs

-- ---- readers and their layout

pub record InRange {A : Type 0} (Fits : A → Type 0) : Type 0 where
  pub value : A
  pub fits : Fits value

pub record Told {A : Type 0} (read : List ℕ → Result (A × List ℕ) PgoutputError) (text : A → List ℕ) (Fits : A → Type 0) (fields : A → List Field) : Type 0 where
  pub wire : Wire read text Fits
  pub some : InRange Fits
  pub spelled : (x : A) → spell_fields (fields x) ≡ text x
  pub stops : (bytes : List ℕ) (e : PgoutputError) → IsBytes bytes → read bytes ≡ Err e → Stops fields Fits e bytes
  pub stands : (bytes : List ℕ) (e : PgoutputError) → Stops fields Fits e bytes → read bytes ≡ Err e

-- the same after fields that were read already: Known says what they were
pub record RestTold {M : Type 0} (read : List ℕ → Result (M × List ℕ) PgoutputError) (Known : M → Type 0) (text : M → List ℕ) (Fits : M → Type 0) (fields : M → List Field) : Type 0 where
  pub some : InRange (λ m. Known m × Fits m)
  pub spelled : (m : M) → spell_fields (fields m) ≡ text m
  pub stops : (bytes : List ℕ) (e : PgoutputError) → IsBytes bytes → read bytes ≡ Err e → Stops fields (λ m. Known m × Fits m) e bytes
  pub stands : (bytes : List ℕ) (e : PgoutputError) → Stops fields (λ m. Known m × Fits m) e bytes → read bytes ≡ Err e

-- the same with another range
pub in_another : {A : Type 0} {fields : A → List Field} {F G : A → Type 0} {e : PgoutputError} {bytes : List ℕ} → ((x : A) → F x → G x) → Stops fields F e bytes → Stops fields G e bytes
in_another there s = record {
  value = s.value;
  in_range = there s.value s.in_range;
  before = s.before;
  next = s.next;
  after = s.after;
  rest = s.rest;
  parts = s.parts;
  text = s.text;
  at_fault = s.at_fault;
}

pub with_range : {A : Type 0} {read : List ℕ → Result (A × List ℕ) PgoutputError} {t : A → List ℕ} {F : A → Type 0} {fields : A → List Field} (G : A → Type 0) → Wire read t G → Told read t F fields
    → ((x : A) → F x → G x) → ((x : A) → G x → F x) → Told read t G fields
with_range G wire c there back = record {
  wire = wire;
  some = record { value = c.some.value; fits = there c.some.value c.some.fits };
  spelled = c.spelled;
  stops = λ bytes e fits is. in_another there (c.stops bytes e fits is);
  stands = λ bytes e s. c.stands bytes e (in_another back s);
}

-- the same of a value with more fields after
pub with_after : {A B : Type 0} {fa : A → List Field} {F : A → Type 0} {fields : B → List Field} {G : B → Type 0} {e : PgoutputError} {bytes : List ℕ}
    → (s : Stops fa F e bytes) (x : B) (behind : List Field) → G x → fields x ≡ fa s.value ++ behind → Stops fields G e bytes
with_after s x behind fits is = record {
  value = x;
  in_range = fits;
  before = s.before;
  next = s.next;
  after = s.after ++ behind;
  rest = s.rest;
  parts = is ∙ ap (λ l. l ++ behind) s.parts ∙ append_assoc s.before (s.next ∷ s.after) behind;
  text = s.text;
  at_fault = s.at_fault;
}

-- and with more in front
pub with_front : {A B : Type 0} {fa : A → List Field} {F : A → Type 0} {fields : B → List Field} {G : B → Type 0} {e : PgoutputError}
    → (bytes text rest : List ℕ) (s : Stops fa F e rest) (x : B) (front : List Field) → bytes ≡ text ++ rest → spell_fields front ≡ text → G x → fields x ≡ front ++ fa s.value → Stops fields G e bytes
with_front bytes text rest s x front parts spelled fits is = record {
  value = x;
  in_range = fits;
  before = front ++ s.before;
  next = s.next;
  after = s.after;
  rest = s.rest;
  parts = is ∙ ap (λ l. front ++ l) s.parts ∙ sym (append_assoc front s.before (s.next ∷ s.after));
  text =
      let before : spell_fields (front ++ s.before) ≡ text ++ spell_fields s.before = spell-append front s.before ∙ ap (λ l. l ++ spell_fields s.before) spelled in
      parts ∙ ap (λ l. text ++ l) s.text ∙ sym (append_assoc text (spell_fields s.before) s.rest) ∙ ap (λ l. l ++ s.rest) (sym before);
  at_fault = s.at_fault;
}

-- what is left after the fields of the front
pub after_front : (text : List ℕ) (before front xs : List Field) (rest : List ℕ) → before ≡ xs ++ front → spell_fields xs ≡ text → spell_fields before ++ rest ≡ text ++ (spell_fields front ++ rest)
after_front text before front xs rest is spelled =
    ap (λ l. spell_fields l ++ rest) is ∙ ap (λ l. l ++ rest) (spell-append xs front ∙ ap (λ l. l ++ spell_fields front) spelled) ∙ append_assoc text (spell_fields front) rest

-- a field p of a message, and the fields after it
pub field : {A M : Type 0} {read : List ℕ → Result (A × List ℕ) PgoutputError} {t : A → List ℕ} {F : A → Type 0} {fa : A → List Field} → Told read t F fa
    → (p : M → A) (Known : M → Type 0) (k : A → List ℕ → Result (M × List ℕ) PgoutputError) (text : M → List ℕ) (Fits : M → Type 0) (fields : M → List Field)
    → ((a : A) → F a → RestTold (k a) (λ m. (p m ≡ a) × Known m) text Fits fields)
    → RestTold (λ bytes. read bytes >>= λ a. k a.0 a.1) Known (λ m. t (p m) ++ text m) (λ m. F (p m) × Fits m) (λ m. fa (p m) ++ fields m)
field {A} {M} {read} {t} {F} {fa} c p Known k text Fits fields after = record {
  some =
      let m = (after c.some.value c.some.fits).some in
      record { value = m.value; fits = (m.fits.0.1, (subst F (sym m.fits.0.0) c.some.fits, m.fits.1)) };
  spelled = λ m. spell-append (fa (p m)) (fields m) ∙ ap (λ l. l ++ spell_fields (fields m)) (c.spelled (p m)) ∙ ap (λ l. t (p m) ++ l) (last_spelled m);
  stops = λ bytes e fits is.
      elim (bind_err (read bytes) (λ a. k a.0 a.1) e is) [
        | inl first ↦ in_first bytes e (c.stops bytes e fits first)
        | inr a ↦
            let took = c.wire.codec.takes bytes a.0.0 a.0.1 fits a.1 in
            behind bytes e a.0.0 a.0.1 took.0.parts took.1 ((after a.0.0 took.1).stops a.0.1 e took.0.rest_fits a.2)
      ];
  stands = λ bytes e s.
      elim (parted (fa (p s.value)) (fields s.value) s.before s.next s.after s.parts) [
        | inl first ↦ rw (c.stands bytes e (record { value = p s.value; in_range = s.in_range.1.0; before = s.before; next = s.next; after = first.after; rest = s.rest; parts = first.is; text = s.text; at_fault = s.at_fault })) refl
        | inr last ↦
            let left : List ℕ = spell_fields last.front ++ s.rest in
            let fits = s.in_range.1.0 in
            let whole : bytes ≡ t (p s.value) ++ left = s.text ∙ after_front (t (p s.value)) s.before last.front (fa (p s.value)) s.rest last.is_before (c.spelled (p s.value)) in
            rw (whole, c.wire.codec.again (p s.value) left fits)
            ((after (p s.value) fits).stands left e (record { value = s.value; in_range = ((refl, s.in_range.0), s.in_range.1.1); before = last.front; next = s.next; after = s.after; rest = s.rest; parts = last.is; text = refl; at_fault = s.at_fault }))
      ];
} where
  last_spelled : (m : M) → spell_fields (fields m) ≡ text m
  last_spelled m = (after c.some.value c.some.fits).spelled m

  in_first : (bytes : List ℕ) (e : PgoutputError) → Stops fa F e bytes → Stops (λ m. fa (p m) ++ fields m) (λ m. Known m × (F (p m) × Fits m)) e bytes
  in_first bytes e s =
      let m = (after s.value s.in_range).some in
      with_after s m.value (fields m.value) (m.fits.0.1, (subst F (sym m.fits.0.0) s.in_range, m.fits.1)) (ap (λ a. fa a ++ fields m.value) m.fits.0.0)

  behind : (bytes : List ℕ) (e : PgoutputError) (a : A) (rest : List ℕ) → bytes ≡ t a ++ rest → F a → Stops fields (λ m. ((p m ≡ a) × Known m) × Fits m) e rest
      → Stops (λ m. fa (p m) ++ fields m) (λ m. Known m × (F (p m) × Fits m)) e bytes
  behind bytes e a rest parts fits s =
      with_front bytes (t a) rest s s.value (fa a) parts (c.spelled a) (s.in_range.0.1, (subst F (sym s.in_range.0.0) fits, s.in_range.1)) (ap (λ b. fa b ++ fields s.value) s.in_range.0.0)

-- the last field, from which the message is made
pub last_field : {A M : Type 0} {read : List ℕ → Result (A × List ℕ) PgoutputError} {t : A → List ℕ} {F : A → Type 0} {fa : A → List Field} → Told read t F fa
    → (p : M → A) (Known : M → Type 0) (make : A → M) → ((a : A) → p (make a) ≡ a) → ((a : A) → F a → Known (make a))
    → RestTold (λ bytes. read bytes >>= λ a. Ok (make a.0, a.1)) Known (λ m. t (p m)) (λ m. F (p m)) (λ m. fa (p m))
last_field {A} {M} {read} {t} {F} {fa} c p Known make p_is known = record {
  some = record { value = make c.some.value; fits = (known c.some.value c.some.fits, subst F (sym (p_is c.some.value)) c.some.fits) };
  spelled = λ m. c.spelled (p m);
  stops = λ bytes e fits is.
      elim (bind_err (read bytes) (λ a. Ok (make a.0, a.1)) e is) [
        | inl first ↦ made bytes e (c.stops bytes e fits first)
        | inr a ↦ absurd (let no = a.2 in cc)
      ];
  stands = λ bytes e s. rw (c.stands bytes e (record { value = p s.value; in_range = s.in_range.1; before = s.before; next = s.next; after = s.after; rest = s.rest; parts = s.parts; text = s.text; at_fault = s.at_fault })) refl;
} where
  made : (bytes : List ℕ) (e : PgoutputError) → Stops fa F e bytes → Stops (λ m. fa (p m)) (λ m. Known m × F (p m)) e bytes
  made bytes e s = record {
    value = make s.value;
    in_range = (known s.value s.in_range, subst F (sym (p_is s.value)) s.in_range);
    before = s.before;
    next = s.next;
    after = s.after;
    rest = s.rest;
    parts = ap fa (p_is s.value) ∙ s.parts;
    text = s.text;
    at_fault = s.at_fault;
  }

-- a field that says nothing of the message, as a letter that is always the same
pub free_field : {A M : Type 0} {read : List ℕ → Result (A × List ℕ) PgoutputError} {t : A → List ℕ} {F : A → Type 0} {fa : A → List Field} → Told read t F fa → ((a : A) → F a)
    → (p : M → A) (Known : M → Type 0) (k : A → List ℕ → Result (M × List ℕ) PgoutputError) (text : M → List ℕ) (Fits : M → Type 0) (fields : M → List Field)
    → ((a : A) → F a → RestTold (k a) (λ m. (p m ≡ a) × Known m) text Fits fields)
    → RestTold (λ bytes. read bytes >>= λ a. k a.0 a.1) Known (λ m. t (p m) ++ text m) Fits (λ m. fa (p m) ++ fields m)
free_field c every p Known k text Fits fields after =
    let whole = field c p Known k text Fits fields after in
    record {
      some = record { value = whole.some.value; fits = (whole.some.fits.0, whole.some.fits.1.1) };
      spelled = whole.spelled;
      stops = λ bytes e fits is. in_another (λ m fits. (fits.0, fits.1.1)) (whole.stops bytes e fits is);
      stands = λ bytes e s. whole.stands bytes e (in_another (λ m fits. (fits.0, (every (p m), fits.1))) s);
    }

-- a message of such fields
pub told_of : {M : Type 0} {read : List ℕ → Result (M × List ℕ) PgoutputError} {text : M → List ℕ} {Fits : M → Type 0} {fields : M → List Field}
    → Wire read text Fits → RestTold read (λ _. Unit {0}) text Fits fields → Told read text Fits fields
told_of wire r = record {
  wire = wire;
  some = record { value = r.some.value; fits = r.some.fits.1 };
  spelled = r.spelled;
  stops = λ bytes e fits is. in_another (λ m fits. fits.1) (r.stops bytes e fits is);
  stands = λ bytes e s. r.stands bytes e (in_another (λ m fits. (tt, fits)) s);
}

-- a count, and what it counts
pub counted : {M : Type 0} {read : List ℕ → Result (ℕ × List ℕ) PgoutputError} {t : ℕ → List ℕ} {F : ℕ → Type 0} {fa : ℕ → List Field} → Told read t F fa
    → (size : M → ℕ) (k : ℕ → List ℕ → Result (M × List ℕ) PgoutputError) (text : M → List ℕ) (Fits : M → Type 0) (fields : M → List Field)
    → Wire (λ bytes. read bytes >>= λ n. k n.0 n.1) (λ m. t (size m) ++ text m) (λ m. F (size m) × Fits m)
    → ((n : ℕ) → Told (k n) text (λ m. (size m ≡ n) × Fits m) fields)
    → Told (λ bytes. read bytes >>= λ n. k n.0 n.1) (λ m. t (size m) ++ text m) (λ m. F (size m) × Fits m) (λ m. fa (size m) ++ fields m)
counted c size k text Fits fields wire after =
    told_of wire (field c size (λ _. Unit {0}) k text Fits fields (λ n _. record {
      some = record { value = (after n).some.value; fits = (((after n).some.fits.0, tt), (after n).some.fits.1) };
      spelled = (after n).spelled;
      stops = λ bytes e fits is. in_another (λ m fits. ((fits.0, tt), fits.1)) ((after n).stops bytes e fits is);
      stands = λ bytes e s. (after n).stands bytes e (in_another (λ m fits. (fits.0.0, fits.1)) s);
    }))
