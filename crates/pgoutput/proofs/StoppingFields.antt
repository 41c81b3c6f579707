-- Where a fault stands in the plain fields: numbers, counts, texts, names and letters.
use Rattle.std.proofs.Common.{◌≡◌, ℕ, ◌^◌, ◌≤◌, ◌<◌, Bool, true, false, cond, ltb, List, [], ◌∷◌, length, Some, None, Result, Ok, Err, ◌++◌, refl, sym, ap, subst, ◌∙◌, arith, inl, inr}
use Rattle.std.specs.Prelude.{FitsSigned, ◌⊎◌}
use Rattle.std.specs.List.{flat_map, AllByRecursion}
use Rattle.std.specs.Int.{Width, w16, w32, w64, byte_len, to_be_bytes, cast_signed, cast_unsigned}
use Rattle.std.proofs.lemmas.Bool.{ltb-true, ltb-false, lt-ltb, le-ltb}
use Rattle.std.proofs.lemmas.Int.{of_z-to_z}
use Rattle.std.proofs.lemmas.List.{append-nil}
use Rattle.std.proofs.Math.Facts.{sfits_to_z, Fits-of_z, Fits-lt-pow}
use Rattle.pqformat.specs.Fields.{number_at, int16, int32, int64}
use Rattle.pqformat.specs.Steps.{◌>>=◌, repeat_at}
use Rattle.pqformat.proofs.Codec.{IsBytes}
use Rattle.pqformat.proofs.Numbers.{IsWide, wide32, wide64, length-int16, length-int32}
use Rattle.pgoutput.specs.declared.fault.PgoutputError.{PgoutputError}
use Rattle.pgoutput.specs.declared.fault.PgoutputError.TheVariants.{Short, UnknownKind, BadMark, BadText, Trailing, Memory}
use Rattle.pgoutput.specs.Reading.{short, count16_at, count32_at, signed32_at, signed64_at}
use Rattle.pgoutput.specs.Layout.{Field, spell_field, spell_fields, IsAtFault, Stops}
use Rattle.pgoutput.specs.Layout.Field.{Number, Count16, Count32}
use Rattle.pgoutput.proofs.Engine.{Wire, bind_err}
use Rattle.pgoutput.proofs.Plain as plain
use Rattle.pgoutput.proofs.Stopping.{Told, InRange, counted, spell-cons, none_in}
use Rattle.pgoutput.proofs.StoppingLists.{repeated}

-- ---- one field

-- what is at fault where a value of one field is read
pub record AtOne {A : Type 0} (field : A → Field) (Fits : A → Type 0) (e : PgoutputError) (bytes : List ℕ) : Type 0 where
  pub value : A
  pub fits : Fits value
  pub at_fault : IsAtFault e (field value) bytes

pub one_told : {A : Type 0} {read : List ℕ → Result (A × List ℕ) PgoutputError} {t : A → List ℕ} {F : A → Type 0} → Wire read t F → (field : A → Field) → InRange F → ((x : A) → spell_field (field x) ≡ t x)
    → ((bytes : List ℕ) (e : PgoutputError) → IsBytes bytes → read bytes ≡ Err e → AtOne field F e bytes)
    → ((x : A) (rest : List ℕ) (e : PgoutputError) → F x → IsAtFault e (field x) rest → read rest ≡ Err e)
    → Told read t F (λ x. field x ∷ [])
one_told {A} {read} {t} {F} wire field some spelled stops stands = record {
  wire = wire;
  some = some;
  spelled = λ x. spell-cons (field x) [] ∙ append-nil (spell_field (field x)) ∙ spelled x;
  stops = λ bytes e fits is.
      let at = stops bytes e fits is in
      record { value = at.value; in_range = at.fits; before = []; next = field at.value; after = []; rest = bytes; parts = refl; text = refl; at_fault = at.at_fault };
  stands = λ bytes e s. ap read s.text ∙ alone s.value s.before s.next s.after s.rest e s.in_range s.parts s.at_fault;
} where
  alone : (x : A) (before : List Field) (next : Field) (after : List Field) (rest : List ℕ) (e : PgoutputError) → F x → field x ∷ [] ≡ before ++ next ∷ after → IsAtFault e next rest → read (spell_fields before ++ rest) ≡ Err e
  alone x [] next after rest e fits parts at_fault =
      let same : next ≡ field x = cc in
      stands x rest e fits (subst (λ (f : Field). IsAtFault e f rest) same at_fault)
  alone x (b ∷ before) next after rest e fits parts at_fault =
      let none : [] ≡ before ++ next ∷ after = cc in
      absurd (none_in before next after none)

-- a fault of one field, by its kind
pub missing : {A : Type 0} (b : Bool) (x : A) (e : PgoutputError) → short (cond b None (Some x)) ≡ Err e → (e ≡ Short) × (b ≡ true)
missing true x e is = let same : Short ≡ e = cc in (sym same, refl)
missing false x e is = absurd cc

pub is_missing : {A : Type 0} (b : Bool) (x : A) → b ≡ true → short (cond b None (Some x)) ≡ Err Short
is_missing true x holds = refl
is_missing false x holds = absurd cc

-- ---- numbers

pub number_at_fault : (text : List ℕ) (rest : List ℕ) (e : PgoutputError) → IsAtFault e (Number text) rest → (e ≡ Short) × (length rest < length text)
number_at_fault text rest Short at = (refl, at)
number_at_fault text rest BadMark at = absurd at
number_at_fault text rest BadText at = absurd at
number_at_fault text rest UnknownKind at = absurd at
number_at_fault text rest Trailing at = absurd at
number_at_fault text rest Memory at = absurd at

number_told : (w : Width) (limit : ℕ) → IsWide w limit → 0 < limit → Wire (λ bytes. short (number_at w bytes)) (to_be_bytes w) (λ n. n < limit)
    → Told (λ bytes. short (number_at w bytes)) (to_be_bytes w) (λ n. n < limit) (λ n. Number (to_be_bytes w n) ∷ [])
number_told w limit wide some wire = one_told wire (λ n. Number (to_be_bytes w n)) (record { value = 0; fits = some }) (λ n. refl) stops stands
  where
    stops : (bytes : List ℕ) (e : PgoutputError) → IsBytes bytes → short (number_at w bytes) ≡ Err e → AtOne (λ n. Number (to_be_bytes w n)) (λ n. n < limit) e bytes
    stops bytes e fits is =
        let m = missing (ltb (length bytes) (byte_len w)) _ e is in
        let less : length bytes < byte_len w = ltb-true (length bytes) (byte_len w) m.1 in
        let early : IsAtFault Short (Number (to_be_bytes w 0)) bytes = omega (arith, wide.len 0, less) in
        record { value = 0; fits = some; at_fault = subst (λ (f : PgoutputError). IsAtFault f (Number (to_be_bytes w 0)) bytes) (sym m.0) early }

    stands : (n : ℕ) (rest : List ℕ) (e : PgoutputError) → n < limit → IsAtFault e (Number (to_be_bytes w n)) rest → short (number_at w rest) ≡ Err e
    stands n rest e fits at =
        let a = number_at_fault (to_be_bytes w n) rest e at in
        is_missing (ltb (length rest) (byte_len w)) _ (lt-ltb (length rest) (byte_len w) (omega (arith, a.1, wide.len n))) ∙ ap Err (sym a.0)

pub number32 : Told (λ bytes. short (number_at w32 bytes)) int32 (λ n. n < 2 ^ 32) (λ n. Number (int32 n) ∷ [])
unfolding int32
number32 = number_told w32 (2 ^ 32) wide32 (omega arith) plain.number32

pub number64 : Told (λ bytes. short (number_at w64 bytes)) int64 (λ n. n < 2 ^ 64) (λ n. Number (int64 n) ∷ [])
unfolding int64
number64 = number_told w64 (2 ^ 64) wide64 (omega arith) plain.number64

-- a value that is written as another
converted : {A B : Type 0} {read : List ℕ → Result (A × List ℕ) PgoutputError} {t : A → List ℕ} {F : A → Type 0} {fa : A → List Field} → Told read t F fa → (to : A → B) (from : B → A) (G : B → Type 0)
    → Wire (λ bytes. read bytes >>= λ a. Ok (to a.0, a.1)) (λ b. t (from b)) G → ((a : A) → F a → G (to a)) → ((b : B) → G b → F (from b)) → ((a : A) → F a → from (to a) ≡ a)
    → Told (λ bytes. read bytes >>= λ a. Ok (to a.0, a.1)) (λ b. t (from b)) G (λ b. fa (from b))
converted {A} {B} {read} {t} {F} {fa} c to from G wire there back from-to = record {
  wire = wire;
  some = record { value = to c.some.value; fits = there c.some.value c.some.fits };
  spelled = λ b. c.spelled (from b);
  stops = λ bytes e fits is.
      elim (bind_err (read bytes) (λ a. Ok (to a.0, a.1)) e is) [
        | inl first ↦ made bytes e (c.stops bytes e fits first)
        | inr a ↦ absurd (let why = a.2 in cc)
      ];
  stands = λ bytes e s. rw (c.stands bytes e (record { value = from s.value; in_range = back s.value s.in_range; before = s.before; next = s.next; after = s.after; rest = s.rest; parts = s.parts; text = s.text; at_fault = s.at_fault })) refl;
} where
  made : (bytes : List ℕ) (e : PgoutputError) → Stops fa F e bytes → Stops (λ b. fa (from b)) G e bytes
  made bytes e s = record {
    value = to s.value;
    in_range = there s.value s.in_range;
    before = s.before;
    next = s.next;
    after = s.after;
    rest = s.rest;
    parts = ap fa (from-to s.value s.in_range) ∙ s.parts;
    text = s.text;
    at_fault = s.at_fault;
  }

pub signed32 : Told signed32_at (λ z. int32 (cast_unsigned w32 z)) (FitsSigned w32) (λ z. Number (int32 (cast_unsigned w32 z)) ∷ [])
signed32 = converted number32 (cast_signed w32) (cast_unsigned w32) (FitsSigned w32) plain.signed32 (λ n lt. sfits_to_z (record { fits = lt })) (λ z fits. Fits-lt-pow (Fits-of_z fits)) (λ n lt. of_z-to_z w32 n lt)

pub signed64 : Told signed64_at (λ z. int64 (cast_unsigned w64 z)) (FitsSigned w64) (λ z. Number (int64 (cast_unsigned w64 z)) ∷ [])
signed64 = converted number64 (cast_signed w64) (cast_unsigned w64) (FitsSigned w64) plain.signed64 (λ n lt. sfits_to_z (record { fits = lt })) (λ z fits. Fits-lt-pow (Fits-of_z fits)) (λ n lt. of_z-to_z w64 n lt)

-- ---- counts

-- why no count below a limit was read
record NoCount (w : Width) (t : ℕ → List ℕ) (limit wide : ℕ) (bytes : List ℕ) : Type 0 where
  count : ℕ
  more : List ℕ
  is : bytes ≡ t count ++ more
  over : limit ≤ count
  within : count < wide

abbrev count_of : Width → ℕ → List ℕ → Result (ℕ × List ℕ) PgoutputError
count_of w limit bytes = short (number_at w bytes) >>= λ n. cond (ltb n.0 limit) (Ok n) (Err BadMark)

count_stops : (w : Width) (t : ℕ → List ℕ) (limit wide : ℕ) (c : Wire (λ bytes. short (number_at w bytes)) t (λ n. n < wide)) (bytes : List ℕ) (e : PgoutputError)
    → IsBytes bytes → count_of w limit bytes ≡ Err e → ((e ≡ Short) × (length bytes < byte_len w)) ⊎ ((e ≡ BadMark) × NoCount w t limit wide bytes)
count_stops w t limit wide c bytes e fits is =
    elim (bind_err (short (number_at w bytes)) (λ n. cond (ltb n.0 limit) (Ok n) (Err BadMark)) e is) [
      | inl none ↦ let m = missing (ltb (length bytes) (byte_len w)) _ e none in inl (m.0, ltb-true (length bytes) (byte_len w) m.1)
      | inr n ↦
          let took = c.codec.takes bytes n.0.0 n.0.1 fits n.1 in
          let over = failed (ltb n.0.0 limit) n.0 n.2 in
          inr (over.0, record { count = n.0.0; more = n.0.1; is = took.0.parts; over = ltb-false n.0.0 limit over.1; within = took.1 })
    ]
  where
    failed : (b : Bool) (n : ℕ × List ℕ) → cond b (Ok n) (Err BadMark) ≡ Err e → (e ≡ BadMark) × (b ≡ false)
    failed true n is = absurd cc
    failed false n is = let same : BadMark ≡ e = cc in (sym same, refl)

count_short : (w : Width) (limit : ℕ) (rest : List ℕ) → length rest < byte_len w → count_of w limit rest ≡ Err Short
count_short w limit rest less = rw (is_missing (ltb (length rest) (byte_len w)) _ (lt-ltb (length rest) (byte_len w) less)) refl

count_over : (w : Width) (t : ℕ → List ℕ) (limit wide : ℕ) (c : Wire (λ bytes. short (number_at w bytes)) t (λ n. n < wide)) (rest : List ℕ)
    → NoCount w t limit wide rest → count_of w limit rest ≡ Err BadMark
count_over w t limit wide c rest why = rw (why.is, c.codec.again why.count why.more why.within, le-ltb why.count limit why.over) refl

pub count16 : Told count16_at int16 (λ n. n < 2 ^ 15) (λ n. Count16 n ∷ [])
count16 = one_told plain.count16 (λ n. Count16 n) (record { value = 0; fits = omega arith }) (λ n. refl) stops stands
  where
    stops : (bytes : List ℕ) (e : PgoutputError) → IsBytes bytes → count16_at bytes ≡ Err e → AtOne (λ n. Count16 n) (λ n. n < 2 ^ 15) e bytes
    stops bytes e fits is = elim (count_stops w16 int16 (2 ^ 15) (2 ^ 16) plain.number16 bytes e fits is) [
      | inl none ↦
          let early : IsAtFault Short (Count16 0) bytes = omega (arith, none.1, length-int16 0) in
          record { value = 0; fits = omega arith; at_fault = subst (λ (f : PgoutputError). IsAtFault f (Count16 0) bytes) (sym none.0) early }
      | inr why ↦
          let other : IsAtFault BadMark (Count16 0) bytes = (why.1.count, why.1.more, why.1.is, why.1.over, why.1.within) in
          record { value = 0; fits = omega arith; at_fault = subst (λ (f : PgoutputError). IsAtFault f (Count16 0) bytes) (sym why.0) other }
    ]

    stands : (n : ℕ) (rest : List ℕ) (e : PgoutputError) → n < 2 ^ 15 → IsAtFault e (Count16 n) rest → count16_at rest ≡ Err e
    stands n rest Short fits at = count_short w16 (2 ^ 15) rest (omega (arith, at, length-int16 n))
    stands n rest BadMark fits at = count_over w16 int16 (2 ^ 15) (2 ^ 16) plain.number16 rest (record { count = at.0; more = at.1; is = at.2; over = at.3; within = at.4 })
    stands n rest BadText fits at = absurd at
    stands n rest UnknownKind fits at = absurd at
    stands n rest Trailing fits at = absurd at
    stands n rest Memory fits at = absurd at

pub count32 : Told count32_at int32 (λ n. n < 2 ^ 31) (λ n. Count32 n ∷ [])
count32 = one_told plain.count32 (λ n. Count32 n) (record { value = 0; fits = omega arith }) (λ n. refl) stops stands
  where
    stops : (bytes : List ℕ) (e : PgoutputError) → IsBytes bytes → count32_at bytes ≡ Err e → AtOne (λ n. Count32 n) (λ n. n < 2 ^ 31) e bytes
    stops bytes e fits is = elim (count_stops w32 int32 (2 ^ 31) (2 ^ 32) plain.number32 bytes e fits is) [
      | inl none ↦
          let early : IsAtFault Short (Count32 0) bytes = omega (arith, none.1, length-int32 0) in
          record { value = 0; fits = omega arith; at_fault = subst (λ (f : PgoutputError). IsAtFault f (Count32 0) bytes) (sym none.0) early }
      | inr why ↦
          let other : IsAtFault BadMark (Count32 0) bytes = (why.1.count, why.1.more, why.1.is, why.1.over, why.1.within) in
          record { value = 0; fits = omega arith; at_fault = subst (λ (f : PgoutputError). IsAtFault f (Count32 0) bytes) (sym why.0) other }
    ]

    stands : (n : ℕ) (rest : List ℕ) (e : PgoutputError) → n < 2 ^ 31 → IsAtFault e (Count32 n) rest → count32_at rest ≡ Err e
    stands n rest Short fits at = count_short w32 (2 ^ 31) rest (omega (arith, at, length-int32 n))
    stands n rest BadMark fits at = count_over w32 int32 (2 ^ 31) (2 ^ 32) plain.number32 rest (record { count = at.0; more = at.1; is = at.2; over = at.3; within = at.4 })
    stands n rest BadText fits at = absurd at
    stands n rest UnknownKind fits at = absurd at
    stands n rest Trailing fits at = absurd at
    stands n rest Memory fits at = absurd at

-- items after their count
pub list : {A : Type 0} {read : List ℕ → Result (A × List ℕ) PgoutputError} {t : A → List ℕ} {F : A → Type 0} {fa : A → List Field} → Told read t F fa
    → Told (λ bytes. count16_at bytes >>= λ n. repeat_at read n.0 n.1) (λ xs. int16 (length xs) ++ flat_map t xs) (λ xs. (length xs < 2 ^ 15) × AllByRecursion F xs) (λ xs. (Count16 (length xs) ∷ []) ++ flat_map fa xs)
list {A} {read} {t} {F} {fa} c = counted count16 length _ (flat_map t) (AllByRecursion F) (flat_map fa) (plain.list_wire c.wire) (λ n. repeated c n)
