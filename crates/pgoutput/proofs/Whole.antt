-- The laws of a whole message: what is read, what is spelled, and where each fault stands.
use Rattle.std.proofs.Common.{◌≡◌, ◌≢◌, ℕ, ◌<◌, List, [], ◌∷◌, ◌++◌, length, take, Result, Ok, Err, refl, sym, ap, subst, ◌∙◌, arith, inl, inr}
use Rattle.std.specs.Prelude.{◌⊎◌, IfOk, IfErr}
use Rattle.std.proofs.lemmas.List.{append-nil, take_at, length-append}
use Rattle.pqformat.proofs.Codec.{IsBytes, bind_ok, ok_is}
use Rattle.pgoutput.specs.declared.fault.PgoutputError.{PgoutputError}
use Rattle.pgoutput.specs.declared.fault.PgoutputError.TheVariants.{Short, UnknownKind, BadMark, BadText, Trailing, Memory}
use Rattle.pgoutput.specs.declared.logical.Logical.{Logical}
use Rattle.pgoutput.specs.Reading.{Answers}
use Rattle.pgoutput.specs.Logical.{logical_at, alone, whole_of, spell_logical, FitsLogical, SpellsLogical, Stands}
use Rattle.pgoutput.specs.Layout.{StopsIn}
use Rattle.pgoutput.proofs.Engine.{bind_err, IsFieldFault}
use Rattle.pgoutput.proofs.Wires.{logical_chosen, logical_codec, logical_ends}
use Rattle.pgoutput.proofs.StoppedRows.{logical_stops, logical_stands}

-- ---- what is read and what is spelled

left_alone : (m n : Logical) (rest : List ℕ) → alone m rest ≡ Ok n → (m ≡ n) × (rest ≡ [])
left_alone m n [] e = (ok_is PgoutputError m n e, refl)
left_alone m n (b ∷ rest) e = absurd cc

whole_takes : (bytes : List ℕ) (m : Logical) → IsBytes bytes → whole_of bytes ≡ Ok m → SpellsLogical bytes m
whole_takes bytes m fits e =
    let a = bind_ok (logical_at bytes) (λ a. alone a.0 a.1) m e in
    let t = logical_codec.takes bytes a.0.0 a.0.1 fits a.1 in
    let l = left_alone a.0.0 m a.0.1 a.2 in
    let text : bytes ≡ spell_logical a.0.0 = t.0.parts ∙ ap (λ (r : List ℕ). spell_logical a.0.0 ++ r) l.1 ∙ append-nil (spell_logical a.0.0) in
    let P : Logical → Type 0 = λ n. SpellsLogical bytes n in
    subst P l.0 (record { in_range = t.1; text = text })

whole_again : (bytes : List ℕ) (m : Logical) → SpellsLogical bytes m → whole_of bytes ≡ Ok m
whole_again bytes m s =
    let text : bytes ≡ spell_logical m ++ [] = s.text ∙ sym (append-nil (spell_logical m)) in
    rw (text, logical_codec.again m [] s.in_range) refl

pub is_found : (bytes : List ℕ) (result : Result Logical PgoutputError) → IsBytes bytes → Answers result (whole_of bytes) → IfOk result (λ m. SpellsLogical bytes m)
is_found bytes (Ok m) fits e = whole_takes bytes m fits e
is_found bytes (Err d) fits e = tt

-- the answer is what reading gives, or memory ran out
answered : (result read : Result Logical PgoutputError) → Answers result read → (read ≡ result) ⊎ (result ≡ Err Memory)
answered (Ok m) read e = inl e
answered (Err Short) read e = inl e
answered (Err UnknownKind) read e = inl e
answered (Err BadMark) read e = inl e
answered (Err BadText) read e = inl e
answered (Err Trailing) read e = inl e
answered (Err Memory) read e = inr refl

pub is_only : (bytes : List ℕ) (result : Result Logical PgoutputError) → Answers result (whole_of bytes) → (m : Logical) → SpellsLogical bytes m → Answers result (Ok m)
is_only bytes result e m s = subst (λ (read : Result Logical PgoutputError). Answers result read) (whole_again bytes m s) e

-- ---- where a fault stands

-- which message it is, is judged first
kind_judged : (bytes : List ℕ) (e : PgoutputError) → logical_at bytes ≡ Err e → IsFieldFault e ⊎ ((e ≡ UnknownKind) × Stands UnknownKind bytes)
unfolding logical_at
kind_judged [] e is = let same : Short ≡ e = cc in inl (subst IsFieldFault same tt)
kind_judged (b ∷ bytes) e is = elim (logical_chosen.own b bytes e is) [
  | inl own ↦ inl own
  | inr other ↦ inr (other.0, (b, bytes, refl, other.1))
]

kind_refused : (bytes : List ℕ) → Stands UnknownKind bytes → logical_at bytes ≡ Err UnknownKind
unfolding logical_at
kind_refused bytes s = ap logical_at s.2 ∙ logical_chosen.other s.0 s.1 s.3

field_stands : (bytes : List ℕ) (e : PgoutputError) → IsFieldFault e → whole_of bytes ≡ Err e → Stands e bytes
field_stands bytes Short own is = is
field_stands bytes BadMark own is = is
field_stands bytes BadText own is = is
field_stands bytes UnknownKind own is = absurd own
field_stands bytes Trailing own is = absurd own
field_stands bytes Memory own is = absurd own

behind_message : (m : Logical) (rest : List ℕ) (e : PgoutputError) → alone m rest ≡ Err e → (e ≡ Trailing) × (rest ≢ [])
behind_message m [] e is = absurd cc
behind_message m (b ∷ rest) e is = let same : Trailing ≡ e = cc in (sym same, λ none. absurd cc)

left_over : (m : Logical) (rest : List ℕ) → rest ≢ [] → alone m rest ≡ Err Trailing
left_over m [] some = absurd (some refl)
left_over m (b ∷ rest) some = refl

whole_stops : (bytes : List ℕ) (e : PgoutputError) → IsBytes bytes → whole_of bytes ≡ Err e → Stands e bytes
whole_stops bytes e fits is =
    elim (bind_err (logical_at bytes) (λ a. alone a.0 a.1) e is) [
      | inl here ↦
          elim (kind_judged bytes e here) [
            | inl own ↦ field_stands bytes e own is
            | inr kind ↦ subst (λ (d : PgoutputError). Stands d bytes) (sym kind.0) kind.1
          ]
      | inr a ↦
          let t = logical_codec.takes bytes a.0.0 a.0.1 fits a.1 in
          let over = behind_message a.0.0 a.0.1 e a.2 in
          subst (λ (d : PgoutputError). Stands d bytes) (sym over.0) (a.0.0, a.0.1, t.1, t.0.parts, over.1)
    ]

whole_stands : (bytes : List ℕ) (e : PgoutputError) → e ≢ Memory → Stands e bytes → whole_of bytes ≡ Err e
whole_stands bytes Short some s = s
whole_stands bytes BadMark some s = s
whole_stands bytes BadText some s = s
whole_stands bytes UnknownKind some s = rw (kind_refused bytes s) refl
whole_stands bytes Trailing some s = rw (s.3, logical_codec.again s.0 s.1 s.2) (left_over s.0 s.1 s.4)
whole_stands bytes Memory some s = absurd (some refl)

pub is_fault : (bytes : List ℕ) (result : Result Logical PgoutputError) → IsBytes bytes → Answers result (whole_of bytes) → (result ≡ Err Memory → Stands Memory bytes)
    → IfErr result (λ e. Stands e bytes)
is_fault bytes (Ok m) fits a want = tt
is_fault bytes (Err e) fits a want = elim (answered (Err e) (whole_of bytes) a) [
  | inl is ↦ whole_stops bytes e fits is
  | inr memory ↦ let same : e ≡ Memory = cc in subst (λ (d : PgoutputError). Stands d bytes) (sym same) (want memory)
]

refused_so : (bytes : List ℕ) (result : Result Logical PgoutputError) (e : PgoutputError) → Answers result (whole_of bytes) → whole_of bytes ≡ Err e → (result ≡ Err e) ⊎ (result ≡ Err Memory)
refused_so bytes result e a is = elim (answered result (whole_of bytes) a) [
  | inl same ↦ inl (sym same ∙ is)
  | inr memory ↦ inr memory
]

pub is_refused : (bytes : List ℕ) (result : Result Logical PgoutputError) → Answers result (whole_of bytes) → (e : PgoutputError) → e ≢ Memory → Stands e bytes
    → (result ≡ Err e) ⊎ (result ≡ Err Memory)
is_refused bytes result a e some s = refused_so bytes result e a (whole_stands bytes e some s)

-- ---- where the fields of a message stop

stops_so : (bytes : List ℕ) (e : PgoutputError) → IsBytes bytes → whole_of bytes ≡ Err e → StopsIn e bytes ⊎ ((e ≡ UnknownKind) ⊎ (e ≡ Trailing))
stops_so bytes e fits is =
    elim (bind_err (logical_at bytes) (λ a. alone a.0 a.1) e is) [
      | inl here ↦ elim (logical_stops bytes e fits here) [ inl s ↦ inl s | inr kind ↦ inr (inl kind) ]
      | inr a ↦ inr (inr (behind_message a.0.0 a.0.1 e a.2).0)
    ]

failed_so : (bytes : List ℕ) (result : Result Logical PgoutputError) (e : PgoutputError) → IsFieldFault e → Answers result (whole_of bytes) → result ≡ Err e → whole_of bytes ≡ Err e
failed_so bytes result Short own a is = subst (λ (r : Result Logical PgoutputError). Answers r (whole_of bytes)) is a
failed_so bytes result BadMark own a is = subst (λ (r : Result Logical PgoutputError). Answers r (whole_of bytes)) is a
failed_so bytes result BadText own a is = subst (λ (r : Result Logical PgoutputError). Answers r (whole_of bytes)) is a
failed_so bytes result UnknownKind own a is = absurd own
failed_so bytes result Trailing own a is = absurd own
failed_so bytes result Memory own a is = absurd own

pub is_at_fault : (bytes : List ℕ) (result : Result Logical PgoutputError) (e : PgoutputError) → IsFieldFault e → IsBytes bytes → Answers result (whole_of bytes) → result ≡ Err e → StopsIn e bytes
is_at_fault bytes result e own fits a is =
    elim (stops_so bytes e fits (failed_so bytes result e own a is)) [
      | inl s ↦ s
      | inr other ↦ elim other [
        | inl kind ↦ absurd (subst IsFieldFault kind own)
        | inr over ↦ absurd (subst IsFieldFault over own)
      ]
    ]

pub is_stopped : (bytes : List ℕ) (result : Result Logical PgoutputError) → Answers result (whole_of bytes) → (e : PgoutputError) → StopsIn e bytes → (result ≡ Err e) ⊎ (result ≡ Err Memory)
is_stopped bytes result a e s = refused_so bytes result e a (rw (logical_stands bytes e s) refl)

-- ---- a message that ends too soon

pub is_cut : (bytes : List ℕ) (result : Result Logical PgoutputError) → Answers result (whole_of bytes) → (text more : List ℕ) (m : Logical) → SpellsLogical text m → text ≡ bytes ++ more → more ≢ []
    → (result ≡ Err Short) ⊎ (result ≡ Err Memory)
is_cut bytes result a text more m s parts some =
    let spelled : spell_logical m ≡ bytes ++ more = sym s.text ∙ parts in
    let front : take (length bytes) (spell_logical m) ≡ bytes = ap (take (length bytes)) spelled ∙ take_at bytes more (length bytes) refl in
    let less : length bytes < length (spell_logical m) = omega (arith, ap (length {A = ℕ}) spelled, length-append bytes more, not_empty more some) in
    let short : logical_at bytes ≡ Err Short = ap logical_at (sym front) ∙ logical_ends m (length bytes) s.in_range less in
    refused_so bytes result Short a (rw short refl)
  where
    not_empty : (xs : List ℕ) → xs ≢ [] → 0 < length xs
    not_empty [] some = absurd (some refl)
    not_empty (x ∷ xs) some = omega arith

-- ---- one spelling

pub two_spellings : (m n : Logical) (x y : List ℕ) → FitsLogical m → FitsLogical n → spell_logical m ++ x ≡ spell_logical n ++ y → (m ≡ n) × (x ≡ y)
two_spellings m n x y m_fits n_fits same =
    let one : logical_at (spell_logical n ++ y) ≡ Ok (m, x) = ap logical_at (sym same) ∙ logical_codec.again m x m_fits in
    let other : logical_at (spell_logical n ++ y) ≡ Ok (n, y) = logical_codec.again n y n_fits in
    let both : Logical × List ℕ = (m, x) in
    let pairs = ok_is PgoutputError both (n, y) (sym one ∙ other) in
    (ap (λ (p : Logical × List ℕ). p.0) pairs, ap (λ (p : Logical × List ℕ). p.1) pairs)
