-- Where a fault stands in names, texts and letters.
use Rattle.std.proofs.Common.{◌≡◌, ℕ, zero, suc, ◌+◌, ◌≤◌, ◌<◌, Bool, true, false, cond, ltb, eqb, List, [], ◌∷◌, length, take, drop, Option, Some, None, Ok, Err, refl, sym, ap, subst, ◌∙◌, arith, inl, inr}
use Rattle.std.specs.Prelude.{◌||◌, ◌==◌, option_map}
use Rattle.std.specs.List.{list_any, position_or_len}
use Rattle.std.specs.Str.{is_utf8, IsAscii}
use Rattle.std.proofs.Math.ListN.{replicate}
use Rattle.std.proofs.lemmas.Bool.{ltb-true, ltb-false, lt-ltb}
use Rattle.std.proofs.lemmas.List.{length-replicate}
use Rattle.std.proofs.lemmas.Str.{IsUtf8-from_ascii, is_utf8-from_IsUtf8}
use Rattle.std.proofs.lemmas.Str.Ascii.{IsAscii-nil, IsAscii-cons}
use Rattle.pqformat.specs.Fields.{bytes_at, string, string_at, has_zero}
use Rattle.pqformat.specs.Steps.{◌>>=◌}
use Rattle.pqformat.proofs.Codec.{IsBytes}
use Rattle.pqformat.proofs.Numbers as numbers
use Rattle.pgoutput.specs.declared.fault.PgoutputError.{PgoutputError}
use Rattle.pgoutput.specs.declared.fault.PgoutputError.TheVariants.{Short, UnknownKind, BadMark, BadText, Trailing, Memory}
use Rattle.pgoutput.specs.Reading.{short, as_text, expected_letter, one_of, name_at, text_at}
use Rattle.pgoutput.specs.Relation.{FitsName}
use Rattle.pgoutput.specs.Tuple.{counted_text, FitsText}
use Rattle.pgoutput.specs.Message.{content, content_at, FitsContent}
use Rattle.pgoutput.specs.Layout.{mark, IsAtFault}
use Rattle.pgoutput.specs.Layout.Field.{Letter, Count32, Name, Text, Bytes}
use Rattle.pgoutput.proofs.Engine.{Wire, bind_err, tested}
use Rattle.pgoutput.proofs.Plain as plain
use Rattle.pgoutput.proofs.Plain.{before_zero-is, none_there, zero_free, bytes_of, ended_by_zero}
use Rattle.pgoutput.proofs.Wires.{NoMore, bytes_wire, counted_wire, content_wire}
use Rattle.pgoutput.proofs.Stopping.{Told, counted, with_range, none_in}
use Rattle.pgoutput.proofs.StoppingLists.{letter_stands}
use Rattle.pgoutput.proofs.StoppingFields.{AtOne, one_told, missing, is_missing, count32}

-- a whole text that isn't UTF-8
no_text : (b : Bool) (found : List ℕ × List ℕ) (e : PgoutputError) → cond b (Ok found) (Err BadText) ≡ Err e → (e ≡ BadText) × (b ≡ false)
no_text true found e is = absurd cc
no_text false found e is = let same : BadText ≡ e = cc in (sym same, refl)

-- ---- some text of each length

all_ascii : (n : ℕ) → IsAscii (replicate n 0)
all_ascii zero = IsAscii-nil
all_ascii (suc n) = IsAscii-cons 0 (replicate n 0) (omega arith) (all_ascii n)

is_some_text : (n : ℕ) → is_utf8 (replicate n 0) ≡ true
is_some_text n = is_utf8-from_IsUtf8 (replicate n 0) (IsUtf8-from_ascii (replicate n 0) (all_ascii n))

no_bytes : FitsName []
no_bytes = (refl, is_some_text 0)

-- ---- names

unended : {A : Type 0} (b : Bool) (i : ℕ) (parts : ℕ → A) (e : PgoutputError) → short (option_map parts (cond b (Some i) None)) ≡ Err e → (e ≡ Short) × (b ≡ false)
unended true i parts e is = absurd cc
unended false i parts e is = let same : Short ≡ e = cc in (sym same, refl)

no_end : (bytes : List ℕ) (e : PgoutputError) → short (string_at bytes) ≡ Err e → (e ≡ Short) × (has_zero bytes ≡ false)
no_end bytes e is =
    let at = position_or_len (λ b. eqb b 0) bytes in
    let u = unended (ltb at (length bytes)) at (λ i. (take i bytes, drop (i + 1) bytes)) e is in
    let far : length bytes ≤ at = ltb-false at (length bytes) u.1 in
    (u.0, zero_free bytes (rw before_zero-is far))

pub name : Told name_at string FitsName (λ t. Name t ∷ [])
unfolding name_at
name = one_told plain.name_wire (λ t. Name t) (record { value = []; fits = no_bytes }) (λ t. refl) stops stands
  where
    stops : (bytes : List ℕ) (e : PgoutputError) → IsBytes bytes → (short (string_at bytes) >>= λ found. as_text found) ≡ Err e → AtOne (λ t. Name t) FitsName e bytes
    stops bytes e fits is = elim (bind_err (short (string_at bytes)) (λ found. as_text found) e is) [
      | inl none ↦
          let end = no_end bytes e none in
          record { value = []; fits = no_bytes; at_fault = subst (λ (f : PgoutputError). IsAtFault f (Name []) bytes) (sym end.0) end.1 }
      | inr found ↦
          let took = ended_by_zero.codec.takes bytes found.0.0 found.0.1 fits found.1 in
          let why = no_text (is_utf8 found.0.0) found.0 e found.2 in
          let bad : IsAtFault BadText (Name []) bytes = (found.0.0, found.0.1, took.0.parts, took.1, why.1) in
          record { value = []; fits = no_bytes; at_fault = subst (λ (f : PgoutputError). IsAtFault f (Name []) bytes) (sym why.0) bad }
    ]

    stands : (t : List ℕ) (rest : List ℕ) (e : PgoutputError) → FitsName t → IsAtFault e (Name t) rest → (short (string_at rest) >>= λ found. as_text found) ≡ Err e
    stands t rest Short fits at = rw (none_there rest at) refl
    stands t rest BadText fits at = rw (at.2, ended_by_zero.codec.again at.0 at.1 at.3, at.4) refl
    stands t rest BadMark fits at = absurd at
    stands t rest UnknownKind fits at = absurd at
    stands t rest Trailing fits at = absurd at
    stands t rest Memory fits at = absurd at

-- ---- texts after their length

abbrev FitsLong : ℕ → List ℕ → Type 0
FitsLong n t = (length t ≡ n) × (is_utf8 t ≡ true)

long_text : (n : ℕ) → Told (λ bytes. short (bytes_at n bytes) >>= λ found. as_text found) (λ t. t) (FitsLong n) (λ t. Text t ∷ [])
long_text n = one_told (tested (bytes_of n) is_utf8 BadText tt) (λ t. Text t) (record { value = some; fits = some_fits }) (λ t. refl) stops stands
  where
    some : List ℕ
    some = replicate n 0

    some_fits : FitsLong n (replicate n 0)
    some_fits = (length-replicate {A = ℕ} n 0, is_some_text n)

    stops : (bytes : List ℕ) (e : PgoutputError) → IsBytes bytes → (short (bytes_at n bytes) >>= λ found. as_text found) ≡ Err e → AtOne (λ t. Text t) (FitsLong n) e bytes
    stops bytes e fits is = elim (bind_err (short (bytes_at n bytes)) (λ found. as_text found) e is) [
      | inl none ↦
          let m = missing (ltb (length bytes) n) _ e none in
          let less : length bytes < n = ltb-true (length bytes) n m.1 in
          let early : IsAtFault Short (Text (replicate n 0)) bytes = omega (arith, less, length-replicate {A = ℕ} n 0) in
          record { value = replicate n 0; fits = some_fits; at_fault = subst (λ (f : PgoutputError). IsAtFault f (Text (replicate n 0)) bytes) (sym m.0) early }
      | inr found ↦
          let took = (bytes_of n).codec.takes bytes found.0.0 found.0.1 fits found.1 in
          let why = no_text (is_utf8 found.0.0) found.0 e found.2 in
          let len : length found.0.0 ≡ length (replicate n 0) = took.1 ∙ sym (length-replicate {A = ℕ} n 0) in
          let bad : IsAtFault BadText (Text (replicate n 0)) bytes = (found.0.0, found.0.1, took.0.parts, len, why.1) in
          record { value = replicate n 0; fits = some_fits; at_fault = subst (λ (f : PgoutputError). IsAtFault f (Text (replicate n 0)) bytes) (sym why.0) bad }
    ]

    stands : (t : List ℕ) (rest : List ℕ) (e : PgoutputError) → FitsLong n t → IsAtFault e (Text t) rest → (short (bytes_at n rest) >>= λ found. as_text found) ≡ Err e
    stands t rest Short fits at = rw (is_missing (ltb (length rest) n) _ (lt-ltb (length rest) n (omega (arith, at, fits.0)))) refl
    stands t rest BadText fits at = rw (at.2, (bytes_of n).codec.again at.0 at.1 (at.3 ∙ fits.0), at.4) refl
    stands t rest BadMark fits at = absurd at
    stands t rest UnknownKind fits at = absurd at
    stands t rest Trailing fits at = absurd at
    stands t rest Memory fits at = absurd at

pub text : Told text_at counted_text FitsText (λ t. Count32 (length t) ∷ Text t ∷ [])
unfolding text_at
text = counted count32 length _ (λ text. text) (λ text. is_utf8 text ≡ true) (λ t. Text t ∷ []) plain.text_wire (λ n. long_text n)

-- ---- bytes after their length

any_bytes : (n : ℕ) → Told (λ bytes. short (bytes_at n bytes)) (λ t. t) (λ t. (length t ≡ n) × NoMore t) (λ t. Bytes t ∷ [])
any_bytes n = one_told (bytes_wire n) (λ t. Bytes t) (record { value = replicate n 0; fits = some_fits }) (λ t. refl) stops stands
  where
    some_fits : (length {A = ℕ} (replicate n 0) ≡ n) × NoMore (replicate n 0)
    some_fits = (length-replicate {A = ℕ} n 0, tt)

    stops : (bytes : List ℕ) (e : PgoutputError) → IsBytes bytes → short (bytes_at n bytes) ≡ Err e → AtOne (λ t. Bytes t) (λ t. (length t ≡ n) × NoMore t) e bytes
    stops bytes e fits is =
        let m = missing (ltb (length bytes) n) _ e is in
        let less : length bytes < n = ltb-true (length bytes) n m.1 in
        let early : IsAtFault Short (Bytes (replicate n 0)) bytes = omega (arith, less, length-replicate {A = ℕ} n 0) in
        record { value = replicate n 0; fits = some_fits; at_fault = subst (λ (f : PgoutputError). IsAtFault f (Bytes (replicate n 0)) bytes) (sym m.0) early }

    stands : (t : List ℕ) (rest : List ℕ) (e : PgoutputError) → (length t ≡ n) × NoMore t → IsAtFault e (Bytes t) rest → short (bytes_at n rest) ≡ Err e
    stands t rest Short fits at = rw (is_missing (ltb (length rest) n) _ (lt-ltb (length rest) n (omega (arith, at, fits.0)))) refl
    stands t rest BadText fits at = absurd at
    stands t rest BadMark fits at = absurd at
    stands t rest UnknownKind fits at = absurd at
    stands t rest Trailing fits at = absurd at
    stands t rest Memory fits at = absurd at

counted_content : Told content_at content (λ bytes. FitsContent bytes × NoMore bytes) (λ bytes. Count32 (length bytes) ∷ Bytes bytes ∷ [])
unfolding content_at
counted_content = counted count32 length _ (λ bytes. bytes) NoMore (λ bytes. Bytes bytes ∷ []) counted_wire any_bytes

pub content_told : Told content_at content FitsContent (λ bytes. Count32 (length bytes) ∷ Bytes bytes ∷ [])
content_told = with_range FitsContent content_wire counted_content (λ bytes fits. fits.0) (λ bytes fits. (fits, tt))

-- ---- letters

-- no value has the letter
unlettered : {X : Type 0} (rest : List ℕ) (found : Option X) (e : PgoutputError) → plain.lettered rest found ≡ Err e → (e ≡ BadMark) × (found ≡ None)
unlettered rest (Some x) e is = absurd cc
unlettered rest None e is = let same : BadMark ≡ e = cc in (sym same, refl)

pub letter : {X : Type 0} (of : ℕ → Option X) (letter_of : X → ℕ) (letters : List ℕ) → Wire (one_of of) (λ x. letter_of x ∷ []) (λ _. Unit {0}) → X
    → ((b : ℕ) → of b ≡ None → list_any (λ l. b == l) letters ≡ false) → ((b : ℕ) → list_any (λ l. b == l) letters ≡ false → of b ≡ None)
    → Told (one_of of) (λ x. letter_of x ∷ []) (λ _. Unit {0}) (λ x. Letter letters (letter_of x) ∷ [])
letter {X} of letter_of letters wire some none other = one_told wire (λ x. Letter letters (letter_of x)) (record { value = some; fits = tt }) (λ x. refl) stops
    (λ x rest e fits at. letter_stands (one_of of) letters (letter_of x) refl (λ b bytes why. rw (other b why) refl) e rest at)
  where
    stops : (bytes : List ℕ) (e : PgoutputError) → IsBytes bytes → one_of of bytes ≡ Err e → AtOne (λ x. Letter letters (letter_of x)) (λ _. Unit {0}) e bytes
    stops [] e fits is =
        let same : Short ≡ e = cc in
        let early : IsAtFault Short (Letter letters (letter_of some)) [] = omega arith in
        record { value = some; fits = tt; at_fault = subst (λ (f : PgoutputError). IsAtFault f (Letter letters (letter_of some)) []) same early }
    stops (b ∷ bytes) e fits is =
        let why = unlettered bytes (of b) e is in
        let bad : IsAtFault BadMark (Letter letters (letter_of some)) (b ∷ bytes) = (b, bytes, refl, none b why.1) in
        record { value = some; fits = tt; at_fault = subst (λ (f : PgoutputError). IsAtFault f (Letter letters (letter_of some)) (b ∷ bytes)) (sym why.0) bad }

unmarked : (same : Bool) (rest : List ℕ) (e : PgoutputError) → plain.marked same rest ≡ Err e → (e ≡ BadMark) × (same ≡ false)
unmarked true rest e is = absurd cc
unmarked false rest e is = let bad : BadMark ≡ e = cc in (sym bad, refl)

pub one_letter : (k : ℕ) → Told (expected_letter k) (λ (_ : Unit {0}). k ∷ []) (λ _. Unit {0}) (λ _. mark k ∷ [])
one_letter k = one_told (plain.expected_wire k) (λ _. mark k) (record { value = tt; fits = tt }) (λ x. refl) stops
    (λ x rest e fits at. letter_stands (expected_letter k) (k ∷ []) k refl other e rest at)
  where
    alone : (b : Bool) → (b || false) ≡ b
    alone true = refl
    alone false = refl

    other : (b : ℕ) (bytes : List ℕ) → list_any (λ l. b == l) (k ∷ []) ≡ false → expected_letter k (b ∷ bytes) ≡ Err BadMark
    other b bytes why = ap (λ (same : Bool). plain.marked same bytes) (sym (alone (eqb b k)) ∙ why)

    stops : (bytes : List ℕ) (e : PgoutputError) → IsBytes bytes → expected_letter k bytes ≡ Err e → AtOne (λ (_ : Unit {0}). mark k) (λ _. Unit {0}) e bytes
    stops [] e fits is =
        let same : Short ≡ e = cc in
        let early : IsAtFault Short (mark k) [] = omega arith in
        record { value = tt; fits = tt; at_fault = subst (λ (f : PgoutputError). IsAtFault f (mark k) []) same early }
    stops (b ∷ bytes) e fits is =
        let why = unmarked (eqb b k) bytes e is in
        let bad : IsAtFault BadMark (mark k) (b ∷ bytes) = (b, bytes, refl, alone (eqb b k) ∙ why.1) in
        record { value = tt; fits = tt; at_fault = subst (λ (f : PgoutputError). IsAtFault f (mark k) (b ∷ bytes)) (sym why.0) bad }

-- nothing at all
pub nothing : Told numbers.nothing_at (λ (_ : Unit {0}). []) (λ _. Unit {0}) (λ _. [])
nothing = record {
  wire = plain.nothing;
  some = record { value = tt; fits = tt };
  spelled = λ x. refl;
  stops = λ bytes e fits is. absurd cc;
  stands = λ bytes e s. absurd (none_in s.before s.next s.after s.parts);
}
