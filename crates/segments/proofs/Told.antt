-- What is read as a record was told so, and what was told is read again.
use Rattle.std.proofs.Common.{◌≡◌, ℕ, ◌^◌, ◌<◌, Bool, true, false, cond, eqb, List, [], ◌∷◌, ◌++◌, length, Result, Ok, Err, refl, sym, ap, subst, ◌∙◌}
use Rattle.std.specs.Prelude.{ℤ, FitsSigned, IfOk}
use Rattle.std.specs.Int.{w32, w64, cast_unsigned}
use Rattle.std.proofs.lemmas.Bool.{eqb-true}
use Rattle.std.proofs.lemmas.List.{append-nil, nil_from_length}
use Rattle.pqformat.specs.Fields.{int32, int64, number_at}
use Rattle.pqformat.specs.Steps.{◌>>=◌, signed_at}
use Rattle.pqformat.proofs.Codec.{IsBytes, IsBytes-rest, bind_ok, ok_is, passed}
use Rattle.pqformat.proofs.Numbers.{number32, signed64}
use Rattle.tables.specs.Reading.{IsCoded, SpellsBody, body_at}
use Rattle.tables.specs.Spelling.{spell_body}
use Rattle.tables.specs.declared.fault.BodyFault.{BodyFault}
use Rattle.tables.specs.declared.changes.change.Change.{Change}
use Rattle.tables.specs.declared.changes.change.Change.TheVariants as changes
use Rattle.tables.proofs.ChangeBodies.{body_again, is_found}
use Rattle.wal.specs.declared.record.Body.{Body}
use Rattle.wal.specs.declared.record.Body.TheVariants.{Assign, Change as Changed, AbortSub, Abort, Commit, Note}
use Rattle.segments.specs.Entries.{there}
use Rattle.segments.specs.RecordReading.{Reads, alone, assign_in, body_of, change_in, commit_in, note_in, note_of, record_in, record_tagged, told_change, xid_in}
use Rattle.segments.specs.Records.{IsNoted, IsTold, SpellsRecord, spell_record}
use Rattle.segments.specs.declared.records.fault.RecordFault.{RecordFault}
use Rattle.segments.specs.declared.records.record_body.RecordBody.{RecordBody}
use Rattle.segments.specs.declared.records.writing.TheConstants.{ASSIGN_TAG, CHANGE_TAG, ABORT_SUB_TAG, ABORT_TAG, COMMIT_TAG, NOTE_TAG}

unit : Unit {0}
unit = tt

abbrev answer : Body → Result Body (Unit {0})
answer b = Ok b

-- ---- what was read

alone_is : {A : Type 0} (p : A × List ℕ) (x : A) → alone p ≡ Ok x → (p.1 ≡ []) × (p.0 ≡ x)
alone_is p x e =
    let g = passed (eqb (length p.1) 0) unit p.0 x e in
    (nil_from_length p.1 (eqb-true (length p.1) 0 g.0), g.1)

ends : (bytes front rest : List ℕ) → bytes ≡ front ++ rest → rest ≡ [] → bytes ≡ front
ends bytes front rest is none = is ∙ ap (λ (l : List ℕ). front ++ l) none ∙ append-nil front

xid_takes : (bytes : List ℕ) (x : ℕ) → IsBytes bytes → xid_in bytes ≡ Ok x → (bytes ≡ int32 x) × (x < 2 ^ 32)
xid_takes bytes x fits e =
    let one = bind_ok (there (number_at w32 bytes)) alone x e in
    let last = alone_is one.0 x one.2 in
    let taken = (number32 unit).takes bytes one.0.0 one.0.1 fits one.1 in
    subst (λ (n : ℕ). (bytes ≡ int32 n) × (n < 2 ^ 32)) last.1 (ends bytes (int32 one.0.0) one.0.1 taken.0.parts last.0, taken.1)

assign_takes : (bytes : List ℕ) (b : Body) → IsBytes bytes → assign_in bytes ≡ Ok b → SpellsRecord (ASSIGN_TAG ∷ bytes) b
assign_takes bytes b fits e =
    let one = bind_ok (there (number_at w32 bytes)) (λ sub. xid_in sub.1 >>= λ parent. Ok (Assign sub.0 parent)) b e in
    let two = bind_ok (xid_in one.0.1) (λ parent. answer (Assign one.0.0 parent)) b one.2 in
    let first = (number32 unit).takes bytes one.0.0 one.0.1 fits one.1 in
    let second = xid_takes one.0.1 two.0 first.0.rest_fits two.1 in
    subst (λ (c : Body). SpellsRecord (ASSIGN_TAG ∷ bytes) c) (ok_is (Unit {0}) (Assign one.0.0 two.0) b two.2) (record { in_range = (first.1, second.1); text = ap (λ (l : List ℕ). ASSIGN_TAG ∷ l) (first.0.parts ∙ ap (λ (l : List ℕ). int32 one.0.0 ++ l) second.0) })

read_whole : (bytes : List ℕ) (r : Result (Change × List ℕ) BodyFault) (c : Change) → body_at bytes ≡ r → told_change r ≡ Ok c → body_at bytes ≡ Ok (c, [])
read_whole bytes (Ok p) c is e =
    let last = alone_is p c e in
    let P : Change × List ℕ → Type 0 = λ q. body_at bytes ≡ Ok q in
    subst P (ap (λ (l : List ℕ). (p.0, l)) last.0 ∙ ap (λ (d : Change). (d, [])) last.1) is
read_whole bytes (Err fault) c is e = absurd cc

body_takes : (bytes : List ℕ) (c : Change) → IsBytes bytes → told_change (body_at bytes) ≡ Ok c → SpellsBody bytes c
body_takes bytes c fits e = is_found bytes (Ok c) fits (read_whole bytes (body_at bytes) c refl e)

change_takes : (bytes : List ℕ) (b : Body) → IsBytes bytes → change_in bytes ≡ Ok b → SpellsRecord (CHANGE_TAG ∷ bytes) b
change_takes bytes b fits e =
    let one = bind_ok (there (number_at w32 bytes)) (λ xid. told_change (body_at xid.1) >>= λ change. Ok (Changed xid.0 change)) b e in
    let two = bind_ok (told_change (body_at one.0.1)) (λ change. answer (Changed one.0.0 change)) b one.2 in
    let first = (number32 unit).takes bytes one.0.0 one.0.1 fits one.1 in
    let second = body_takes one.0.1 two.0 first.0.rest_fits two.1 in
    subst (λ (c : Body). SpellsRecord (CHANGE_TAG ∷ bytes) c) (ok_is (Unit {0}) (Changed one.0.0 two.0) b two.2) (record { in_range = (first.1, second.in_range); text = ap (λ (l : List ℕ). CHANGE_TAG ∷ l) (first.0.parts ∙ ap (λ (l : List ℕ). int32 one.0.0 ++ l) second.text) })

named_takes : (tag : ℕ) (of : ℕ → Body) → ((x : ℕ) → spell_record (of x) ≡ tag ∷ int32 x) → ((x : ℕ) → x < 2 ^ 32 → IsTold (of x)) → (bytes : List ℕ) (b : Body) → IsBytes bytes → (xid_in bytes >>= λ x. Ok (of x)) ≡ Ok b → SpellsRecord (tag ∷ bytes) b
named_takes tag of spells told bytes b fits e =
    let one = bind_ok (xid_in bytes) (λ x. answer (of x)) b e in
    let first = xid_takes bytes one.0 fits one.1 in
    subst (λ (c : Body). SpellsRecord (tag ∷ bytes) c) (ok_is (Unit {0}) (of one.0) b one.2) (record { in_range = told one.0 first.1; text = ap (λ (l : List ℕ). tag ∷ l) first.0 ∙ sym (spells one.0) })

commit_takes : (bytes : List ℕ) (b : Body) → IsBytes bytes → commit_in bytes ≡ Ok b → SpellsRecord (COMMIT_TAG ∷ bytes) b
commit_takes bytes b fits e =
    let one = bind_ok (there (number_at w32 bytes)) (λ xid. signed_at unit w64 xid.1 >>= alone >>= λ time. Ok (Commit xid.0 time)) b e in
    let two = bind_ok (signed_at unit w64 one.0.1 >>= alone) (λ time. answer (Commit one.0.0 time)) b one.2 in
    let three = bind_ok (signed_at unit w64 one.0.1) alone two.0 two.1 in
    let first = (number32 unit).takes bytes one.0.0 one.0.1 fits one.1 in
    let second = (signed64 unit).takes one.0.1 three.0.0 three.0.1 first.0.rest_fits three.1 in
    let last = alone_is three.0 two.0 three.2 in
    let P : ℤ → Type 0 = λ z. (one.0.1 ≡ int64 (cast_unsigned w64 z)) × FitsSigned w64 z in
    let time : P two.0 = subst P last.1 (ends one.0.1 (int64 (cast_unsigned w64 three.0.0)) three.0.1 second.0.parts last.0, second.1) in
    subst (λ (c : Body). SpellsRecord (COMMIT_TAG ∷ bytes) c) (ok_is (Unit {0}) (Commit one.0.0 two.0) b two.2) (record { in_range = (first.1, time.1); text = ap (λ (l : List ℕ). COMMIT_TAG ∷ l) (first.0.parts ∙ ap (λ (l : List ℕ). int32 one.0.0 ++ l) time.0) })

note_is : (bytes : List ℕ) (change : Change) (b : Body) → SpellsBody bytes change → note_of change ≡ Ok b → SpellsRecord (NOTE_TAG ∷ bytes) b
note_is bytes (changes.Message message) b spells e = subst (λ (c : Body). SpellsRecord (NOTE_TAG ∷ bytes) c) (ok_is (Unit {0}) (Note (changes.Message message)) b e) (record { in_range = spells.in_range; text = ap (λ (l : List ℕ). NOTE_TAG ∷ l) spells.text })
note_is bytes (changes.Insert oid row) b spells e = absurd cc
note_is bytes (changes.Update oid old row) b spells e = absurd cc
note_is bytes (changes.Delete oid old) b spells e = absurd cc
note_is bytes (changes.Truncate oids) b spells e = absurd cc

note_takes : (bytes : List ℕ) (b : Body) → IsBytes bytes → note_in bytes ≡ Ok b → SpellsRecord (NOTE_TAG ∷ bytes) b
note_takes bytes b fits e =
    let one = bind_ok (told_change (body_at bytes)) note_of b e in
    note_is bytes one.0 b (body_takes bytes one.0 fits one.1) one.2

chosen : (tag k : ℕ) (bytes : List ℕ) (x y : Result Body (Unit {0})) (b : Body) → (x ≡ Ok b → SpellsRecord (k ∷ bytes) b) → (y ≡ Ok b → SpellsRecord (tag ∷ bytes) b) → cond (eqb tag k) x y ≡ Ok b → SpellsRecord (tag ∷ bytes) b
chosen tag k bytes x y b here other e = by_test (eqb tag k) refl e
  where
    by_test : (t : Bool) → eqb tag k ≡ t → cond t x y ≡ Ok b → SpellsRecord (tag ∷ bytes) b
    by_test true is e = subst (λ (n : ℕ). SpellsRecord (n ∷ bytes) b) (sym (eqb-true tag k is)) (here e)
    by_test false is e = other e

tagged_takes : (tag : ℕ) (bytes : List ℕ) (b : Body) → IsBytes bytes → record_tagged tag bytes ≡ Ok b → SpellsRecord (tag ∷ bytes) b
tagged_takes tag bytes b fits e =
    let sub : Result Body (Unit {0}) = xid_in bytes >>= (λ xid. Ok (AbortSub xid)) in
    let abort : Result Body (Unit {0}) = xid_in bytes >>= (λ xid. Ok (Abort xid)) in
    let none : Result Body (Unit {0}) = Err tt in
    let five = cond (eqb tag NOTE_TAG) (note_in bytes) none in
    let four = cond (eqb tag COMMIT_TAG) (commit_in bytes) five in
    let three = cond (eqb tag ABORT_TAG) abort four in
    let two = cond (eqb tag ABORT_SUB_TAG) sub three in
    let one = cond (eqb tag CHANGE_TAG) (change_in bytes) two in
    chosen tag ASSIGN_TAG bytes (assign_in bytes) one b (assign_takes bytes b fits) (
    chosen tag CHANGE_TAG bytes (change_in bytes) two b (change_takes bytes b fits) (
    chosen tag ABORT_SUB_TAG bytes sub three b (named_takes ABORT_SUB_TAG (λ x. AbortSub x) (λ _. refl) (λ _ lt. lt) bytes b fits) (
    chosen tag ABORT_TAG bytes abort four b (named_takes ABORT_TAG (λ x. Abort x) (λ _. refl) (λ _ lt. lt) bytes b fits) (
    chosen tag COMMIT_TAG bytes (commit_in bytes) five b (commit_takes bytes b fits) (
    chosen tag NOTE_TAG bytes (note_in bytes) none b (note_takes bytes b fits) (λ never. absurd cc)))))) e

pub record_takes : (bytes : List ℕ) (b : Body) → IsBytes bytes → record_in bytes ≡ Ok b → SpellsRecord bytes b
record_takes [] b fits e = absurd cc
record_takes (tag ∷ bytes) b fits e = tagged_takes tag bytes b (IsBytes-rest tag bytes fits) e

pub record_found : (bytes : List ℕ) (r : Result RecordBody RecordFault) → IsBytes bytes → Reads r (record_in bytes) → IfOk r (λ x. SpellsRecord bytes (body_of x))
record_found bytes (Ok x) fits e = record_takes bytes (body_of x) fits e
record_found bytes (Err fault) fits e = tt

-- ---- what was told

xid_again : (x : ℕ) → x < 2 ^ 32 → xid_in (int32 x) ≡ Ok x
xid_again x lt = subst (λ (l : List ℕ). xid_in l ≡ Ok x) (append-nil (int32 x)) (rw ((number32 unit).again x [] lt) refl)

time_again : (z : ℤ) → FitsSigned w64 z → (signed_at unit w64 (int64 (cast_unsigned w64 z)) >>= alone) ≡ Ok z
time_again z fits = subst (λ (l : List ℕ). (signed_at unit w64 l >>= alone) ≡ Ok z) (append-nil (int64 (cast_unsigned w64 z))) (rw ((signed64 unit).again z [] fits) refl)

change_again : (c : Change) → IsCoded c → told_change (body_at (spell_body c)) ≡ Ok c
change_again c fits = rw (body_again (spell_body c) c (record { in_range = fits; text = refl })) refl

pub record_again : (b : Body) → IsTold b → IsNoted b → record_in (spell_record b) ≡ Ok b
record_again (Assign sub parent) fits noted = rw ((number32 unit).again sub (int32 parent) fits.0, xid_again parent fits.1) refl
record_again (Changed xid change) fits noted = rw ((number32 unit).again xid (spell_body change) fits.0, change_again change fits.1) refl
record_again (AbortSub xid) fits noted = rw (xid_again xid fits) refl
record_again (Abort xid) fits noted = rw (xid_again xid fits) refl
record_again (Commit xid time) fits noted = rw ((number32 unit).again xid (int64 (cast_unsigned w64 time)) fits.0, time_again time fits.1) refl
record_again (Note (changes.Message message)) fits noted = rw (change_again (changes.Message message) fits) refl
record_again (Note (changes.Insert oid row)) fits noted = absurd noted
record_again (Note (changes.Update oid old row)) fits noted = absurd noted
record_again (Note (changes.Delete oid old)) fits noted = absurd noted
record_again (Note (changes.Truncate oids)) fits noted = absurd noted

-- ---- one spelling

-- a record's tag, and what follows it, read without asking what a note is of
abbrev told_in : ℕ → List ℕ → Result Body (Unit {0})
told_in tag bytes = cond (eqb tag NOTE_TAG) (told_change (body_at bytes) >>= λ c. Ok (Note c)) (record_tagged tag bytes)

abbrev told_at : List ℕ → Result Body (Unit {0})
told_at [] = Err tt
told_at (tag ∷ bytes) = told_in tag bytes

told_again : (b : Body) → IsTold b → told_at (spell_record b) ≡ Ok b
told_again (Assign sub parent) fits = record_again (Assign sub parent) fits tt
told_again (Changed xid change) fits = record_again (Changed xid change) fits tt
told_again (AbortSub xid) fits = record_again (AbortSub xid) fits tt
told_again (Abort xid) fits = record_again (Abort xid) fits tt
told_again (Commit xid time) fits = record_again (Commit xid time) fits tt
told_again (Note change) fits = rw (change_again change fits) refl

pub one_spelling : (b c : Body) → IsTold b → IsTold c → spell_record b ≡ spell_record c → b ≡ c
one_spelling b c fits others same = ok_is (Unit {0}) b c (sym (told_again b fits) ∙ ap told_at same ∙ told_again c others)
