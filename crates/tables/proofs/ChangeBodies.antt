-- What is read as a change was spelled so, and what was spelled is read again.
use Rattle.std.proofs.Common.{◌≡◌, ℕ, zero, suc, ◌^◌, ◌<◌, true, cond, eqb, List, [], ◌∷◌, ◌++◌, length, append_assoc, Option, Result, Ok, Err, refl, sym, ap, subst, inl, inr, ◌∙◌, arith}
use Rattle.std.specs.Prelude.{IfOk, IsOk}
use Rattle.std.specs.Int.{w16, w32}
use Rattle.std.specs.List.{flat_map, AllByRecursion}
use Rattle.std.specs.Option.{ok_or}
use Rattle.std.proofs.lemmas.Bool.{eqb-true}
use Rattle.std.proofs.lemmas.List.{append-nil, nil_from_length}
use Rattle.std.specs.Str.{is_utf8}
use Rattle.pqformat.specs.Fields.{byte_at, bytes_at, number_at, int16, int32}
use Rattle.pqformat.specs.Steps.{◌>>=◌, repeat_at}
use Rattle.pqformat.proofs.Codec.{IsBytes, IsBytes-rest, Takes, bind_ok, passed, Codec, field, last_field, codec_of, with_range, tested, counted, repeated, Chooses, no_choice, choice, choice_codec}
use Rattle.pqformat.proofs.Numbers.{number16, number32, bytes_codec}
use Rattle.tables.specs.declared.changes.change_body.TheConstants.{INSERT_TAG, UPDATE_TAG, DELETE_TAG, TRUNCATE_TAG, MESSAGE_TAG}
use Rattle.tables.specs.declared.fault.BodyFault.{BodyFault}
use Rattle.tables.specs.declared.fault.BodyFault.TheVariants.{Short, BadText, UnknownTag, Trailing}
use Rattle.tables.specs.declared.kinds.Value.{Value}
use Rattle.tables.specs.declared.changes.change.Change.{Change}
use Rattle.tables.specs.declared.changes.change.Change.TheVariants as changes
use Rattle.tables.specs.Kinds.{spell_value, value_at}
use Rattle.tables.specs.Spelling.{spell_row, spell_oids, spell_message, spell_body}
use Rattle.tables.specs.Reading.{IsCodedRow, RowHasValue, InsertHasValue, Gives, IsCodedOids, IsCoded, SpellsBody, oid_at, oids_at, prefix_sized_at, prefix_at, message_at, IsCodedMessage, HoldsMessage, update_at, change_tagged, change_at, body_at, BeginsRow, is_row_tag, HoldsRow, HoldsOid, HoldsPart, SecondHasValue, OidsHaveOne, ChangeHasPart}
use Rattle.tables.proofs.Values.{sized_codec, value_codec}
use Rattle.tables.proofs.RowBodies.{row_codec, insert_codec, is_read, is_there}

oids_codec : Codec oids_at spell_oids IsCodedOids
unfolding oids_at
oids_codec = counted (number16 Short) length (repeat_at oid_at) (flat_map int32) (AllByRecursion (λ oid. oid < 2 ^ 32)) (λ n. repeated (number32 Short) n)

update_codec : Codec update_at (λ m. (int32 m.0.0 ++ spell_row m.0.1) ++ spell_row m.1) (λ m. ((m.0.0 < 2 ^ 32) × IsCodedRow m.0.1) × IsCodedRow m.1)
unfolding update_at
update_codec = codec_of (field insert_codec (λ m. m.0) _ _ _ _ (λ first.
    last_field row_codec (λ m. m.1) _ (λ row. (first, row)) (λ _. refl) (λ _ _. (refl, tt)) (λ m known. rw (← known.0) refl)))

prefix_sized_codec : Codec prefix_sized_at (λ text. int16 (length text) ++ text) (λ text. length text < 2 ^ 16)
prefix_sized_codec = with_range (λ text. length text < 2 ^ 16) (counted (number16 Short) length (λ n bytes. ok_or (bytes_at n bytes) Short) (λ text. text) (λ _. Unit {0})
    (λ n. with_range (λ text. (length text ≡ n) × Unit {0}) (bytes_codec Short n) (λ text is. (is, tt)) (λ text is. is.0)))
    (λ text fits. fits.0) (λ text fits. (fits, tt))

prefix_codec : Codec prefix_at (λ text. int16 (length text) ++ text) (λ text. (length text < 2 ^ 16) × (is_utf8 text ≡ true))
unfolding prefix_at
prefix_codec = tested prefix_sized_codec is_utf8 BadText

message_codec : Codec message_at spell_message IsCodedMessage
unfolding message_at
message_codec = codec_of (field prefix_codec (λ m. m.prefix) _ _ _ _ (λ prefix.
    last_field sized_codec (λ m. m.content) _ (λ content. record { prefix = prefix; content = content }) (λ _. refl) (λ _ _. (refl, tt)) (λ m known. rw (← known.0) refl)))

changes_choose : Chooses change_tagged spell_body IsCoded
changes_choose =
    choice INSERT_TAG insert_codec (λ m. changes.Insert m.0 m.1) spell_body IsCoded (λ _. refl) (λ _ fits. fits)
    (choice UPDATE_TAG update_codec (λ m. changes.Update m.0.0 m.0.1 m.1) spell_body IsCoded (λ _. refl) (λ _ fits. fits)
    (choice DELETE_TAG insert_codec (λ m. changes.Delete m.0 m.1) spell_body IsCoded (λ _. refl) (λ _ fits. fits)
    (choice TRUNCATE_TAG oids_codec (λ m. changes.Truncate m) spell_body IsCoded (λ _. refl) (λ _ fits. fits)
    (choice MESSAGE_TAG message_codec (λ m. changes.Message m) spell_body IsCoded (λ _. refl) (λ _ fits. fits)
    (no_choice UnknownTag spell_body IsCoded)))))

change_again : (x : Change) (rest : List ℕ) → IsCoded x → (ok_or (byte_at (spell_body x ++ rest)) Short >>= λ tag. change_tagged tag.0 tag.1) ≡ Ok (x, rest)
change_again (changes.Insert oid row) rest fits = let m : ℕ × List Value = (oid, row) in rw (insert_codec.again m rest fits) refl
change_again (changes.Update oid old row) rest fits = let m : (ℕ × List Value) × List Value = ((oid, old), row) in rw (update_codec.again m rest fits) refl
change_again (changes.Delete oid old) rest fits = let m : ℕ × List Value = (oid, old) in rw (insert_codec.again m rest fits) refl
change_again (changes.Truncate oids) rest fits = rw (oids_codec.again oids rest fits) refl
change_again (changes.Message message) rest fits = rw (message_codec.again message rest fits) refl

change_codec : Codec change_at spell_body IsCoded
unfolding change_at
change_codec = choice_codec Short changes_choose change_again

body_takes : (bytes : List ℕ) (c : Change) (rest : List ℕ) → IsBytes bytes → body_at bytes ≡ Ok (c, rest) → SpellsBody bytes c
unfolding body_at
body_takes bytes c rest fits e =
    let a = bind_ok (change_at bytes) (λ change. cond (eqb (length change.1) 0) (Ok change) (Err Trailing)) (c, rest) e in
    let g = passed (eqb (length a.0.1) 0) Trailing a.0 (c, rest) a.2 in
    let t = change_codec.takes bytes a.0.0 a.0.1 fits a.1 in
    let empty : a.0.1 ≡ [] = nil_from_length a.0.1 (eqb-true (length a.0.1) 0 g.0) in
    let P : Change × List ℕ → Type 0 = λ y. SpellsBody bytes y.0 in
    subst P g.1 (record { in_range = t.1; text = t.0.parts ∙ rw empty (append-nil (spell_body a.0.0)) })

pub body_again : (bytes : List ℕ) (c : Change) → SpellsBody bytes c → body_at bytes ≡ Ok (c, [])
unfolding body_at
body_again bytes c h =
    let whole : bytes ≡ spell_body c ++ [] = h.text ∙ sym (append-nil (spell_body c)) in
    rw (whole, change_codec.again c [] h.in_range) refl

pub is_found : (bytes : List ℕ) (r : Result Change BodyFault) → IsBytes bytes → Gives r [] (body_at bytes) → IfOk r (λ c. SpellsBody bytes c)
is_found bytes (Ok c) fits e = body_takes bytes c [] fits e
is_found bytes (Err fault) fits e = tt

pub is_only : (bytes : List ℕ) (r : Result Change BodyFault) → Gives r [] (body_at bytes) → (c : Change) → SpellsBody bytes c → Gives r [] (Ok (c, []))
is_only bytes r e c h = let P : Result (Change × List ℕ) BodyFault → Type 0 = λ read. Gives r [] read in subst P (body_again bytes c h) e

-- WHERE MEMORY IS WANTED

-- the first OID is read at the first turn
pub first_read : (i : ℕ) (now initial : List ℕ) → (i ≡ 0 → now ≡ initial) → (0 < i → IsOk (oid_at initial)) → IsOk (oid_at now) → IsOk (oid_at initial)
first_read zero now initial first later read = subst (λ (bytes : List ℕ). IsOk (oid_at bytes)) (first refl) read
first_read (suc i) now initial first later read = later (omega arith)

begins : (bytes : List ℕ) → IsBytes bytes → RowHasValue bytes → BeginsRow bytes
begins bytes fits h =
    let count = is_there (number_at w16 bytes) (λ n. (0 < n.0) × IsOk (value_at n.1)) h in
    let count_is = (number16 Short).takes bytes count.0.0 count.0.1 fits (ap (λ (o : Option (ℕ × List ℕ)). ok_or o Short) count.1) in
    let value = is_read (value_at count.0.1) count.2.1 in
    let value_is = value_codec.takes count.0.1 value.0.0 value.0.1 count_is.0.rest_fits value.1 in
    record {
      count = count.0.0;
      value = value.0.0;
      rest = value.0.1;
      some = count.2.0;
      few = count_is.1;
      in_range = value_is.1;
      text = count_is.0.parts ∙ ap (λ (bs : List ℕ). int16 count.0.0 ++ bs) value_is.0.parts;
    }

holds_row : (tag : ℕ) (bytes : List ℕ) → IsBytes bytes → is_row_tag tag ≡ true → InsertHasValue bytes → HoldsRow (tag ∷ bytes)
holds_row tag bytes fits is h =
    let oid = is_there (number_at w32 bytes) (λ m. RowHasValue m.1) h in
    let oid_is = (number32 Short).takes bytes oid.0.0 oid.0.1 fits (ap (λ (o : Option (ℕ × List ℕ)). ok_or o Short) oid.1) in
    record {
      tag = tag;
      oid = oid.0.0;
      row = oid.0.1;
      is_row = is;
      begins = begins oid.0.1 oid_is.0.rest_fits oid.2;
      text = ap (λ (bs : List ℕ). tag ∷ bs) oid_is.0.parts;
    }

holds_oid : (bytes : List ℕ) → IsBytes bytes → OidsHaveOne bytes → HoldsOid (TRUNCATE_TAG ∷ bytes)
holds_oid bytes fits h =
    let count = is_there (number_at w16 bytes) (λ n. (0 < n.0) × IsOk (oid_at n.1)) h in
    let count_is = (number16 Short).takes bytes count.0.0 count.0.1 fits (ap (λ (o : Option (ℕ × List ℕ)). ok_or o Short) count.1) in
    let oid = is_read (oid_at count.0.1) count.2.1 in
    let oid_is = (number32 Short).takes count.0.1 oid.0.0 oid.0.1 count_is.0.rest_fits oid.1 in
    record {
      count = count.0.0;
      oid = oid.0.0;
      rest = oid.0.1;
      some = count.2.0;
      few = count_is.1;
      in_range = oid_is.1;
      text = ap (λ (bs : List ℕ). TRUNCATE_TAG ∷ bs) (count_is.0.parts ∙ ap (λ (bs : List ℕ). int16 count.0.0 ++ bs) oid_is.0.parts);
    }

holds_message : (bytes : List ℕ) → IsBytes bytes → IsOk (message_at bytes) → HoldsMessage (MESSAGE_TAG ∷ bytes)
holds_message bytes fits h =
    let message = is_read (message_at bytes) h in
    let message_is = message_codec.takes bytes message.0.0 message.0.1 fits message.1 in
    record {
      message = message.0.0;
      rest = message.0.1;
      in_range = message_is.1;
      text = ap (λ (bs : List ℕ). MESSAGE_TAG ∷ bs) message_is.0.parts;
    }

-- the new row of an update, whose old one was read
holds_new : (bytes : List ℕ) → IsBytes bytes → SecondHasValue bytes → HoldsPart (UPDATE_TAG ∷ bytes)
unfolding int16
holds_new bytes fits h = by_old h.first.1 refl
  where
    t : Takes bytes (int32 h.first.0 ++ spell_row h.first.1) h.rest × ((h.first.0 < 2 ^ 32) × IsCodedRow h.first.1)
    t = insert_codec.takes bytes h.first h.rest fits h.read

    behind : bytes ≡ int32 h.first.0 ++ (spell_row h.first.1 ++ h.rest)
    behind = t.0.parts ∙ append_assoc (int32 h.first.0) (spell_row h.first.1) h.rest

    by_old : (old : List Value) → h.first.1 ≡ old → HoldsPart (UPDATE_TAG ∷ bytes)
    by_old [] is = inr (inl (record {
      oid = h.first.0;
      row = h.rest;
      begins = begins h.rest t.0.rest_fits h.value;
      text = ap (λ (bs : List ℕ). UPDATE_TAG ∷ bs) (behind ∙ ap (λ (old : List Value). int32 h.first.0 ++ (spell_row old ++ h.rest)) is);
    }))
    by_old (v ∷ vs) is =
        let coded : IsCodedRow (v ∷ vs) = subst IsCodedRow is t.1.1 in
        inl (record {
          tag = UPDATE_TAG;
          oid = h.first.0;
          row = spell_row (v ∷ vs) ++ h.rest;
          is_row = refl;
          begins = record {
            count = length (v ∷ vs);
            value = v;
            rest = flat_map spell_value vs ++ h.rest;
            some = omega arith;
            few = coded.0;
            in_range = coded.1.0;
            text = append_assoc (int16 (length (v ∷ vs))) (flat_map spell_value (v ∷ vs)) h.rest
                ∙ ap (λ (bs : List ℕ). int16 (length (v ∷ vs)) ++ bs) (append_assoc (spell_value v) (flat_map spell_value vs) h.rest);
          };
          text = ap (λ (bs : List ℕ). UPDATE_TAG ∷ bs) (behind ∙ ap (λ (old : List Value). int32 h.first.0 ++ (spell_row old ++ h.rest)) is);
        })

pub is_held : (bytes : List ℕ) → IsBytes bytes → ChangeHasPart bytes → HoldsPart bytes
is_held [] fits h = absurd h
is_held (tag ∷ bytes) fits h =
    elim h [
      | inl a ↦ inl (holds_row tag bytes rest (rw a.0 refl) a.1)
      | inr b ↦ elim b [
        | inl u ↦ subst (λ (k : ℕ). HoldsPart (k ∷ bytes)) (sym u.0) (elim u.1 [
          | inl first ↦ inl (holds_row UPDATE_TAG bytes rest refl first)
          | inr second ↦ holds_new bytes rest second
        ])
        | inr d ↦ elim d [
          | inl e ↦ inl (holds_row tag bytes rest (rw e.0 refl) e.1)
          | inr o ↦ elim o [
            | inl t ↦ inr (inr (inl (subst (λ (k : ℕ). HoldsOid (k ∷ bytes)) (sym t.0) (holds_oid bytes rest t.1))))
            | inr m ↦ inr (inr (inr (subst (λ (k : ℕ). HoldsMessage (k ∷ bytes)) (sym m.0) (holds_message bytes rest m.1))))
          ]
        ]
      ]
    ]
  where
    rest : IsBytes bytes
    rest = IsBytes-rest tag bytes fits
