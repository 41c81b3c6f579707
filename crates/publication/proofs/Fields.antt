-- What is read of the fields of a change's body, part by part.
use Rattle.std.proofs.Common.{◌≡◌, ◌<◌, ◌+◌, ℕ, zero, suc, arith, cond, eqb, List, [], ◌∷◌, Option, Some, None, Result, Ok, Err, length, refl, sym, ap, subst, ◌∙◌}
use Rattle.std.specs.Int.{w32}
use Rattle.pqformat.specs.Fields.{number_at}
use Rattle.pqformat.specs.Steps.{◌>>=◌}
use Rattle.tables.specs.declared.fault.BodyFault.{BodyFault}
use Rattle.tables.specs.declared.fault.BodyFault.TheVariants.{Trailing}
use Rattle.tables.specs.declared.kinds.Value.{Value}
use Rattle.std.specs.Prelude.{IfSome}
use Rattle.tables.specs.declared.changes.change.Change.{Change}
use Rattle.tables.specs.declared.changes.change.Change.TheVariants as changes
use Rattle.tables.specs.declared.changes.change_body.TheConstants.{DELETE_TAG, INSERT_TAG, MESSAGE_TAG, TRUNCATE_TAG, UPDATE_TAG}
use Rattle.pqformat.proofs.Codec.{IsBytes, bind_ok, passed}
use Rattle.tables.proofs.ChangeBodies.{body_again, is_found}
use Rattle.tables.proofs.Lengths.{insert_length, message_length, two_rows_length}
use Rattle.tables.specs.Spelling.{body_length, row_length}
use Rattle.tables.specs.declared.changes.message.Message.{Message}
use Rattle.tables.specs.Reading.{SpellsBody, body_at, change_at, change_tagged, insert_at, message_at, oids_at, row_at, update_at}
use Rattle.publication.specs.Read.{IsReadWhole}

abbrev row_in : Result ((ℕ × List Value) × List ℕ) BodyFault → Result (List Value × List ℕ) BodyFault
row_in (Ok read) = Ok (read.0.1, read.1)
row_in (Err fault) = Err fault

abbrev with_oid : ℕ → List Value × List ℕ → Result ((ℕ × List Value) × List ℕ) BodyFault
with_oid oid row = Ok ((oid, row.0), row.1)

pub insert_row : (fields after rest : List ℕ) (oid : ℕ) (m : ℕ × List Value) → number_at w32 fields ≡ Some (oid, after) → insert_at fields ≡ Ok (m, rest) → row_at after ≡ Ok (m.1, rest)
unfolding insert_at
insert_row fields after rest oid m is e = by_row (row_at after) (rw is at e)
  where
    by_row : (read : Result (List Value × List ℕ) BodyFault) → (read >>= with_oid oid) ≡ Ok (m, rest) → read ≡ Ok (m.1, rest)
    by_row (Ok row) e = ap row_in e
    by_row (Err fault) e = ap row_in e

pub record Parts (fields rest : List ℕ) (m : (ℕ × List Value) × List Value) : Type 0 where
  pub after : List ℕ
  pub old : insert_at fields ≡ Ok (m.0, after)
  pub new : row_at after ≡ Ok (m.1, rest)

abbrev with_first : ℕ × List Value → List Value × List ℕ → Result (((ℕ × List Value) × List Value) × List ℕ) BodyFault
with_first first row = Ok ((first, row.0), row.1)

abbrev first_in : Result (((ℕ × List Value) × List Value) × List ℕ) BodyFault → ℕ × List Value → ℕ × List Value
first_in (Ok read) other = read.0.0
first_in (Err fault) other = other

abbrev second_in : Result (((ℕ × List Value) × List Value) × List ℕ) BodyFault → Result (List Value × List ℕ) BodyFault
second_in (Ok read) = Ok (read.0.1, read.1)
second_in (Err fault) = Err fault

pub update_parts : (fields rest : List ℕ) (m : (ℕ × List Value) × List Value) → update_at fields ≡ Ok (m, rest) → Parts fields rest m
unfolding update_at
update_parts fields rest m e = by_first (insert_at fields) refl e
  where
    by_second : (first : ℕ × List Value) (after : List ℕ) → insert_at fields ≡ Ok (first, after) → (read : Result (List Value × List ℕ) BodyFault) → row_at after ≡ read → (read >>= with_first first) ≡ Ok (m, rest) → Parts fields rest m
    by_second first after is (Ok row) there e = record {
      after = after;
      old = is ∙ ap (λ f. Ok (f, after)) (ap (λ r. first_in r first) e);
      new = there ∙ ap second_in e;
    }
    by_second first after is (Err fault) there e = absurd cc

    by_first : (read : Result ((ℕ × List Value) × List ℕ) BodyFault) → insert_at fields ≡ read → (read >>= λ first. row_at first.1 >>= with_first first.0) ≡ Ok (m, rest) → Parts fields rest m
    by_first (Ok first) is e = by_second first.0 first.1 is (row_at first.1) refl e
    by_first (Err fault) is e = absurd cc

abbrev rest_in : Result ((ℕ × List Value) × List ℕ) BodyFault → List ℕ
rest_in (Ok read) = read.1
rest_in (Err fault) = []

-- what stands after is known
pub after_is : (fields behind after : List ℕ) (first other : ℕ × List Value) → insert_at fields ≡ Ok (first, behind) → insert_at fields ≡ Ok (other, after) → behind ≡ after
after_is fields behind after first other a b = ap rest_in (sym a ∙ b)

-- ---- by its tag

module _ (fields : List ℕ) where
  pub found_insert : (r : Option ℕ) → IfSome r (λ _. IsReadWhole (insert_at fields)) → IfSome r (λ _. IsReadWhole (change_tagged INSERT_TAG fields))
  found_insert None is = is
  found_insert (Some n) is = (changes.Insert is.0.0 is.0.1, rw is.1 refl)

  pub found_update : (r : Option ℕ) → IfSome r (λ _. IsReadWhole (update_at fields)) → IfSome r (λ _. IsReadWhole (change_tagged UPDATE_TAG fields))
  found_update None is = is
  found_update (Some n) is = (changes.Update is.0.0.0 is.0.0.1 is.0.1, rw is.1 refl)

  pub found_delete : (r : Option ℕ) → IfSome r (λ _. IsReadWhole (insert_at fields)) → IfSome r (λ _. IsReadWhole (change_tagged DELETE_TAG fields))
  found_delete None is = is
  found_delete (Some n) is = (changes.Delete is.0.0 is.0.1, rw is.1 refl)

  pub found_truncate : (r : Option ℕ) → IfSome r (λ _. IsReadWhole (oids_at fields)) → IfSome r (λ _. IsReadWhole (change_tagged TRUNCATE_TAG fields))
  found_truncate None is = is
  found_truncate (Some n) is = (changes.Truncate is.0, rw is.1 refl)

  pub found_message : (r : Option ℕ) → IfSome r (λ _. IsReadWhole (message_at fields)) → IfSome r (λ _. IsReadWhole (change_tagged MESSAGE_TAG fields))
  found_message None is = is
  found_message (Some n) is = (changes.Message is.0, rw is.1 refl)

-- ---- a whole body

pub tagged : (tag : ℕ) (fields : List ℕ) (c : Change) → SpellsBody (tag ∷ fields) c → change_tagged tag fields ≡ Ok (c, [])
unfolding body_at change_at
tagged tag fields c is =
    let a = bind_ok (change_at (tag ∷ fields)) (λ change. cond (eqb (length change.1) 0) (Ok change) (Err Trailing)) (c, []) (body_again (tag ∷ fields) c is) in
    let g = passed (eqb (length a.0.1) 0) Trailing a.0 (c, []) a.2 in
    a.1 ∙ ap (λ read. Ok read) g.1

pub spelled : (tag : ℕ) (fields : List ℕ) → IsBytes (tag ∷ fields) → IsReadWhole (change_tagged tag fields) → (c : Change) × SpellsBody (tag ∷ fields) c
unfolding body_at change_at
spelled tag fields fits is = (is.0, is_found (tag ∷ fields) (Ok is.0) fits (rw is.1 refl))

-- the same of a body, and of what is answered of it
pub told_of : (body : List ℕ) (tag : ℕ) (fields : List ℕ) (c : Change) → body ≡ tag ∷ fields → SpellsBody body c → change_tagged tag fields ≡ Ok (c, [])
told_of body tag fields c same is = tagged tag fields c (subst (λ b. SpellsBody b c) same is)

pub found_of : (body : List ℕ) (tag : ℕ) (fields : List ℕ) (r : Option ℕ) → IsBytes body → body ≡ tag ∷ fields → IfSome r (λ _. IsReadWhole (change_tagged tag fields)) → IfSome r (λ _. (c : Change) × SpellsBody body c)
found_of body tag fields None fits same is = is
found_of body tag fields (Some n) fits same is = let s = spelled tag fields (subst IsBytes same fits) is in (s.0, subst (λ b. SpellsBody b s.0) (sym same) s.1)

-- ---- how long the fields are

bytes_with : (b : ℕ) (bytes : List ℕ) → b < 256 → IsBytes bytes → IsBytes (b ∷ bytes)
bytes_with b bytes low fits zero = low
bytes_with b bytes low fits (suc i) = fits i

spells : (tag : ℕ) (fields : List ℕ) (c : Change) → IsBytes (tag ∷ fields) → change_tagged tag fields ≡ Ok (c, []) → SpellsBody (tag ∷ fields) c
unfolding body_at change_at
spells tag fields c fits is = is_found (tag ∷ fields) (Ok c) fits (rw is refl)

module _ (fields : List ℕ) (fits : IsBytes fields) where
  whole_size : (tag : ℕ) (c : Change) → tag < 256 → change_tagged tag fields ≡ Ok (c, []) → length fields + 1 ≡ body_length c
  whole_size tag c low is = let text = (spells tag fields c (bytes_with tag fields low fits) is).text in omega (arith, ap (length {A = ℕ}) text)

  pub row_size : (m : ℕ × List Value) → insert_at fields ≡ Ok (m, []) → length fields + 1 ≡ 5 + row_length m.1
  row_size m e = let size = whole_size INSERT_TAG (changes.Insert m.0 m.1) (omega arith) (rw e refl) in omega (arith, size, insert_length m.0 m.1)

  pub rows_size : (m : (ℕ × List Value) × List Value) → update_at fields ≡ Ok (m, []) → length fields + 1 ≡ 5 + row_length m.0.1 + row_length m.1
  rows_size m e = let size = whole_size UPDATE_TAG (changes.Update m.0.0 m.0.1 m.1) (omega arith) (rw e refl) in omega (arith, size, two_rows_length m.0.0 m.0.1 m.1)

  pub message_size : (m : Message) → message_at fields ≡ Ok (m, []) → length fields + 1 ≡ 7 + length m.prefix + length m.content
  message_size m e = let size = whole_size MESSAGE_TAG (changes.Message m) (omega arith) (rw e refl) in omega (arith, size, message_length m)
