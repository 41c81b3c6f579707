-- The values of a row that is read where it lies: those that were read, and after them those of a row.
use Rattle.std.proofs.Common.{◌≡◌, ℕ, zero, suc, ◌+◌, ◌-◌, ◌<◌, ◌≤◌, List, [], ◌∷◌, ◌++◌, Some, length, map, take, set, slice_index_or, slice_get, Result, Ok, Err, inr, refl, sym, ap, subst, ◌∙◌, arith}
use Rattle.std.proofs.lemmas.List.{append-nil, take_more_set, map-append, length-append}
use Rattle.std.specs.Int.{w16}
use Rattle.pqformat.specs.Fields.{number_at}
use Rattle.pqformat.specs.Steps.{◌>>=◌, repeat_at}
use Rattle.pqformat.proofs.Codec.{IsBytes}
use Rattle.tables.specs.Kinds.{value_at, value_of}
use Rattle.tables.specs.Reading.{IsCodedRow, oid_at, oids_at, row_at}
use Rattle.tables.specs.Spelling.{row_length, spell_row}
use Rattle.tables.proofs.RowBodies.{row_codec}
use Rattle.tables.specs.declared.fault.BodyFault.{BodyFault}
use Rattle.tables.specs.declared.kinds.Value.{Value}
use Rattle.tables.specs.declared.kinds.ValueRef.{ValueRef}
use Rattle.tables.specs.declared.rows.row.TheConstants.{MAX_ROW_LENGTH}
use Rattle.tables.specs.Refs.{IsLarge}

-- one value more
pub one_more : (room : List ValueRef) (i : ℕ) (v : ValueRef) → i < length room → map value_of (take (i + 1) (set room i v)) ≡ map value_of (take i room) ++ value_of v ∷ []
one_more room i v low = ap (map value_of) (take_more_set room i v low) ∙ map-append value_of (take i room) (v ∷ [])

pub length_lent : (room : List ValueRef) (count : ℕ) (row : List Value) → count ≤ length room → length (map value_of (take count room) ++ row) ≡ count + length row
length_lent room zero row low = omega arith
length_lent [] (suc count) row low = absurd (omega arith)
length_lent (v ∷ room) (suc count) row low = let rest = length_lent room count row (omega arith) in omega (arith, rest)

pub front : (room : List ValueRef) (count : ℕ) (row : List Value) (i : ℕ) (d : ValueRef) → count ≤ length room → i < count → slice_get (map value_of (take count room) ++ row) i ≡ Some (value_of (slice_index_or room i d))
front room zero row i d fits low = absurd (omega arith)
front [] (suc count) row i d fits low = absurd (omega arith)
front (v ∷ room) (suc count) row zero d fits low = refl
front (v ∷ room) (suc count) row (suc i) d fits low = front room count row i d (omega arith) (omega arith)

after_by : (room : List ValueRef) (count : ℕ) (row : List Value) (i j : ℕ) → count ≤ length room → i ≡ count + j → slice_get (map value_of (take count room) ++ row) i ≡ slice_get row j
after_by room zero row i j fits e = ap (slice_get row) (let same : i ≡ j = omega arith in same)
after_by [] (suc count) row i j fits e = absurd (omega arith)
after_by (v ∷ room) (suc count) row zero j fits e = absurd (omega arith)
after_by (v ∷ room) (suc count) row (suc i) j fits e = after_by room count row i j (omega arith) (omega arith)

pub behind : (room : List ValueRef) (count : ℕ) (row : List Value) (i : ℕ) → count ≤ length room → count ≤ i → slice_get (map value_of (take count room) ++ row) i ≡ slice_get row (i - count)
behind room count row i fits low = after_by room count row i (i - count) fits (omega arith)

pub ruleset lengths = (length_lent)

pub ruleset gets = (front, behind)

abbrev count_in : {A : Type 0} → Result (List A × List ℕ) BodyFault → ℕ
count_in (Ok read) = length read.0
count_in (Err fault) = 0

abbrev with_first : {A : Type 0} → A → List A × List ℕ → Result (List A × List ℕ) BodyFault
with_first x others = Ok (x ∷ others.0, others.1)

-- as many are read as the count says
pub repeat_length : {A : Type 0} (f : List ℕ → Result (A × List ℕ) BodyFault) (count : ℕ) (bytes : List ℕ) (row : List A) (rest : List ℕ) → repeat_at f count bytes ≡ Ok (row, rest) → length row ≡ count
unfolding repeat_at
repeat_length f zero bytes row rest e = sym (ap count_in e)
repeat_length {A} f (suc count) bytes row rest e = by_first (λ after. repeat_length f count after) (f bytes) e
  where
    by_others : (x : A) (read : Result (List A × List ℕ) BodyFault) → ((row : List A) (rest : List ℕ) → read ≡ Ok (row, rest) → length row ≡ count) →
        (read >>= with_first x) ≡ Ok (row, rest) → length row ≡ suc count
    by_others x (Ok (xs, after)) below e = sym (ap count_in e) ∙ ap suc (below xs after refl)
    by_others x (Err d) below e = absurd cc

    by_first : ((after : List ℕ) (row : List A) (rest : List ℕ) → repeat_at f count after ≡ Ok (row, rest) → length row ≡ count) → (read : Result (A × List ℕ) BodyFault) → (read >>= λ first. repeat_at f count first.1 >>= with_first first.0) ≡ Ok (row, rest) → length row ≡ suc count
    by_first below (Ok (x, after)) e = by_others x (repeat_at f count after) (below after) e
    by_first below (Err d) e = absurd cc

-- so one of a count above the limit has more values than that
pub wide : (limit count : ℕ) (bytes after : List ℕ) → number_at w16 bytes ≡ Some (count, after) → limit < count → (row : List Value) (rest : List ℕ) → row_at bytes ≡ Ok (row, rest) → limit < length row
unfolding row_at
wide limit count bytes after is over row rest e =
    let read : repeat_at value_at count after ≡ Ok (row, rest) = rw is at e in
    let same = repeat_length value_at count after row rest read in
    omega (arith, over, same)

pub row_is : (count : ℕ) (bytes after rest : List ℕ) (row : List Value) → number_at w16 bytes ≡ Some (count, after) → repeat_at value_at count after ≡ Ok (row, rest) → row_at bytes ≡ Ok (row, rest)
unfolding row_at
row_is count bytes after rest row is read = rw is read

-- a row that is read can be read again, and takes as many bytes as its coding has
pub record Stood (bytes : List ℕ) (row : List Value) (rest : List ℕ) : Type 0 where
  pub coded : IsCodedRow row
  pub length : length bytes ≡ row_length row + length rest

pub stood : (bytes rest : List ℕ) (row : List Value) → IsBytes bytes → row_at bytes ≡ Ok (row, rest) → Stood bytes row rest
stood bytes rest row fits e =
    let t = row_codec.takes bytes row rest fits e in
    record { coded = t.1; length = ap length t.0.parts ∙ length-append (spell_row row) rest }

abbrev left_in : Result (List Value × List ℕ) BodyFault → ℕ
left_in (Ok read) = length read.1
left_in (Err fault) = 0

-- what was read of the bytes: a count, so many values, and none of another row after them
module _ (bytes start after end rest : List ℕ) (u n : ℕ) (room : List ValueRef) (fits : IsBytes bytes) (whole : start ≡ bytes) (counted : number_at w16 start ≡ Some (u, after)) (same : n ≡ u)
    (read : repeat_at value_at n after ≡ Ok (map value_of (take n room), end)) (behind : rest ≡ end) where
  pub is_row : row_at bytes ≡ Ok (map value_of (take n room), rest)
  is_row =
      row_is n bytes after rest (map value_of (take n room)) (ap (number_at w16) (sym whole) ∙ counted ∙ ap (λ k. Some (k, after)) (sym same))
      (read ∙ ap (λ l. Ok (map value_of (take n room), l)) (sym behind))

  pub sizes : Stood bytes (map value_of (take n room)) rest
  sizes = stood bytes rest (map value_of (take n room)) fits is_row

  pub too_long : MAX_ROW_LENGTH < length bytes - length rest → (row : List Value) (others : List ℕ) → row_at bytes ≡ Ok (row, others) → IsLarge row
  too_long long row others e =
      let there = (stood bytes others row fits e).length in
      let left : length rest ≡ length others = ap left_in (sym is_row ∙ e) in
      inr (omega (arith, long, there, left))

  pub is_coded : (values : List Value) → values ≡ [] → length bytes - length rest ≤ MAX_ROW_LENGTH → IsCodedRow (map value_of (take n room) ++ values) × (row_length (map value_of (take n room) ++ values) ≤ MAX_ROW_LENGTH)
  is_coded values none short =
      let same_row : map value_of (take n room) ≡ map value_of (take n room) ++ values = sym (ap (λ l. map value_of (take n room) ++ l) none ∙ append-nil (map value_of (take n room))) in
      let size = sizes.length in
      subst (λ row. IsCodedRow row × (row_length row ≤ MAX_ROW_LENGTH)) same_row (sizes.coded, omega (arith, size, short))

-- ---- the OIDs of a truncate

pub wide_oids : (limit count : ℕ) (bytes after : List ℕ) → number_at w16 bytes ≡ Some (count, after) → limit < count → (oids rest : List ℕ) → oids_at bytes ≡ Ok (oids, rest) → limit < length oids
unfolding oids_at
wide_oids limit count bytes after is over oids rest e =
    let read : repeat_at oid_at count after ≡ Ok (oids, rest) = rw is at e in
    let same = repeat_length oid_at count after oids rest read in
    omega (arith, over, same)

pub oids_are : (count : ℕ) (bytes after rest oids : List ℕ) → number_at w16 bytes ≡ Some (count, after) → repeat_at oid_at count after ≡ Ok (oids, rest) → oids_at bytes ≡ Ok (oids, rest)
unfolding oids_at
oids_are count bytes after rest oids is read = rw is read
