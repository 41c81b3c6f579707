-- A row that is read was spelled so, and one that was spelled is read again.
use Rattle.std.proofs.Common.{◌≡◌, ℕ, zero, suc, ◌-◌, ◌^◌, ◌<◌, arith, Option, List, ◌++◌, length, Some, None, Result, Ok, Err, refl, ap, subst}
use Rattle.std.specs.Prelude.{IsSomeAnd, IsOk}
use Rattle.std.specs.List.{flat_map, AllByRecursion}
use Rattle.pqformat.specs.Fields.{int32}
use Rattle.pqformat.specs.Steps.{repeat_at}
use Rattle.pqformat.proofs.Codec.{Codec, field, last_field, codec_of, counted, repeated}
use Rattle.pqformat.proofs.Loop.{with_front, ends}
use Rattle.pqformat.proofs.Numbers.{number16, number32}
use Rattle.tables.specs.declared.fault.BodyFault.{BodyFault}
use Rattle.tables.specs.declared.fault.BodyFault.TheVariants.{Short, UnknownTag, BadBool, BadText, Trailing, Memory}
use Rattle.tables.specs.Kinds.{IsCodedValue, spell_value, value_at}
use Rattle.tables.specs.Spelling.{spell_row}
use Rattle.tables.specs.Reading.{IsCodedRow, row_at, insert_at, Fails}
use Rattle.tables.proofs.Values.{value_codec}

pub row_codec : Codec row_at spell_row IsCodedRow
unfolding row_at
row_codec = counted (number16 Short) length (repeat_at value_at) (flat_map spell_value) (AllByRecursion IsCodedValue) (λ n. repeated value_codec n)

pub insert_codec : Codec insert_at (λ m. int32 m.0 ++ spell_row m.1) (λ m. (m.0 < 2 ^ 32) × IsCodedRow m.1)
unfolding insert_at
insert_codec = codec_of (field (number32 Short) (λ m. m.0) _ _ _ _ (λ oid.
    last_field row_codec (λ m. m.1) _ (λ row. (oid, row)) (λ _. refl) (λ _ _. (refl, tt)) (λ m known. rw (← known.0) refl)))

-- THE LOOP OVER A ROW

pub fails_on : (fault : BodyFault) {A : Type 0} (f : List ℕ → Result (A × List ℕ) BodyFault) (front : List A) (count i : ℕ) (bytes : List ℕ) (total : Result (List A × List ℕ) BodyFault)
    → i < count → Fails fault (f bytes) → with_front front (repeat_at f (count - i) bytes) ≡ total → Fails fault total
fails_on Short f front count i bytes total lt e so_far = ends Short f front count i bytes total lt e so_far
fails_on UnknownTag f front count i bytes total lt e so_far = ends UnknownTag f front count i bytes total lt e so_far
fails_on BadBool f front count i bytes total lt e so_far = ends BadBool f front count i bytes total lt e so_far
fails_on BadText f front count i bytes total lt e so_far = ends BadText f front count i bytes total lt e so_far
fails_on Trailing f front count i bytes total lt e so_far = ends Trailing f front count i bytes total lt e so_far
fails_on Memory f front count i bytes total lt e so_far = tt

-- the first value is read at the first turn
pub first_read : (i : ℕ) (now initial : List ℕ) → (i ≡ 0 → now ≡ initial) → (0 < i → IsOk (value_at initial)) → IsOk (value_at now) → IsOk (value_at initial)
first_read zero now initial first later read = subst (λ (bytes : List ℕ). IsOk (value_at bytes)) (first refl) read
first_read (suc i) now initial first later read = later (omega arith)

-- a fault that is passed on is memory only where it was before
pub memory_before : {X Y : Type 0} (result : Result X BodyFault) (passed fault : BodyFault) → result ≡ Err passed → passed ≡ fault → result ≡ Err Memory →
    ◌≡◌ {A = Result Y BodyFault} (Err fault) (Err Memory)
memory_before result passed fault is same memory = let known : fault ≡ Memory = cc in ap Err known

-- WHERE MEMORY IS WANTED

pub is_read : {X E : Type 0} (r : Result X E) → IsOk r → (x : X) × (r ≡ Ok x)
is_read (Ok x) is = (x, refl)
is_read (Err e) is = absurd cc

pub is_there : {X : Type 0} (o : Option X) (P : X → Type 0) → IsSomeAnd o P → (x : X) × (o ≡ Some x) × P x
is_there (Some x) P is = (x, refl, is)
is_there None P is = absurd is
