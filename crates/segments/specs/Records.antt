-- A record of the log as the body of an entry tells it: a tag, and its fields in the order of the record. Where it starts and ends, those
-- before it say.
use Rattle.std.specs.Prelude.{◌≡◌, ℕ, ◌<◌, ◌^◌, List, ◌∷◌, ◌++◌, FitsSigned}
use Rattle.std.specs.Int.{w64, cast_unsigned}
use Rattle.pqformat.specs.Fields.{int32, int64}
use Rattle.tables.specs.Reading.{IsCoded}
use Rattle.tables.specs.Spelling.{spell_body}
use Rattle.wal.specs.Log.{IsMessage}
use Rattle.wal.specs.declared.record.Body.{Body}
use Rattle.wal.specs.declared.record.Body.TheVariants.{Assign, Change as Changed, AbortSub, Abort, Commit, Note}
use Rattle.segments.specs.declared.records.writing.TheConstants.{ASSIGN_TAG, CHANGE_TAG, ABORT_SUB_TAG, ABORT_TAG, COMMIT_TAG, NOTE_TAG}

-- a change as the log keeps it; of a time its two's complement
abbrev pub spell_record : Body → List ℕ
spell_record (Assign sub parent) = ASSIGN_TAG ∷ (int32 sub ++ int32 parent)
spell_record (Changed xid change) = CHANGE_TAG ∷ (int32 xid ++ spell_body change)
spell_record (AbortSub xid) = ABORT_SUB_TAG ∷ int32 xid
spell_record (Abort xid) = ABORT_TAG ∷ int32 xid
spell_record (Commit xid time) = COMMIT_TAG ∷ (int32 xid ++ int64 (cast_unsigned w64 time))
spell_record (Note change) = NOTE_TAG ∷ spell_body change

-- its fields have room for it
abbrev pub IsTold : Body → Type 0
IsTold (Assign sub parent) = (sub < 2 ^ 32) × (parent < 2 ^ 32)
IsTold (Changed xid change) = (xid < 2 ^ 32) × IsCoded change
IsTold (AbortSub xid) = xid < 2 ^ 32
IsTold (Abort xid) = xid < 2 ^ 32
IsTold (Commit xid time) = (xid < 2 ^ 32) × FitsSigned w64 time
IsTold (Note change) = IsCoded change

-- a note is a message
abbrev pub IsNoted : Body → Type 0
IsNoted (Note change) = IsMessage change
IsNoted body = Unit {0}

-- the bytes are the one spelling of the record
pub record SpellsRecord (bytes : List ℕ) (body : Body) : Type 0 where
  pub in_range : IsTold body
  pub text : bytes ≡ spell_record body
