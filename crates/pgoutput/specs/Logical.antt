-- Logical replication messages (PostgreSQL 15, 55.9), protocol version 1: a kind byte, and the fields of that kind.
use Rattle.std.specs.Prelude.{◌≡◌, ◌≢◌, ℕ, ◌==◌, List, [], ◌∷◌, ◌++◌, Bool, true, false, ◌||◌, Result, Ok, Err, if◌then◌else◌}
use Rattle.std.specs.List.{list_any}
use Rattle.pqformat.specs.Fields.{byte_at}
use Rattle.pqformat.specs.Steps.{◌>>=◌}
use Rattle.pgoutput.specs.Reading.{short}
use Rattle.pgoutput.specs.declared.fault.PgoutputError.{PgoutputError}
use Rattle.pgoutput.specs.declared.fault.PgoutputError.TheVariants.{UnknownKind, Trailing, Memory}
use Rattle.pgoutput.specs.declared.logical.Logical.{Logical}
use Rattle.pgoutput.specs.declared.logical.Logical.TheVariants as logical
use Rattle.pgoutput.specs.declared.messages.begin.TheConstants.{BEGIN}
use Rattle.pgoutput.specs.declared.messages.commit.TheConstants.{COMMIT}
use Rattle.pgoutput.specs.declared.messages.relation.TheConstants.{RELATION}
use Rattle.pgoutput.specs.declared.messages.insert.TheConstants.{INSERT}
use Rattle.pgoutput.specs.declared.messages.update.TheConstants.{UPDATE}
use Rattle.pgoutput.specs.declared.messages.delete.TheConstants.{DELETE}
use Rattle.pgoutput.specs.declared.messages.truncate.TheConstants.{TRUNCATE}
use Rattle.pgoutput.specs.declared.messages.message.TheConstants.{MESSAGE}
use Rattle.pgoutput.specs.Begin.{begin, FitsBegin, begin_at}
use Rattle.pgoutput.specs.Commit.{commit, FitsCommit, commit_at}
use Rattle.pgoutput.specs.Relation.{relation, FitsRelation, IsShortRelation, relation_at}
use Rattle.pgoutput.specs.Insert.{insert, FitsInsert, IsShortInsert, insert_at}
use Rattle.pgoutput.specs.Update.{update, FitsUpdate, IsShortUpdate, update_at}
use Rattle.pgoutput.specs.Delete.{delete, FitsDelete, IsShortDelete, delete_at}
use Rattle.pgoutput.specs.Truncate.{truncate, FitsTruncate, IsShortTruncate, truncate_at}
use Rattle.pgoutput.specs.Message.{message, FitsMessage, HasShortContent, message_at}

-- of a message: its kind byte, the spelling of its fields, and the range of its values
pub record Form : Type 1 where
  pub kind : ℕ
  pub fields : List ℕ
  pub Fits : Type 0

abbrev pub form_of : Logical → Form
form_of (logical.Begin m) = record { kind = BEGIN; fields = begin m; Fits = FitsBegin m }
form_of (logical.Commit m) = record { kind = COMMIT; fields = commit m; Fits = FitsCommit m }
form_of (logical.Relation m) = record { kind = RELATION; fields = relation m; Fits = FitsRelation m }
form_of (logical.Insert m) = record { kind = INSERT; fields = insert m; Fits = FitsInsert m }
form_of (logical.Update m) = record { kind = UPDATE; fields = update m; Fits = FitsUpdate m }
form_of (logical.Delete m) = record { kind = DELETE; fields = delete m; Fits = FitsDelete m }
form_of (logical.Truncate m) = record { kind = TRUNCATE; fields = truncate m; Fits = FitsTruncate m }
form_of (logical.Message m) = record { kind = MESSAGE; fields = message m; Fits = FitsMessage m }

abbrev pub kind_byte : Logical → ℕ
kind_byte m = (form_of m).kind

abbrev pub spell_logical : Logical → List ℕ
spell_logical m = (form_of m).kind ∷ (form_of m).fields

-- every number, text and count within what its field holds
abbrev pub FitsLogical : Logical → Type 0
FitsLogical m = (form_of m).Fits

-- The whole text spells the message.
pub record SpellsLogical (bytes : List ℕ) (m : Logical) : Type 0 where
  pub in_range : FitsLogical m
  pub text : bytes ≡ spell_logical m

-- what a writer asks: the counts and lengths fit their fields
abbrev pub IsShort : Logical → Type 0
IsShort (logical.Relation m) = IsShortRelation m
IsShort (logical.Insert m) = IsShortInsert m
IsShort (logical.Update m) = IsShortUpdate m
IsShort (logical.Delete m) = IsShortDelete m
IsShort (logical.Truncate m) = IsShortTruncate m
IsShort (logical.Message m) = HasShortContent m
IsShort _ = Unit {0}

-- the message at the front: its kind byte, and then the fields of that kind
abbrev pub fields_at : ℕ → List ℕ → Result (Logical × List ℕ) PgoutputError
fields_at kind bytes =
    if kind == BEGIN then (begin_at bytes >>= λ m. Ok (logical.Begin m.0, m.1))
    else if kind == COMMIT then (commit_at bytes >>= λ m. Ok (logical.Commit m.0, m.1))
    else if kind == RELATION then (relation_at bytes >>= λ m. Ok (logical.Relation m.0, m.1))
    else if kind == INSERT then (insert_at bytes >>= λ m. Ok (logical.Insert m.0, m.1))
    else if kind == UPDATE then (update_at bytes >>= λ m. Ok (logical.Update m.0, m.1))
    else if kind == DELETE then (delete_at bytes >>= λ m. Ok (logical.Delete m.0, m.1))
    else if kind == TRUNCATE then (truncate_at bytes >>= λ m. Ok (logical.Truncate m.0, m.1))
    else if kind == MESSAGE then (message_at bytes >>= λ m. Ok (logical.Message m.0, m.1))
    else Err UnknownKind

unfoldable pub logical_at : List ℕ → Result (Logical × List ℕ) PgoutputError
logical_at bytes = short (byte_at bytes) >>= λ kind. fields_at kind.0 kind.1

-- with nothing after it
abbrev pub alone : Logical → List ℕ → Result Logical PgoutputError
alone m [] = Ok m
alone m (b ∷ rest) = Err Trailing

abbrev pub whole_of : List ℕ → Result Logical PgoutputError
whole_of bytes = logical_at bytes >>= λ m. alone m.0 m.1

-- ---- Where a fault stands.

abbrev pub is_kind : ℕ → Bool
is_kind b = list_any (λ k. b == k) (BEGIN ∷ COMMIT ∷ RELATION ∷ INSERT ∷ UPDATE ∷ DELETE ∷ TRUNCATE ∷ MESSAGE ∷ [])

-- Begin and Commit hold nothing to keep; the others hold texts and lists.
abbrev pub needs_memory : ℕ → Bool
needs_memory b = if b == BEGIN || b == COMMIT then false else is_kind b

-- at the first byte; after a whole message; for want of memory, only where there is something to keep; any other where
-- the reading of the fields stops
abbrev pub Stands : PgoutputError → List ℕ → Type 0
Stands UnknownKind bytes = (b : ℕ) × (rest : List ℕ) × (bytes ≡ b ∷ rest) × (is_kind b ≡ false)
Stands Trailing bytes = (m : Logical) × (rest : List ℕ) × FitsLogical m × (bytes ≡ spell_logical m ++ rest) × (rest ≢ [])
Stands Memory bytes = (b : ℕ) × (rest : List ℕ) × (bytes ≡ b ∷ rest) × (needs_memory b ≡ true)
Stands e bytes = whole_of bytes ≡ Err e
