-- The log that the entries of a segment tell.
use Rattle.std.specs.Prelude.{◌≡◌, ◌⊎◌, ℕ, true, List, [], ◌∷◌, ◌++◌}
use Rattle.wal.specs.Records.{record_after}
use Rattle.wal.specs.declared.record.Body.{Body}
use Rattle.wal.specs.declared.record.Record.{Record}
use Rattle.segments.specs.Entries.{Written}
use Rattle.segments.specs.Kinds.{is_beside, records_in}
use Rattle.segments.specs.Records.{SpellsRecord}

-- a log after these records, one after the other
abbrev pub log_after : List Record → List Body → List Record
log_after log [] = log
log_after log (b ∷ bodies) = log_after (log ++ record_after log b ∷ []) bodies

-- each entry tells one of these records, in their order
abbrev pub AreTold : List Written → List Body → Type 0
AreTold [] [] = Unit {0}
AreTold (e ∷ es) (b ∷ bodies) = SpellsRecord e.body b × AreTold es bodies
AreTold es bodies = ⊥

-- what a log became by the record that these bytes tell
pub record ReplaysOne (bytes : List ℕ) (old new : List Record) : Type 0 where
  pub body : Body
  pub told : SpellsRecord bytes body
  pub log : new ≡ old ++ record_after old body ∷ []

-- by an entry: nothing of what tells no record, and else that
abbrev pub ReplaysEntry : List ℕ → List Record → List Record → Type 0
ReplaysEntry bytes old new = ((is_beside bytes ≡ true) × (new ≡ old)) ⊎ ReplaysOne bytes old new

-- and by the records of these entries
pub record Replays (es : List Written) (old new : List Record) : Type 0 where
  pub bodies : List Body
  pub told : AreTold (records_in es) bodies
  pub log : new ≡ log_after old bodies
