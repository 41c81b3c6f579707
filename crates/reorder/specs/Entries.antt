-- How a change lies in the arena: its position in eight bytes, and its body.
use Rattle.std.specs.Prelude.{◌≡◌, ℕ, ◌<◌, ◌^◌, List, [], ◌++◌, drop, take, Result, Ok, Err}
use Rattle.std.specs.Int.{w64, from_be_bytes}
use Rattle.pqformat.specs.Fields.{int64}
use Rattle.tables.specs.declared.fault.BodyFault.{BodyFault}
use Rattle.tables.specs.declared.changes.change.Change.{Change}
use Rattle.tables.specs.declared.changes.change.Change.TheVariants as changes
use Rattle.tables.specs.Spelling.{spell_body}
use Rattle.tables.specs.Reading.{IsCoded, body_at}
use Rattle.wal.specs.Log.{Entry}

abbrev pub coded_entry : ℕ → Change → List ℕ
coded_entry position change = int64 position ++ spell_body change

abbrev pub position_in : List ℕ → ℕ
position_in bytes = from_be_bytes w64 (take 8 bytes)

abbrev pub body_in : List ℕ → List ℕ
body_in bytes = drop 8 bytes

abbrev pub decoded_change : Result (Change × List ℕ) BodyFault → Change
decoded_change (Ok change) = change.0
decoded_change (Err fault) = changes.Insert 0 []

-- the entry that an xid's bytes are
abbrev pub entry_in : ℕ → List ℕ → Entry
entry_in xid bytes = record { position = position_in bytes; xid = xid; change = decoded_change (body_at (body_in bytes)) }

-- the bytes are those of a change
pub record IsEntry (bytes : List ℕ) : Type 0 where
  pub position : ℕ
  pub change : Change
  pub in_range : position < 2 ^ 64
  pub coded : IsCoded change
  pub is : bytes ≡ coded_entry position change
