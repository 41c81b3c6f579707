-- Rows and messages that are read where they lie.
use Rattle.std.specs.Prelude.{◌⊎◌, ◌<◌, List, length}
use Rattle.tables.specs.declared.kinds.Value.{Value}
use Rattle.tables.specs.declared.table.TheConstants.{MAX_COLUMNS}
use Rattle.tables.specs.declared.rows.row.TheConstants.{MAX_ROW_LENGTH}
use Rattle.tables.specs.declared.changes.message.Message.{Message}
use Rattle.tables.specs.declared.changes.message.MessageRef.{MessageRef}
use Rattle.tables.specs.Spelling.{row_length}

abbrev pub message_of : MessageRef → Message
message_of m = record { prefix = m.prefix.now; content = m.content.now }

-- more than any row of a table has: over 64 values, or over 8,000 bytes in the log
abbrev pub IsLarge : List Value → Type 0
IsLarge row = (MAX_COLUMNS < length row) ⊎ (MAX_ROW_LENGTH < row_length row)
