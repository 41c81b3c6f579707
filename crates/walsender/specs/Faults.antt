-- What a turn's answer tells.
use Rattle.std.specs.Prelude.{ℕ, Bool, true, false, Result, Ok, Err}
use Rattle.shared_log.specs.declared.fault.ReadFault.{ReadFault}
use Rattle.shared_log.specs.declared.fault.ReadFault.TheVariants as reads
use Rattle.walsender.specs.declared.stream_turn.turn_fault.TurnFault.{TurnFault}
use Rattle.walsender.specs.declared.stream_turn.turn_fault.TurnFault.TheVariants as turns

-- why a turn fetched nothing
abbrev pub fault_of_fetch : ReadFault → TurnFault
fault_of_fetch reads.NoEntry = turns.NoEntry
fault_of_fetch reads.Stale = turns.Stale
fault_of_fetch reads.Memory = turns.Memory
fault_of_fetch reads.Removed = turns.Removed

-- the reader moved on
abbrev pub has_fetched : Result ℕ TurnFault → Bool
has_fetched (Ok count) = true
has_fetched (Err turns.Memory) = false
has_fetched (Err turns.NoEntry) = false
has_fetched (Err turns.Stale) = false
has_fetched (Err turns.Removed) = false
has_fetched (Err fault) = true

-- the writer was asked to take bytes
abbrev pub has_written : Result ℕ TurnFault → Bool
has_written (Ok count) = true
has_written (Err (turns.Write e)) = true
has_written (Err fault) = false
