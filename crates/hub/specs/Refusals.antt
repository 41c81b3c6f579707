-- What a backend answers where a stream doesn't begin.
use Rattle.std.specs.Prelude.{ℕ, Option, Some, None, nat_lt, if◌then◌else◌}
use Rattle.server.specs.declared.backend_fault.BackendFault.{BackendFault}
use Rattle.server.specs.declared.backend_fault.BackendFault.TheVariants as backends
use Rattle.server.specs.declared.backend_fault.StartAhead.{StartAhead}
use Rattle.shared_log.specs.declared.fault.ReadFault.{ReadFault}
use Rattle.shared_log.specs.declared.fault.ReadFault.TheVariants as reads
use Rattle.walsender.specs.declared.beginning.ClaimFault.{ClaimFault}
use Rattle.walsender.specs.declared.beginning.ClaimFault.TheVariants as claims
use Rattle.walsender.specs.declared.beginning.StartFault.{StartFault}
use Rattle.walsender.specs.declared.beginning.StartFault.TheVariants as starts
use Rattle.server_state.specs.Refusals.{of_publications, of_slot}

-- a slot is lost where the log has given back what its stream would read
abbrev pub of_read : ReadFault → ClaimFault
of_read reads.NoEntry = claims.NoEntry
of_read reads.Stale = claims.NoEntry
of_read reads.Memory = claims.NoEntry
of_read reads.Removed = claims.Removed

abbrev pub of_start : StartFault → BackendFault
of_start starts.NoSlot = backends.SlotMissing
of_start (starts.Publication fault) = of_publications fault
of_start starts.NoReader = backends.NoReader
of_start (starts.Claim (claims.Slot fault)) = of_slot fault
of_start (starts.Claim claims.NoEntry) = backends.NoReader
of_start (starts.Claim claims.Removed) = backends.SlotLost
of_start (starts.Claim claims.Memory) = backends.Memory

-- a start that lies ahead of all that its slot has confirmed and sent
abbrev pub ahead_by : ℕ → ℕ → Option StartAhead
ahead_by start reached = if nat_lt reached start then Some (record { start = start; reached = reached }) else None
