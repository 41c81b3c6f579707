-- A turn: which records it fetches, and what it makes of its sender and its writer.
use Rattle.std.specs.Prelude.{◌≡◌, ◌++◌, ℕ, ℤ, true, false, List, take, drop}
use Rattle.wal.specs.declared.record.Record.{Record}
use Rattle.wal.specs.Log.{follows}
use Rattle.walsender.specs.declared.fault.SendFault.{SendFault}
use Rattle.walsender.specs.declared.fault.SendFault.TheVariants as sends
use Rattle.walsender.specs.Lent.{AreLastOf}
use Rattle.walsender.specs.Sending.{SenderState, ReadAll, RanOut}

-- the records from the place on, so many at most, of what its reader sees
abbrev pub fetched_from : ℕ → ℕ → List Record → List Record
fetched_from most place seen = take most (drop place seen)

-- The sender read these records, and then gave away these bytes: the front of what it held before, followed by what the
-- records published.
pub record ReadAndGave (clock : ℤ) (old new : SenderState) (rs : List Record) (given : List ℕ) : Type 0 where
  pub running : old.failed ≡ false
  pub follow : follows old.position rs ≡ true
  pub fed : SenderState
  pub read : ReadAll clock old fed rs
  pub runs_on : fed.failed ≡ false
  pub parts : fed.held ≡ given ++ new.held
  pub rest : new ≡ record fed { held = new.held; lent = new.lent }
  pub lent : AreLastOf new.lent fed.lent

-- why the sender refused these records, and how it is then
abbrev pub IsRefused : ℤ → SenderState → SenderState → List Record → SendFault → Type 0
IsRefused clock old new rs sends.ArenaFull = (old.failed ≡ false) × RanOut clock old new rs
IsRefused clock old new rs sends.Memory = (old.failed ≡ false) × RanOut clock old new rs
IsRefused clock old new rs sends.Failed = (old.failed ≡ true) × (new ≡ old)
IsRefused clock old new rs sends.Gap = (old.failed ≡ false) × (follows old.position rs ≡ false) × (new ≡ old)
