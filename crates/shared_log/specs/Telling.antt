-- What a receipt tells of its record.
use Rattle.std.specs.Prelude.{◌≡◌, ℕ}
use Rattle.wal.specs.declared.record.Record.{Record}

-- where the record starts and ends
abbrev pub TellsOf : Record → ℕ → ℕ → Type 0
TellsOf r start end = (r.start ≡ start) × (r.end ≡ end)
