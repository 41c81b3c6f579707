-- A change is read again from the body that a record keeps of it.
use Rattle.std.proofs.Common.{◌≡◌, ℕ, List, ap}
use Rattle.tables.specs.declared.changes.change.Change.{Change}
use Rattle.tables.specs.Spelling.{spell_body}
use Rattle.tables.specs.Reading.{IsCoded}
use Rattle.tables.proofs.ChangeBodies.{body_again}
use Rattle.wal.specs.Bodies.{change_in, change_of}

pub change_again : (bytes : List ℕ) (change : Change) → IsCoded change → bytes ≡ spell_body change → change_in bytes ≡ change
change_again bytes change coded text = ap change_of (body_again bytes change (record { in_range = coded; text = text }))
