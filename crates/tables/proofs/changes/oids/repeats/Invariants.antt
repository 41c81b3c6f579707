use Rattle.std.proofs.Common.{◌≡◌, drop}
use Rattle.tables.specs.Tables.{repeats}
use Rattle.tables.proofs.changes.oids.repeats.Given as goal

abbrev pub invariant-loop-i : goal.invariant-loop-i
invariant-loop-i l = repeats (drop l.i l.oids) ≡ repeats l.oids
