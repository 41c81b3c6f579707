use Rattle.std.proofs.Common.{◌≡◌, ◌++◌, drop}
use Rattle.std.specs.List.{flat_map}
use Rattle.store.specs.Rows.{key_text, key_values}
use Rattle.tables.specs.Kinds.{spell_value}
use Rattle.store.proofs.places.key.PlaceKey.of_row.Given as goal

abbrev pub invariant-loop-i : goal.invariant-loop-i
invariant-loop-i l = l.place ++ flat_map spell_value (key_values (drop l.i l.columns) (drop l.i l.values)) ≡ key_text (record { oid = l.oid; values = key_values l.columns l.row })
