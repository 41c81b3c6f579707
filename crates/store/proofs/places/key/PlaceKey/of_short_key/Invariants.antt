use Rattle.std.proofs.Common.{◌≡◌, ◌++◌, drop}
use Rattle.std.specs.List.{flat_map}
use Rattle.store.specs.Rows.{key_text}
use Rattle.tables.specs.Kinds.{spell_value}
use Rattle.store.proofs.places.key.PlaceKey.of_short_key.Given as goal

abbrev pub invariant-loop-value : goal.invariant-loop-value
invariant-loop-value l = l.place ++ flat_map spell_value (drop l.value-index l.value-items) ≡ key_text (record { oid = l.oid; values = l.key })
