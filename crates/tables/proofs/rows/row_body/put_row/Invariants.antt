use Rattle.std.proofs.Common.{◌≡◌, ◌≤◌, ◌++◌, length, drop}
use Rattle.std.specs.List.{flat_map}
use Rattle.tables.specs.declared.rows.row.TheConstants.{MAX_ROW_LENGTH}
use Rattle.pqformat.specs.Putting.{Extends}
use Rattle.tables.specs.Kinds.{spell_value}
use Rattle.tables.specs.Spelling.{spell_row}
use Rattle.tables.proofs.rows.row_body.put_row.Given as goal

abbrev pub invariant-loop-value : goal.invariant-loop-value
invariant-loop-value l = Extends l.fn.out.items l.out.items
    × (l.out.items ++ flat_map spell_value (drop l.value-index l.values) ≡ l.fn.out.items ++ spell_row l.row)
    × (length (flat_map spell_value (drop l.value-index l.values)) ≤ MAX_ROW_LENGTH)
