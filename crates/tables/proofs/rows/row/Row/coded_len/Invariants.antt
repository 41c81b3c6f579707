use Rattle.std.proofs.Common.{◌≡◌, ◌+◌, ◌≤◌, length, drop}
use Rattle.std.specs.List.{flat_map, AllByRecursion}
use Rattle.tables.specs.declared.rows.row.TheConstants.{MAX_ROW_LENGTH}
use Rattle.tables.specs.Kinds.{IsValue, spell_value}
use Rattle.tables.specs.Spelling.{row_length}
use Rattle.tables.proofs.rows.row.Row.coded_len.Given as goal

abbrev pub invariant-loop-value : goal.invariant-loop-value
invariant-loop-value l = (l.len ≤ MAX_ROW_LENGTH) × (l.len + length (flat_map spell_value (drop l.value-index l.value-items)) ≡ row_length l.self)
    × (AllByRecursion IsValue (drop l.value-index l.value-items) → AllByRecursion IsValue l.self)
