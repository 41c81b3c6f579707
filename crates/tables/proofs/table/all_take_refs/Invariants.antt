use Rattle.std.proofs.Common.{◌≡◌, drop}
use Rattle.std.specs.List.{list_all, zip}
use Rattle.tables.specs.Tables.{fits_column}
use Rattle.tables.proofs.table.all_take_refs.Given as goal

abbrev pub invariant-loop-i : goal.invariant-loop-i
invariant-loop-i l = list_all (λ p. fits_column p.0 p.1) (zip l.columns l.row) ≡ list_all (λ p. fits_column p.0 p.1) (zip (drop l.i l.columns) (drop l.i l.row))
