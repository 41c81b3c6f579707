use Rattle.std.proofs.Common.{◌≡◌, drop}
use Rattle.std.specs.List.{list_any, zip}
use Rattle.row_messages.specs.Relations.{listed_items}
use Rattle.row_messages.proofs.Written.{is_changed}
use Rattle.row_messages.proofs.tuples.changes_key_in.Given as goal

abbrev pub invariant-loop-i : goal.invariant-loop-i
invariant-loop-i l = list_any is_changed (listed_items (drop l.i l.listed) (drop l.i (zip l.columns (zip l.old l.new)))) ≡ list_any is_changed (listed_items l.listed (zip l.columns (zip l.old l.new)))
