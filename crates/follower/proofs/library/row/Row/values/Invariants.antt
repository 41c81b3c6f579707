use Rattle.std.proofs.Common.{◌≡◌, ◌<◌, ℕ, None, length, get_or}
use Rattle.std.specs.Prelude.{slice_get, string_bytes}
use Rattle.std.specs.Option.{option_and_then, option_map}
use Rattle.pgoutput.specs.declared.parts.tuple.Cell.TheVariants as cells
use Rattle.follower.specs.Rows.{kept_of}
use Rattle.follower.proofs.library.row.Row.values.Given as goal

abbrev pub invariant-loop-at : goal.invariant-loop-at
invariant-loop-at l =
    (length l.values.items ≡ l.at)
    × ((i : ℕ) → i < l.at → option_map string_bytes (get_or l.values.items i None) ≡ kept_of (get_or l.self.cells.now i cells.Null) (option_and_then (option_map string_bytes) (slice_get l.before i)))
