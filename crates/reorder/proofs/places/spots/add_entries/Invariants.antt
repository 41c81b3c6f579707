use Rattle.std.proofs.Common.{◌≡◌, ◌≤◌, ◌-◌, ◌++◌, length}
use Rattle.std.specs.List.{AllByRecursion}
use Rattle.reorder.specs.Entries.{IsEntry}
use Rattle.reorder.specs.Spots.{spots_from}
use Rattle.reorder.proofs.places.spots.add_entries.Given as goal

-- the spots so far, and those of the entries that are left, are all
abbrev pub invariant-loop-entry : goal.invariant-loop-entry
invariant-loop-entry l = (l.before ≤ length l.joined.items) × AllByRecursion IsEntry l.entries
    × (l.joined.items ++ spots_from l.xid (length l.joined.items - l.before) l.entries ≡ l.fn.joined.items ++ spots_from l.xid 0 l.fn.entries)

abbrev pub decreases-loop-entry : goal.decreases-loop-entry
decreases-loop-entry l = length l.entries
