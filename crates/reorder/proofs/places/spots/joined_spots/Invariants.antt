use Rattle.std.proofs.Common.{◌≡◌, ◌++◌, nat_eq, drop}
use Rattle.std.specs.HashMap.{get}
use Rattle.std.specs.List.{flat_map}
use Rattle.reorder.specs.Strands.{kept_spots}
use Rattle.reorder.proofs.places.spots.joined_spots.Given as goal

-- what is joined so far, and what the xids that are left keep, is all
abbrev pub invariant-loop-xid : goal.invariant-loop-xid
invariant-loop-xid l = l.joined.items ++ flat_map (kept_spots l.pool (get nat_eq l.strands)) (drop l.xid-index l.xids)
    ≡ flat_map (kept_spots l.pool (get nat_eq l.strands)) l.xids
