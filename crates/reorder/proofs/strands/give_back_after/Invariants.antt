use Rattle.std.proofs.Common.{◌≡◌, ◌≤◌, ℕ, [], cond, length, reverse, take, nat_eq, ◌&&◌}
use Rattle.std.specs.HashMap.{get}
use Rattle.reorder.specs.Chunks.{StaysWhole}
use Rattle.reorder.specs.Pool.{StaysLent, entries_at}
use Rattle.reorder.specs.Strands.{above_standing, behind, is_in}
use Rattle.reorder.proofs.strands.give_back_after.Given as goal

-- what is left makes all
abbrev pub invariant-loop-left : goal.invariant-loop-left
invariant-loop-left l = (l.left ≤ length l.xids) × StaysWhole l.fn.pool l.pool × StaysLent l.fn.pool l.pool
    × ((x : ℕ) → cond (is_in x (behind l.xid (reverse (take l.left l.xids))) && is_in l.xid (above_standing (get nat_eq l.strands x))) [] (entries_at l.pool x)
    ≡ cond (is_in x (behind l.xid (reverse l.xids)) && is_in l.xid (above_standing (get nat_eq l.strands x))) [] (entries_at l.fn.pool x))

abbrev pub decreases-loop-left : goal.decreases-loop-left
decreases-loop-left l = l.left
