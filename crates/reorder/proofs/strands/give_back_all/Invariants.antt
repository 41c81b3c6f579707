use Rattle.std.proofs.Common.{◌≡◌, ℕ, [], cond, take}
use Rattle.reorder.specs.Chunks.{StaysWhole}
use Rattle.reorder.specs.Pool.{StaysLent, entries_at}
use Rattle.reorder.specs.Strands.{is_in}
use Rattle.reorder.proofs.strands.give_back_all.Given as goal

-- the entries of the xids so far are gone
abbrev pub invariant-loop-xid : goal.invariant-loop-xid
invariant-loop-xid l = ((x : ℕ) → entries_at l.pool x ≡ cond (is_in x (take l.xid-index l.xids)) [] (entries_at l.fn.pool x)) × StaysWhole l.fn.pool l.pool × StaysLent l.fn.pool l.pool
