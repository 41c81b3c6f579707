use Rattle.std.proofs.Common.{◌≡◌, ℕ, nat_eq, None, cond, take}
use Rattle.std.specs.HashMap.{get}
use Rattle.reorder.specs.Strands.{is_in}
use Rattle.reorder.proofs.strands.remove_all.Given as goal

-- the xids so far are gone
abbrev pub invariant-loop-xid : goal.invariant-loop-xid
invariant-loop-xid l = (x : ℕ) → get nat_eq l.strands x ≡ cond (is_in x (take l.xid-index l.xids)) None (get nat_eq l.fn.strands x)
