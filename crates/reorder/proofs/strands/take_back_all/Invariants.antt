use Rattle.std.proofs.Common.{◌≡◌, ℕ, None, cond, drop, take}
use Rattle.reorder.specs.Lents.{strands_in}
use Rattle.reorder.specs.Pool.{strand_of}
use Rattle.reorder.specs.Settled.{heads_of, without_all}
use Rattle.reorder.specs.Strands.{is_in}
use Rattle.reorder.proofs.Lending.{Taken}
use Rattle.reorder.proofs.strands.take_back_all.Given as goal

-- the strands of the xids so far are taken back
abbrev pub invariant-loop-xid : goal.invariant-loop-xid
invariant-loop-xid l = record {
  taken : Taken l.fn.pool l.pool (strands_in l.fn.lent) (strands_in l.lent);
  left : (x : ℕ) → strand_of (strands_in l.lent) x ≡ cond (is_in x (take l.xid-index l.xids)) None (strand_of (strands_in l.fn.lent) x);
  arena : without_all l.fn.pool.arena (heads_of (strand_of (strands_in l.fn.lent)) l.xids) ≡ without_all l.pool.arena (heads_of (strand_of (strands_in l.lent)) (drop l.xid-index l.xids));
}
