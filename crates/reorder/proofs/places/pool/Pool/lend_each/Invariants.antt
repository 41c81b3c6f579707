use Rattle.std.proofs.Common.{◌≡◌, ℕ, None, cond, take}
use Rattle.reorder.specs.Pool.{StaysLent, strand_of}
use Rattle.reorder.specs.Strands.{is_in}
use Rattle.reorder.proofs.places.pool.Pool.lend_each.Given as goal

-- the strands of the xids so far are lent
abbrev pub invariant-loop-xid : goal.invariant-loop-xid
invariant-loop-xid l = record {
  strands : (x : ℕ) → strand_of l.lent.entries x ≡ cond (is_in x (take l.xid-index l.xids)) (strand_of l.fn.self.strands x) None;
  left : (x : ℕ) → strand_of l.self.strands x ≡ cond (is_in x (take l.xid-index l.xids)) None (strand_of l.fn.self.strands x);
  arena : l.self.arena ≡ l.fn.self.arena;
  lent : StaysLent l.fn.self l.self;
}
