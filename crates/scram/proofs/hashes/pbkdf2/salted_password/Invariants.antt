use Rattle.std.proofs.Common.{◌≡◌, ℕ, ◌-◌, List}
use Rattle.scram.specs.Hi.{u, summed}
use Rattle.scram.proofs.hashes.pbkdf2.salted_password.Given as goal

-- The code and the sum of the round before this one.
pub record OfRound (password salt : List ℕ) (round : ℕ) (last sum : List ℕ) : Type 0 where
  pub code : last ≡ u password salt (round - 1)
  pub total : sum ≡ summed password salt (round - 1)

abbrev pub invariant-loop-round : goal.invariant-loop-round
invariant-loop-round l = OfRound l.fn.password l.fn.salt l._round l.last.items l.sum.items
