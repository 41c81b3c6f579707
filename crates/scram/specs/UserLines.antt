-- A line of a file of passwords: a user's name, a colon, and the verifier as PostgreSQL keeps it.
use Rattle.std.specs.Prelude.{◌≡◌, ℕ, List, ◌++◌, codes}
use Rattle.scram.specs.Keys.{IsVerifierOf}
use Rattle.scram.specs.Verifiers.{verifier_text}
use Rattle.scram.specs.declared.server_side.verifier.Verifier.{Verifier}

pub record IsLineOf (name password salt line : List ℕ) : Type 0 where
  pub verifier : Verifier
  pub made : IsVerifierOf password salt verifier
  pub is : line ≡ name ++ codes ":" ++ verifier_text verifier
