use Rattle.connections.proofs.Proving.{let_in_by_proof}
use Rattle.connections.proofs.authentication.turn.passes_only_by_proof.Goals as goal

pub returns : goal.returns
returns c nonce turns opening are = let_in_by_proof nonce turns opening are
