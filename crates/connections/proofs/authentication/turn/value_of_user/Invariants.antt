use Rattle.std.proofs.Common.{◌≡◌, drop}
use Rattle.std.specs.Prelude.{codes, option_map}
use Rattle.server.specs.Opening.{latest, value_of}
use Rattle.connections.proofs.authentication.turn.value_of_user.Given as goal

abbrev pub invariant-loop-parameter : goal.invariant-loop-parameter
invariant-loop-parameter l = latest (codes "user") (option_map (λ s. s.now) l.found) (drop l.parameter-index l.parameters) ≡ value_of (codes "user") l.parameters
