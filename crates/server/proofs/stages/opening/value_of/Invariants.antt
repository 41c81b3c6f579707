use Rattle.std.proofs.Common.{◌≡◌, drop}
use Rattle.std.specs.Prelude.{option_map}
use Rattle.server.specs.Opening.{latest, value_of}
use Rattle.server.proofs.stages.opening.value_of.Given as goal

abbrev pub invariant-loop-parameter : goal.invariant-loop-parameter
invariant-loop-parameter l = latest l.name (option_map (λ s. s.now) l.found) (drop l.parameter-index l.parameters) ≡ value_of l.name l.parameters
