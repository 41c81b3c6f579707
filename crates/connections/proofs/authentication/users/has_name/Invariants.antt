use Rattle.std.proofs.Common.{◌≡◌, drop}
use Rattle.connections.specs.Rights.{has_name}
use Rattle.connections.proofs.authentication.users.has_name.Given as goal

abbrev pub invariant-loop-one : goal.invariant-loop-one
invariant-loop-one l = has_name l.name (drop l.one-index l.fn.names) ≡ has_name l.fn.name l.fn.names
