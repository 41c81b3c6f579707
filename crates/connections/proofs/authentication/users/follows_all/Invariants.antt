use Rattle.std.proofs.Common.{◌≡◌, drop}
use Rattle.connections.specs.Rights.{follows_all}
use Rattle.connections.proofs.authentication.users.follows_all.Given as goal

abbrev pub invariant-loop-name : goal.invariant-loop-name
invariant-loop-name l = follows_all l.user (drop l.name-index l.fn.names) ≡ follows_all l.fn.user l.fn.names
