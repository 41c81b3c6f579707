use Rattle.std.proofs.Common.{◌≡◌, drop}
use Rattle.std.specs.Prelude.{option_map}
use Rattle.connections.specs.Accounts.{found, user_of}
use Rattle.connections.proofs.authentication.users.Users.user_of.Given as goal

abbrev pub invariant-loop-user : goal.invariant-loop-user
invariant-loop-user l = found l.name (option_map (λ s. s.now) l.found) (drop l.user-index l.fn.self.users) ≡ user_of l.fn.self l.name
