-- Of whom a proof is asked, by the name in a startup.
use Rattle.std.specs.Prelude.{◌≡◌, ℕ, Bool, true, false, List, [], ◌∷◌, Option, Some, None, if◌then◌else◌}
use Rattle.std.specs.Str.{bytes_eq}
use Rattle.scram.specs.Exchanges.{unknown_salt}
use Rattle.scram.specs.declared.server_side.account.Account.{Account}
use Rattle.connections.specs.declared.authentication.users.User.{User}
use Rattle.connections.specs.declared.authentication.users.Users.{Users}

-- the last one of this name, or the one that was found before
abbrev pub found : List ℕ → Option User → List User → Option User
found name before [] = before
found name before (user ∷ users) = found name (if bytes_eq user.name name then Some user else before) users

abbrev pub user_of : Users → List ℕ → Option User
user_of users name = found name None users.users

-- A user has the verifier of its line. One that isn't there has no right proof, and the salt of its name.
abbrev pub IsAccount : List ℕ → List ℕ → Option User → Account → Type 0
IsAccount secret name (Some user) account = account ≡ record { verifier = user.verifier; is_known = true }
IsAccount secret name None account = (account.is_known ≡ false) × (account.verifier.salt ≡ unknown_salt secret name)

abbrev pub IsAccountOf : Users → List ℕ → Account → Type 0
IsAccountOf users name account = IsAccount users.secret name (user_of users name) account
