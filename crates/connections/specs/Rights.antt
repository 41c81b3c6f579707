-- Which publications a user may follow. PostgreSQL 15 has no such right: there who has the attribute REPLICATION follows all (21.2).
use Rattle.std.specs.Prelude.{ℕ, Bool, true, false, List, [], ◌∷◌, Option, Some, None, if◌then◌else◌}
use Rattle.std.specs.Str.{bytes_eq}
use Rattle.connections.specs.declared.authentication.users.User.{User}

abbrev pub has_name : List ℕ → List (List ℕ) → Bool
has_name name [] = false
has_name name (one ∷ names) = if bytes_eq one name then true else has_name name names

-- all, unless they are named
abbrev pub follows : Option (List (List ℕ)) → List ℕ → Bool
follows None name = true
follows (Some names) name = has_name name names

abbrev pub may_follow : User → List ℕ → Bool
may_follow user name = follows user.publications name

abbrev pub follows_all : User → List (List ℕ) → Bool
follows_all user [] = true
follows_all user (name ∷ names) = if may_follow user name then follows_all user names else false

-- one that isn't there may follow none, also where none is named
abbrev pub may_follow_all : Option User → List (List ℕ) → Bool
may_follow_all None names = false
may_follow_all (Some user) names = follows_all user names
