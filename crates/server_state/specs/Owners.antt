-- Whose slots are, and who may use them. PostgreSQL 15 has no such right: there who has the attribute REPLICATION may use all (21.2).
use Rattle.std.specs.Prelude.{◌≡◌, ℕ, Bool, true, false, cond, List, Option, Some, None}
use Rattle.std.specs.Str.{bytes_eq}
use Rattle.std.specs.BTreeMap.{get_by_text}
use Rattle.server_state.specs.declared.kept.owners.Owners.{Owners}

-- the user that made the slot of a name, where it had to prove its password
abbrev pub owner_of : Owners → List ℕ → Option (List ℕ)
owner_of owners name = get_by_text owners.users name

-- the owner may; or anyone, where there is none
abbrev pub may_use : (owner user : Option (List ℕ)) → Bool
may_use None user = true
may_use (Some owner) None = false
may_use (Some owner) (Some user) = bytes_eq owner user

-- each slot is whose it was
abbrev pub HaveSameOwners : Owners → Owners → Type 0
HaveSameOwners old new = (name : List ℕ) → owner_of new name ≡ owner_of old name

-- the slot of this name has that owner or none, and each other one whose it was
abbrev pub ChangesOwner : Owners → Owners → List ℕ → Option (List ℕ) → Type 0
ChangesOwner old new name owner = (other : List ℕ) → owner_of new other ≡ cond (bytes_eq name other) owner (owner_of old other)
