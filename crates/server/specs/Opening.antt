-- What a session's startup asks for (PostgreSQL 15, 55.2.1 and 55.4): parameters by name, of which the last pair counts.
use Rattle.std.specs.Prelude.{ℕ, Bool, false, List, [], ◌∷◌, Option, Some, None, codes, if◌then◌else◌}
use Rattle.std.specs.Str.{bytes_eq}
use Rattle.frames.specs.declared.frontend.parameter.Parameter.{Parameter}

-- the value of the last parameter of this name, or what was found before
abbrev pub latest : List ℕ → Option (List ℕ) → List Parameter → Option (List ℕ)
latest name found [] = found
latest name found (p ∷ ps) = latest name (if bytes_eq p.name name then Some p.value else found) ps

abbrev pub value_of : List ℕ → List Parameter → Option (List ℕ)
value_of name ps = latest name None ps

abbrev pub is_database : Option (List ℕ) → Bool
is_database None = false
is_database (Some value) = bytes_eq value (codes "database")

abbrev pub first_of : Option (List ℕ) → Option (List ℕ) → List ℕ
first_of (Some a) b = a
first_of None (Some b) = b
first_of None None = []

-- the name of the database, if replication on it is asked for
unfoldable pub opened_database : List Parameter → Option (List ℕ)
opened_database ps = if is_database (value_of (codes "replication") ps) then Some (first_of (value_of (codes "database") ps) (value_of (codes "user") ps)) else None
