-- Transactions in progress, by the names that session lines give them.
use Rattle.std.specs.Prelude.{ℕ, List, [], ◌∷◌, Option, Some, None, if◌then◌else◌}
use Rattle.std.specs.Str.{bytes_eq}

-- a transaction in progress, by the name that a line gives it
pub record NamedTx : Type 0 where
  pub name : List ℕ
  pub xid : ℕ

-- the xid of the transaction of this name
abbrev pub xid_of : List ℕ → List NamedTx → Option ℕ
xid_of name [] = None
xid_of name (t ∷ ts) = if bytes_eq t.name name then Some t.xid else xid_of name ts

abbrev pub without_name : List ℕ → List NamedTx → List NamedTx
without_name name [] = []
without_name name (t ∷ ts) = if bytes_eq t.name name then ts else t ∷ without_name name ts
