-- What a connection asks of its backend, with the answers.
use Rattle.std.specs.Prelude.{◌≡◌, ℕ, Bool, List, [], ◌∷◌, Option, Result}
use Rattle.replcmd.specs.declared.clauses.setting.StreamOptions.{StreamOptions}
use Rattle.server.specs.declared.backend_fault.BackendFault.{BackendFault}
use Rattle.server.specs.declared.found_table.FoundTable.{FoundTable}
use Rattle.server.specs.declared.found_table.TableAttribute.{TableAttribute}
use Rattle.server.specs.declared.asked.table_name.TableName.{TableName}
use Rattle.server.specs.declared.asked.table_name.TableColumns.{TableColumns}

pub data Call : Type 0 where
  End : (end : ℕ) → Call
  System : (systemid : List ℕ) → Call
  CreateSlot : (slot : List ℕ) → (answer : Result ℕ BackendFault) → Call
  CreateSnapshot : (slot : List ℕ) → (answer : Result ℕ BackendFault) → Call
  ReleaseSnapshot : Call
  DropSlot : (slot : List ℕ) → (answer : Result (Unit {0}) BackendFault) → Call
  StartStream : (slot : List ℕ) → (position : ℕ) → (options : StreamOptions) → (answer : Result (Unit {0}) BackendFault) → Call
  Publications : (names : List (List ℕ)) → (answer : Result (List (List ℕ)) BackendFault) → Call
  Tables : (names : List (List ℕ)) → (answer : Result (List TableName) BackendFault) → Call
  Columns : (names : List (List ℕ)) → (answer : Result (List TableColumns) BackendFault) → Call
  Table : (schema : List ℕ) → (name : List ℕ) → (answer : Result (Option FoundTable) BackendFault) → Call
  Attributes : (oid : ℕ) → (answer : Result (List TableAttribute) BackendFault) → Call
  ColumnLists : (oid : ℕ) → (publications : List (List ℕ)) → (answer : Result (List (Option (List ℕ))) BackendFault) → Call
  RowFilters : (oid : ℕ) → (publications : List (List ℕ)) → (answer : Result (List (Option (List ℕ))) BackendFault) → Call
  OpenCopy : (table : TableName) → (columns : List (List ℕ)) → (filter : Option (List ℕ)) → (answer : Result (Unit {0}) BackendFault) → Call
  NextRow : (answer : Result (Option (List (Option (List ℕ)))) BackendFault) → Call
  Flushed : (position : ℕ) → (ask : Bool) → Call

-- The backend was asked these, one after the other.
abbrev pub AreAsked : {D : Type 0} → (D → Call → D → Type 0) → D → List Call → D → Type 0
AreAsked told old [] new = new ≡ old
AreAsked {D} told old (call ∷ calls) new = (mid : D) × told old call mid × AreAsked told mid calls new
