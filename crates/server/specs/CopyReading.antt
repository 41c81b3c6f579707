-- Reading the text of a COPY from the front.
use Rattle.std.specs.Prelude.{◌≡◌, ℕ, ◌≤◌, ◌==◌, List, ◌++◌, length, Option, Some, None, MatchOption, false, codes}
use Rattle.std.specs.Borrow.{Bor}
use Rattle.std.specs.Str.{IsUtf8}
use Rattle.pqformat.specs.Quoting.{begins}
use Rattle.server.specs.declared.asked.copy_command.CopyCommand.{CopyCommand}
use Rattle.server.specs.declared.asked.copy_command.TheConstants.{MOST_COLUMNS}
use Rattle.server.specs.declared.asked.quoted.TheConstants.{NAME_QUOTE}
use Rattle.server.specs.declared.asked.table_name.TableName.{TableName}
use Rattle.server.specs.Copies.{SpellsColumns, SpellsTableName, goes_on_in_name}

-- No name goes on with it.
pub record EndsName (rest : List ℕ) : Type 0 where
  pub quote : begins (λ b. b == NAME_QUOTE) rest ≡ false
  pub byte : begins goes_on_in_name rest ≡ false

-- No list of names goes on with it.
pub record EndsColumns (rest : List ℕ) : Type 0 where
  pub name : EndsName rest
  pub comma : begins (λ b. b == 44) rest ≡ false

-- The table's name stands at the front, and this follows it.
abbrev pub TableAt : List ℕ → TableName → List ℕ → Type 0
TableAt text table rest = (named : List ℕ) × SpellsTableName named table × (text ≡ named ++ rest)

abbrev pub ColumnsAt : List ℕ → List (List ℕ) → List ℕ → Type 0
ColumnsAt text columns rest = (named : List ℕ) × SpellsColumns named columns × (text ≡ named ++ rest)

-- as many as a table has at most
abbrev pub SomeColumnsAt : List ℕ → List (List ℕ) → List ℕ → Type 0
SomeColumnsAt text columns rest = (length columns ≤ MOST_COLUMNS) × ColumnsAt text columns rest

-- It stands at the front, and what else is found there before such an end is the same.
pub record Read {A : Type 0} (At : A → List ℕ → Type 0) (Ends : List ℕ → Type 0) (a : A) (rest : List ℕ) : Type 0 where
  pub stands : At a rest
  pub text : IsUtf8 rest
  pub once : (b : A) (other : List ℕ) → At b other → Ends other → (a ≡ b) × (rest ≡ other)

-- Where nothing is read, nothing stands there.
abbrev pub Reads : {A : Type 0} → (A → List ℕ → Type 0) → (List ℕ → Type 0) → Option (A × Bor (List ℕ)) → Type 0
Reads {A} At Ends found = MatchOption found ((b : A) (other : List ℕ) → At b other → Ends other → ⊥) (λ x. Read At Ends x.0 x.1.now)

-- ---- the two forms, without what both end with

pub record WholeAt (text : List ℕ) (copy : CopyCommand) : Type 0 where
  pub few : length copy.columns ≤ MOST_COLUMNS
  pub all : copy.filter ≡ None
  pub table : List ℕ
  pub columns : List ℕ
  pub spells_table : SpellsTableName table copy.table
  pub spells_columns : SpellsColumns columns copy.columns
  pub is : text ≡ codes "COPY " ++ (table ++ (codes " (" ++ columns))

-- behind its own beginning
pub record FilteredAt (text : List ℕ) (copy : CopyCommand) : Type 0 where
  pub few : length copy.columns ≤ MOST_COLUMNS
  pub filter : List ℕ
  pub some : copy.filter ≡ Some filter
  pub table : List ℕ
  pub columns : List ℕ
  pub spells_table : SpellsTableName table copy.table
  pub spells_columns : SpellsColumns columns copy.columns
  pub is : text ≡ columns ++ (codes " FROM ONLY " ++ (table ++ (codes " WHERE " ++ filter)))

-- which copy stands there so, if one does
abbrev pub ReadsForm : (CopyCommand → Type 0) → Option CopyCommand → Type 0
ReadsForm Form found = MatchOption found ((copy : CopyCommand) → Form copy → ⊥) Form
