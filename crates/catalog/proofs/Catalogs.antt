-- What every table of a catalogue is, of the tables that are read and of those that are found.
use Rattle.std.proofs.Common.{◌≡◌, ℕ, Bool, true, false, cond, List, [], ◌∷◌, Option, Some, None, subst, sym}
use Rattle.std.specs.Prelude.{find, IfSome}
use Rattle.std.specs.Borrow.{Bor}
use Rattle.std.specs.Option.{option_copied}
use Rattle.std.specs.List.{AllByRecursion}
use Rattle.std.specs.Str.{bytes_eq}
use Rattle.tables.specs.declared.table.Table.{Table}
use Rattle.tables.specs.Tables.{IsTable, full_name, table_named}

some_is : {A : Type 0} (x y : A) → Some x ≡ Some y → x ≡ y
some_is x y e = cc

-- what is true of all is true of the one that is found
found_is : (P : Table → Type 0) (test : Table → Bool) (tables : List Table) (table : Table) → AllByRecursion P tables → find test tables ≡ Some table → P table
found_is P test [] table all e = absurd cc
found_is P test (t ∷ tables) table all e = by_test (test t) e (found_is P test tables table all.1)
  where
    by_test : (b : Bool) → cond b (Some t) (find test tables) ≡ Some table → (find test tables ≡ Some table → P table) → P table
    by_test true same others = subst P (some_is t table same) all.0
    by_test false same others = others same

pub named_is : (name : List ℕ) (tables : List Table) (found : Option (Bor Table)) →
    AllByRecursion IsTable tables → option_copied found ≡ table_named name tables → IfSome found (λ table. IsTable table.now)
named_is name tables None all e = tt
named_is name tables (Some table) all e = found_is IsTable (λ t. bytes_eq (full_name t) name) tables table.now all (sym e)
