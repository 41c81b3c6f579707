-- One value of a list after the other.
use Rattle.std.proofs.Common.{◌≡◌, ℕ, ◌+◌, ◌<◌, ◌≤◌, List, [], ◌∷◌, ◌++◌, length, get_or, drop, Some, Result, Ok, Err, sym, ap, ◌∙◌}
use Rattle.std.specs.List.{AllByRecursion}
use Rattle.std.proofs.lemmas.List.{at_drop_more, at_drop_all}
use Rattle.pqformat.specs.Steps.{◌>>=◌}
use Rattle.toml.specs.Data.{Data, Items, no_items, item}
use Rattle.toml.specs.View.{view, items_view}
use Rattle.toml.specs.declared.value.Value.{Value}
use Rattle.tables.specs.declared.column.Column.{Column}
use Rattle.tables.specs.declared.table.Table.{Table}
use Rattle.catalog.specs.declared.config_fault.CatalogMisfit.{CatalogMisfit}
use Rattle.catalog.specs.declared.config_fault.CatalogFault.{CatalogFault}
use Rattle.catalog.specs.declared.config_fault.CatalogFault.TheVariants as faults
use Rattle.catalog.specs.Config.{ReadsTables, and_then, another_name, names_behind, next_column, columns_after, next_table, tables_after}

pub item_next : {R : Type 0} (behind : Items → R) (values : List Value) (i : ℕ) (value : Value) →
    i < length values → value ≡ get_or values i value →
    behind (items_view (drop i values)) ≡ behind (item (view value) (items_view (drop (i + 1) values)))
item_next behind values i value inside is =
    at_drop_more (λ vs. behind (items_view vs)) values i value inside
    ∙ ap (λ v. behind (item (view v) (items_view (drop (i + 1) values)))) (sym is)

pub no_more_items : {R : Type 0} (behind : Items → R) (values : List Value) (i : ℕ) →
    length values ≤ i → behind (items_view (drop i values)) ≡ behind no_items
no_more_items behind values i all = at_drop_all (λ vs. behind (items_view vs)) values i all

pub table_read : (tables : List Table) (d : Data) (ds : Items) (t : Table) →
    next_table tables d ≡ Ok t → tables_after tables (item d ds) ≡ tables_after (tables ++ t ∷ []) ds
table_read tables d ds t read = ap (λ r. r >>= λ t. tables_after (tables ++ t ∷ []) ds) read

-- what keeps the next table from being read keeps them all
pub table_refused : (tables : List Table) (d : Data) (ds : Items) (fault : CatalogFault) (total : Result (List Table) CatalogMisfit) →
    ReadsTables {X = Table} (Err fault) (next_table tables d) → tables_after tables (item d ds) ≡ total → ReadsTables {X = List Table} (Err fault) total
table_refused tables d ds (faults.BadTables misfit) total refused so_far = sym so_far ∙ ap (λ r. r >>= λ t. tables_after (tables ++ t ∷ []) ds) refused
table_refused tables d ds (faults.NotToml line) total refused so_far = absurd refused
table_refused tables d ds faults.Memory total refused so_far = tt

pub column_read : (key : List (List ℕ)) (columns : List Column) (d : Data) (ds : Items) (column : Column) →
    next_column key columns d ≡ Some column → columns_after key columns (item d ds) ≡ columns_after key (columns ++ column ∷ []) ds
column_read key columns d ds column read = ap (λ r. and_then r (λ column. columns_after key (columns ++ column ∷ []) ds)) read

pub name_read : (names : List (List ℕ)) (d : Data) (ds : Items) (name : List ℕ) →
    another_name names d ≡ Some name → names_behind names (item d ds) ≡ names_behind (names ++ name ∷ []) ds
name_read names d ds name read = ap (λ r. and_then r (λ name. names_behind (names ++ name ∷ []) ds)) read

pub all_with : {X : Type 0} (P : X → Type 0) (xs : List X) (x : X) → AllByRecursion P xs → P x → AllByRecursion P (xs ++ x ∷ [])
all_with P [] x all is = (is, tt)
all_with P (y ∷ xs) x all is = (all.0, all_with P xs x all.1 is)
