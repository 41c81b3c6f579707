-- A COPY of the rows that pass a filter is read part by part.
use Rattle.std.proofs.Common.{◌≡◌, ℕ, List, ◌++◌, Some, refl, sym, ap, ◌∙◌}
use Rattle.std.specs.Prelude.{◌≢◌, codes}
use Rattle.std.proofs.lemmas.List.{append_cancel_left}
use Rattle.server.specs.CopyReading.{EndsColumns, EndsName, FilteredAt, Read, SomeColumnsAt, TableAt}
use Rattle.server.specs.declared.asked.copy_command.CopyCommand.{CopyCommand}
use Rattle.server.specs.declared.asked.table_name.TableName.{TableName}

ends_columns : (x : List ℕ) → EndsColumns (codes " FROM ONLY " ++ x)
ends_columns x = record { name = record { quote = refl; byte = refl }; comma = refl }

ends_table : (x : List ℕ) → EndsName (codes " WHERE " ++ x)
ends_table x = record { quote = refl; byte = refl }

columns_at : (text : List ℕ) (copy : CopyCommand) (stands : FilteredAt text copy) → SomeColumnsAt text copy.columns (codes " FROM ONLY " ++ (stands.table ++ (codes " WHERE " ++ stands.filter)))
columns_at text copy stands = (stands.few, (stands.columns, stands.spells_columns, stands.is))

pub filtered_no_columns : (text : List ℕ) → ((columns : List (List ℕ)) (other : List ℕ) → SomeColumnsAt text columns other → EndsColumns other → ⊥) → (copy : CopyCommand) → FilteredAt text copy → ⊥
filtered_no_columns text none copy stands = none copy.columns (codes " FROM ONLY " ++ (stands.table ++ (codes " WHERE " ++ stands.filter))) (columns_at text copy stands) (ends_columns (stands.table ++ (codes " WHERE " ++ stands.filter)))

-- what follows the columns
after_columns : (text : List ℕ) (columns : List (List ℕ)) (rest : List ℕ) → Read (SomeColumnsAt text) EndsColumns columns rest → (copy : CopyCommand) (stands : FilteredAt text copy)
    → rest ≡ codes " FROM ONLY " ++ (stands.table ++ (codes " WHERE " ++ stands.filter))
after_columns text columns rest names copy stands = (names.once copy.columns (codes " FROM ONLY " ++ (stands.table ++ (codes " WHERE " ++ stands.filter))) (columns_at text copy stands) (ends_columns (stands.table ++ (codes " WHERE " ++ stands.filter)))).1

pub filtered_no_from : (text : List ℕ) (columns : List (List ℕ)) (rest : List ℕ) → Read (SomeColumnsAt text) EndsColumns columns rest → ((more : List ℕ) → rest ≢ codes " FROM ONLY " ++ more)
    → (copy : CopyCommand) → FilteredAt text copy → ⊥
filtered_no_from text columns rest names dry copy stands = dry (stands.table ++ (codes " WHERE " ++ stands.filter)) (after_columns text columns rest names copy stands)

table_at : (text : List ℕ) (columns : List (List ℕ)) (rest named : List ℕ) → Read (SomeColumnsAt text) EndsColumns columns rest → rest ≡ codes " FROM ONLY " ++ named
    → (copy : CopyCommand) (stands : FilteredAt text copy) → TableAt named copy.table (codes " WHERE " ++ stands.filter)
table_at text columns rest named names from copy stands =
    (stands.table, stands.spells_table, append_cancel_left (codes " FROM ONLY ") named (stands.table ++ (codes " WHERE " ++ stands.filter)) (sym from ∙ after_columns text columns rest names copy stands))

pub filtered_no_table : (text : List ℕ) (columns : List (List ℕ)) (rest named : List ℕ) → Read (SomeColumnsAt text) EndsColumns columns rest → rest ≡ codes " FROM ONLY " ++ named
    → ((table : TableName) (other : List ℕ) → TableAt named table other → EndsName other → ⊥) → (copy : CopyCommand) → FilteredAt text copy → ⊥
filtered_no_table text columns rest named names from none copy stands = none copy.table (codes " WHERE " ++ stands.filter) (table_at text columns rest named names from copy stands) (ends_table stands.filter)

pub filtered_no_where : (text : List ℕ) (columns : List (List ℕ)) (rest named : List ℕ) (table : TableName) (left : List ℕ) → Read (SomeColumnsAt text) EndsColumns columns rest → rest ≡ codes " FROM ONLY " ++ named
    → Read (TableAt named) EndsName table left → ((more : List ℕ) → left ≢ codes " WHERE " ++ more) → (copy : CopyCommand) → FilteredAt text copy → ⊥
filtered_no_where text columns rest named table left names from read dry copy stands = dry stands.filter (read.once copy.table (codes " WHERE " ++ stands.filter) (table_at text columns rest named names from copy stands) (ends_table stands.filter)).1

pub filtered_read : (text : List ℕ) (columns : List (List ℕ)) (rest named : List ℕ) (table : TableName) (left filter : List ℕ) → Read (SomeColumnsAt text) EndsColumns columns rest → rest ≡ codes " FROM ONLY " ++ named
    → Read (TableAt named) EndsName table left → left ≡ codes " WHERE " ++ filter → FilteredAt text (record { table = table; columns = columns; filter = Some filter })
filtered_read text columns rest named table left filter names from read filters =
    let n = names.stands in
    let t = read.stands in
    record {
      few = n.0;
      filter = filter;
      some = refl;
      table = t.0;
      columns = n.1.0;
      spells_table = t.1;
      spells_columns = n.1.1;
      is = n.1.2 ∙ ap (λ (l : List ℕ). n.1.0 ++ l) (from ∙ ap (λ (l : List ℕ). codes " FROM ONLY " ++ l) (t.2 ∙ ap (λ (l : List ℕ). t.0 ++ l) filters));
    }
