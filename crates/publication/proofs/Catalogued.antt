-- Every table of a catalogue has a Relation that fits its fields.
use Rattle.std.proofs.Common.{◌≡◌, ℕ, ◌≤◌, Bool, true, false, eqb, leb, List, [], ◌∷◌, length, refl}
use Rattle.std.specs.Prelude.{◌&&◌, ◌||◌, not}
use Rattle.std.specs.List.{AllByRecursion}
use Rattle.std.proofs.lemmas.Bool.{leb-true}
use Rattle.pqformat.specs.Fields.{has_zero}
use Rattle.pgoutput.specs.Relation.{FitsName}
use Rattle.tables.specs.declared.column.Column.{Column}
use Rattle.tables.specs.declared.table.Table.{Table}
use Rattle.tables.specs.Kinds.{has_no_zero}
use Rattle.tables.specs.Tables.{IsName, IsTable}
use Rattle.row_messages.specs.Relations.{FitsTable}
use Rattle.row_messages.proofs.Rows.{both_true}

pub no_zero : (text : List ℕ) → has_no_zero text ≡ true → has_zero text ≡ false
no_zero [] e = refl
no_zero (b ∷ text) e = by_test (eqb b 0) e (no_zero text)
  where
    by_test : (is_zero : Bool) → (not is_zero && has_no_zero text) ≡ true → (has_no_zero text ≡ true → has_zero text ≡ false) → (is_zero || has_zero text) ≡ false
    by_test true e rest = absurd cc
    by_test false e rest = rest e

record NameFits (name : List ℕ) : Type 0 where
  fits : FitsName name
  short : length name ≤ 63

name_fits : (name : List ℕ) → IsName name → NameFits name
name_fits name is =
    let some = both_true (not (eqb (length name) 0)) _ is.0 in
    let short = both_true (leb (length name) 63) _ some.1 in
    let plain = both_true (has_no_zero name) _ short.1 in
    record { fits = (no_zero name plain.0, is.1); short = leb-true (length name) 63 short.0 }

columns_fit : (columns : List Column) → AllByRecursion (λ c. IsName c.name) columns → AllByRecursion (λ c. FitsName c.name × (length c.name ≤ 63)) columns
columns_fit [] all = tt
columns_fit (c ∷ columns) all = let n = name_fits c.name all.0 in ((n.fits, n.short), columns_fit columns all.1)

catalogued_fits : (t : Table) → IsTable t → FitsTable t
catalogued_fits t is =
    let schema = name_fits t.schema is.schema in
    let name = name_fits t.name is.name in
    record {
      oid = is.oid;
      schema = schema.fits;
      schema_length = schema.short;
      name = name.fits;
      name_length = name.short;
      columns = columns_fit t.columns is.columns.0;
      count = is.columns.1;
    }

pub all_fit : (tables : List Table) → AllByRecursion IsTable tables → AllByRecursion FitsTable tables
all_fit [] all = tt
all_fit (t ∷ tables) all = (catalogued_fits t all.0, all_fit tables all.1)
