-- A table that is found, and its Relation, which fits its fields and a frame.
use Rattle.std.proofs.Common.{◌≡◌, ℕ, ◌+◌, ◌*◌, ◌≤◌, Bool, true, false, cond, eqb, List, [], ◌∷◌, ◌++◌, length, map, Option, Some, None, refl, sym, ap, subst, ◌∙◌, arith}
use Rattle.std.specs.Prelude.{IfSome}
use Rattle.std.specs.Borrow.{Bor}
use Rattle.std.specs.Option.{option_copied}
use Rattle.std.specs.List.{flat_map, AllByRecursion}
use Rattle.std.specs.Int.{w32, cast_unsigned}
use Rattle.std.proofs.lemmas.Bool.{eqb-true}
use Rattle.std.proofs.lemmas.List.{length-append, length-map}
use Rattle.std.proofs.lemmas.List.Concat.{flat_map-cons}
use Rattle.pqformat.specs.Fields.{int16, int32, string}
use Rattle.pqformat.proofs.Numbers.{length-int16, length-int32}
use Rattle.pgoutput.specs.declared.logical.Logical.TheVariants as logical
use Rattle.pgoutput.specs.Relation.{column, identity_letter, FitsName, FitsColumn}
use Rattle.pgoutput.specs.Logical.{FitsLogical}
use Rattle.tables.specs.declared.identity.Identity.{Identity}
use Rattle.tables.specs.declared.column.Column.{Column}
use Rattle.tables.specs.declared.table.Table.{Table}
use Rattle.tables.specs.Tables.{table_of}
use Rattle.pgoutput.specs.Items.{IsShortMessage, FitsRelationOf}
use Rattle.publication_config.specs.Published.{PublicationSet}
use Rattle.row_messages.specs.Relations.{relation_of, relation_column, FitsTable}
use Rattle.publication.specs.Selection.{relation, selected_table, FitTables}
use Rattle.row_messages.proofs.Values.{modifier_fits, type_fits}

pub some_is : {A : Type 0} (x y : A) → Some x ≡ Some y → x ≡ y
some_is x y e = cc

-- ---- a table that is found

pub found_table : (P : Table → Type 0) (oid : ℕ) (tables : List Table) (table : Table) → AllByRecursion P tables → table_of oid tables ≡ Some table → P table × (table.oid ≡ oid)
found_table P oid [] table all e = absurd cc
found_table P oid (t ∷ tables) table all e = by_test (eqb t.oid oid) (λ is. eqb-true t.oid oid is) e (found_table P oid tables table all.1)
  where
    by_test : (b : Bool) → (b ≡ true → t.oid ≡ oid) → cond b (Some t) (table_of oid tables) ≡ Some table → (table_of oid tables ≡ Some table → P table × (table.oid ≡ oid)) → P table × (table.oid ≡ oid)
    by_test true same e others = let Q : Table → Type 0 = λ u. P u × (u.oid ≡ oid) in subst Q (some_is t table e) (all.0, same refl)
    by_test false same e others = others e

pub table_fits : (s : PublicationSet) (oid : ℕ) (o : Option (Bor Table)) → FitTables s → option_copied o ≡ table_of oid s.tables → IfSome o (λ t. FitsTable t.now)
table_fits s oid None all e = tt
table_fits s oid (Some t) all e = (found_table FitsTable oid s.tables t.now all (sym e)).0

-- ---- the Relation of a table

name_length : (name : List ℕ) → length (string name) ≡ length name + 1
name_length name = length-append name (0 ∷ [])

record ColumnsFit (identity : Identity) (cs : List Column) : Type 0 where
  fits : AllByRecursion FitsColumn (map (relation_column identity) cs)
  short : length (flat_map column (map (relation_column identity) cs)) ≤ 73 * length cs

columns_fit : (identity : Identity) (cs : List Column) → AllByRecursion (λ c. FitsName c.name × (length c.name ≤ 63)) cs → ColumnsFit identity cs
columns_fit identity [] all = record { fits = tt; short = omega arith }
columns_fit identity (c ∷ cs) all =
    let told = relation_column identity c in
    let others = columns_fit identity cs all.1 in
    let parted : length (flat_map column (map (relation_column identity) (c ∷ cs))) ≡ length (column told) + length (flat_map column (map (relation_column identity) cs)) =
    ap length (flat_map-cons column told (map (relation_column identity) cs)) ∙ length-append (column told) (flat_map column (map (relation_column identity) cs)) in
    let here : length (column told) ≡ 1 + (length c.name + 1 + 8) = omega (
      arith,
      length-append (string c.name) (int32 told.kind ++ int32 (cast_unsigned w32 told.modifier)),
      name_length c.name,
      length-append (int32 told.kind) (int32 (cast_unsigned w32 told.modifier)),
      length-int32 told.kind,
      length-int32 (cast_unsigned w32 told.modifier),
    ) in
    record {
      fits = ((all.0.0, (type_fits c.kind, modifier_fits c.kind)), others.fits);
      short = omega (arith, parted, here, all.0.1, others.short);
    }

record RelationFits (t : Table) : Type 0 where
  fits : FitsLogical (logical.Relation (relation_of t))
  short : IsShortMessage (logical.Relation (relation_of t))

relation_fits : (t : Table) → FitsTable t → RelationFits t
relation_fits t table =
    let told = relation_of t in
    let columns = columns_fit t.identity t.columns table.columns in
    let count : length told.columns ≡ length t.columns = length-map t.columns (relation_column t.identity) in
    let after_name = (identity_letter told.identity ∷ []) ++ (int16 (length told.columns) ++ flat_map column told.columns) in
    record {
      fits = (table.oid, (table.schema, (table.name, (omega (arith, count, table.count), columns.fits))));
      short = omega (
        arith,
        table.count,
        table.schema_length,
        table.name_length,
        columns.short,
        length-int32 t.oid,
        name_length t.schema,
        name_length t.name,
        length-int16 (length told.columns),
        length-append (int32 t.oid) (string t.schema ++ (string t.name ++ after_name)),
        length-append (string t.schema) (string t.name ++ after_name),
        length-append (string t.name) after_name,
        length-append (int16 (length told.columns)) (flat_map column told.columns),
      );
    }

pub relation_tells : (s : PublicationSet) (t : Table) → selected_table s t.oid ≡ Some t → FitsTable t → FitsRelationOf (relation s) t.oid
relation_tells s t found table =
    let f = relation_fits t table in
    record {
      tells = rw found refl;
      fits = rw found f.fits;
      short = rw found f.short;
    }

pub relation_answer_fits : (t : Table) → FitsTable t → FitsLogical (logical.Relation (relation_of t)) × IsShortMessage (logical.Relation (relation_of t))
relation_answer_fits t table = let f = relation_fits t table in (f.fits, f.short)
