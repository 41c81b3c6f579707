use Rattle.std.proofs.Common.{◌≤◌, ℕ, List, [], ◌∷◌, ap, length, sym, subst, ◌∙◌, arith}
use Rattle.std.specs.List.{AllByRecursion, flat_map}
use Rattle.std.specs.Prelude.{map}
use Rattle.pqformat.specs.Fields.{string}
use Rattle.pqformat.proofs.Numbers.{length-int16}
use Rattle.pgoutput.specs.Relation.{column}
use Rattle.tables.specs.declared.column.Column.{Column}
use Rattle.row_messages.specs.Relations.{listed_items, relation_column}
use Rattle.pqformat.specs.Writing.{Writes}
use Rattle.row_messages.proofs.RelationParts.{named_at, names_short, relation_written, schema_at}
use Rattle.row_messages.proofs.put_relation.put_table.Goals as goal

pub put_name-named-requires : goal.put_name-named-requires
put_name-named-requires c =
    let placed = schema_at _ _ _ _ _ _ _ _ _ _ _ c.as_str-schema.ensures.value c.write_byte-kind.ensures c.write_int32-oid.ensures c.put_name-placed.ensures in
    omega (arith, c.requires.room.0, placed, ap (length {A = ℕ}) c.as_str-name.ensures.value, c.requires.fits.schema_length, c.requires.fits.name_length)

pub write_byte-identity-requires : goal.write_byte-identity-requires
write_byte-identity-requires c =
    let named = named_at _ _ _ _ _ _ _ _ _ _ _ _ _ _ _ c.as_str-schema.ensures.value c.as_str-name.ensures.value c.write_byte-kind.ensures c.write_int32-oid.ensures c.put_name-placed.ensures c.put_name-named.ensures in
    omega (arith, c.requires.room.0, named, c.requires.fits.schema_length, c.requires.fits.name_length)

pub write_int16-counted-requires : goal.write_int16-counted-requires
write_int16-counted-requires c =
    let named = named_at _ _ _ _ _ _ _ _ _ _ _ _ _ _ _ c.as_str-schema.ensures.value c.as_str-name.ensures.value c.write_byte-kind.ensures c.write_int32-oid.ensures c.put_name-placed.ensures c.put_name-named.ensures in
    omega (arith, c.requires.room.0, named, c.write_byte-identity.ensures.ends, c.write_byte-identity.ensures.same, c.requires.fits.schema_length, c.requires.fits.name_length)

pub put_columns-requires-clause-room : goal.put_columns-requires-clause-room
put_columns-requires-clause-room c =
    let fits = c.requires.fits in
    let named = named_at _ _ _ _ _ _ _ _ _ _ _ _ _ _ _ c.as_str-schema.ensures.value c.as_str-name.ensures.value c.write_byte-kind.ensures c.write_int32-oid.ensures c.put_name-placed.ensures c.put_name-named.ensures in
    let identity = c.write_byte-identity.ensures in
    let counted = c.write_int16-counted.ensures in
    omega (
      arith,
      c.requires.room.0,
      named,
      identity.ends,
      identity.same,
      counted.ends,
      counted.same,
      length-int16 c.count_listed-count.result,
      ap (length {A = Column}) c.as_slice-columns.ensures,
      fits.schema_length,
      fits.name_length,
      fits.count,
    )

pub put_columns-requires-clause-names : goal.put_columns-requires-clause-names
put_columns-requires-clause-names c = subst (λ (cs : List Column). AllByRecursion (λ d. length d.name ≤ 63) cs) (sym c.as_slice-columns.ensures) (names_short c.args.table.now.columns c.requires.fits.columns)

pub returns : goal.returns
returns c =
    let t = c.args.table.now in
    let flags = c.args.listed.now in
    let schema = subst (λ (l : List ℕ). Writes c.write_int32-oid.result c.put_name-placed.result c.write_int32-oid.new.out c.put_name-placed.new.out (string l)) c.as_str-schema.ensures.value c.put_name-placed.ensures in
    let name = subst (λ (l : List ℕ). Writes c.put_name-placed.result c.put_name-named.result c.put_name-placed.new.out c.put_name-named.new.out (string l)) c.as_str-name.ensures.value c.put_name-named.ensures in
    let letter = subst (λ (b : ℕ). Writes c.put_name-named.result c.write_byte-identity.result c.put_name-named.new.out c.write_byte-identity.new.out (b ∷ [])) c.letter_of.ensures c.write_byte-identity.ensures in
    let columns = subst (λ (cs : List Column). Writes c.write_int16-counted.result c.put_columns.result c.write_int16-counted.new.out c.put_columns.new.out (flat_map column (map (relation_column t.identity) (listed_items flags cs)))) c.as_slice-columns.ensures c.put_columns.ensures in
    let count = c.count_listed-count.ensures.value ∙ ap (λ (cs : List Column). length (listed_items flags cs)) c.as_slice-columns.ensures in
    relation_written t flags c.write_byte-kind.result c.write_int32-oid.result c.put_name-placed.result c.put_name-named.result c.write_byte-identity.result c.write_int16-counted.result c.put_columns.result c.count_listed-count.result
    c.args.out.now c.write_byte-kind.new.out c.write_int32-oid.new.out c.put_name-placed.new.out c.put_name-named.new.out c.write_byte-identity.new.out c.write_int16-counted.new.out c.put_columns.new.out
    c.write_byte-kind.ensures c.write_int32-oid.ensures schema name letter count c.write_int16-counted.ensures columns
