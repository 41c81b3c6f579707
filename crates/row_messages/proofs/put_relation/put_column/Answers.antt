use Rattle.std.proofs.Common.{ℕ, List, [], ◌∷◌, ap, length, subst, arith}
use Rattle.std.proofs.lemmas.List.{length-append}
use Rattle.pqformat.specs.Fields.{int32, string}
use Rattle.pqformat.proofs.Numbers.{length-int32}
use Rattle.pqformat.specs.Writing.{Writes}
use Rattle.row_messages.proofs.RelationParts.{column_written}
use Rattle.row_messages.proofs.put_relation.put_column.Goals as goal

pub write_int32-requires : goal.write_int32-requires
write_int32-requires c =
    let flags = c.write_byte-flags.ensures in
    let name = c.put_name-name.ensures in
    let kind = c.write_int32-kind.ensures in
    omega (arith, flags.ends, flags.same, name.ends, name.same, kind.ends, kind.same, length-append c.as_str.result.now (0 ∷ []), ap (length {A = ℕ}) c.as_str.ensures.value, length-int32 c.oid_of.result, c.requires.room, c.requires.name)

pub returns-clause-written : goal.returns-clause-written
returns-clause-written c =
    column_written c.args.identity c.args.told.now c.args.at c.write_byte-flags.result c.put_name-name.result c.write_int32-kind.result c.write_int32.result c.args.out.now c.write_byte-flags.new.out c.put_name-name.new.out c.write_int32-kind.new.out c.write_int32.new.out
    (subst (λ (b : ℕ). Writes c.args.at c.write_byte-flags.result c.args.out.now c.write_byte-flags.new.out (b ∷ [])) c.flags_of.ensures c.write_byte-flags.ensures)
    (subst (λ (l : List ℕ). Writes c.write_byte-flags.result c.put_name-name.result c.write_byte-flags.new.out c.put_name-name.new.out (string l)) c.as_str.ensures.value c.put_name-name.ensures)
    (subst (λ (n : ℕ). Writes c.put_name-name.result c.write_int32-kind.result c.put_name-name.new.out c.write_int32-kind.new.out (int32 n)) c.oid_of.ensures c.write_int32-kind.ensures)
    (subst (λ (n : ℕ). Writes c.write_int32-kind.result c.write_int32.result c.write_int32-kind.new.out c.write_int32.new.out (int32 n)) c.modifier_field.ensures c.write_int32.ensures)

pub returns-clause-short : goal.returns-clause-short
returns-clause-short c =
    let flags = c.write_byte-flags.ensures in
    let name = c.put_name-name.ensures in
    let kind = c.write_int32-kind.ensures in
    let modifier = c.write_int32.ensures in
    omega (arith, flags.ends, name.ends, kind.ends, modifier.ends, length-append c.as_str.result.now (0 ∷ []), ap (length {A = ℕ}) c.as_str.ensures.value, length-int32 c.oid_of.result, length-int32 c.modifier_field.result, c.requires.name)
