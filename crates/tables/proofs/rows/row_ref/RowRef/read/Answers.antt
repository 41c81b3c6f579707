use Rattle.std.proofs.Common.{arith, inl, sym, ap, ◌∙◌, w16}
use Rattle.pqformat.specs.Fields.{number_at}
use Rattle.tables.specs.declared.table.TheConstants.{MAX_COLUMNS}
use Rattle.tables.proofs.Lent.{is_coded, sizes, too_long, wide}
use Rattle.tables.proofs.rows.row_ref.RowRef.read.Goals as goal

pub returns-then-count-gt-MAX_COLUMNS-clause-none : goal.returns-then-count-gt-MAX_COLUMNS-clause-none
returns-then-count-gt-MAX_COLUMNS-clause-none c = λ row rest e. inl (wide MAX_COLUMNS c.in_ok-u16.field-0 c.args.bytes.now c.u16.new.self (ap (number_at w16) (sym c.new-cursor.ensures) ∙ c.in_ok-u16.ensures)
    (omega (arith, c.if-count-gt-MAX_COLUMNS.true, c.from-count.ensures)) row rest e)

pub overflow_sub-bytes : goal.overflow_sub-bytes
overflow_sub-bytes c =
    let there = (sizes c.args.bytes.now c.new-cursor.result c.u16.new.self c.lend_values.new.cursor c.rest-rest.result.now c.in_ok-u16.field-0 c.from-count.result c.lend_values.new.room
    (λ i. omega (arith, c.type_inv.bytes i)) c.new-cursor.ensures c.in_ok-u16.ensures c.from-count.ensures c.in-Ok.ensures.found c.rest-rest.ensures).length in
    omega (arith, there)

pub returns-then-bytes-rest-gt-MAX_ROW_LENGTH-clause-none : goal.returns-then-bytes-rest-gt-MAX_ROW_LENGTH-clause-none
returns-then-bytes-rest-gt-MAX_ROW_LENGTH-clause-none c =
    too_long c.args.bytes.now c.new-cursor.result c.u16.new.self c.lend_values.new.cursor c.rest-rest.result.now c.in_ok-u16.field-0 c.from-count.result c.lend_values.new.room
    (λ i. omega (arith, c.type_inv.bytes i)) c.new-cursor.ensures c.in_ok-u16.ensures c.from-count.ensures c.in-Ok.ensures.found c.rest-rest.ensures c.if-bytes-rest-gt-MAX_ROW_LENGTH.true

pub returns-clause-coded : goal.returns-clause-coded
returns-clause-coded c =
    is_coded c.args.bytes.now c.new-cursor.result c.u16.new.self c.lend_values.new.cursor c.rest-rest.result.now c.in_ok-u16.field-0 c.from-count.result c.lend_values.new.room
    (λ i. omega (arith, c.type_inv.bytes i)) c.new-cursor.ensures c.in_ok-u16.ensures c.from-count.ensures c.in-Ok.ensures.found c.rest-rest.ensures c.none-self-inside.result.now c.none-self-inside.ensures c.if-bytes-rest-gt-MAX_ROW_LENGTH.false
