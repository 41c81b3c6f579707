use Rattle.std.proofs.Common.{[], length, arith, sym, ap, ◌∙◌, w16}
use Rattle.pqformat.specs.Fields.{number_at}
use Rattle.tables.proofs.Lent.{wide_oids}
use Rattle.tables.proofs.rows.lending.lend_oids.Goals as goal

pub returns-then-count-room-clause-none : goal.returns-then-count-room-clause-none
returns-then-count-room-clause-none c = λ oids e. wide_oids (length c.args.room.now) c.in_ok-u16.field-0 c.args.bytes.now c.u16.new.self (ap (number_at w16) (sym c.new-cursor.ensures) ∙ c.in_ok-u16.ensures)
    (omega (arith, c.if-count-room.true, c.from-count.ensures)) oids [] e
