use Rattle.std.proofs.Common.{sym, ap, ◌∙◌, w32}
use Rattle.pqformat.specs.Fields.{number_at}
use Rattle.tables.specs.Reading.{row_at}
use Rattle.publication.proofs.Fields.{insert_row}
use Rattle.publication.proofs.rows.row_reading.oid_and_row.Goals as goal

pub returns-in_err-rest-clause-none : goal.returns-in_err-rest-clause-none
returns-in_err-rest-clause-none c =
    rw c.from_residual-in_err-rest.ensures (λ m rest e. c.in_err-rest.ensures.none m.1 rest
    (ap row_at c.rest.ensures ∙ insert_row c.args.fields.now c.u32.new.self rest c.in_ok-oid.oid m (ap (number_at w32) (sym c.new-cursor.ensures) ∙ c.in_ok-oid.ensures) e))
