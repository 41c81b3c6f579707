use Rattle.std.proofs.Common.{[], inl, inr, ap, ◌∙◌}
use Rattle.tables.specs.Reading.{row_at}
use Rattle.publication.proofs.Fields.{after_is, update_parts}
use Rattle.publication.proofs.rows.row_reading.two_rows.Goals as goal

pub returns-in_err-oid-clause-none : goal.returns-in_err-oid-clause-none
returns-in_err-oid-clause-none c = rw c.from_residual.ensures (λ m e. let p = update_parts c.args.fields.now [] m e in inl (c.in_err-oid.ensures.none m.0 p.after p.old))

pub returns-in_err-last_row-clause-none : goal.returns-in_err-last_row-clause-none
returns-in_err-last_row-clause-none c = rw c.from_residual-in_err-last_row.ensures (λ m e.
    let p = update_parts c.args.fields.now [] m e in
    inr (c.in_err-last_row.ensures.none m.1 (ap row_at (after_is c.args.fields.now c.in_ok-oid.behind.now p.after (c.in_ok-oid.oid, c.oid_and_row.new.row) m.0 c.in_ok-oid.ensures.found p.old) ∙ p.new)))
