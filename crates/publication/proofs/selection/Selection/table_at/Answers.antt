use Rattle.std.proofs.Common.{sym, ap, ◌∙◌, w32}
use Rattle.pqformat.specs.Fields.{number_at}
use Rattle.publication.specs.Selection.{whole_table}
use Rattle.publication.proofs.Judgements.{insert_oid}
use Rattle.publication.proofs.selection.Selection.table_at.Goals as goal

pub returns-clause-value : goal.returns-clause-value
returns-clause-value c = λ m rest e.
    c.table.ensures.value ∙ ap (whole_table c.args.self.now) (insert_oid c.args.fields.now c.u32.new.self rest c.in_ok-oid.oid m (ap (number_at w32) (sym c.new-cursor.ensures) ∙ c.in_ok-oid.ensures) e)
