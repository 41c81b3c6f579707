use Rattle.std.proofs.Common.{List, Err, subst}
use Rattle.std.proofs.lemmas.Result.{err_from_is_err_and}
use Rattle.tables.specs.declared.column.Column.{Column}
use Rattle.conditions.specs.Shapes.{shape}
use Rattle.rowfilter.specs.Readings.{IsJudged}
use Rattle.rowfilter.proofs.Filters.{judged_refused, unread_refused}
use Rattle.rowfilter.proofs.reading.filter_of.Goals as goal

pub returns-in_err-expression : goal.returns-in_err-expression
returns-in_err-expression c =
    let err = err_from_is_err_and c.from_residual.result c.from_residual.ensures.1 in
    rw (err.1, err.2) (unread_refused c.args.table.now c.args.text.now c.in_err-expression.field-0.0 c.in_err-expression.ensures)

pub returns-in-Err : goal.returns-in-Err
returns-in-Err c =
    judged_refused c.args.table.now c.args.text.now (shape c.in_ok-expression.expression) c.in-Err.fault
    (rw c.as_slice-columns.ensures at c.in_ok-expression.ensures)
    (subst (λ (columns : List Column). IsJudged columns (shape c.in_ok-expression.expression) (Err c.in-Err.fault)) c.as_slice-columns.ensures c.in-Err.ensures)
