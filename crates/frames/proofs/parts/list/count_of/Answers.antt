use Rattle.std.proofs.Common.{length}
use Rattle.std.proofs.lemmas.Result.{err_from_is_err_and}
use Rattle.pqformat.specs.Steps.{until_at}
use Rattle.frames.specs.Body.{passed_part}
use Rattle.frames.proofs.Passing.{stops, goes_on, fails, runs_out}
use Rattle.frames.proofs.parts.list.count_of.Goals as goal

pub returns-in_err-pass_next : goal.returns-in_err-pass_next
returns-in_err-pass_next g c =
    let p = err_from_is_err_and c.from_residual.result c.from_residual.ensures.1 in
    rw (p.1, p.2) (fails c.in_err-pass_next.field-0.0 g.T.Field.field_at c.args.limit c.loop-count.count c.loop-count.cursor (passed_part length (until_at tt g.T.Field.field_at c.args.limit c.args.cursor.now)) c.loop-count-test.true c.in_err-pass_next.ensures c.loop-count.invariant)

pub returns-then-branch : goal.returns-then-branch
returns-then-branch g c =
    stops g.T.Field.field_at c.args.limit c.loop-count.count c.loop-count.cursor c.pass_next.new.cursor (passed_part length (until_at tt g.T.Field.field_at c.args.limit c.args.cursor.now)) c.loop-count-test.true (rw c.if-branch.true at c.in_ok-pass_next.ensures) c.loop-count.invariant

pub loop-count-preserved : goal.loop-count-preserved
loop-count-preserved g c =
    goes_on g.T.Field.field_at c.args.limit c.loop-count.count c.loop-count.cursor c.pass_next.new.cursor (passed_part length (until_at tt g.T.Field.field_at c.args.limit c.args.cursor.now)) c.loop-count-test.true (rw c.if-branch.false at c.in_ok-pass_next.ensures) c.loop-count.invariant

pub returns : goal.returns
returns g c = runs_out g.T.Field.field_at c.args.limit c.loop-count.count c.loop-count.cursor (passed_part length (until_at tt g.T.Field.field_at c.args.limit c.args.cursor.now)) c.loop-count-test.false c.loop-count.invariant
