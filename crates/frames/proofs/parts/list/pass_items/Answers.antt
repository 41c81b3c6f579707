use Rattle.std.specs.List.{list_all}
use Rattle.std.proofs.lemmas.Result.{err_from_is_err_and}
use Rattle.pqformat.specs.Steps.{repeat_at}
use Rattle.frames.specs.Body.{passed_part}
use Rattle.frames.proofs.Passing.{passes_on, passing_fails, all_passed}
use Rattle.frames.proofs.parts.list.pass_items.Goals as goal

pub returns-in_err-are_texts : goal.returns-in_err-are_texts
returns-in_err-are_texts g c =
    let p = err_from_is_err_and c.from_residual.result c.from_residual.ensures.1 in
    rw (p.1, p.2) (passing_fails g.T.Field.is_text c.in_err-are_texts.field-0.0 g.T.Field.field_at c.loop.are_texts c.args.count c.loop.counter c.loop.cursor (passed_part (list_all g.T.Field.is_text) (repeat_at g.T.Field.field_at c.args.count c.args.cursor.now)) c.loop-test.true c.in_err-are_texts.ensures c.loop.invariant)

pub loop-preserved : goal.loop-preserved
loop-preserved g c = passes_on g.T.Field.is_text g.T.Field.field_at c.loop.are_texts c.in_ok-are_texts.field-0 c.args.count c.loop.counter c.loop.cursor c.pass.new.cursor (passed_part (list_all g.T.Field.is_text) (repeat_at g.T.Field.field_at c.args.count c.args.cursor.now)) c.loop-test.true c.in_ok-are_texts.ensures c.loop.invariant

pub returns : goal.returns
returns g c = all_passed g.T.Field.is_text g.T.Field.field_at c.loop.are_texts c.args.count c.loop.counter c.loop.cursor (passed_part (list_all g.T.Field.is_text) (repeat_at g.T.Field.field_at c.args.count c.args.cursor.now)) c.loop-test.false c.loop.invariant
