use Rattle.std.proofs.lemmas.Result.{err_from_is_err_and}
use Rattle.pqformat.specs.Steps.{repeat_at}
use Rattle.frames.specs.Body.{checked_at}
use Rattle.pqformat.proofs.Loop.{goes_on, is_done}
use Rattle.frames.proofs.Listed.{ends}
use Rattle.frames.proofs.parts.list.items_of.Goals as goal

pub returns-in_err-item : goal.returns-in_err-item
returns-in_err-item g c =
    let p = err_from_is_err_and c.from_residual.result c.from_residual.ensures.1 in
    rw (p.1, p.2) (ends c.in_err-item.field-0.0 (λ bytes. checked_at g.T.Field.is_text (g.T.Field.field_at bytes)) c.loop.items.items c.args.count c.loop.counter c.loop.cursor (repeat_at (λ bytes. checked_at g.T.Field.is_text (g.T.Field.field_at bytes)) c.args.count c.args.cursor.now) c.loop-test.true c.in_err-item.ensures c.loop.invariant)

pub loop-preserved : goal.loop-preserved
loop-preserved g c = rw c.in_ok-push.ensures.items (goes_on (λ bytes. checked_at g.T.Field.is_text (g.T.Field.field_at bytes)) c.loop.items.items c.args.count c.loop.counter c.loop.cursor c.in_ok-item.item c.read.new.cursor (repeat_at (λ bytes. checked_at g.T.Field.is_text (g.T.Field.field_at bytes)) c.args.count c.args.cursor.now) c.loop-test.true c.in_ok-item.ensures c.loop.invariant)

pub returns : goal.returns
returns g c = rw c.new.ensures (is_done (λ bytes. checked_at g.T.Field.is_text (g.T.Field.field_at bytes)) c.loop.items.items c.args.count c.loop.counter c.loop.cursor (repeat_at (λ bytes. checked_at g.T.Field.is_text (g.T.Field.field_at bytes)) c.args.count c.args.cursor.now) c.loop-test.false c.loop.invariant)
