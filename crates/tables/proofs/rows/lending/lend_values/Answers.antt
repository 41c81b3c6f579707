use Rattle.std.proofs.Common.{◌≡◌, ◌<◌, Ok, arith, length, map, take, refl, ap, ◌∙◌}
use Rattle.std.proofs.lemmas.List.{length-set}
use Rattle.std.proofs.lemmas.Result.{err_from_is_err_and}
use Rattle.pqformat.specs.Steps.{repeat_at}
use Rattle.pqformat.proofs.Loop.{ends, goes_on, is_done}
use Rattle.tables.specs.Kinds.{value_at, value_of}
use Rattle.tables.proofs.Lent.{one_more}
use Rattle.tables.proofs.rows.lending.lend_values.Goals as goal

pub returns-in_err-room-clause-none : goal.returns-in_err-room-clause-none
returns-in_err-room-clause-none c =
    let p = err_from_is_err_and c.from_residual.result c.from_residual.ensures.1 in
    rw (
      p.1,
      ends c.in_err-room.field-0.0 value_at (map value_of (take c.loop-i.i c.loop-i.room)) c.args.count c.loop-i.i c.loop-i.cursor (repeat_at value_at c.args.count c.args.cursor.now)
          c.loop-i-test.true c.in_err-room.ensures.fails c.loop-i.invariant.read,
    ) refl

pub loop-i-preserved : goal.loop-i-preserved
loop-i-preserved c = record {
  read = rw (one_more c.loop-i.room c.loop-i.i c.in_ok-room.field-0 (let low : c.loop-i.i < length c.loop-i.room = omega (arith, c.loop-i-test.true, c.requires, c.loop-i.invariant.same) in low)) (goes_on value_at (map value_of (take c.loop-i.i c.loop-i.room)) c.args.count c.loop-i.i c.loop-i.cursor (value_of c.in_ok-room.field-0) c.lend_value.new.cursor
      (repeat_at value_at c.args.count c.args.cursor.now) c.loop-i-test.true c.in_ok-room.ensures.found c.loop-i.invariant.read);
  same = length-set c.loop-i.room c.loop-i.i c.in_ok-room.field-0 ∙ c.loop-i.invariant.same;
}

pub returns-clause-found : goal.returns-clause-found
returns-clause-found c =
    let at_end : c.loop-i.i ≡ c.args.count = omega (arith, c.loop-i-test.false, c.loop-i.auto.i-end) in
    let done = is_done value_at (map value_of (take c.loop-i.i c.loop-i.room)) c.args.count c.loop-i.i c.loop-i.cursor (repeat_at value_at c.args.count c.args.cursor.now) c.loop-i-test.false c.loop-i.invariant.read in
    done ∙ ap (λ n. Ok (map value_of (take n c.loop-i.room), c.loop-i.cursor)) at_end
