use Rattle.std.proofs.Common.{refl, arith}
use Rattle.std.proofs.lemmas.Result.{err_from_is_err_and}
use Rattle.pqformat.specs.Steps.{repeat_at}
use Rattle.pqformat.proofs.Loop.{goes_on, is_done}
use Rattle.tables.specs.Reading.{oid_at}
use Rattle.tables.proofs.RowBodies.{fails_on, memory_before}
use Rattle.tables.proofs.ChangeBodies.{first_read}
use Rattle.tables.proofs.changes.change_reading.counted.Goals as goal

pub returns-in_err-oid-clause-exact : goal.returns-in_err-oid-clause-exact
returns-in_err-oid-clause-exact c =
    let p = err_from_is_err_and c.from_residual.result c.from_residual.ensures.1 in
    rw (p.1, p.2) (fails_on c.in_err-oid.field-0.0 oid_at c.loop.oids.items c.args.count c.loop.counter c.loop.cursor (repeat_at oid_at c.args.count c.args.cursor.now)
    c.loop-test.true c.in_err-oid.ensures.exact c.loop.invariant.0)

pub loop-preserved : goal.loop-preserved
loop-preserved c = (
  rw c.in_ok-push.ensures.items (goes_on oid_at c.loop.oids.items c.args.count c.loop.counter c.loop.cursor c.in_ok-oid.oid c.oid_of.new.cursor
      (repeat_at oid_at c.args.count c.args.cursor.now) c.loop-test.true c.in_ok-oid.ensures.exact c.loop.invariant.0),
  λ zero_is. absurd (omega (arith, zero_is)),
  λ some. first_read c.loop.counter c.loop.cursor c.args.cursor.now c.loop.invariant.1 c.loop.invariant.2 (rw c.in_ok-oid.ensures.exact refl),
)

pub returns-clause-exact : goal.returns-clause-exact
returns-clause-exact c = rw c.new.ensures (is_done oid_at c.loop.oids.items c.args.count c.loop.counter c.loop.cursor (repeat_at oid_at c.args.count c.args.cursor.now) c.loop-test.false c.loop.invariant.0)

pub returns-in_err-oid-clause-memory : goal.returns-in_err-oid-clause-memory
returns-in_err-oid-clause-memory c =
    let p = err_from_is_err_and c.from_residual.result c.from_residual.ensures.1 in
    λ memory. absurd (c.in_err-oid.ensures.no_memory (memory_before c.from_residual.result p.0 c.in_err-oid.field-0.0 p.1 p.2 memory))

pub returns-in_err-push : goal.returns-in_err-push
returns-in_err-push c =
    let p = err_from_is_err_and c.from_residual-in_err-push.result c.from_residual-in_err-push.ensures.1 in
    rw (p.1, p.2) (record {
      exact = tt;
      memory = λ memory. (
        omega (arith, c.loop-test.true),
        first_read c.loop.counter c.loop.cursor c.args.cursor.now c.loop.invariant.1 c.loop.invariant.2
            (rw c.in_ok-oid.ensures.exact refl),
      );
    })

pub returns-clause-memory : goal.returns-clause-memory
returns-clause-memory c = λ memory. absurd cc
