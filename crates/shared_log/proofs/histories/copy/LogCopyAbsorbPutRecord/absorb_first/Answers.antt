use Rattle.std.proofs.Common.{arith, refl}
use Rattle.shared_log.proofs.Lying.{entered}
use Rattle.shared_log.proofs.histories.copy.LogCopyAbsorbPutRecord.absorb_first.Goals as goal

pub push_back_reserved-requires : goal.push_back_reserved-requires
push_back_reserved-requires c = omega (arith, c.make_way.ensures.len, c.make_way.ensures.capacity, c.in_ok-reserve.ensures.ok)

pub returns-clause-absorbed : goal.returns-clause-absorbed
returns-clause-absorbed c =
    let records = entered c.args.self.now.records.items c.make_way.new.self.records.items c.push_back_reserved.new.self.items c.args.operation.now.place c.args.operation.now.edge c.args.self.now.edge (record { entry = c.in_ok-entry.entry; restart = c.args.operation.now.restart })
    (rw c.in_ok-reserve.ensures.items at c.make_way.ensures.items) c.push_back_reserved.ensures.items in
    let edge = rw c.in_ok-reserve.ensures.items at c.make_way.ensures.edge in
    rw (c.again.ensures, edge, records, c.in_ok-entry.ensures) refl
