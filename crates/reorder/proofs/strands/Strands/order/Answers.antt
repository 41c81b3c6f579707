use Rattle.reorder.proofs.Spotting.{few_kept, lone_own, merged_listed, merged_lone, places_own, places_there, whole_own, whole_there}
use Rattle.reorder.proofs.strands.Strands.order.Goals as goal

pub returns-in-Some-clause-merged : goal.returns-in-Some-clause-merged
returns-in-Some-clause-merged c = merged_lone c.args.self.now c.args.top c.in-Some.xid c.count.result c.in-Some.ensures.some c.count.ensures

pub returns-in-Some-clause-there : goal.returns-in-Some-clause-there
returns-in-Some-clause-there c = whole_there c.args.self.now.pool c.in-Some.xid c.count.result (few_kept c.args.self.now c.in-Some.xid c.count.result c.count.ensures)

pub returns-in-Some-clause-own : goal.returns-in-Some-clause-own
returns-in-Some-clause-own c = whole_own _ c.in-Some.xid c.count.result (lone_own c.in-Some.xid _ c.in-Some.ensures.some)

pub returns-in_ok-spots-in-None-clause-merged : goal.returns-in_ok-spots-in-None-clause-merged
returns-in_ok-spots-in-None-clause-merged c =
    let e = c.in_ok-spots-in-None.ensures in
    merged_listed c.args.self.now c.args.top c.in_ok-spots-in-None.field-0.items e.rising e.same e.there

pub returns-in_ok-spots-in-None-clause-there : goal.returns-in_ok-spots-in-None-clause-there
returns-in_ok-spots-in-None-clause-there c = places_there c.args.self.now.pool c.in_ok-spots-in-None.field-0.items c.in_ok-spots-in-None.ensures.there

pub returns-in_ok-spots-in-None-clause-own : goal.returns-in_ok-spots-in-None-clause-own
returns-in_ok-spots-in-None-clause-own c = places_own _ c.in_ok-spots-in-None.field-0.items c.in_ok-spots-in-None.ensures.own
