use mathlib.Core.List.{IsPrefix}
use Rattle.shared_log.specs.SeenPrefixes.{settled_records}
use Rattle.txlog.proofs.Sparing.{gives_back}
use Rattle.txlog.proofs.publisher.Publisher.give_back_before.Goals as goal

pub returns-in-Some-clause-gives : goal.returns-in-Some-clause-gives
returns-in-Some-clause-gives g c =
    let told : IsPrefix c.args.self.now.log (settled_records c.kept_place.new.reader.told) = rw c.kept_place.ensures.told c.tell-count.ensures.told in
    gives_back c.args.confirmed c.in-Some.place c.tell-count.result c.args.self.now c.tell-count.new.self c.give_back.new.self _ _ c.give_back.ensures.given c.tell-count.ensures.same c.tell-count.ensures.count c.in-Some.ensures.place told c.in-Some.ensures.sees
