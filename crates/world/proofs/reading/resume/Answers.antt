use Rattle.std.proofs.Common.{subst}
use Rattle.wal.specs.Log.{IsWellFormedLog}
use Rattle.txlog.specs.Publishing.{PublisherState}
use Rattle.shared_log.specs.SeenPrefixes.{settled_records}
use Rattle.shared_log.specs.Readers.{seen_of}
use Rattle.world.proofs.Unread.{begun, resumed_at}
use Rattle.world.proofs.reading.resume.Goals as goal

pub returns-clause-first : goal.returns-clause-first
returns-clause-first g c =
    let r = c.resume.ensures in
    resumed_at c.args.publisher.now.log (settled_records c.tell-count.new.reader.told) (seen_of c.resume.new.self) c.args.start c.tell-count.result c.resume.new.self.place c.resume.result
    c.tell-count.ensures.count c.tell-count.ensures.told (record { place_is = r.place; position = r.position; holds = rw r.told at r.holds })

pub returns-clause-begins : goal.returns-clause-begins
returns-clause-begins g c =
    let r = c.resume.ensures in
    begun c.args.publisher.now.log (settled_records c.tell-count.new.reader.told) (seen_of c.resume.new.self) c.args.start c.tell-count.result c.resume.new.self.place c.resume.result
    (subst (λ (p : PublisherState). IsWellFormedLog p.log) c.tell-count.ensures.same c.tell-count.ensures.publisher.log.good) c.tell-count.ensures.count c.tell-count.ensures.told (record { place_is = r.place; position = r.position; holds = rw r.told at r.holds })
