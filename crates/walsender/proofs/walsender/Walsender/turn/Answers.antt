use Rattle.std.proofs.Common.{ap}
use Rattle.std.specs.Int.{w64}
use Rattle.std.proofs.lemmas.Int.{to_z-of_z}
use Rattle.shared_log.specs.Readers.{seen_of}
use Rattle.walsender.proofs.ServedTurns.{first, reads, turned, turns_so}
use Rattle.walsender.proofs.walsender.Walsender.turn.Goals as goal

pub returns-clause-serves : goal.returns-clause-serves
returns-clause-serves g c =
    let told = rw (to_z-of_z w64 c.args.clock c.ranges.clock) at c.turn.ensures in
    let old = c.args.self.now in
    turned c.args.most c.args.clock old.sender c.turn.new.sender old.reader.place c.turn.new.reader.place (seen_of old.reader) (seen_of c.turn.new.reader) (g.W.Write.contents c.args.to.now) (g.W.Write.contents c.turn.new.out)
    c.turn.result c.ranges.clock told.grows
    (turns_so told.moved (λ is. (told.fresh is).1) (λ is. let u = told.unfetched is in (u.0, u.1)) told.sent told.broken told.refused (λ is. ap g.W.Write.contents (c.turn.ensures.silent is)))

pub returns-clause-first : goal.returns-clause-first
returns-clause-first g c =
    let told = rw (to_z-of_z w64 c.args.clock c.ranges.clock) at c.turn.ensures in
    let old = c.args.self.now in
    first c.args.most c.args.clock old.sender c.turn.new.sender old.reader.place c.turn.new.reader.place (seen_of old.reader) (seen_of c.turn.new.reader) (g.W.Write.contents c.args.to.now) (g.W.Write.contents c.turn.new.out)
    c.turn.result told.grows
    (turns_so told.moved (λ is. (told.fresh is).1) (λ is. let u = told.unfetched is in (u.0, u.1)) told.sent told.broken told.refused (λ is. ap g.W.Write.contents (c.turn.ensures.silent is)))

pub returns-clause-reads : goal.returns-clause-reads
returns-clause-reads g c =
    let told = rw (to_z-of_z w64 c.args.clock c.ranges.clock) at c.turn.ensures in
    let old = c.args.self.now in
    reads c.args.most c.args.clock old.sender c.turn.new.sender old.reader.place c.turn.new.reader.place (seen_of c.turn.new.reader) (g.W.Write.contents c.args.to.now) (g.W.Write.contents c.turn.new.out)
    c.turn.result
    (turns_so told.moved (λ is. (told.fresh is).1) (λ is. let u = told.unfetched is in (u.0, u.1)) told.sent told.broken told.refused (λ is. ap g.W.Write.contents (c.turn.ensures.silent is)))
