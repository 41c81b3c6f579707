use Rattle.std.specs.Int.{w64}
use Rattle.std.proofs.lemmas.Int.{to_z-of_z}
use Rattle.walsender.proofs.Serving.{kept_on}
use Rattle.walsender.proofs.walsender.Walsender.keepalive.Goals as goal

pub returns-clause-serves : goal.returns-clause-serves
returns-clause-serves g c = λ log written serving.
    let ok = rw (to_z-of_z w64 c.args.clock c.ranges.clock) at c.keepalive.ensures.ok in
    let old = c.args.self.now in
    kept_on log old.reader.place c.args.clock c.args.ask written old.sender c.keepalive.new.self c.keepalive.result c.ranges.clock ok c.keepalive.ensures.err c.keepalive.ensures.fits serving
