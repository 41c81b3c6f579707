use Rattle.walsender.proofs.Serving.{given}
use Rattle.walsender.proofs.walsender.Walsender.write_held.Goals as goal

pub returns-clause-serves : goal.returns-clause-serves
returns-clause-serves g c =
    let (bytes, parts, appended) = c.write_held.ensures.given in
    let old = c.args.self.now in
    (bytes, parts, λ log written serving. given log old.reader.place written bytes old.sender c.write_held.new.self parts c.write_held.ensures.rest c.write_held.ensures.lent serving, appended)
