use Rattle.walsender.proofs.Serving.{started}
use Rattle.walsender.proofs.walsender.Walsender.begin.Goals as goal

pub returns-clause-serves : goal.returns-clause-serves
returns-clause-serves g c = λ log begins.
    started log c.in-Ok.sender c.args.start c.args.first c.args.reader.place begins c.in-Ok.ensures.start c.in-Ok.ensures.position c.in-Ok.ensures.empty c.in-Ok.ensures.unread
