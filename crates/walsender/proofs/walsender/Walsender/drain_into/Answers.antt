use Rattle.walsender.proofs.Serving.{drained, err_then, kept_shorter, ok_then}
use Rattle.walsender.proofs.walsender.Walsender.drain_into.Goals as goal

pub returns-clause-serves : goal.returns-clause-serves
returns-clause-serves g c =
    let s = c.args.self.now.sender in
    let told = c.drain_into.ensures in
    ok_then _ _ c.drain_into.result (λ is log written serving. drained log c.args.self.now.reader.place c.args.max written s c.drain_into.new.self is told.lent serving) told.rest

pub returns-clause-stays : goal.returns-clause-stays
returns-clause-stays g c =
    let s = c.args.self.now.sender in
    let told = c.drain_into.ensures in
    err_then _ _ c.drain_into.result (λ is log written serving. kept_shorter log c.args.self.now.reader.place written s c.drain_into.new.self is.0 told.lent serving) told.err
