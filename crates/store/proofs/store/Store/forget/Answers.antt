use Rattle.store.proofs.Storing.{shown_forgotten, none_forgotten}
use Rattle.store.proofs.store.Store.forget.Goals as goal

pub returns-in-Some-clause-keeps : goal.returns-in-Some-clause-keeps
returns-in-Some-clause-keeps c h keeps =
    shown_forgotten c.self.inside.catalog c.self.inside.slots c.free_all.new.self c.self.inside.journals c.remove.new.self c.args.top c.in-Some.journal c.args.self.now h c.self.view_is c.in-Some.ensures.journal
    c.in-Some.ensures.others c.free_all.ensures.slots c.free_all.ensures.short keeps

pub returns-in_default-clause-keeps : goal.returns-in_default-clause-keeps
returns-in_default-clause-keeps c h keeps =
    none_forgotten c.self.inside.catalog c.self.inside.slots c.self.inside.journals c.remove.new.self c.args.top c.args.self.now h c.self.view_is c.in_default.ensures.journal c.in_default.ensures.others keeps
