use Rattle.std.proofs.Common.{◌∙◌, ap, length}
use Rattle.store.specs.Keeping.{StoreState, journal_of}
use Rattle.store.proofs.Storing.{mark_is}
use Rattle.store.proofs.store.Store.mark.Goals as goal

pub returns : goal.returns
returns c h keeps = c.mark.ensures ∙ ap (λ (s : StoreState). length (journal_of c.args.top s.journals)) c.self.view_is ∙ mark_is c.args.self.now c.args.top h keeps
