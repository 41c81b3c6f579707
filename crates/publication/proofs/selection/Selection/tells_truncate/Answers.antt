use Rattle.publication.proofs.Judgements.{truncate_many}
use Rattle.publication.proofs.selection.Selection.tells_truncate.Goals as goal

pub returns-in_default-clause-told : goal.returns-in_default-clause-told
returns-in_default-clause-told c = λ oids e. truncate_many c.args.self.now oids (c.in_default.ensures.none oids e)
