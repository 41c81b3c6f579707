use Rattle.walsender.proofs.Told.{judged_fit}
use Rattle.walsender.proofs.commit_frames.publishing.judge.Goals as goal

pub returns-clause-fit : goal.returns-clause-fit
returns-clause-fit c = judged_fit c.args.selection.now c.args.reorder.now.strands.pool c.args.ready.now c.header_of.result _ c.messages_fit.ensures c.requires.held c.header_of.ensures.value c.header_of.ensures.numbers
