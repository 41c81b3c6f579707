use Rattle.follower.proofs.TextLines.{none_before, parts_if_any}
use Rattle.follower.proofs.printing.text_form.halves.Goals as goal

pub returns-clause-first : goal.returns-clause-first
returns-clause-first c = none_before c.args.text.now c.split_once.result c.split_once.ensures.cases

pub returns-clause-none : goal.returns-clause-none
returns-clause-none c = parts_if_any c.args.text.now c.split_once.result c.split_once.ensures.cases
