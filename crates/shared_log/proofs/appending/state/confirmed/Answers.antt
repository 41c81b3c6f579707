use Rattle.std.proofs.Common.{ap, ◌∙◌}
use Rattle.shared_log.specs.SeenPrefixes.{ends_confirmed}
use Rattle.shared_log.proofs.SeenPrefixes.{ends_confirm}
use Rattle.shared_log.proofs.appending.state.confirmed.Goals as goal

pub returns-clause-ends : goal.returns-clause-ends
returns-clause-ends g c = ap ends_confirmed c.if-not-confirm.ensures ∙ ends_confirm c.args.front
