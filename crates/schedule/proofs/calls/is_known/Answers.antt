use Rattle.std.proofs.Common.{◌∙◌, ap}
use Rattle.std.specs.Prelude.{is_some}
use Rattle.schedule.proofs.Names.{is_named_alike}
use Rattle.schedule.proofs.calls.is_known.Goals as goal

pub returns : goal.returns
returns c = c.is_some.ensures ∙ ap is_some c.place_of.ensures.place ∙ is_named_alike c.args.name.now _ 0
