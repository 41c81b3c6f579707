use Rattle.std.proofs.Common.{ap, ◌∙◌}
use Rattle.std.specs.Result.{result_ok}
use Rattle.follower.proofs.printing.text_form.position_in.Goals as goal

pub returns-clause-only : goal.returns-clause-only
returns-clause-only c = λ position spells. c.ok.ensures.value ∙ ap result_ok (c.parse_position.ensures.only position spells)
