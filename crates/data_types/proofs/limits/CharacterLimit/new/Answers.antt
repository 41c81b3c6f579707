use Rattle.data_types.proofs.Declared.{limit_there}
use Rattle.data_types.proofs.limits.CharacterLimit.new.Goals as goal

pub returns : goal.returns
returns c = limit_there _
