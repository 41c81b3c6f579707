use Rattle.data_types.proofs.Declared.{places_there}
use Rattle.data_types.proofs.limits.DecimalPlaces.new.Goals as goal

pub returns : goal.returns
returns c = places_there _
