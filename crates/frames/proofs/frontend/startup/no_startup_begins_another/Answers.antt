use Rattle.frames.proofs.Startups.{same_startup}
use Rattle.frames.proofs.frontend.startup.no_startup_begins_another.Goals as goal

pub returns : goal.returns
returns c = same_startup
