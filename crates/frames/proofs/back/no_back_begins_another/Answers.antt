use Rattle.frames.proofs.Readers.{same_frame}
use Rattle.frames.proofs.Bodies.{back_bodies}
use Rattle.frames.proofs.back.no_back_begins_another.Goals as goal

pub returns : goal.returns
returns c = same_frame back_bodies
