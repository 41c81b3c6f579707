use Rattle.frames.proofs.Readers.{same_frame}
use Rattle.frames.proofs.Bodies.{front_bodies}
use Rattle.frames.proofs.front.no_front_begins_another.Goals as goal

pub returns : goal.returns
returns c = same_frame front_bodies
