use Rattle.world.proofs.Runs.{headline}
use Rattle.world.proofs.world.World.step.Goals as goal

pub returns-then-is_bad-clause-headline : goal.returns-then-is_bad-clause-headline
returns-then-is_bad-clause-headline g c = rw (← c.self.view_is) (headline c.self.inside.machine c.self.invariant)

pub returns-in_err-reserve-clause-headline : goal.returns-in_err-reserve-clause-headline
returns-in_err-reserve-clause-headline g c = headline c.self.inside.machine c.self.invariant

pub returns-in_err-answer-clause-headline : goal.returns-in_err-answer-clause-headline
returns-in_err-answer-clause-headline g c = headline c.step.new.self c.step.ensures.machine

pub returns-clause-headline : goal.returns-clause-headline
returns-clause-headline g c = headline c.step.new.self c.step.ensures.machine
