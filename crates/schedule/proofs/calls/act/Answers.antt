use Rattle.schedule.proofs.Asking.{acted}
use Rattle.schedule.proofs.calls.act.Goals as goal

pub returns-clause-calls : goal.returns-clause-calls
returns-clause-calls g c =
    acted c.args.name.now c.args.step.now c.known_place-place.result c.args.sessions.now.items c.args.publisher.now c.act.new.publisher c.index_mut.result.now c.act.new.self c.act.result
    c.requires.within (rw c.as_slice.ensures.value at c.known_place-place.ensures.there) c.index_mut.ensures.value c.act.ensures.same c.act.ensures.called
