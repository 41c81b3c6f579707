use Rattle.server.proofs.said.say.say_slot_values.Goals as goal

pub returns : goal.returns
returns c = rw c.in_ok-values.ensures.value at c.say_values.ensures
