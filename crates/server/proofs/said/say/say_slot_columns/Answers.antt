use Rattle.server.proofs.said.say.say_slot_columns.Goals as goal

pub returns : goal.returns
returns c = rw c.in_ok-columns.ensures at c.say_columns.ensures
