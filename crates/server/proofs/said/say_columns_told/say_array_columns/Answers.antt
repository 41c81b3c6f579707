use Rattle.server.specs.Answers.{array_columns}
use Rattle.server.proofs.said.say_columns_told.say_array_columns.Goals as goal

pub returns : goal.returns
unfolding array_columns
returns c = rw (c.new.ensures, c.in_ok-columns-2.ensures.items, c.in_ok-schema.ensures, c.in_ok-name.ensures, c.in_ok-columns.ensures) at c.say_columns.ensures
