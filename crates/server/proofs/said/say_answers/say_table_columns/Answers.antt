use Rattle.server.specs.Answers.{table_columns}
use Rattle.server.proofs.said.say_answers.say_table_columns.Goals as goal

pub returns : goal.returns
unfolding table_columns
returns c = rw (c.new.ensures, c.in_ok-columns.ensures.items, c.in_ok-schema.ensures, c.in_ok-name.ensures) at c.say_columns.ensures
