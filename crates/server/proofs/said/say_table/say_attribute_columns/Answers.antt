use Rattle.server.specs.TableAnswers.{attribute_columns}
use Rattle.server.proofs.said.say_table.say_attribute_columns.Goals as goal

pub returns : goal.returns
unfolding attribute_columns
returns c = rw (c.new.ensures, c.in_ok-columns.ensures.items, c.in_ok-number.ensures, c.in_ok-name.ensures, c.in_ok-type_oid.ensures, c.in_ok-is_identity.ensures) at c.say_columns.ensures
