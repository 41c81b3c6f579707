use Rattle.server.specs.TableAnswers.{found_columns}
use Rattle.server.proofs.said.say_table.say_found_columns.Goals as goal

pub returns : goal.returns
unfolding found_columns
returns c = rw (c.new.ensures, c.in_ok-columns.ensures.items, c.in_ok-oid.ensures, c.in_ok-identity.ensures, c.in_ok-kind.ensures) at c.say_columns.ensures
