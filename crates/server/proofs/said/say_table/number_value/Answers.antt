use Rattle.std.proofs.Common.{◌≤◌, length, arith}
use Rattle.std.specs.Fmt.{decimal}
use Rattle.std.proofs.lemmas.Fmt.{length-decimal-le}
use Rattle.server.proofs.Rows.{always_ok}
use Rattle.server.proofs.said.say_table.number_value.Goals as goal

pub returns-clause-small : goal.returns-clause-small
returns-clause-small c = always_ok c.value.result (length (decimal c.args.number) ≤ 10) (length-decimal-le 10 c.args.number (omega arith) (omega arith) (omega arith))
