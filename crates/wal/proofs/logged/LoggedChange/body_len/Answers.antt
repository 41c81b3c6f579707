use Rattle.std.proofs.Common.{ap, length, arith}
use Rattle.tables.proofs.Lengths.{body_bounded}
use Rattle.wal.specs.Bodies.{change_in}
use Rattle.wal.proofs.logged.LoggedChange.body_len.Goals as goal

pub returns-clause-bounded : goal.returns-clause-bounded
returns-clause-bounded c =
    let change = change_in c.self.inside.body.items in
    omega (arith, c.len.ensures, ap length c.self.invariant.0.text, body_bounded change c.self.invariant.1)
