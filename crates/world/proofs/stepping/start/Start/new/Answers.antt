use Rattle.std.proofs.Common.{ℕ, List, sym, subst}
use Rattle.wal.specs.declared.record.Record.{Record}
use Rattle.walsender.specs.Serving.{IsServing}
use Rattle.world.proofs.stepping.start.Start.new.Goals as goal

pub returns-clause-served : goal.returns-clause-served
returns-clause-served g c = λ (log : List Record) begins.
    let P : List ℕ → Type 0 = λ bytes. IsServing log c.begin.result.reader.place bytes c.begin.result.sender in
    subst P (sym c.new.ensures.items) (c.begin.ensures.serves log begins)
