use Rattle.std.proofs.Common.{◌≤◌, arith, length}
use Rattle.wal.specs.Restart.{is_in_progress, oldest}
use Rattle.wal.proofs.Restarts.{within}
use Rattle.shared_log.specs.SeenPrefixes.{settled_records}
use Rattle.shared_log.proofs.Writing.{shows_given}
use Rattle.shared_log.proofs.appending.writer.LogWriter.give_back.Goals as goal

pub invariant_of-self : goal.invariant_of-self
invariant_of-self g c =
    let log = settled_records c.self.inside.state in
    let inside : oldest log ≤ length log = within (is_in_progress log) log in
    shows_given log _ _ _ c.self.inside.writer.desk.shown.value _ c.self.invariant (omega (arith, c.max-self-inside.ensures)) (omega (arith, c.max-self-inside.ensures, c.min.ensures, c.oldest.ensures, inside, c.self.invariant.within))
