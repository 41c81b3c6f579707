use Rattle.std.proofs.Common.{sym}
use Rattle.segments.proofs.Reading.{tells_by}
use Rattle.segments.proofs.finding.tells.Goals as goal

pub returns-in-Some : goal.returns-in-Some
returns-in-Some c = tells_by c.args.key c.args.at c.args.bytes.now c.in-Some.entry.rest.now _ (sym c.in-Some.ensures)
