use Rattle.std.proofs.Common.{◌≡◌, drop}
use Rattle.chgarena.specs.Entries.{IsReading, from_on}
use Rattle.chgarena.specs.Links.{books}
use Rattle.chgarena.proofs.entries.EntriesIterator.next.Given as goal

abbrev pub invariant-loop-self : goal.invariant-loop-self
invariant-loop-self l = let e = l.self-inside in record {
  reading : IsReading e.links.now e.pages.now e.chunk e.left e.given;
  same : drop e.given (from_on (books e.links.now).next e.pages.now e.left e.chunk) ≡ l.fn.self;
}

abbrev pub decreases-loop-self : goal.decreases-loop-self
decreases-loop-self l = l.self-inside.left
