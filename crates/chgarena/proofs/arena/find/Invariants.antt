use Rattle.std.proofs.Common.{◌-◌, [], get_or}
use Rattle.chgarena.specs.Books.{at, chunks_of}
use Rattle.chgarena.specs.Joined.{joined_entries}
use Rattle.chgarena.specs.Links.{books}
use Rattle.chgarena.proofs.Finding.{IsAt}
use Rattle.chgarena.proofs.arena.find.Given as goal

abbrev pub invariant-loop-rest : goal.invariant-loop-rest
invariant-loop-rest l = IsAt (books l.links) l.pages l.head (at (books l.links).last l.head) l.chunk l.rest (get_or (joined_entries l.pages (chunks_of (books l.links) l.head)) l.k [])

abbrev pub decreases-loop-rest : goal.decreases-loop-rest
decreases-loop-rest l = at (books l.links).rank (at (books l.links).last l.head) - at (books l.links).rank l.chunk
