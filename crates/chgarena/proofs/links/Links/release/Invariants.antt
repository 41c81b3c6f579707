use Rattle.std.proofs.Common.{◌≤◌, vec_capacity}
use Rattle.chgarena.specs.Books.{at}
use Rattle.chgarena.specs.Links.{IsReleased, books}
use Rattle.chgarena.proofs.Releasing.{IsReleasing}
use Rattle.chgarena.proofs.links.Links.release.Given as goal

abbrev pub invariant-loop-left : goal.invariant-loop-left
invariant-loop-left l = record {
  going : IsReleasing (books l.self) l.head (at (books l.fn.self).last l.head) l.left l.chunk;
  same : IsReleased (books l.fn.self) l.head (books l.self);
  room : l.self.chunks ≤ vec_capacity l.self.free;
}

abbrev pub decreases-loop-left : goal.decreases-loop-left
decreases-loop-left l = l.left
