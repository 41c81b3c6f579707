use Rattle.std.proofs.Common.{◌≡◌, vec_capacity}
use Rattle.std.specs.List.{range_with_len}
use Rattle.chgarena.proofs.links.Links.new.Given as goal

abbrev pub invariant-loop-chunk : goal.invariant-loop-chunk
invariant-loop-chunk l = record {
  items : l.free.items ≡ range_with_len 0 l.chunk;
  room : vec_capacity l.free ≡ l.chunks;
}
