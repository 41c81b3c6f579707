use Rattle.std.proofs.Common.{◌≡◌, ◌+◌, ◌*◌, take}
use Rattle.std.specs.List.{flat_map}
use Rattle.pqformat.specs.Fields.{int32}
use Rattle.pqformat.specs.Writing.{Writes}
use Rattle.publication.proofs.writing.truncating.put_oids.Given as goal

abbrev pub invariant-loop-i : goal.invariant-loop-i
invariant-loop-i l = record {
  written : Writes l.at l.end l.initial.out l.out (flat_map int32 (take l.i l.oids));
  ends : l.end ≡ l.at + 4 * l.i;
}
