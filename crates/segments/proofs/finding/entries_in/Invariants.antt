use Rattle.std.proofs.Common.{◌≡◌, ◌-◌, ◌≤◌, drop, length}
use Rattle.segments.specs.Entries.{ReadsTo}
use Rattle.segments.proofs.finding.entries_in.Given as goal

abbrev pub invariant-loop-entry : goal.invariant-loop-entry
invariant-loop-entry l = record {
  to : ReadsTo l.key l.found.items l.bytes l.rest;
  within : length l.rest ≤ length l.bytes;
  tail : l.rest ≡ drop (length l.bytes - length l.rest) l.bytes;
}

abbrev pub decreases-loop-entry : goal.decreases-loop-entry
decreases-loop-entry l = length l.rest
