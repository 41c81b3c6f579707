use Rattle.std.proofs.Common.{◌≡◌, ◌+◌, length}
use Rattle.data_types.specs.Uuids.{is_uuid_from}
use Rattle.data_types.proofs.texts.uuid_text.is_uuid_text.Given as goal

abbrev pub invariant-loop-b : goal.invariant-loop-b
invariant-loop-b l = record {
  same : is_uuid_from l.place l.rest ≡ is_uuid_from 0 l.text;
  counted : l.place + length l.rest ≡ length l.text;
}

abbrev pub decreases-loop-b : goal.decreases-loop-b
decreases-loop-b l = length l.rest
