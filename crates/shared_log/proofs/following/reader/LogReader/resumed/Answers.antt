use Rattle.left_right.specs.Sides.{view}
use Rattle.shared_log.specs.SeenPrefixes.{shown_records}
use Rattle.shared_log.specs.Kept.{kept_in}
use Rattle.shared_log.proofs.Steps.{enters}
use Rattle.shared_log.proofs.following.reader.LogReader.resumed.Goals as goal

pub enter_as-requires : goal.enter_as-requires
enter_as-requires g c x views keeps at = enters g.L.LogName.book _ (view c.into_parts-reader.result.0.place) (shown_records x.mark.seen.log) x.edge (kept_in x.records.items) x.mark.seen.book views keeps at
