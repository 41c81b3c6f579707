use Rattle.shared_log.specs.SeenPrefixes.{shown_records}
use Rattle.shared_log.specs.Kept.{kept_in}
use Rattle.shared_log.proofs.Steps.{admits}
use Rattle.shared_log.proofs.appending.writer.readers_of.Goals as goal

pub reader-requires : goal.reader-requires
reader-requires g c x views keeps = admits g.L.LogName.book (shown_records x.mark.seen.log) x.edge (kept_in x.records.items) x.mark.seen.book views keeps
