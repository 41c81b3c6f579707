use Rattle.std.proofs.Common.{◌≡◌, [], drop, filter}
use Rattle.publication_config.specs.Config.{has_whole, seen_reach, whole_after}
use Rattle.publication_config.proofs.document.config_publication.whole_after.Given as goal

abbrev pub invariant-loop-table : goal.invariant-loop-table
invariant-loop-table l =
    whole_after l.number l.operations l.published.items (filter (has_whole (seen_reach l.reach)) (drop l.table-index l.tables)) ≡ whole_after l.number l.operations [] (filter (has_whole (seen_reach l.reach)) l.tables)
