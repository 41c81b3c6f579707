use Rattle.std.proofs.Common.{of_calls, arith, nat_lt, rules}
use Rattle.std.proofs.lemmas.Fn.{always_returns_same}
use Rattle.std.proofs.lemmas.List.Sorted.{IsPartitionedBy-ltb}
use Rattle.shared_log.specs.declared.histories.copy.Logged.{Logged}
use Rattle.shared_log.specs.SeenPrefixes.{shown_records}
use Rattle.shared_log.proofs.Kept.{place_at, starts_rise}
use Rattle.shared_log.proofs.Reading.{follow_there}
use Rattle.shared_log.proofs.following.resuming.place_from.Goals as goal

pub returns-clause-value : goal.returns-clause-value
returns-clause-value c =
    let copy = c.args.copy.now in
    let items = copy.records.items in
    let follows = follow_there (shown_records copy.mark.seen.log) copy.edge items c.requires.lies c.requires.good in
    let rise = starts_rise items copy.edge.position follows.goes follows.sized in
    let point = c.partition_point.ensures.partitioned (λ (l : Logged). nat_lt l.entry.value.start c.args.start) (always_returns_same _ _ _ (λ a r f k. search (rules, of_calls)))
    (IsPartitionedBy-ltb (λ (l : Logged). l.entry.value.start) items c.args.start rise) in
    place_at items c.args.start c.partition_point.result (omega (arith, c.partition_point.ensures.bound)) (λ k d lt. point.0 k d (omega arith) lt) (λ k d from lt. point.1 k d from lt)
