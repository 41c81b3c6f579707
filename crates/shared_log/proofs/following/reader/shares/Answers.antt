use Rattle.std.proofs.Common.{arith}
use Rattle.shared_log.proofs.Reading.{part_shared}
use Rattle.shared_log.proofs.following.reader.shares.Goals as goal

pub loop-logged-init : goal.loop-logged-init
loop-logged-init c =
    let items = c.args.records.now.items in
    rw (c.in_ok-copies.ensures.items, c.into_iter-logged-iterator.ensures.into_iter_gives, c.range-logged-items.ensures.rest)
    (part_shared items c.args.skipped c.args.max c.min-from.result c.min-count.result (omega (arith, c.min-from.ensures, c.len.ensures)) (omega (arith, c.min-count.ensures, c.len-2.ensures)))
