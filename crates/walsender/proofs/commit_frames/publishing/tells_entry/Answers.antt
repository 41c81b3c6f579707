use Rattle.std.proofs.Common.{◌<◌, length, arith}
use Rattle.std.proofs.lemmas.List.{length-map}
use Rattle.reorder.specs.Ready.{entry_at, lent_from, ready_entries}
use Rattle.walsender.proofs.Told.{entry_told}
use Rattle.walsender.proofs.commit_frames.publishing.tells_entry.Goals as goal

pub returns-clause-told : goal.returns-clause-told
returns-clause-told c =
    let pool = c.args.reorder.now.strands.pool in
    let entries = ready_entries pool c.args.ready.now in
    let lt : c.args.k < length entries = omega (arith, length-map c.args.ready.now.places (entry_at (lent_from pool c.args.ready.now))) in
    entry_told c.args.selection.now entries c.args.k c.entry.result.0 c.entry.result.1.now c.has_message.result lt c.entry.ensures.entry c.has_message.ensures.value
