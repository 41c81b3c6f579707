use Rattle.std.proofs.Common.{reverse, arith}
use Rattle.std.proofs.lemmas.List.{length-reverse}
use Rattle.walsender.proofs.OnceEach.{one_more_fits}
use Rattle.walsender.proofs.commit_frames.making.put_due.Goals as goal

pub push_reserved-requires : goal.push_reserved-requires
push_reserved-requires c =
    let sent = c.args.relations_sent.now.items in
    let r = c.requires in
    let fits = one_more_fits c.args.selection.now (reverse sent) c.args.oid ((r.due, r.sent.0), (r.known, r.sent.1)) in
    omega (arith, fits, length-reverse sent, r.capacity)
