use Rattle.std.proofs.Common.{ap, sym, ◌∙◌}
use Rattle.shared_log.proofs.Adding.{adds_moves}
use Rattle.shared_log.proofs.histories.seen_prefix.exchange.Goals as goal

pub compare_exchange-requires : goal.compare_exchange-requires
compare_exchange-requires g c =
    let head = c.args.history.now.head_is in
    let pen = c.no_pen-pen.ensures in
    let book = c.requires.book ∙ sym (ap (λ w. w.book) head) in (
      ap (λ w. w.tracked) head,
      book,
      pen.0 ∙ book,
      c.requires.names,
      rw (ap (λ w. w.key) head, pen.1, c.requires.plain) (adds_moves c.args.seen.now.log c.args.offer.now.ask c.args.count c.requires.counted),
    )
