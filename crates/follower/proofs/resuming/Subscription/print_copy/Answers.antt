use Rattle.follower.proofs.Going.{goes_then}
use Rattle.follower.proofs.resuming.Subscription.print_copy.Goals as goal

pub returns-in_err-print-clause-goes : goal.returns-in_err-print-clause-goes
returns-in_err-print-clause-goes g c = goes_then _ _ _ c.take_made.ensures.goes (c.print.ensures.goes c.take_made.new.made.unread.items (g.S.Write.contents c.take_made.new.socket))

pub returns-clause-goes : goal.returns-clause-goes
returns-clause-goes g c =
    let printed = goes_then _ _ _ c.take_made.ensures.goes (c.print.ensures.goes c.take_made.new.made.unread.items (g.S.Write.contents c.take_made.new.socket)) in
    rw (c.note_copy.ensures.written, c.note_copy.ensures.kept) printed
