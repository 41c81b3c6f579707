use Rattle.std.proofs.Common.{sym, subst, List, ℕ, Option}
use Rattle.follower.specs.Standing.{Goes, standing}
use Rattle.follower.proofs.Going.{goes_then}
use Rattle.follower.proofs.resuming.Subscription.finish.Goals as goal

pub returns-in_err-print_last-clause-goes : goal.returns-in_err-print_last-clause-goes
returns-in_err-print_last-clause-goes g c = λ unread.
    goes_then _ _ _ (c.print.ensures.goes unread (g.S.Write.contents c.args.socket.now)) (c.print_last.ensures.goes unread (g.S.Write.contents c.args.socket.now))

pub returns-clause-goes : goal.returns-clause-goes
returns-clause-goes g c = λ unread.
    let before = g.S.Write.contents c.args.socket.now in
    let written = g.W.Write.contents c.print_last.new.output in
    let ends = subst (λ (kept : Option (List ℕ)). Goes (standing c.print_last.new.self unread written kept before) (standing c.print_last.new.self unread written kept (g.S.Write.contents c.end_stream.new.socket)))
    (sym c.in_ok-print_last.ensures.kept) (c.end_stream.ensures.goes unread written) in
    goes_then _ _ _ (goes_then _ _ _ (c.print.ensures.goes unread before) (c.print_last.ensures.goes unread before)) ends
