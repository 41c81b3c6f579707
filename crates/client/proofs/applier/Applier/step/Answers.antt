use Rattle.client.specs.Taking.{Stops}
use Rattle.client.proofs.Fronts.{takes_memory}
use Rattle.client.proofs.Reaching.{passed, reached_one, stopped}
use Rattle.client.proofs.applier.Applier.step.Goals as goal

pub returns-in_err-apply-clause-err : goal.returns-in_err-apply-clause-err
returns-in_err-apply-clause-err c =
    let subscriber = c.self.inside.progress in
    let unread = c.self.inside.unread.items in
    let word = rw (c.in-Some.is, c.as_slice.ensures) at c.in_ok-word.ensures.reads in
    let stops = stopped subscriber unread c.in-Some.word c.in-Some.size c.in_err-apply.field-0.0 c.apply.new.self word.2 c.in_err-apply.ensures in
    rw (← c.self.view_is) (passed (λ e. Stops e subscriber unread) c.from_residual-in_err-apply.result c.in_err-apply.field-0.0 c.from_residual-in_err-apply.ensures.1 stops)

pub returns-clause-more : goal.returns-clause-more
returns-clause-more c = λ _.
    let subscriber = c.self.inside.progress in
    let unread = c.self.inside.unread.items in
    let word = rw (c.in-Some.is, c.as_slice.ensures) at c.in_ok-word.ensures.reads in
    rw (← c.self.view_is, c.advance.ensures.items) (reached_one subscriber unread c.in-Some.word c.in-Some.size c.apply.new.self word.2 c.in_ok-apply.ensures)

pub returns-in_err-apply-clause-memory : goal.returns-in_err-apply-clause-memory
returns-in_err-apply-clause-memory c = λ _.
    let unread = c.self.inside.unread.items in
    let word = rw (c.in-Some.is, c.as_slice.ensures) at c.in_ok-word.ensures.reads in
    rw (← c.self.view_is) (takes_memory unread c.in-Some.size c.in-Some.word word.2)
