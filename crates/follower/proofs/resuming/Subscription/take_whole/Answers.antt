use Rattle.std.proofs.Common.{ap, subst, ◌∙◌, ◌++◌, List, ℕ, take, take-append-drop}
use Rattle.follower.specs.Standing.{Goes, standing}
use Rattle.follower.proofs.resuming.Subscription.take_whole.Goals as goal

pub returns-in_err-taken : goal.returns-in_err-taken
returns-in_err-taken g c =
    let unread = c.args.incoming.now.unread.items in
    let rest = c.pass.new.self.unread.items in
    let whole = ap (λ (l : List ℕ). l ++ rest) c.front-front.ensures ∙ ap (λ (l : List ℕ). take c.in-Some.length unread ++ l) c.pass.ensures ∙ take-append-drop c.in-Some.length unread in
    record {
      goes = subst (λ (l : List ℕ). Goes (standing c.args.self.now.delivery l (g.W.Write.contents c.args.output.now) (g.W.Output.kept c.args.output.now) (g.S.Write.contents c.args.socket.now))
          (standing c.take-taken.new.self rest (g.W.Write.contents c.take-taken.new.output) (g.W.Output.kept c.take-taken.new.output) (g.S.Write.contents c.take-taken.new.socket))) whole (c.take-taken.ensures.goes rest);
    }

pub returns : goal.returns
returns g c =
    let unread = c.args.incoming.now.unread.items in
    let rest = c.pass.new.self.unread.items in
    let whole = ap (λ (l : List ℕ). l ++ rest) c.front-front.ensures ∙ ap (λ (l : List ℕ). take c.in-Some.length unread ++ l) c.pass.ensures ∙ take-append-drop c.in-Some.length unread in
    record {
      goes = subst (λ (l : List ℕ). Goes (standing c.args.self.now.delivery l (g.W.Write.contents c.args.output.now) (g.W.Output.kept c.args.output.now) (g.S.Write.contents c.args.socket.now))
          (standing c.take-taken.new.self rest (g.W.Write.contents c.take-taken.new.output) (g.W.Output.kept c.take-taken.new.output) (g.S.Write.contents c.take-taken.new.socket))) whole (c.take-taken.ensures.goes rest);
    }
