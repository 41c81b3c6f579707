use Rattle.std.proofs.Common.{ℕ, List, subst}
use Rattle.connections.specs.Guarding.{LetsIn}
use Rattle.connections.specs.Turns.{IsTurned}
use Rattle.connections.proofs.authentication.guarded_connection.GuardedConnection.step.Goals as goal

pub returns-clause-turned : goal.returns-clause-turned
returns-clause-turned c =
    let nonced = subst (λ (nonce : List ℕ). IsTurned c.args.users.now nonce c.args.guard.stage c.as_slice-2.result.now c.in_ok-stage.field-0 c.args.out.now.items c.turn.new.out.items) c.as_slice.ensures c.in_ok-stage.ensures.turned in
    let turned = subst (λ (pending : List ℕ). IsTurned c.args.users.now c.args.guard.nonce c.args.guard.stage pending c.in_ok-stage.field-0 c.args.out.now.items c.turn.new.out.items) c.as_slice-2.ensures nonced in
    let stands = subst (λ (rest : List ℕ). LetsIn c.in_ok-stage.field-0.stage rest c.args.guard.nonce c.args.self.now.connection c.stand.new.self) c.advance.ensures.items c.in_ok-stand.ensures in
    (c.in_ok-stage.field-0, turned, stands)
