use Rattle.std.proofs.Common.{◌≡◌, ◌++◌, ℕ, List, sym, subst}
use Rattle.connections.specs.Refusing.{not_a_message}
use Rattle.connections.proofs.Turning.{message_refused}
use Rattle.connections.proofs.authentication.turn.turn_exchange.Goals as goal

pub returns-in_ok-refuse_message-in-Err-clause-turned : goal.returns-in_ok-refuse_message-in-Err-clause-turned
returns-in_ok-refuse_message-in-Err-clause-turned c =
    let says : c.refuse_message.new.out.items ≡ c.args.out.now.items ++ not_a_message c.in-Err.fault c.args.asking.opening.user =
    subst (λ (user : List ℕ). c.refuse_message.new.out.items ≡ c.args.out.now.items ++ not_a_message c.in-Err.fault user) c.as_str.ensures.value c.in_ok-refuse_message-in-Err.ensures in
    message_refused c.args.guarding.users.now c.args.guarding.nonce.now c.args.asking c.args.pending.now c.in-Err.fault c.args.out.now.items c.refuse_message.new.out.items (sym c.in-Err.ensures.exact) says
