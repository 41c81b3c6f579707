use Rattle.std.proofs.Common.{[], ◌∷◌, ◌++◌}
use Rattle.pgoutput.specs.declared.messages.insert.TheConstants.{NEW}
use Rattle.pgoutput.specs.Tuple.{tuple}
use Rattle.pgoutput.specs.Update.{old_if_any}
use Rattle.pgoutput.proofs.Writing.{puts_after}
use Rattle.pgoutput.proofs.messages.update.put_update.Goals as goal

pub returns : goal.returns
returns c =
    let m = c.args.message.now in
    let r = c.put_tuple.result in
    let new = c.put_tuple.new.out.items in
    puts_after r _ _ new _ (old_if_any m.old ++ ((NEW ∷ []) ++ tuple m.new)) c.in_ok-put_int32.ensures.ok
    (puts_after r _ _ new _ ((NEW ∷ []) ++ tuple m.new) c.in_ok-put_if_any.ensures
    (puts_after r _ _ new _ (tuple m.new) c.in_ok-put_byte.ensures.ok c.put_tuple.ensures))
