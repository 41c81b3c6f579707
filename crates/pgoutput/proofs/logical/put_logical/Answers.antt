use Rattle.std.proofs.Common.{[], ◌∷◌}
use Rattle.pgoutput.specs.Logical.{form_of, kind_byte}
use Rattle.pgoutput.proofs.Writing.{puts_after}
use Rattle.pgoutput.proofs.logical.put_logical.Goals as goal

pub returns : goal.returns
returns c =
    let m = c.args.message.now in
    puts_after c.put_fields.result _ _ c.put_fields.new.out.items (kind_byte m ∷ []) ((form_of m).fields) (rw c.kind_of.ensures at c.in_ok-put_byte.ensures.ok) c.put_fields.ensures
