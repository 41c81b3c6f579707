use Rattle.std.proofs.Common.{◌≤◌, ◌+◌, length, subst, arith}
use Rattle.tables.specs.declared.kinds.Value.{Value}
use Rattle.tables.specs.Kinds.{spell_value}
use Rattle.tables.proofs.Values.{length-text}
use Rattle.tables.proofs.kinds.write_value.Goals as goal

pub write_int32-sized-requires : goal.write_int32-sized-requires
write_int32-sized-requires c =
    let room = subst (λ (v : Value). c.args.at + length (spell_value v) ≤ length c.args.out.now) c.in-Text.is c.requires.0 in
    let tagged = c.write_byte-tagged-in-Text.ensures in
    omega (arith, room, length-text c.in-Text.text, tagged.ends, tagged.same)
