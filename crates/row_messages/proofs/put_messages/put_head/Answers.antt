use Rattle.std.proofs.Common.{[], ◌∷◌}
use Rattle.pgoutput.specs.declared.messages.delete.TheConstants.{DELETE}
use Rattle.row_messages.proofs.Written.{then_int32}
use Rattle.row_messages.proofs.put_messages.put_head.Goals as goal

pub write_int32-end-requires : goal.write_int32-end-requires
write_int32-end-requires c = then_int32 0 c.write_byte-kind.result DELETE c.args.out.now c.write_byte-kind.new.out c.args.oid (c.args.letter ∷ []) c.write_byte-kind.ensures c.requires
