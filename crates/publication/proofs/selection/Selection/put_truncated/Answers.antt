use Rattle.std.proofs.Common.{◌+◌, arith, length}
use Rattle.publication.proofs.Room.{less_room}
use Rattle.publication.proofs.selection.Selection.put_truncated.Goals as goal

pub put_emptied-requires : goal.put_emptied-requires
put_emptied-requires c = less_room 0 (length c.args.fields.now + 1) c.args.out.now (omega arith) c.requires
