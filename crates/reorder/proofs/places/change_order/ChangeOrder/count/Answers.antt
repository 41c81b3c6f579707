use Rattle.std.proofs.Common.{sym}
use Rattle.reorder.proofs.Spotting.{count_places}
use Rattle.reorder.proofs.places.change_order.ChangeOrder.count.Goals as goal

pub returns-in-Whole : goal.returns-in-Whole
returns-in-Whole c = rw c.in-Whole.is (sym (count_places c.in-Whole.xid c.in-Whole.count))
