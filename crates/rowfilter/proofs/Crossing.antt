-- A filter may be sent to another thread, and shared with it. Its tree and its steps are proved apart, since the search that the
-- prover does by itself runs out of steps above them.
use denote.Param.Send.{IsSend, IsSync, sendable}
use denote.Param.SendFields.{declared_send, declared_sync}
use Rattle.std.proofs.Crossing as heap
use Rattle.pqformat.proofs.items.Items.TheSendSync as items
use Rattle.conditions.proofs.expression.Expression.TheLaws.TheKnot as tree
use Rattle.conditions.specs.contracts.flat.step.StepCondition as asked
use Rattle.conditions.specs.contracts.flat.step.Step as step
use Rattle.rowfilter.specs.contracts.filter.Filter as filter

asked_send : IsSend asked.the_row
asked_send = search (items.the_send, tree.crosses, heap.crosses, sendable) depth 200 fits 20000

asked_sync : IsSync asked.the_row
asked_sync = search (items.the_sync, tree.crosses, heap.crosses, sendable) depth 200 fits 20000

step_send : IsSend step.the_row
step_send = declared_send step.the_type (asked_send, (search sendable, (search sendable, tt)))

step_sync : IsSync step.the_row
step_sync = declared_sync step.the_type (asked_sync, (search sendable, (search sendable, tt)))

pub filter_send : IsSend filter.the_row
filter_send = search (step_send, items.the_send, tree.crosses, heap.crosses, sendable) depth 40

pub filter_sync : IsSync filter.the_row
filter_sync = search (step_sync, items.the_sync, tree.crosses, heap.crosses, sendable) depth 40
