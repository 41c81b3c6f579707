use Rattle.std.proofs.Common.{◌≡◌, ◌+◌, ◌-◌, ◌≤◌, ◌<◌, ◌^◌, drop, take}
use Rattle.std.specs.VecDeque.{deque_capacity, deque_len}
use Rattle.shared_log.specs.Kept.{edge_past, kept_in}
use Rattle.shared_log.proofs.appending.given.give_back.Given as goal

-- what is left to give back gives what all of it gives
abbrev pub invariant-loop : goal.invariant-loop
invariant-loop l = record {
  fits : l.edge.place + (l.count - l.counter) < 2 ^ 64;
  edge : edge_past l.edge (take (l.count - l.counter) (kept_in l.records.items)) ≡ edge_past l.fn.edge (take l.count (kept_in l.fn.records.items));
  len : deque_len l.records ≤ deque_len l.fn.records;
  capacity : deque_capacity l.records ≡ deque_capacity l.fn.records;
  items : drop (l.count - l.counter) l.records.items ≡ drop l.count l.fn.records.items;
}
