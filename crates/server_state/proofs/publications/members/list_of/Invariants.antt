use Rattle.std.proofs.Common.{◌≡◌, ◌≤◌, ◌<◌, ◌^◌, length}
use Rattle.std.specs.List.{AllByRecursion}
use Rattle.server_state.proofs.publications.members.list_of.Given as goal

abbrev pub invariant-loop-is_listed : goal.invariant-loop-is_listed
invariant-loop-is_listed l = record {
  number : l.number ≡ l.is_listed-index;
  few : length l.numbers.items ≤ l.is_listed-index;
  short : AllByRecursion (λ number. number < 2 ^ 16) l.numbers.items;
}
