use Rattle.std.proofs.Common.{◌≡◌, vec_len}
use Rattle.std.specs.List.{AllByRecursion}
use Rattle.shared_log.proofs.appending.writer.readers_of.Given as goal

abbrev pub invariant-loop : goal.invariant-loop
invariant-loop g l = (vec_len l.readers ≡ l.counter) × AllByRecursion (λ reader. reader.place ≡ 0) l.readers.items
