use Rattle.std.proofs.Common.{◌≡◌, ◌++◌, drop, map}
use Rattle.server_state.specs.Changing.{oids_named}
use Rattle.server_state.proofs.sessions.transaction.Transaction.oids_of.Given as goal

abbrev pub invariant-loop-table : goal.invariant-loop-table
invariant-loop-table g l =
    (l.self ≡ l.fn.self) × (l.tables ≡ l.fn.tables)
    × (l.oids.items ++ oids_named (map (λ name. name.now) (drop l.table-index l.tables)) l.self ≡ oids_named (map (λ name. name.now) l.fn.tables) l.fn.self)
