use Rattle.std.proofs.Common.{◌≡◌, drop}
use Rattle.client.specs.Subscriber.{are_told}
use Rattle.client.proofs.judging.judge_tables.Given as goal

abbrev pub invariant-loop-oid : goal.invariant-loop-oid
invariant-loop-oid l = are_told l.tables.entries (drop l.oid-index l.oids) ≡ are_told l.tables.entries l.oids
