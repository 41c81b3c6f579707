use Rattle.std.proofs.Common.{◌≡◌, ◌==◌, ℕ, true, length, reverse}
use Rattle.std.specs.List.{list_any}
use Rattle.pgoutput.specs.Items.{relations_due}
use Rattle.walsender.specs.Spelled.{oids_in}
use Rattle.walsender.proofs.commit_frames.making.first_due.Given as goal

abbrev pub invariant-loop-oid : goal.invariant-loop-oid
invariant-loop-oid l = record {
  due : relations_due (reverse l.fn.relations_sent) (oids_in l.oids) ≡ relations_due (reverse l.fn.relations_sent) (oids_in l.fn.oids);
  among : (oid : ℕ) → list_any (λ n. n == oid) (oids_in l.oids) ≡ true → list_any (λ n. n == oid) (oids_in l.fn.oids) ≡ true;
}

abbrev pub decreases-loop-oid : goal.decreases-loop-oid
decreases-loop-oid l = length l.oids
