use Rattle.std.proofs.Common.{◌+◌, List, ap, subst, arith}
use Rattle.store.specs.Snapshots.{Standing, SnapshotState, Gives, standing_of, standing_within}
use Rattle.std.proofs.Common.{drop}
use Rattle.store.proofs.Snapshots.{gives_part, few_given}
use Rattle.store.proofs.snapshot.Snapshot.read.Goals as goal

pub returns-clause-ok : goal.returns-clause-ok
returns-clause-ok c =
    subst (λ (left : List Standing). Gives left c.in_ok-rows.rows.items (standing_within c.self.inside.oid (standing_of (drop (c.self.inside.next + c.min.result) c.self.inside.slots))))
    (ap (λ (s : SnapshotState). s.left) c.self.view_is)
    (gives_part c.self.inside.oid c.self.inside.slots c.self.inside.next (c.self.inside.next + c.min.result) c.in_ok-rows.rows.items (omega arith) c.in_ok-rows.ensures)

pub returns-clause-few : goal.returns-clause-few
returns-clause-few c =
    omega (arith, c.min.ensures, few_given c.self.inside.oid c.self.inside.slots c.self.inside.next c.min.result c.in_ok-rows.rows.items c.in_ok-rows.ensures)
