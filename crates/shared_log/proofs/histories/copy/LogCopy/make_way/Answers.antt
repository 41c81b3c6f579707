use Rattle.std.proofs.Common.{ℕ, List, ap, take, ◌-◌, ◌∙◌}
use Rattle.wal.specs.declared.record.Record.{Record}
use Rattle.shared_log.specs.Kept.{edge_past}
use Rattle.shared_log.proofs.Lying.{kept_part}
use Rattle.shared_log.proofs.histories.copy.LogCopy.make_way.Goals as goal

pub returns-clause-edge : goal.returns-clause-edge
returns-clause-edge c =
    let before = c.args.self.now.edge in
    let left = kept_part (c.args.place - before.place) c.args.self.now.records.items c.truncate.new.self.items (rw c.saturating_sub.ensures at c.truncate.ensures.items) in
    rw c.saturating_sub-2.ensures at (c.give_back.ensures.edge ∙ ap (λ (l : List (Record × ℕ)). edge_past before (take c.saturating_sub-2.result l)) left)
