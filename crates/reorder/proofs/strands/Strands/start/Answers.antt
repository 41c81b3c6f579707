use Rattle.std.proofs.Common.{[], arith}
use Rattle.std.proofs.lemmas.Grind.{common_steps}
use Rattle.reorder.proofs.Tidying.{tidy_made}
use Rattle.reorder.proofs.Lookups.{started_same}
use Rattle.reorder.proofs.strands.Strands.start.Goals as goal

pub returns-clause-started : goal.returns-clause-started
returns-clause-started c = rw (← c.self.view_is)
    (started_same c.self.inside.strands.entries c.insert-2.new.self.entries c.self.inside.members.entries c.insert.new.self.entries c.self.inside.pool c.give_back.new.self c.args.xid c.give_back.ensures.entries
    (λ x. grind (arith, common_steps, c.in_ok-insert-2.ensures.updates.0 x)) (λ t. grind (arith, common_steps, c.in_ok-insert.ensures.updates.0 t)))

pub returns-clause-tidy : goal.returns-clause-tidy
returns-clause-tidy c = rw (← c.self.view_is)
    (tidy_made (record { strands = c.self.inside.strands.entries; members = c.self.inside.members.entries; pool = c.self.inside.pool }) (record { strands = c.insert-2.new.self.entries; members = c.insert.new.self.entries; pool = c.give_back.new.self })
    c.args.xid (record { above = [] }) c.give_back.ensures.whole (λ x. grind (arith, common_steps, c.in_ok-insert-2.ensures.updates.0 x)) c.give_back.ensures.entries)

pub returns-clause-lent : goal.returns-clause-lent
returns-clause-lent c = rw (← c.self.view_is) c.give_back.ensures.lent
