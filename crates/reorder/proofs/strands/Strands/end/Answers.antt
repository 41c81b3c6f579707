use Rattle.std.proofs.Common.{sym, arith}
use Rattle.std.proofs.lemmas.Grind.{common_steps}
use Rattle.reorder.proofs.Tidying.{tidy_ended}
use Rattle.reorder.proofs.Lookups.{ended_same}
use Rattle.reorder.proofs.strands.Strands.end.Goals as goal

pub returns-in-Some-clause-ended : goal.returns-in-Some-clause-ended
returns-in-Some-clause-ended c = rw (← c.self.view_is) (ended_same c.self.inside.strands.entries c.remove_all.new.strands.entries c.self.inside.members.entries c.remove.new.self.entries c.self.inside.pool c.give_back_all.new.pool c.args.top c.in-Some.members
    (sym c.in-Some.ensures.value) (λ x. grind (arith, common_steps, c.give_back_all.ensures.entries x)) (λ x. grind (arith, common_steps, c.remove_all.ensures x)) (λ t. grind (arith, common_steps, c.in-Some.ensures.updates.0 t)))

pub returns-in-Some-clause-tidy : goal.returns-in-Some-clause-tidy
returns-in-Some-clause-tidy c = rw (← c.self.view_is)
    (tidy_ended (record { strands = c.self.inside.strands.entries; members = c.self.inside.members.entries; pool = c.self.inside.pool }) (record { strands = c.remove_all.new.strands.entries; members = c.remove.new.self.entries; pool = c.give_back_all.new.pool })
    c.in-Some.members c.give_back_all.ensures.whole (λ x. grind (arith, common_steps, c.remove_all.ensures x)) (λ x. grind (arith, common_steps, c.give_back_all.ensures.entries x)))

pub returns-in-Some-clause-lent : goal.returns-in-Some-clause-lent
returns-in-Some-clause-lent c = rw (← c.self.view_is) c.give_back_all.ensures.lent
