use Rattle.std.proofs.Common.{◌≡◌, ◌∷◌, ◌∙◌, sym, ap, subst, arith}
use Rattle.std.proofs.lemmas.Grind.{common_steps}
use Rattle.wal.specs.Log.{last_of}
use Rattle.reorder.specs.Strands.{StrandsState, above_of, by_xid}
use Rattle.reorder.proofs.Tidying.{tidy_made}
use Rattle.reorder.proofs.Lookups.{assigned_same}
use Rattle.reorder.proofs.strands.Strands.assign.Goals as goal

pub returns-clause-assigned : goal.returns-clause-assigned
returns-clause-assigned c = rw (← c.self.view_is) (assigned_same c.self.inside.strands.entries c.insert.new.self.entries c.self.inside.members.entries c.add_member.new.members.entries c.self.inside.pool c.give_back.new.self c.args.sub c.args.parent c.last_or-top.result
    c.in_ok-above.above.items (subst (λ (s : StrandsState). c.in_ok-above.above.items ≡ c.args.parent ∷ above_of (by_xid s) c.args.parent) (sym c.self.view_is) c.in_ok-above.ensures)
    (c.last_or-top.ensures ∙ ap (last_of c.args.parent) c.as_slice.ensures.value) c.give_back.ensures.entries (λ x. grind (arith, common_steps, c.in_ok-insert.ensures.updates.0 x)) c.in_ok-add_member.ensures)

pub returns-clause-tidy : goal.returns-clause-tidy
returns-clause-tidy c = rw (← c.self.view_is)
    (tidy_made (record { strands = c.self.inside.strands.entries; members = c.self.inside.members.entries; pool = c.self.inside.pool }) (record { strands = c.insert.new.self.entries; members = c.add_member.new.members.entries; pool = c.give_back.new.self })
    c.args.sub (record { above = c.in_ok-above.above.items }) c.give_back.ensures.whole (λ x. grind (arith, common_steps, c.in_ok-insert.ensures.updates.0 x)) c.give_back.ensures.entries)

pub returns-clause-lent : goal.returns-clause-lent
returns-clause-lent c = rw (← c.self.view_is) c.give_back.ensures.lent
