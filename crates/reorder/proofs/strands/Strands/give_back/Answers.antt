use Rattle.std.proofs.Common.{refl}
use Rattle.reorder.proofs.Tidying.{tidy_finished}
use Rattle.reorder.proofs.strands.Strands.give_back.Goals as goal

pub returns-clause-tidy : goal.returns-clause-tidy
returns-clause-tidy c =
    let whole = rw (c.into_parts-members.ensures.strands, c.as_slice.ensures, c.into_parts-members.ensures.xids) at c.take_back_all.ensures.whole in
    rw (← c.self.view_is)
    (tidy_finished (record { strands = c.self.inside.strands.entries; members = c.self.inside.members.entries; pool = c.self.inside.pool }) (record { strands = c.self.inside.strands.entries; members = c.self.inside.members.entries; pool = c.take_back_all.new.pool })
    c.args.ready c.take_back_all.ensures.chunks (whole c.requires.known) refl c.take_back_all.ensures.entries)

pub returns-clause-lent : goal.returns-clause-lent
returns-clause-lent c = rw (← c.self.view_is) (rw c.into_parts-members.ensures.strands at c.take_back_all.ensures.others)
