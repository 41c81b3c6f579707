use Rattle.std.proofs.Common.{ap, ◌∙◌}
use Rattle.slots.specs.Words.{confirmed_in}
use Rattle.slots.proofs.Listing.{confirmed-named}
use Rattle.slots.proofs.by_name.held.HeldSlots.confirmed.Goals as goal

pub returns : goal.returns
returns g c = c.confirmed_in.ensures ∙ ap (confirmed_in c.args.name.now) c.slots.ensures ∙ confirmed-named c.args.name.now c.args.self.now.slots
