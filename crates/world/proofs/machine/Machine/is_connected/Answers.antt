use Rattle.std.proofs.Common.{◌∙◌, ap}
use Rattle.std.specs.Prelude.{is_some}
use Rattle.world.proofs.Openings.{is_open_alike}
use Rattle.world.proofs.machine.Machine.is_connected.Goals as goal

pub returns : goal.returns
returns g c = c.is_some.ensures ∙ ap is_some (rw (c.as_slice.ensures.value, c.as_slice-2.ensures.value) at c.place_among.ensures) ∙ is_open_alike c.args.name.now _ c.args.self.now.opened.items c.requires.machine.found
