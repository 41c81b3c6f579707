use Rattle.std.proofs.Common.{sym, ◌∙◌}
use Rattle.chgarena.proofs.Seeing.{length_seen}
use Rattle.chgarena.proofs.arena.Arena.chunks.Goals as goal

pub returns : goal.returns
returns c = c.chunks.ensures ∙ sym (length_seen c.self.inside.links c.self.inside.pages c.self.inside.before.items c.self.invariant c.args.self.now c.self.view_is)
