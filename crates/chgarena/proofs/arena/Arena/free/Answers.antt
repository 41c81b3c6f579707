use Rattle.std.proofs.Common.{ap, ◌+◌, ◌∙◌}
use Rattle.chgarena.specs.Strands.{fills}
use Rattle.chgarena.proofs.Seeing.{free_seen}
use Rattle.chgarena.proofs.arena.Arena.free.Goals as goal

pub returns : goal.returns
returns c = ap (λ n. n + fills c.args.self.now) c.free.ensures ∙ free_seen c.self.inside.links c.self.inside.pages c.self.inside.before.items c.self.invariant c.args.self.now c.self.view_is
