use Rattle.std.proofs.Common.{None, Some}
use Rattle.chgarena.proofs.Seeing.{first_arena, first_says, same_arena}
use Rattle.chgarena.proofs.arena.Arena.begin.Goals as goal

pub invariant_of-self : goal.invariant_of-self
invariant_of-self c =
    same_arena c.self.inside.links c.self.inside.pages c.self.inside.before.items c.self.invariant c.args.self.now c.self.view_is
    c.push_first.new.links c.push_first.ensures.links c.push_first.new.pages c.in_err-chunk.ensures.done.0 c.in_err-chunk.ensures.done.1

pub invariant_of-self-2 : goal.invariant_of-self-2
invariant_of-self-2 c =
    first_arena c.self.inside.links c.self.inside.pages c.self.inside.before.items c.self.invariant c.args.self.now c.self.view_is c.args.entry.now c.requires
    c.push_first.new.links c.push_first.ensures.links c.push_first.new.pages c.in_ok-chunk.chunk c.in_ok-chunk.ensures.done

pub returns-in_err-chunk : goal.returns-in_err-chunk
returns-in_err-chunk c =
    rw c.from_residual.ensures (first_says c.self.inside.links c.self.inside.pages c.self.inside.before.items c.self.invariant c.args.self.now c.self.view_is c.args.entry.now c.requires
    c.push_first.new.links c.push_first.ensures.links c.push_first.new.pages None c.in_err-chunk.ensures.done)

pub returns : goal.returns
returns c =
    first_says c.self.inside.links c.self.inside.pages c.self.inside.before.items c.self.invariant c.args.self.now c.self.view_is c.args.entry.now c.requires
    c.push_first.new.links c.push_first.ensures.links c.push_first.new.pages (Some c.in_ok-chunk.chunk) c.in_ok-chunk.ensures.done
