use Rattle.std.proofs.Common.{◌≡◌, Some, sym, ap, ◌∙◌, subst}
use Rattle.chgarena.specs.Strands.{IsOf, entries_of}
use Rattle.chgarena.proofs.Seeing.{entries_seen, of_seen}
use Rattle.chgarena.proofs.arena.Arena.entries.Goals as goal

pub from-requires-clause-strand : goal.from-requires-clause-strand
from-requires-clause-strand c =
    let i = c.self.inside in
    let is : c.args.strand.now ≡ Some c.in-Some.head = cc in
    of_seen i.links i.pages i.before.items c.self.invariant c.args.self.now c.self.view_is c.in-Some.head (subst (λ s. IsOf c.args.self.now s) is c.requires)

pub returns-in-Some : goal.returns-in-Some
returns-in-Some c =
    let i = c.self.inside in
    let is : c.args.strand.now ≡ Some c.in-Some.head = cc in
    let same = entries_seen i.links i.pages i.before.items c.self.invariant c.args.self.now c.self.view_is c.in-Some.head (subst (λ s. IsOf c.args.self.now s) is c.requires) in
    c.from.ensures ∙ sym (ap (entries_of c.args.self.now) is ∙ same)
