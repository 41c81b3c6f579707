use Rattle.std.proofs.Common.{◌≡◌, Some, sym, ap, ◌∙◌, subst}
use Rattle.chgarena.specs.Strands.{IsOf, arena_without}
use Rattle.chgarena.proofs.Seeing.{of_seen, released_strands}
use Rattle.chgarena.proofs.arena.Arena.give_back.Goals as goal

pub release-requires-clause-strand : goal.release-requires-clause-strand
release-requires-clause-strand c =
    let i = c.self.inside in
    let is : c.args.strand ≡ Some c.in-Some.head = cc in
    of_seen i.links i.pages i.before.items c.self.invariant c.args.self.now c.self.view_is c.in-Some.head (subst (λ s. IsOf c.args.self.now s) is c.requires)

pub returns-in-Some : goal.returns-in-Some
returns-in-Some c =
    let i = c.self.inside in
    let is : c.args.strand ≡ Some c.in-Some.head = cc in
    released_strands i.links i.pages i.before.items c.self.invariant c.args.self.now c.self.view_is c.in-Some.head (subst (λ s. IsOf c.args.self.now s) is c.requires) c.release.new.self c.release.ensures.links c.release.ensures.released ∙
    ap (λ s. arena_without c.args.self.now s) (sym is)
