use Rattle.std.proofs.Common.{◌≡◌, ℕ, ◌<◌, Some, List, [], length, get_or, sym, ap, ◌∙◌, subst}
use Rattle.chgarena.specs.Books.{chunks_of}
use Rattle.chgarena.specs.Joined.{AreCounted}
use Rattle.chgarena.specs.Links.{books}
use Rattle.chgarena.specs.Strands.{IsOf, entries_of}
use Rattle.chgarena.proofs.Seeing.{entries_seen, of_seen}
use Rattle.chgarena.proofs.arena.Arena.entry_near.Goals as goal

pub find_near-chunk-requires-clause-strand : goal.find_near-chunk-requires-clause-strand
find_near-chunk-requires-clause-strand c =
    let i = c.self.inside in
    let is : c.args.strand.now ≡ Some c.in-Some.head = cc in
    of_seen i.links i.pages i.before.items c.self.invariant c.args.self.now c.self.view_is c.in-Some.head (subst (λ s. IsOf c.args.self.now s) is c.requires.of)

pub find_near-chunk-requires-clause-entry : goal.find_near-chunk-requires-clause-entry
find_near-chunk-requires-clause-entry c =
    let i = c.self.inside in
    let is : c.args.strand.now ≡ Some c.in-Some.head = cc in
    let same = entries_seen i.links i.pages i.before.items c.self.invariant c.args.self.now c.self.view_is c.in-Some.head (subst (λ s. IsOf c.args.self.now s) is c.requires.of) in
    subst (λ es. c.args.k < length es) (ap (entries_of c.args.self.now) is ∙ same) c.requires.entry

pub returns : goal.returns
returns c =
    let i = c.self.inside in
    let is : c.args.strand.now ≡ Some c.in-Some.head = cc in
    let same = entries_seen i.links i.pages i.before.items c.self.invariant c.args.self.now c.self.view_is c.in-Some.head (subst (λ s. IsOf c.args.self.now s) is c.requires.of) in
    c.entry.ensures ∙ (c.find_near-chunk.ensures.entry ∙ ap (λ es. get_or es c.args.k []) (sym (ap (entries_of c.args.self.now) is ∙ same)))

pub find_near-chunk-requires-clause-before : goal.find_near-chunk-requires-clause-before
find_near-chunk-requires-clause-before c =
    let i = c.self.inside in
    let is : c.args.strand.now ≡ Some c.in-Some.head = cc in
    let has = of_seen i.links i.pages i.before.items c.self.invariant c.args.self.now c.self.view_is c.in-Some.head (subst (λ s. IsOf c.args.self.now s) is c.requires.of) in
    let P : List ℕ → Type 0 = λ ns. (length ns ≡ i.links.chunks) × AreCounted i.pages ns 0 (chunks_of (books i.links) c.in-Some.head) in
    subst P (sym c.deref.ensures.value) (c.self.invariant.befores, c.self.invariant.counted c.in-Some.head has.0 has.1)
