use Rattle.std.proofs.Common.{◌≡◌, ℕ, ◌+◌, Some, List, [], length, get_or, sym, ap, ◌∙◌, subst, arith}
use Rattle.std.proofs.lemmas.List.{get_or_default}
use Rattle.chgarena.specs.Books.{at}
use Rattle.chgarena.specs.Strands.{IsOf, entries_of}
use Rattle.chgarena.proofs.Seeing.{count_seen, few_before, of_seen}
use Rattle.chgarena.proofs.arena.Arena.count.Goals as goal

pub last-last-requires : goal.last-last-requires
last-last-requires c =
    let i = c.self.inside in
    let is : c.args.strand.now ≡ Some c.in-Some.head = cc in
    (c.self.invariant.links, (of_seen i.links i.pages i.before.items c.self.invariant c.args.self.now c.self.view_is c.in-Some.head (subst (λ s. IsOf c.args.self.now s) is c.requires)).0)

-- the entries before the last chunk, and its own
sum_is : (ns : List ℕ) (ps : List (List (List ℕ))) (last l was count : ℕ) → last ≡ l → was ≡ at ns last → count ≡ length (get_or ps last []) → was + count ≡ at ns l + length (get_or ps l [])
sum_is ns ps last l was count e is is' = let sum : was + count ≡ at ns last + length (get_or ps last []) = omega arith in sum ∙ ap (λ k. at ns k + length (get_or ps k [])) e

pub overflow_add-result : goal.overflow_add-result
overflow_add-result c =
    let i = c.self.inside in
    let is : c.args.strand.now ≡ Some c.in-Some.head = cc in
    let of = subst (λ s. IsOf c.args.self.now s) is c.requires in
    let has = of_seen i.links i.pages i.before.items c.self.invariant c.args.self.now c.self.view_is c.in-Some.head of in
    let few = few_before i.links i.pages i.before.items c.self.invariant c.args.self.now c.self.view_is c.in-Some.head of in
    let was : c.index.result.now ≡ at i.before.items c.last-last.result =
    c.index.ensures ∙ get_or_default i.before.items c.last-last.result c.index.result.now 0 (omega (arith, has, c.last-last.ensures, c.self.invariant.befores)) in
    let sum = sum_is i.before.items i.pages c.last-last.result (at i.links.last.items c.in-Some.head) c.index.result.now c.count.result c.last-last.ensures was c.count.ensures in
    record { fits = omega arith }

pub returns-in-Some : goal.returns-in-Some
returns-in-Some c =
    let i = c.self.inside in
    let is : c.args.strand.now ≡ Some c.in-Some.head = cc in
    let of = subst (λ s. IsOf c.args.self.now s) is c.requires in
    let has = of_seen i.links i.pages i.before.items c.self.invariant c.args.self.now c.self.view_is c.in-Some.head of in
    let was : c.index.result.now ≡ at i.before.items c.last-last.result =
    c.index.ensures ∙ get_or_default i.before.items c.last-last.result c.index.result.now 0 (omega (arith, has, c.last-last.ensures, c.self.invariant.befores)) in
    sum_is i.before.items i.pages c.last-last.result (at i.links.last.items c.in-Some.head) c.index.result.now c.count.result c.last-last.ensures was c.count.ensures
    ∙ count_seen i.links i.pages i.before.items c.self.invariant c.args.self.now c.self.view_is c.in-Some.head of
    ∙ ap (λ s. length (entries_of c.args.self.now s)) (sym is)

pub index-requires : goal.index-requires
index-requires c =
    let i = c.self.inside in
    let is : c.args.strand.now ≡ Some c.in-Some.head = cc in
    let has = of_seen i.links i.pages i.before.items c.self.invariant c.args.self.now c.self.view_is c.in-Some.head (subst (λ s. IsOf c.args.self.now s) is c.requires) in
    omega (arith, has, c.last-last.ensures, c.self.invariant.befores)

pub count-requires : goal.count-requires
count-requires c =
    let i = c.self.inside in
    let is : c.args.strand.now ≡ Some c.in-Some.head = cc in
    let has = of_seen i.links i.pages i.before.items c.self.invariant c.args.self.now c.self.view_is c.in-Some.head (subst (λ s. IsOf c.args.self.now s) is c.requires) in
    omega (arith, has, c.last-last.ensures, c.self.invariant.pages)
