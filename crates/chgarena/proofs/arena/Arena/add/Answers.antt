use Rattle.std.proofs.Common.{◌≡◌, ℕ, ◌+◌, ◌<◌, ◌≤◌, None, Some, List, [], ◌++◌, ◌∷◌, length, get_or, set, ap, ◌∙◌, arith}
use Rattle.std.proofs.lemmas.List.{get_or_default}
use Rattle.chgarena.specs.Books.{at}
use Rattle.chgarena.specs.Pages.{bytes_taken}
use Rattle.chgarena.proofs.Seeing.{added_arena, added_says, after_arena, after_says, few_before, of_seen, same_arena}
use Rattle.chgarena.proofs.arena.Arena.add.Goals as goal

pub last-last-requires : goal.last-last-requires
last-last-requires c = (c.self.invariant.links, (of_seen c.self.inside.links c.self.inside.pages c.self.inside.before.items c.self.invariant c.args.self.now c.self.view_is c.args.head c.requires.of).0)

pub left-requires : goal.left-requires
left-requires c =
    let has = of_seen c.self.inside.links c.self.inside.pages c.self.inside.before.items c.self.invariant c.args.self.now c.self.view_is c.args.head c.requires.of in
    omega (arith, has, c.last-last.ensures, c.self.invariant.pages)

pub append-requires-clause-chunk : goal.append-requires-clause-chunk
append-requires-clause-chunk c =
    let has = of_seen c.self.inside.links c.self.inside.pages c.self.inside.before.items c.self.invariant c.args.self.now c.self.view_is c.args.head c.requires.of in
    omega (arith, has, c.last-last.ensures, c.self.invariant.pages)

pub push_after-requires-clause-strand : goal.push_after-requires-clause-strand
push_after-requires-clause-strand c = of_seen c.self.inside.links c.self.inside.pages c.self.inside.before.items c.self.invariant c.args.self.now c.self.view_is c.args.head c.requires.of

-- what is left of the last chunk
used : (ps : List (List (List ℕ))) (last l left size : ℕ) → last ≡ l → left + bytes_taken (get_or ps last []) ≡ 16384 → size ≤ left → bytes_taken (get_or ps l []) + size ≤ 16384
used ps last l left size e sum fits = let same : bytes_taken (get_or ps last []) ≡ bytes_taken (get_or ps l []) = ap (λ k. bytes_taken (get_or ps k [])) e in omega arith

over : (ps : List (List (List ℕ))) (last l left size : ℕ) → last ≡ l → left + bytes_taken (get_or ps last []) ≡ 16384 → left < size → 16384 < bytes_taken (get_or ps l []) + size
over ps last l left size e sum more = let same : bytes_taken (get_or ps last []) ≡ bytes_taken (get_or ps l []) = ap (λ k. bytes_taken (get_or ps k [])) e in omega arith

pub invariant_of-self : goal.invariant_of-self
invariant_of-self c =
    let i = c.self.inside in
    let h = c.args.head in
    let e = c.args.entry.now in
    added_arena i.links i.pages i.before.items c.self.invariant c.args.self.now c.self.view_is h c.requires.of e
    (used i.pages c.last-last.result (at i.links.last.items h) c.left.result (length e + 4) c.last-last.ensures c.left.ensures c.if-left-entry.true)
    c.append.new.self (c.append.ensures ∙ ap (λ l. set i.pages l (get_or i.pages l [] ++ e ∷ [])) c.last-last.ensures)

pub returns-then-left-entry : goal.returns-then-left-entry
returns-then-left-entry c =
    let i = c.self.inside in
    let h = c.args.head in
    let e = c.args.entry.now in
    added_says i.links i.pages i.before.items c.self.invariant c.args.self.now c.self.view_is h c.requires.of e
    (used i.pages c.last-last.result (at i.links.last.items h) c.left.result (length e + 4) c.last-last.ensures c.left.ensures c.if-left-entry.true)
    c.append.new.self (c.append.ensures ∙ ap (λ l. set i.pages l (get_or i.pages l [] ++ e ∷ [])) c.last-last.ensures)

-- the entries before the next chunk
before : (ns : List ℕ) (ps : List (List (List ℕ))) (last l was count : ℕ) → last ≡ l → was ≡ at ns last → count ≡ length (get_or ps last []) → was + count ≡ at ns l + length (get_or ps l [])
before ns ps last l was count e is is' = let sum : was + count ≡ at ns last + length (get_or ps last []) = omega arith in sum ∙ ap (λ k. at ns k + length (get_or ps k [])) e

pub overflow_add-before : goal.overflow_add-before
overflow_add-before c =
    let i = c.self.inside in
    let few = few_before i.links i.pages i.before.items c.self.invariant c.args.self.now c.self.view_is c.args.head c.requires.of in
    let has = of_seen i.links i.pages i.before.items c.self.invariant c.args.self.now c.self.view_is c.args.head c.requires.of in
    let was : c.index.result.now ≡ at i.before.items c.last-last.result =
    c.index.ensures ∙ get_or_default i.before.items c.last-last.result c.index.result.now 0 (omega (arith, has, c.last-last.ensures, c.self.invariant.befores)) in
    let sum = before i.before.items i.pages c.last-last.result (at i.links.last.items c.args.head) c.index.result.now c.count.result c.last-last.ensures was c.count.ensures in
    record { fits = omega arith }

pub invariant_of-self-in-Some : goal.invariant_of-self-in-Some
invariant_of-self-in-Some c =
    let i = c.self.inside in
    let h = c.args.head in
    let e = c.args.entry.now in
    let has = of_seen i.links i.pages i.before.items c.self.invariant c.args.self.now c.self.view_is h c.requires.of in
    let was : c.index.result.now ≡ at i.before.items c.last-last.result =
    c.index.ensures ∙ get_or_default i.before.items c.last-last.result c.index.result.now 0 (omega (arith, has, c.last-last.ensures, c.self.invariant.befores)) in
    after_arena i.links i.pages i.before.items c.self.invariant c.args.self.now c.self.view_is h c.requires.of e c.requires.fits
    (over i.pages c.last-last.result (at i.links.last.items h) c.left.result (length e + 4) c.last-last.ensures c.left.ensures c.if-left-entry.false)
    c.push_after.new.links c.in-Some.ensures.links c.push_after.new.pages c.in-Some.chunk (c.index.result.now + c.count.result) c.in-Some.ensures.done
    (before i.before.items i.pages c.last-last.result (at i.links.last.items h) c.index.result.now c.count.result c.last-last.ensures was c.count.ensures)

pub invariant_of-self-in-None : goal.invariant_of-self-in-None
invariant_of-self-in-None c =
    let i = c.self.inside in
    same_arena i.links i.pages i.before.items c.self.invariant c.args.self.now c.self.view_is
    c.push_after.new.links c.in-None.ensures.links c.push_after.new.pages c.in-None.ensures.done.0 c.in-None.ensures.done.1

pub returns-in-Some : goal.returns-in-Some
returns-in-Some c =
    let i = c.self.inside in
    let h = c.args.head in
    let e = c.args.entry.now in
    after_says i.links i.pages i.before.items c.self.invariant c.args.self.now c.self.view_is h c.requires.of e c.requires.fits
    (over i.pages c.last-last.result (at i.links.last.items h) c.left.result (length e + 4) c.last-last.ensures c.left.ensures c.if-left-entry.false)
    c.push_after.new.links c.in-Some.ensures.links c.push_after.new.pages (Some c.in-Some.chunk) c.in-Some.ensures.done

pub returns-in-None : goal.returns-in-None
returns-in-None c =
    let i = c.self.inside in
    let h = c.args.head in
    let e = c.args.entry.now in
    after_says i.links i.pages i.before.items c.self.invariant c.args.self.now c.self.view_is h c.requires.of e c.requires.fits
    (over i.pages c.last-last.result (at i.links.last.items h) c.left.result (length e + 4) c.last-last.ensures c.left.ensures c.if-left-entry.false)
    c.push_after.new.links c.in-None.ensures.links c.push_after.new.pages None c.in-None.ensures.done
