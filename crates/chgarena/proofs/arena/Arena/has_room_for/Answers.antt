use Rattle.std.proofs.Common.{◌≡◌, ℕ, ◌+◌, ◌<◌, ◌≤◌, Some, Bool, true, false, [], get_or, refl, sym, ap, ◌∙◌, subst, arith}
use Rattle.std.specs.Prelude.{List, nat_le}
use Rattle.std.proofs.lemmas.Bool.{leb-false, leb-true}
use Rattle.chgarena.specs.Books.{at}
use Rattle.chgarena.specs.Pages.{bytes_taken}
use Rattle.chgarena.specs.Strands.{IsOf, entries_of, has_room}
use Rattle.chgarena.proofs.Seeing.{no_room_is, of_seen, room_is}
use Rattle.chgarena.proofs.arena.Arena.has_room_for.Goals as goal

pub last-requires : goal.last-requires
last-requires c =
    let i = c.self.inside in
    let is : c.args.strand.now ≡ Some c.in-Some.head = cc in
    (c.self.invariant.links, (of_seen i.links i.pages i.before.items c.self.invariant c.args.self.now c.self.view_is c.in-Some.head (subst (λ s. IsOf c.args.self.now s) is c.requires.of)).0)

pub left-left-requires : goal.left-left-requires
left-left-requires c =
    let i = c.self.inside in
    let is : c.args.strand.now ≡ Some c.in-Some.head = cc in
    let has = of_seen i.links i.pages i.before.items c.self.invariant c.args.self.now c.self.view_is c.in-Some.head (subst (λ s. IsOf c.args.self.now s) is c.requires.of) in
    omega (arith, has, c.last.ensures, c.self.invariant.pages)

-- of the last chunk so many bytes are taken, and so many left
taken : (ps : List (List (List ℕ))) (last l left : ℕ) → last ≡ l → left + bytes_taken (get_or ps last []) ≡ 16384 → left + bytes_taken (get_or ps l []) ≡ 16384
taken ps last l left e sum = ap (λ k. left + bytes_taken (get_or ps k [])) (sym e) ∙ sum

by_test : (b room : Bool) (size left used : ℕ) → nat_le (size + 4) left ≡ b → left + used ≡ 16384 → (used + (size + 4) ≤ 16384 → room ≡ true) → (16384 < used + (size + 4) → room ≡ false) → b ≡ room
by_test true room size left used is sum below above = let fits : size + 4 ≤ left = leb-true (size + 4) left is in sym (below (omega arith))
by_test false room size left used is sum below above = let over : left < size + 4 = leb-false (size + 4) left is in sym (above (omega arith))

pub returns-in-Some : goal.returns-in-Some
returns-in-Some c =
    let i = c.self.inside in
    let h = c.in-Some.head in
    let n = c.args.length in
    let is : c.args.strand.now ≡ Some h = cc in
    let of = subst (λ s. IsOf c.args.self.now s) is c.requires.of in
    by_test (nat_le (n + 4) c.left-left.result) (has_room (entries_of c.args.self.now (Some h)) n) n c.left-left.result (bytes_taken (get_or i.pages (at i.links.last.items h) [])) refl
    (taken i.pages c.last.result (at i.links.last.items h) c.left-left.result c.last.ensures c.left-left.ensures)
    (room_is i.links i.pages i.before.items c.self.invariant c.args.self.now c.self.view_is h n of) (no_room_is i.links i.pages i.before.items c.self.invariant c.args.self.now c.self.view_is h n of)
    ∙ ap (λ s. has_room (entries_of c.args.self.now s) n) (sym is)
