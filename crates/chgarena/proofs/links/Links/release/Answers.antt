use Rattle.std.proofs.Common.{◌≡◌, ℕ, ◌+◌, ◌-◌, ◌<◌, List, refl, ap, sym, ◌∙◌, subst, arith}
use Rattle.std.proofs.lemmas.List.{get_or_default}
use Rattle.chgarena.specs.Books.{at}
use Rattle.chgarena.specs.Links.{books}
use Rattle.chgarena.proofs.Releasing.{IsReleasing, begun_releasing, ended, freed, freed_releasing, own_first}
use Rattle.chgarena.proofs.links.Links.release.Goals as goal

pub loop-left-init : goal.loop-left-init
loop-left-init c =
    let old = books c.args.self.now in
    let good = c.requires.links.books in
    let last : c.index.result.now ≡ at old.last c.args.head = c.index.ensures ∙ get_or_default old.last c.args.head c.index.result.now 0 (omega (arith, good.lasts, c.requires.strand)) in
    let rank : c.index-2.result.now ≡ at old.rank (at old.last c.args.head) =
    c.index-2.ensures ∙ (get_or_default old.rank c.index.result.now c.index-2.result.now 0 (omega (arith, good.ranks, c.requires.strand)) ∙ ap (at old.rank) last) in
    let P : ℕ → Type 0 = λ k. IsReleasing (ended old good c.args.head c.requires.strand.0 c.requires.strand.1) c.args.head (at old.last c.args.head) (k + 1) c.args.head in
    record {
      going = subst P (sym rank) (begun_releasing old good c.args.head c.requires.strand.0 c.requires.strand.1);
      same = (refl, refl, refl, refl);
      room = c.requires.links.room;
    }

pub index_mut-requires-in-loop-left : goal.index_mut-requires-in-loop-left
index_mut-requires-in-loop-left c =
    let now = books c.loop-left.self in
    let i = c.loop-left.invariant in
    let first = own_first now c.args.head (at c.args.self.now.last.items c.args.head) c.loop-left.left c.loop-left.chunk i.going (omega (arith, c.requires.strand, i.same)) c.loop-left-test.true in
    omega (arith, first, i.going.owners, c.loop-left.self.owner.ok)

pub index-chunk-requires : goal.index-chunk-requires
index-chunk-requires c =
    let now = books c.loop-left.self in
    let i = c.loop-left.invariant in
    let first = own_first now c.args.head (at c.args.self.now.last.items c.args.head) c.loop-left.left c.loop-left.chunk i.going (omega (arith, c.requires.strand, i.same)) c.loop-left-test.true in
    omega (arith, first, i.going.nexts, c.loop-left.self.next.ok)

pub loop-left-preserved : goal.loop-left-preserved
loop-left-preserved c =
    let now = books c.loop-left.self in
    let i = c.loop-left.invariant in
    let h = c.args.head in
    let l = at c.args.self.now.last.items h in
    let left = c.loop-left.left in
    let chunk = c.loop-left.chunk in
    let low : h < now.chunks = omega (arith, c.requires.strand, i.same) in
    let more = c.loop-left-test.true in
    let first = own_first now h l left chunk i.going low more in
    let next : c.index-chunk.result.now ≡ at now.next chunk = c.index-chunk.ensures ∙ get_or_default now.next chunk c.index-chunk.result.now 0 (omega (arith, first, i.going.nexts)) in
    let P : ℕ → List ℕ → Type 0 = λ d xs. IsReleasing (record (freed now h l left chunk i.going low more) { free = xs }) h l (left - 1) d in
    let Q : ℕ → Type 0 = λ d. P d c.push_reserved.new.self.items in
    let R : List ℕ → Type 0 = λ xs. P (at now.next chunk) xs in
    record {
      going = subst Q (sym next) (subst R (sym c.push_reserved.ensures.items) (freed_releasing now h l left chunk i.going low more));
      same = i.same;
      room = omega (arith, i.room, c.push_reserved.ensures.capacity);
    }
