use Rattle.std.proofs.Common.{ℕ, ◌-◌, ◌<◌, ◌≤◌, [], length, get_or, sym, subst, arith}
use Rattle.chgarena.specs.Books.{at, chunks_of}
use Rattle.chgarena.specs.Joined.{joined_entries}
use Rattle.chgarena.specs.Links.{books}
use Rattle.chgarena.proofs.Finding.{IsAt, at_first, chunk_low, is_here, is_later, step_down}
use Rattle.chgarena.proofs.arena.find.Goals as goal

pub loop-rest-init : goal.loop-rest-init
loop-rest-init c = at_first (books c.args.links.now) c.args.pages.now c.args.head c.args.k (c.requires.links.books.strands c.args.head c.requires.strand.0 c.requires.strand.1) c.requires.entry

pub count-requires : goal.count-requires
count-requires c =
    let b = books c.args.links.now in
    let low = chunk_low b c.args.pages.now c.args.head (at b.last c.args.head) c.loop-rest.chunk c.loop-rest.rest (get_or (joined_entries c.args.pages.now (chunks_of b c.args.head)) c.args.k []) c.loop-rest.invariant in
    omega (arith, c.requires.pages)

pub count-rest-requires : goal.count-rest-requires
count-rest-requires c =
    let b = books c.args.links.now in
    let low = chunk_low b c.args.pages.now c.args.head (at b.last c.args.head) c.loop-rest.chunk c.loop-rest.rest (get_or (joined_entries c.args.pages.now (chunks_of b c.args.head)) c.args.k []) c.loop-rest.invariant in
    omega (arith, c.requires.pages)

pub next-chunk-requires : goal.next-chunk-requires
next-chunk-requires c =
    let b = books c.args.links.now in
    (c.requires.links, chunk_low b c.args.pages.now c.args.head (at b.last c.args.head) c.loop-rest.chunk c.loop-rest.rest (get_or (joined_entries c.args.pages.now (chunks_of b c.args.head)) c.args.k []) c.loop-rest.invariant)

pub loop-rest-smaller : goal.loop-rest-smaller
loop-rest-smaller c =
    let b = books c.args.links.now in
    let more : length (get_or c.args.pages.now c.loop-rest.chunk []) ≤ c.loop-rest.rest = omega (arith, c.count.ensures, c.loop-rest-test.true) in
    let P : ℕ → Type 0 = λ k. at b.rank (at b.last c.args.head) - at b.rank k < at b.rank (at b.last c.args.head) - at b.rank c.loop-rest.chunk in
    subst P (sym c.next-chunk.ensures)
    (step_down b c.args.pages.now c.args.head (at b.last c.args.head) c.loop-rest.chunk c.loop-rest.rest (get_or (joined_entries c.args.pages.now (chunks_of b c.args.head)) c.args.k []) c.loop-rest.invariant more)

pub loop-rest-preserved : goal.loop-rest-preserved
loop-rest-preserved c =
    let b = books c.args.links.now in
    let entry = get_or (joined_entries c.args.pages.now (chunks_of b c.args.head)) c.args.k [] in
    let more : length (get_or c.args.pages.now c.loop-rest.chunk []) ≤ c.loop-rest.rest = omega (arith, c.count.ensures, c.loop-rest-test.true) in
    let P : ℕ → ℕ → Type 0 = λ k n. IsAt b c.args.pages.now c.args.head (at b.last c.args.head) k (c.loop-rest.rest - n) entry in
    let Q : ℕ → Type 0 = λ k. P k c.count-rest.result in
    let R : ℕ → Type 0 = λ n. P (at b.next c.loop-rest.chunk) n in
    subst Q (sym c.next-chunk.ensures) (subst R (sym c.count-rest.ensures)
    (is_later b c.args.pages.now c.args.head (at b.last c.args.head) c.loop-rest.chunk c.loop-rest.rest entry c.loop-rest.invariant more))

pub returns-clause-entry : goal.returns-clause-entry
returns-clause-entry c =
    let b = books c.args.links.now in
    let less : c.loop-rest.rest < length (get_or c.args.pages.now c.loop-rest.chunk []) = omega (arith, c.count.ensures, c.loop-rest-test.false) in
    is_here b c.args.pages.now c.args.head (at b.last c.args.head) c.loop-rest.chunk c.loop-rest.rest (get_or (joined_entries c.args.pages.now (chunks_of b c.args.head)) c.args.k []) c.loop-rest.invariant less
