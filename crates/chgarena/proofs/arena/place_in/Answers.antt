use Rattle.std.proofs.Common.{rules, ◌≡◌, ℕ, ◌∙◌, sym, subst, arith}
use Rattle.chgarena.specs.Books.{IsHeld, chunks_of}
use Rattle.chgarena.specs.Links.{books}
use Rattle.chgarena.proofs.Counting.{found_near}
use Rattle.chgarena.proofs.arena.place_in.Goals as goal

pub returns-clause-entry : goal.returns-clause-entry
returns-clause-entry c =
    let b = books c.args.links.now in
    let P : ℕ → Type 0 = λ s. IsHeld b s c.args.chunk in
    let same : c.owner.result ≡ c.args.head = search rules in
    let held : IsHeld b c.args.head c.args.chunk =
    subst P (sym c.owner.ensures ∙ same)
    (c.requires.links.books.held c.args.chunk (omega (arith, c.chunks.ensures, c.if-chunk-chunks.false)) (omega (arith, c.owner.ensures, same, c.requires.strand))) in
    found_near c.args.pages.now c.args.before.now (chunks_of b c.args.head) c.args.chunk c.args.k c.requires.before.1 held.1 (omega (arith, c.if-first-k.false)) (omega (arith, c.count.ensures, c.if-k-first.false))
