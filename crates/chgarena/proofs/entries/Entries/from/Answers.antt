use Rattle.std.proofs.Common.{◌≡◌, ℕ, suc, ◌+◌, ap, ◌∙◌, subst, arith}
use Rattle.chgarena.specs.Books.{at}
use Rattle.chgarena.specs.Entries.{IsReading, from_on}
use Rattle.chgarena.specs.Links.{books}
use Rattle.chgarena.proofs.Going.{below_run, from_on_run}
use Rattle.chgarena.proofs.entries.Entries.from.Goals as goal

pub invariant_of-result : goal.invariant_of-result
invariant_of-result c =
    let b = books c.args.links.now in
    let h = c.args.head in
    let left : suc (at b.rank (at b.last h)) ≡ c.rank-left.result + 1 =
    let e : c.rank-left.result ≡ at b.rank (at b.last h) = c.rank-left.ensures ∙ ap (at b.rank) c.last.ensures in omega arith in
    let P : ℕ → Type 0 = λ k. IsReading c.args.links.now c.args.pages.now h k 0 in
    subst P left (record {
      links = c.requires.links;
      pages = c.requires.pages;
      chunks = below_run b h (at b.last h) 0 (at b.rank (at b.last h)) h (c.requires.links.books.strands h c.requires.strand.0 c.requires.strand.1);
      within = omega arith;
    })

pub returns : goal.returns
returns c =
    let b = books c.args.links.now in
    let h = c.args.head in
    let left : c.rank-left.result + 1 ≡ suc (at b.rank (at b.last h)) =
    let e : c.rank-left.result ≡ at b.rank (at b.last h) = c.rank-left.ensures ∙ ap (at b.rank) c.last.ensures in omega arith in
    ap (λ k. from_on b.next c.args.pages.now k h) left ∙ from_on_run b.next c.args.pages.now (at b.rank (at b.last h)) h
