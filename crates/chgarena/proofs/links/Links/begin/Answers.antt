use Rattle.std.proofs.Common.{◌≡◌, ℕ, ◌-◌, List, length, take, subst, arith, rules}
use Rattle.chgarena.specs.Books.{IsBooks}
use Rattle.chgarena.specs.Links.{IsPopped, books, books_with_strand}
use Rattle.chgarena.proofs.Adding.{begun_good}
use Rattle.chgarena.proofs.links.Links.begin.Goals as goal

pub returns-clause-links : goal.returns-clause-links
returns-clause-links c =
    let old = books c.args.self.now in
    let popped : IsPopped old c.in_ok-chunk.chunk = search rules in
    let rest : take (length old.free - 1) old.free ≡ c.pop.new.self.items = search rules in
    let P : List ℕ → Type 0 = λ xs. IsBooks (record (books_with_strand old c.in_ok-chunk.chunk) { free = xs }) in
    record {
      books = subst P rest (begun_good old c.requires.books c.in_ok-chunk.chunk popped);
      room = let e = c.pop.ensures.capacity in omega (arith, c.requires.room);
    }
