use Rattle.std.proofs.Common.{◌≡◌, ℕ, ◌+◌, ◌-◌, List, length, set, take, ap, sym, ◌∙◌, subst, arith, rules}
use Rattle.std.proofs.lemmas.List.{get_or_default}
use Rattle.chgarena.specs.Books.{IsBooks, at}
use Rattle.chgarena.specs.Links.{IsPopped, books}
use Rattle.chgarena.proofs.Adding.{grown_good}
use Rattle.chgarena.proofs.links.Links.grow.Goals as goal

pub returns-clause-links : goal.returns-clause-links
returns-clause-links c =
    let old = books c.args.self.now in
    let chunk = c.in_ok-chunk.chunk in
    let popped : IsPopped old chunk = search rules in
    let rest : take (length old.free - 1) old.free ≡ c.pop.new.self.items = search rules in
    let good = c.requires.links.books in
    let last : c.index-last.result.now ≡ at old.last c.args.head = c.index-last.ensures ∙ get_or_default old.last c.args.head c.index-last.result.now 0 (omega (arith, good.lasts, c.requires.strand)) in
    let rank : c.index-rank.result.now ≡ at old.rank (at old.last c.args.head) =
    c.index-rank.ensures ∙ (get_or_default old.rank c.index-last.result.now c.index-rank.result.now 0 (omega (arith, good.ranks, c.requires.strand)) ∙ ap (at old.rank) last) in
    let P : ℕ → ℕ → List ℕ → Type 0 = λ l k xs.
    IsBooks (record old { owner = set old.owner chunk c.args.head; next = set old.next l chunk; rank = set old.rank chunk (k + 1); last = set old.last c.args.head chunk; free = xs }) in
    let grows = grown_good old good c.args.head chunk popped c.requires.strand.0 c.requires.strand.1 in
    let Q : ℕ → Type 0 = λ l. P l (at old.rank (at old.last c.args.head)) c.pop.new.self.items in
    let R : ℕ → Type 0 = λ k. P c.index-last.result.now k c.pop.new.self.items in
    let S : List ℕ → Type 0 = λ xs. P (at old.last c.args.head) (at old.rank (at old.last c.args.head)) xs in
    record {
      books = subst R (sym rank) (subst Q (sym last) (subst S rest grows));
      room = let e = c.pop.ensures.capacity in omega (arith, c.requires.links.room);
    }
