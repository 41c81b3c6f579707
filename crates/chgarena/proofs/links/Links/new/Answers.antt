use Rattle.std.proofs.Common.{◌≡◌, ℕ, List, ◌∷◌, [], ◌++◌, length, replicate, ap, sym, ◌∙◌, arith, rules}
use Rattle.std.specs.List.{range_with_len}
use Rattle.std.proofs.lemmas.List.FromFn.{length-range_with_len}
use Rattle.chgarena.specs.Books.{IsBooks}
use Rattle.chgarena.proofs.Releasing.{fresh_good, range_more}
use Rattle.chgarena.proofs.links.Links.new.Goals as goal

pub push_reserved-requires : goal.push_reserved-requires
push_reserved-requires c =
    let n : length c.loop-chunk.free.items ≡ c.loop-chunk.chunk = ap length c.loop-chunk.invariant.items ∙ length-range_with_len 0 c.loop-chunk.chunk in
    omega (arith, c.loop-chunk.free.ok, c.loop-chunk.invariant.room, c.loop-chunk-test.true)

pub loop-chunk-preserved : goal.loop-chunk-preserved
loop-chunk-preserved c = record {
  items = c.push_reserved.ensures.items ∙ (ap (λ xs. xs ++ c.loop-chunk.chunk ∷ []) c.loop-chunk.invariant.items ∙ sym (range_more c.loop-chunk.chunk));
  room = c.push_reserved.ensures.capacity ∙ c.loop-chunk.invariant.room;
}

pub returns-clause-links : goal.returns-clause-links
returns-clause-links c =
    let n = c.args.chunks in
    let end : c.loop-chunk.chunk ≡ n = omega (arith, c.loop-chunk-test.false, c.loop-chunk.auto) in
    let owner : c.in_ok-from_elem.field-0.items ≡ replicate n n = search rules in
    let next : c.in_ok-from_elem-2.field-0.items ≡ replicate n n = search rules in
    let rank : c.in_ok-from_elem-3.field-0.items ≡ replicate n 0 = search rules in
    let last : c.in_ok-from_elem-4.field-0.items ≡ replicate n n = search rules in
    let free : c.loop-chunk.free.items ≡ range_with_len 0 n = c.loop-chunk.invariant.items ∙ ap (range_with_len 0) end in
    let P : List ℕ → List ℕ → List ℕ → List ℕ → List ℕ → Type 0 = λ o x r l f. IsBooks (record { chunks = n; owner = o; next = x; rank = r; last = l; free = f }) in
    record {
      books = rw (owner, next, rank, last, free) (fresh_good n);
      room = omega (arith, c.loop-chunk.invariant.room);
    }
