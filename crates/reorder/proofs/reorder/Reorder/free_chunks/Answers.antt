use Rattle.std.proofs.Common.{◌≡◌, ℕ, ◌+◌, length, ap, sym, subst, ◌∙◌, arith}
use Rattle.chgarena.specs.Strands.{fills}
use Rattle.reorder.specs.Taking.{ReorderState}
use Rattle.reorder.specs.Pool.{HoldEntries, IsPool}
use Rattle.reorder.specs.Chunks.{live_chunks}
use Rattle.reorder.specs.Settled.{after_giving_all_back, lent_chunks}
use Rattle.reorder.proofs.Counting.{chunks_taken}
use Rattle.reorder.proofs.Filling.{chunks_beside, settled_length}
use Rattle.reorder.proofs.reorder.Reorder.free_chunks.Goals as goal

pub returns-clause-exact : goal.returns-clause-exact
returns-clause-exact c = λ rs count taken tidy.
    ap (λ n. c.free.result + n) (sym (chunks_taken c.args.self.now.strands rs count
    (subst (λ (s : ReorderState). IsPool s.strands.pool.arena s.strands.pool.strands) c.self.view_is c.free.ensures.pool)
    (subst (λ (s : ReorderState). HoldEntries s.strands.pool.arena s.strands.pool.strands) c.self.view_is c.free.ensures.hold) taken.ready.strands tidy))
    ∙ subst (λ (s : ReorderState). c.free.result + fills s.strands.pool.arena ≡ length s.strands.pool.arena) c.self.view_is c.free.ensures.free ∙ tidy.chunks

pub returns-clause-exact_beside : goal.returns-clause-exact_beside
returns-clause-exact_beside c = λ rs ws count taken are tidy.
    let free : c.free.result + fills c.args.self.now.strands.pool.arena ≡ length c.args.self.now.strands.pool.arena =
    subst (λ (s : ReorderState). c.free.result + fills s.strands.pool.arena ≡ length s.strands.pool.arena) c.self.view_is c.free.ensures.free in
    let shared : live_chunks rs + lent_chunks c.args.self.now ws ≡ fills c.args.self.now.strands.pool.arena = chunks_beside c.args.self.now rs ws count
    (subst (λ (s : ReorderState). IsPool s.strands.pool.arena s.strands.pool.strands) c.self.view_is c.free.ensures.pool)
    (subst (λ (s : ReorderState). HoldEntries s.strands.pool.arena s.strands.pool.strands) c.self.view_is c.free.ensures.hold) taken.ready.strands are tidy in
    let size : length (after_giving_all_back c.args.self.now ws).strands.pool.arena ≡ count = tidy.chunks in
    let same : length (after_giving_all_back c.args.self.now ws).strands.pool.arena ≡ length c.args.self.now.strands.pool.arena = settled_length c.args.self.now ws in
    sums c.free.result (live_chunks rs) (lent_chunks c.args.self.now ws) _ _ count free shared (sym same ∙ size)
  where
    sums : (free live lent full all count : ℕ) → free + full ≡ all → live + lent ≡ full → all ≡ count → (free + live) + lent ≡ count
    sums free live lent full all count one two three = omega arith
