use Rattle.std.proofs.Common.{◌≡◌, ℕ, false, List, [], Option, Some, None, get_or, length, sym, ap, ◌∙◌, arith}
use Rattle.std.specs.Prelude.{replicate}
use Rattle.std.proofs.lemmas.List.{get_or-replicate, length-replicate}
use Rattle.reorder.specs.Chunks.{IsWhole}
use Rattle.reorder.specs.Pool.{PoolState}
use Rattle.reorder.proofs.Steps.{nothing_taken}
use Rattle.reorder.proofs.reorder.Reorder.new.Goals as goal

no_some : (entries : List (List ℕ)) → Some entries ≡ None → ⊥
no_some entries is = absurd cc

-- no chunk of an empty arena begins a strand
none_begins : (p : PoolState) (count : ℕ) → p.arena ≡ replicate count None → IsWhole [] p
none_begins p count empty head low entries there =
    let size = ap length empty ∙ length-replicate count None in
    absurd (no_some entries (sym there ∙ ap (λ (arena : List (Option (List (List ℕ)))). get_or arena head None) empty ∙ get_or-replicate count head None None (omega (arith, low, size))))

pub returns-clause-untaken : goal.returns-clause-untaken
returns-clause-untaken c = nothing_taken c.new.result false c.new.ensures.strands c.new.ensures.members

pub returns-clause-tidy : goal.returns-clause-tidy
returns-clause-tidy c count empty =
    let arena = c.new.ensures.arena ∙ empty in
    record {
      chunks = ap length arena ∙ length-replicate count None;
      owned = none_begins c.new.result.pool count arena;
      only = λ x none. c.new.ensures.pool x;
    }
