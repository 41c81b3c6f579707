use Rattle.std.proofs.Common.{rules}
use Rattle.std.proofs.lemmas.List.Sorted.{IsNonDecreasingBy-from_sort_by_key, answers_always}
use Rattle.reorder.specs.Spots.{SpotState}
use Rattle.reorder.proofs.Spotting.{sorted_own, sorted_there}
use Rattle.reorder.proofs.strands.Strands.spots.Goals as goal

pub returns-clause-rising : goal.returns-clause-rising
returns-clause-rising c = IsNonDecreasingBy-from_sort_by_key (λ (s : SpotState). s.position) _ c.in_ok-sort_by_key.ensures.sorted (λ a r q k. search rules)

pub returns-clause-same : goal.returns-clause-same
returns-clause-same c =
    let stable = c.in_ok-sort_by_key.ensures.stable (λ (s : SpotState). s.position) (answers_always _ _ _ (λ f a r q k. search rules)) in
    rw (← c.in_ok-spots.ensures) stable

pub returns-clause-there : goal.returns-clause-there
returns-clause-there c = sorted_there c.args.self.now c.args.top c.sort_by_key.new.self.items (rw (← c.in_ok-spots.ensures) c.in_ok-sort_by_key.ensures.permutation)

pub returns-clause-own : goal.returns-clause-own
returns-clause-own c = sorted_own c.args.self.now c.args.top c.sort_by_key.new.self.items (rw (← c.in_ok-spots.ensures) c.in_ok-sort_by_key.ensures.permutation)
