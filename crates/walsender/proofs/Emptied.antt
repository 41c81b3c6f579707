-- Where nothing is made any more and nothing waits, nothing is held but the front.
use Rattle.std.proofs.Common.{◌≡◌, ◌≤◌, ℕ, ◌-◌, List, [], ◌∷◌, ◌++◌, drop, length, reverse, take, refl, ap, ◌∙◌, append-nil, arith}
use Rattle.publication.specs.Publications.{PublicationSet}
use Rattle.reorder.specs.Taking.{ReorderState}
use Rattle.walsender.specs.Outgoing.{IsOutgoing, frames_left, held_behind, held_of}
use Rattle.walsender.specs.Waiting.{bytes_after}
use Rattle.walsender.specs.declared.held.outgoing.Outgoing.{Outgoing}

pub empty_is : {A : Type 0} (xs : List A) → length xs ≡ 0 → xs ≡ []
empty_is [] none = refl
empty_is (x ∷ xs) none = absurd (omega (arith, none))

pub none_held : (selection : PublicationSet) (s : ReorderState) (o : Outgoing) → IsOutgoing selection s o → o.to ≤ o.from → length o.made.items ≡ 0 → length o.waiting.items ≡ 0 → held_of selection s o ≡ o.front.items
none_held selection s o good over none last =
    let gone : o.to - o.from ≡ 0 = omega (arith, over) in
    let left : frames_left o ≡ [] = ap (λ (n : ℕ). take n (drop o.from o.frames.items)) gone in
    let behind : held_behind selection s o ≡ [] =
    ap (bytes_after selection s.strands.pool (reverse o.relations_sent.items) o.made.items) (empty_is o.waiting.items last) ∙ empty_is o.made.items none in
    ap (λ (l : List ℕ). o.front.items ++ (l ++ held_behind selection s o)) left ∙ ap (λ (l : List ℕ). o.front.items ++ l) behind ∙ append-nil o.front.items
