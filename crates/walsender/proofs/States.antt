-- What a sender is, by its parts.
use Rattle.std.proofs.Common.{◌≡◌, ℕ, Bool, List, ap, ◌∙◌}
use Rattle.publication.specs.Publications.{PublicationSet}
use Rattle.reorder.specs.Taking.{ReorderState}
use Rattle.walsender.specs.Lent.{LentTransaction}
use Rattle.walsender.specs.Sending.{SenderState}

abbrev pub state : PublicationSet → (start position : ℕ) → (failed : Bool) → (held relations_sent : List ℕ) → ReorderState → List LentTransaction → SenderState
state selection start position failed held relations_sent reorder lent =
    record { selection = selection; start = start; position = position; failed = failed; held = held; relations_sent = relations_sent; reorder = reorder; lent = lent }

pub same_state : (selection : PublicationSet) (start position : ℕ) (failed : Bool) (held held' sent sent' : List ℕ) (m m' : ReorderState) (lent lent' : List LentTransaction) → held ≡ held' → sent ≡ sent' → m ≡ m' → lent ≡ lent'
    → state selection start position failed held sent m lent ≡ state selection start position failed held' sent' m' lent'
same_state selection start position failed held held' sent sent' m m' lent lent' a b d e =
    ap (λ (l : List ℕ). state selection start position failed l sent m lent) a ∙ ap (λ (l : List ℕ). state selection start position failed held' l m lent) b
    ∙ ap (λ (n : ReorderState). state selection start position failed held' sent' n lent) d ∙ ap (λ (l : List LentTransaction). state selection start position failed held' sent' m' l) e
