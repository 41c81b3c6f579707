-- A place that was dropped, or that a drop found otherwise.
use Rattle.std.proofs.Common.{ℕ, Result, Ok, Err}
use Rattle.std.specs.Prelude.{MatchResult}
use Rattle.slots.specs.Seats.{Did, IsRefusal}
use Rattle.slots.specs.declared.fault.SlotFault.{SlotFault}
use Rattle.slots.specs.declared.words_kept.step.SlotKind.TheVariants.{Retire}
use Rattle.slots.specs.declared.words_kept.step.SeatView.{SeatView}

pub dropped : {T : Type 0} (r : Result T SlotFault) (place : ℕ) (before after : SeatView) → MatchResult r (λ done. Did Retire place 1 2 before after) (λ fault. (found : ℕ) × IsRefusal fault found × Did Retire place found found before after)
    → (found left : ℕ) × Did Retire place found left before after
dropped (Ok done) place before after did = (1, 2, did)
dropped (Err fault) place before after (found, refusal, did) = (found, found, did)
