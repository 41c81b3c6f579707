-- What is asked for a stream before it begins, one question after the other.
use Rattle.std.specs.Prelude.{◌≡◌, Bool, true, false, List, [], ◌∷◌, Option, Some, None, Result, Ok, Err}
use Rattle.publication_config.specs.declared.fault.PubFault.{PubFault}
use Rattle.walsender.specs.declared.beginning.ClaimFault.{ClaimFault}
use Rattle.walsender.specs.declared.beginning.StartFault.{StartFault}
use Rattle.walsender.specs.declared.beginning.StartFault.TheVariants as faults

-- each with its answer: whether there is one, or why not
pub data Question : Type 0 where
  FindsSlot : (there : Bool) → Question
  Judges : (refused : Option PubFault) → Question
  TakesReader : (taken : Bool) → Question
  Claims : (refused : Option ClaimFault) → Question

abbrev pub fault_of : {A E : Type 0} → Result A E → Option E
fault_of (Ok a) = None
fault_of (Err e) = Some e

-- The order of the refusals: what was asked of a stream that began, and of one that was refused so.
abbrev pub questions : {G : Type 0} → Result G StartFault → List Question
questions (Ok grant) = FindsSlot true ∷ Judges None ∷ TakesReader true ∷ Claims None ∷ []
questions (Err faults.NoSlot) = FindsSlot false ∷ []
questions (Err (faults.Publication fault)) = FindsSlot true ∷ Judges (Some fault) ∷ []
questions (Err faults.NoReader) = FindsSlot true ∷ Judges None ∷ TakesReader false ∷ []
questions (Err (faults.Claim fault)) = FindsSlot true ∷ Judges None ∷ TakesReader true ∷ Claims (Some fault) ∷ []

-- these were asked, one after the other
abbrev pub AreAsked : {D : Type 0} → (D → Question → D → Type 0) → D → List Question → D → Type 0
AreAsked told old [] new = new ≡ old
AreAsked {D} told old (question ∷ rest) new = (mid : D) × told old question mid × AreAsked told mid rest new

-- once the other questions were asked, this was granted
abbrev pub IsGranted : {D G : Type 0} → (D → Question → D → Type 0) → (D → G → Type 0) → D → G → Type 0
IsGranted {D} told granted old grant = (mid : D) × AreAsked told old (FindsSlot true ∷ Judges None ∷ TakesReader true ∷ []) mid × granted mid grant
