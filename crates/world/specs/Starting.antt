-- What a start is judged by, and one that isn't refused, with what its publications select.
use Rattle.std.specs.Prelude.{◌≡◌, ◌<◌, ℕ, not, Bool, List, [], ◌∷◌, ◌++◌, Option, Some, None, if◌then◌else◌}
use Rattle.publication.specs.Publications.{PublicationSet}
use Rattle.publication.specs.Choosing.{judgement_of_names}
use Rattle.slots.specs.declared.fault.SlotFault.TheVariants as slot_faults
use Rattle.walsender.specs.declared.beginning.ClaimFault.{ClaimFault}
use Rattle.walsender.specs.declared.beginning.ClaimFault.TheVariants as claims
use Rattle.walsender.specs.Beginning.{Question, FindsSlot, Judges, TakesReader, Claims, fault_of}
use Rattle.world.specs.declared.stepping.starting.StartFacts.{StartFacts}
use Rattle.world.specs.State.{WorldState, with_one_for}
use Rattle.slots.specs.Words.{is_held, is_missing, slot_named, slots_after_taking, start_from}
use Rattle.wal.specs.Restart.{restart}
use Rattle.world.specs.declared.printed.answer.Answer.{Answer}
use Rattle.world.specs.declared.printed.answer.Answer.TheVariants as answers
use Rattle.world.specs.Acting.{new_start}
use Rattle.world.specs.ConnectionLines.{IsKept}

-- ---- What it is judged by.

abbrev pub if_held : Bool → Option ClaimFault
if_held held = if held then Some (claims.Slot slot_faults.InUse) else None

abbrev pub IsAnswer : {L : Type 0} → Question → StartFacts L → Type 0
IsAnswer (FindsSlot there) f = there ≡ not (is_missing (slot_named f.slot.now) f.slots.now)
IsAnswer (Judges refused) f = refused ≡ fault_of (judgement_of_names f.publications.now f.names.now)
IsAnswer (TakesReader taken) f = taken ≡ f.has_reader
IsAnswer (Claims refused) f = refused ≡ if_held (is_held (slot_named f.slot.now) f.slots.now)

-- a question changes nothing
abbrev pub Told : {L : Type 0} → StartFacts L → Question → StartFacts L → Type 0
Told old question new = (new ≡ old) × IsAnswer question old

-- ---- What it leaves.

abbrev pub world_after_start_with : List ℕ → Option (List ℕ) → ℕ → PublicationSet → WorldState → WorldState
world_after_start_with connection slot position selection w = record w {
  slots = slots_after_taking slot w.slots;
  starts = w.starts ++ new_start connection selection (start_from slot position w.slots) (restart (start_from slot position w.slots) w.publisher.log) ∷ [];
  subscribers = with_one_for connection slot w.subscribers;
}

abbrev pub IsStartWith : List ℕ → Option (List ℕ) → ℕ → PublicationSet → WorldState → Answer → WorldState → Type 0
IsStartWith connection slot position selection old answers.Done new = IsKept slot position old × (new ≡ world_after_start_with connection slot position selection old)
IsStartWith connection slot position selection old answers.Removed new = (0 < old.publisher.given) × (new ≡ old)
IsStartWith connection slot position selection old answer new = ⊥
