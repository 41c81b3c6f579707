-- The leases of the slots that are held, each where its place is.
use Rattle.std.specs.Prelude.{◌≡◌, ℕ, true, false, List, Option, Some, None, slice_get}
use Rattle.slots.specs.State.{SlotsState, holds_at}

-- a place has a lease, of that place, exactly where it is held
abbrev pub IsLeasedAs : SlotsState → ℕ → Option ℕ → Type 0
IsLeasedAs s place None = holds_at place s ≡ false
IsLeasedAs s place (Some leased) = (leased ≡ place) × (holds_at place s ≡ true)

abbrev pub AreLeases : SlotsState → List (Option ℕ) → Type 0
AreLeases s leased = (place : ℕ) (lease : Option ℕ) → slice_get leased place ≡ Some lease → IsLeasedAs s place lease
