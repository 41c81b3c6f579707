-- The names of slots, each with its place: which refusal a CREATE_REPLICATION_SLOT or DROP_REPLICATION_SLOT gets
-- (PostgreSQL 15, 55.4; 42710, 42704, 55006, 53400 and 53200 of appendix A).
use Rattle.std.specs.Prelude.{◌≡◌, ℕ, ◌<◌, ◌≢◌, ◌⊎◌, List, Option, Some, None, IsSome}
use Rattle.std.specs.Option.{ForSome}
use Rattle.slots.specs.Directories.{place_of}
use Rattle.slots.specs.Seats.{Did, IsRefusal, Made}
use Rattle.slots.specs.declared.by_name.directory.Directory.{Directory}
use Rattle.slots.specs.declared.fault.SlotFault.{SlotFault}
use Rattle.slots.specs.declared.fault.SlotFault.TheVariants.{Exists, Missing, NoPlace, Memory}
use Rattle.slots.specs.declared.words_kept.step.SlotKind.TheVariants.{Create, Retire}
use Rattle.slots.specs.declared.words_kept.step.SeatView.{SeatView}
use Rattle.slots.specs.declared.table.TheConstants.{END_OF_PLACES}

-- every name has a place of the table
abbrev pub AreInTable : Directory → Type 0
AreInTable names = (name : List ℕ) → ForSome (place_of names name) (λ place. place < END_OF_PLACES)

-- a place was made for a name that memory was refused for, and a drop of it was tried
abbrev pub IsMadeAndDropped : (position : ℕ) → (old new : SeatView) → Type 0
IsMadeAndDropped position old new =
    (place found left : ℕ) × (made : SeatView) × Made old position place made × Did Retire place found left made new

-- no slot was made, for want of a place: as many slots are there as may be; or the place for it was found taken
abbrev pub IsWithoutPlace : (old new : SeatView) → Type 0
IsWithoutPlace old new = (new ≡ old) ⊎ ((place found : ℕ) × (found ≢ 0) × Did Create place found found old new)

-- why a name, which has this place or none, gets no new slot: it is there; or it is free, and no place was left for it, or memory was
-- refused
abbrev pub IsNoNewSlot : SlotFault → Option ℕ → (position : ℕ) → (old new : SeatView) → Type 0
IsNoNewSlot Exists place position old new = IsSome place × (new ≡ old)
IsNoNewSlot NoPlace place position old new = (place ≡ None) × IsWithoutPlace old new
IsNoNewSlot Memory place position old new = (place ≡ None) × IsMadeAndDropped position old new
IsNoNewSlot _ place position old new = ⊥

-- why the slot of a name, which has this place or none, isn't dropped: there is none; or its place was found in use, or gone
abbrev pub IsNoDrop : SlotFault → Option ℕ → (old new : SeatView) → Type 0
IsNoDrop fault None old new = (fault ≡ Missing) × (new ≡ old)
IsNoDrop fault (Some place) old new = (found : ℕ) × IsRefusal fault found × Did Retire place found found old new
