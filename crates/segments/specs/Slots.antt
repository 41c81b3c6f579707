-- The slots that entries leave, by their names.
use Rattle.std.specs.Prelude.{◌≡◌, ℕ, cond, List, Option, Some, None}
use Rattle.std.specs.Str.{bytes_eq}
use Rattle.std.specs.BTreeMap.{get_by_text}
use Rattle.segments.specs.declared.slot_events.kept_slot.KeptSlot.{KeptSlot}
use Rattle.segments.specs.declared.slot_events.slot_event.SlotEvent.{SlotEvent}
use Rattle.segments.specs.declared.slot_events.slot_event.SlotEvent.TheVariants.{Stands, Dropped}
use Rattle.segments.specs.declared.slot_events.slots_in_log.SlotsInLog.{SlotsInLog}

abbrev pub slot_named : List ℕ → SlotsInLog → Option KeptSlot
slot_named name slots = get_by_text slots.slots name

-- the slot of that name stands so, or there is none, and all others stand as they did
abbrev pub SetsSlot : List ℕ → Option KeptSlot → SlotsInLog → SlotsInLog → Type 0
SetsSlot name slot old new = (other : List ℕ) → slot_named other new ≡ cond (bytes_eq name other) slot (slot_named other old)

abbrev pub Follows : SlotEvent → SlotsInLog → SlotsInLog → Type 0
Follows (Stands slot) old new = SetsSlot slot.name (Some slot) old new
Follows (Dropped name) old new = SetsSlot name None old new
