-- What an entry tells of a slot: how it stands from then on, or that it was dropped. PostgreSQL keeps as much of each slot on its disk
-- (PostgreSQL 15, 54.19: pg_replication_slots).
use Rattle.std.specs.Prelude.{◌≡◌, ℕ, ◌<◌, ◌^◌, ◌==◌, Bool, true, false, List, [], ◌∷◌, ◌++◌, Option, Some, None, Result, Ok, Err, if◌then◌else◌}
use Rattle.std.specs.Int.{w64}
use Rattle.std.specs.Str.{is_utf8}
use Rattle.pqformat.specs.Fields.{byte_at, has_zero, int64, number_at, string, string_at}
use Rattle.pqformat.specs.Steps.{◌>>=◌}
use Rattle.segments.specs.Entries.{there}
use Rattle.segments.specs.declared.slot_events.kept_slot.KeptSlot.{KeptSlot}
use Rattle.segments.specs.declared.slot_events.slot_event.SlotEvent.{SlotEvent}
use Rattle.segments.specs.declared.slot_events.slot_event.SlotEvent.TheVariants.{Stands, Dropped}
use Rattle.segments.specs.declared.slot_events.writing.TheConstants.{SLOT_TAG, DROPPED_TAG, OWNED}

-- whether it was given up
abbrev pub spell_flag : Bool → ℕ
spell_flag true = 1
spell_flag false = 0

-- whose it is, if it is somebody's
abbrev pub spell_owner : Option (List ℕ) → List ℕ
spell_owner None = []
spell_owner (Some owner) = OWNED ∷ owner

abbrev pub spell_slot : KeptSlot → List ℕ
spell_slot s = int64 s.confirmed ++ (spell_flag s.is_lost ∷ (string s.name ++ spell_owner s.owner))

abbrev pub spell_event : SlotEvent → List ℕ
spell_event (Stands slot) = SLOT_TAG ∷ spell_slot slot
spell_event (Dropped name) = DROPPED_TAG ∷ name

-- its fields have room for it
abbrev pub IsToldOwner : Option (List ℕ) → Type 0
IsToldOwner None = Unit {0}
IsToldOwner (Some owner) = is_utf8 owner ≡ true

abbrev pub IsToldEvent : SlotEvent → Type 0
IsToldEvent (Stands slot) = (slot.confirmed < 2 ^ 64) × (has_zero slot.name ≡ false) × (is_utf8 slot.name ≡ true) × IsToldOwner slot.owner
IsToldEvent (Dropped name) = is_utf8 name ≡ true

-- READING

abbrev pub text_of : List ℕ → Result (List ℕ) (Unit {0})
text_of bytes = if is_utf8 bytes then Ok bytes else Err tt

abbrev pub flag_of : ℕ → Result Bool (Unit {0})
flag_of byte = if byte == 0 then Ok false else if byte == 1 then Ok true else Err tt

abbrev pub owner_in : List ℕ → Result (Option (List ℕ)) (Unit {0})
owner_in [] = Ok None
owner_in (mark ∷ bytes) = if mark == OWNED then (text_of bytes >>= λ owner. Ok (Some owner)) else Err tt

-- what follows its position and whether it was given up
abbrev pub named_in : ℕ → Bool → List ℕ → Result KeptSlot (Unit {0})
named_in confirmed is_lost bytes = there (string_at bytes) >>= λ name. text_of name.0 >>= λ text. owner_in name.1 >>= λ owner. Ok (record { name = text; owner = owner; confirmed = confirmed; is_lost = is_lost })

abbrev pub slot_in : List ℕ → Result KeptSlot (Unit {0})
slot_in bytes = there (number_at w64 bytes) >>= λ confirmed. there (byte_at confirmed.1) >>= λ flag. flag_of flag.0 >>= λ is_lost. named_in confirmed.0 is_lost flag.1

abbrev pub event_tagged : ℕ → List ℕ → Result SlotEvent (Unit {0})
event_tagged tag bytes =
    if tag == SLOT_TAG then (slot_in bytes >>= λ slot. Ok (Stands slot))
    else if tag == DROPPED_TAG then (text_of bytes >>= λ name. Ok (Dropped name))
    else Err tt

abbrev pub event_in : List ℕ → Result SlotEvent (Unit {0})
event_in bytes = there (byte_at bytes) >>= λ tag. event_tagged tag.0 tag.1
