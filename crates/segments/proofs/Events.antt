-- What is told of a slot is read again.
use Rattle.std.proofs.Common.{◌≡◌, ℕ, Bool, true, false, List, [], ◌∷◌, ◌++◌, Option, Some, None, Result, Ok, Err, refl}
use Rattle.std.specs.Str.{is_utf8}
use Rattle.pqformat.specs.Fields.{string}
use Rattle.pqformat.proofs.Numbers.{number64, string_codec}
use Rattle.segments.specs.SlotEvents.{IsToldEvent, IsToldOwner, event_in, flag_of, named_in, owner_in, slot_in, spell_event, spell_flag, spell_owner, spell_slot, text_of}
use Rattle.segments.specs.declared.slot_events.kept_slot.KeptSlot.{KeptSlot}
use Rattle.segments.specs.declared.slot_events.slot_event.SlotEvent.{SlotEvent}
use Rattle.segments.specs.declared.slot_events.slot_event.SlotEvent.TheVariants.{Stands, Dropped}

unit : Unit {0}
unit = tt

text_again : (text : List ℕ) → is_utf8 text ≡ true → text_of text ≡ Ok text
text_again text is = rw (is) refl

flag_again : (flag : Bool) → flag_of (spell_flag flag) ≡ Ok flag
flag_again true = refl
flag_again false = refl

owner_again : (owner : Option (List ℕ)) → IsToldOwner owner → owner_in (spell_owner owner) ≡ Ok owner
owner_again None told = refl
owner_again (Some owner) told = rw (text_again owner told) refl

slot_again : (s : KeptSlot) → IsToldEvent (Stands s) → slot_in (spell_slot s) ≡ Ok s
slot_again s told =
    rw ((number64 unit).again s.confirmed (spell_flag s.is_lost ∷ (string s.name ++ spell_owner s.owner)) told.0, flag_again s.is_lost, (string_codec unit).again s.name (spell_owner s.owner) told.1, text_again s.name told.2, owner_again s.owner told.3) refl

pub event_again : (event : SlotEvent) → IsToldEvent event → event_in (spell_event event) ≡ Ok event
event_again (Stands slot) told = rw (slot_again slot told) refl
event_again (Dropped name) told = rw (text_again name told) refl
