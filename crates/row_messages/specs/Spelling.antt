-- Messages that are written into a slice that has room.
use Rattle.std.specs.Prelude.{Option, Some, None, ◌≡◌, ℕ, ◌+◌, ◌<◌, ◌≤◌, ◌^◌, List, length, min, take}
use Rattle.pqformat.specs.Writing.{Writes}
use Rattle.pgoutput.specs.declared.logical.Logical.{Logical}
use Rattle.pgoutput.specs.Logical.{spell_logical}
use Rattle.row_messages.specs.declared.room.TheConstants.{MAX_ADDED_LENGTH, MAX_MESSAGE_LENGTH}

-- the message at the front of the slice, where there is one
abbrev pub IsWritten : Option ℕ → List ℕ → List ℕ → Option Logical → Type 0
IsWritten (Some end) old new (Some m) = Writes 0 end old new (spell_logical m)
IsWritten None old new None = length new ≡ length old
IsWritten _ old new _ = ⊥

-- what `put` answers of a body that spells a change
abbrev pub IsPut : Option ℕ → List ℕ → Option Logical → Type 0
IsPut (Some count) out (Some m) = (count ≤ length out) × (take count out ≡ spell_logical m)
IsPut None out None = Unit {0}
IsPut _ out _ = ⊥

-- what is room for the message of a change whose body has so many bytes
abbrev pub room_for : ℕ → ℕ
room_for size = min MAX_MESSAGE_LENGTH (size + MAX_ADDED_LENGTH)

-- such room, in a slice whose length fits a field
abbrev pub HasRoomFor : ℕ → List ℕ → Type 0
HasRoomFor size out = (room_for size ≤ length out) × (length out < 2 ^ 31)

-- room for any message of a change
abbrev pub HasRoom : List ℕ → Type 0
HasRoom out = (MAX_MESSAGE_LENGTH ≤ length out) × (length out < 2 ^ 31)
