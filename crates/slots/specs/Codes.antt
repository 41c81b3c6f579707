-- The codes of refusals.
use Rattle.std.specs.Prelude.{ℕ, codes, List}
use Rattle.slots.specs.declared.fault.SlotFault.{SlotFault}
use Rattle.slots.specs.declared.fault.SlotFault.TheVariants.{Missing, InUse, Exists, NoPlace, Memory}

abbrev pub slot_code : SlotFault → List ℕ
slot_code Missing = codes "L1"
slot_code InUse = codes "L2"
slot_code Exists = codes "L3"
slot_code NoPlace = codes "L4"
slot_code Memory = codes "L5"
