-- What a backend answers where slots or publications refused.
use Rattle.server.specs.declared.backend_fault.BackendFault.{BackendFault}
use Rattle.server.specs.declared.backend_fault.BackendFault.TheVariants as backends
use Rattle.slots.specs.declared.fault.SlotFault.{SlotFault}
use Rattle.slots.specs.declared.fault.SlotFault.TheVariants as slots
use Rattle.publication_config.specs.declared.fault.PubFault.{PubFault}
use Rattle.publication_config.specs.declared.fault.PubFault.TheVariants as publications

abbrev pub of_slot : SlotFault → BackendFault
of_slot slots.Missing = backends.SlotMissing
of_slot slots.InUse = backends.SlotInUse
of_slot slots.Exists = backends.SlotExists
of_slot slots.NoPlace = backends.NoSlotPlace
of_slot slots.Memory = backends.Memory

-- of what `select` refuses
abbrev pub of_publications : PubFault → BackendFault
of_publications publications.Unknown = backends.UnknownPublication
of_publications publications.ListConflict = backends.ListConflict
of_publications _ = backends.Memory
