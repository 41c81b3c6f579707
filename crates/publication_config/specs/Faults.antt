-- The codes of the faults of publications.
use Rattle.std.specs.Prelude.{ℕ, List, codes}
use Rattle.publication_config.specs.declared.fault.PubFault.{PubFault}
use Rattle.publication_config.specs.declared.fault.PubFault.TheVariants as faults

abbrev pub publication_code_of : PubFault → List ℕ
publication_code_of faults.Unknown = codes "P1"
publication_code_of faults.ListConflict = codes "P2"
publication_code_of (faults.FilterOutsideIdentity place) = codes "P3"
publication_code_of (faults.ListWithoutIdentity place) = codes "P4"
publication_code_of (faults.NoIdentity place) = codes "P5"
publication_code_of (faults.NotToml line) = codes "P6"
publication_code_of (faults.BadToml misfit) = codes "P6"
publication_code_of faults.Memory = codes "P7"
publication_code_of (faults.BadFilter place fault) = codes "P8"
