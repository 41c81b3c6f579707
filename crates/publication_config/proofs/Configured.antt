-- What a reader of documents answers, told of a whole text.
use Rattle.std.proofs.Common.{◌≡◌, ℕ, List, Some, Result, Ok, Err, ap, ◌∙◌}
use Rattle.std.specs.Prelude.{option_map}
use Rattle.toml.specs.Data.{Data}
use Rattle.tables.specs.declared.table.Table.{Table}
use Rattle.catalog.specs.Config.{document_of}
use Rattle.publication_config.specs.declared.document.config_fault.ConfigRefusal.{ConfigRefusal}
use Rattle.publication_config.specs.declared.document.config_fault.ConfigRefusal.TheVariants as refusals
use Rattle.publication_config.specs.declared.fault.PubFault.{PubFault}
use Rattle.publication_config.specs.declared.fault.PubFault.TheVariants as faults
use Rattle.publication_config.specs.Config.{Configures, ReadsPublications, configured_by, fault_of, publications_in}
use Rattle.publication_config.specs.Published.{PublicationSet}

pub refused_so : (refusal : ConfigRefusal) (read : Result PublicationSet PubFault) → read ≡ Err (fault_of refusal) → ReadsPublications (Err (fault_of refusal)) read
refused_so (refusals.Misfit misfit) read is = is
refused_so (refusals.BadFilter place fault) read is = is
refused_so (refusals.NoIdentity place) read is = is
refused_so (refusals.ListWithoutIdentity place) read is = is
refused_so (refusals.FilterOutsideIdentity place) read is = is

told : (tables : List Table) (text : List ℕ) (d : Data) (read : Result PublicationSet PubFault) → document_of text ≡ Some d → publications_in tables d ≡ read → configured_by tables text ≡ Some read
told tables text d read document is = ap (option_map (publications_in tables)) document ∙ ap (λ (r : Result PublicationSet PubFault). Some r) is

pub configured : (tables : List Table) (text : List ℕ) (d : Data) (result : Result PublicationSet PubFault) → document_of text ≡ Some d → ReadsPublications result (publications_in tables d)
    → Configures result (configured_by tables text)
configured tables text d (Ok set) document reads = told tables text d (Ok set) document reads
configured tables text d (Err (faults.NotToml line)) document reads = absurd reads
configured tables text d (Err faults.Memory) document reads = tt
configured tables text d (Err faults.Unknown) document reads = told tables text d (Err faults.Unknown) document reads
configured tables text d (Err faults.ListConflict) document reads = told tables text d (Err faults.ListConflict) document reads
configured tables text d (Err (faults.FilterOutsideIdentity place)) document reads = told tables text d (Err (faults.FilterOutsideIdentity place)) document reads
configured tables text d (Err (faults.ListWithoutIdentity place)) document reads = told tables text d (Err (faults.ListWithoutIdentity place)) document reads
configured tables text d (Err (faults.NoIdentity place)) document reads = told tables text d (Err (faults.NoIdentity place)) document reads
configured tables text d (Err (faults.BadToml misfit)) document reads = told tables text d (Err (faults.BadToml misfit)) document reads
configured tables text d (Err (faults.BadFilter place fault)) document reads = told tables text d (Err (faults.BadFilter place fault)) document reads
