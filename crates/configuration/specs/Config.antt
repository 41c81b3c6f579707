-- What a TOML text names as a configuration: its tables, the publications over them, and the server. The tables are judged first, then
-- the publications, then the names of the text's members, then the members of the server; the first that is wrong is told.
use Rattle.std.specs.Prelude.{◌≡◌, ℕ, ℤ, pos, negsuc, ◌≤◌, nat_le, Bool, true, false, ◌&&◌, ◌||◌, not, if◌then◌else◌, List, length, codes, Option, Some, None, option_map, ok_or, Result, Ok, Err}
use Rattle.std.specs.Str.{bytes_eq}
use Rattle.toml.specs.Data.{Data, Members, no_members, member, get, as_str, as_integer, as_table}
use Rattle.pqformat.specs.Steps.{◌>>=◌}
use Rattle.tables.specs.declared.table.Table.{Table}
use Rattle.catalog.specs.declared.config_fault.CatalogMisfit.{CatalogMisfit}
use Rattle.catalog.specs.declared.config_fault.CatalogFault.TheVariants as catalog_faults
use Rattle.catalog.specs.Config.{and_then, told_member, tables_in, document_of}
use Rattle.txlog.specs.declared.limits.TheConstants.{MAX_RECORDS}
use Rattle.publication_config.specs.declared.fault.PubFault.{PubFault}
use Rattle.publication_config.specs.declared.fault.PubFault.TheVariants as pubs
use Rattle.publication.specs.Publications.{PublicationSet}
use Rattle.publication_config.specs.Config.{publications_in}
use Rattle.configuration.specs.declared.server.TheConstants.{MAX_CHUNKS, MAX_SYSTEMID}
use Rattle.configuration.specs.declared.server.Server.{Server}
use Rattle.configuration.specs.declared.server.UnreadServer.{UnreadServer}
use Rattle.configuration.specs.declared.server.UnreadServer.TheVariants as unread
use Rattle.configuration.specs.declared.config_fault.ServerMisfit.{ServerMisfit}
use Rattle.configuration.specs.declared.config_fault.ServerMisfit.TheVariants as misfits
use Rattle.configuration.specs.declared.config_fault.ConfigFault.{ConfigFault}
use Rattle.configuration.specs.declared.config_fault.ConfigFault.TheVariants as faults
use Rattle.configuration.specs.Setting.{Setting}

-- a whole number from 1 to the greatest
abbrev pub counted_to : ℕ → ℤ → Option ℕ
counted_to most (pos n) = if nat_le 1 n && nat_le n most then Some n else None
counted_to most (negsuc n) = None

unfoldable pub number_in : ℕ → Data → Option ℕ
number_in most d = and_then (as_integer d) (counted_to most)

abbrev pub of_length_to : ℕ → List ℕ → Option (List ℕ)
of_length_to most text = if nat_le (length text) most then Some text else None

-- a text of at most so many bytes
unfoldable pub text_in : ℕ → Data → Option (List ℕ)
text_in most d = and_then (as_str d) (of_length_to most)

-- some member has another name than these
abbrev pub has_another : (List ℕ → Bool) → Members → Bool
has_another is_known no_members = false
has_another is_known (member name d others) = not (is_known name) || has_another is_known others

abbrev pub has_another_in : (List ℕ → Bool) → Option Members → Bool
has_another_in is_known None = false
has_another_in is_known (Some others) = has_another is_known others

-- the members that a text may have
abbrev pub is_part : List ℕ → Bool
is_part name = bytes_eq name (codes "table") || (bytes_eq name (codes "publication") || bytes_eq name (codes "server"))

-- the members that a server has
abbrev pub is_of_server : List ℕ → Bool
is_of_server name = bytes_eq name (codes "systemid") || (bytes_eq name (codes "records") || bytes_eq name (codes "chunks"))

unfoldable pub server_in : Data → Result Server ServerMisfit
server_in d = do
  systemid ← told_member misfits.Systemid (codes "systemid") (text_in MAX_SYSTEMID) d
  records ← told_member misfits.Records (codes "records") (number_in MAX_RECORDS) d
  chunks ← told_member misfits.Chunks (codes "chunks") (number_in MAX_CHUNKS) d
  if has_another_in is_of_server (as_table d) then Err misfits.Other
      else Ok (record { systemid = systemid; records = records; chunks = chunks })

-- the server of a text, which has no members but tables, publications and a server
unfoldable pub server_of : Data → Result Server ServerMisfit
server_of d = if has_another_in is_part (as_table d) then Err misfits.AnotherPart else ok_or (get (codes "server") d) misfits.NoServer >>= server_in

-- what reading a server answers, memory apart
abbrev pub ReadsServer : Result Server UnreadServer → Result Server ServerMisfit → Type 0
ReadsServer (Ok server) read = read ≡ Ok server
ReadsServer (Err (unread.Wrong misfit)) read = read ≡ Err misfit
ReadsServer (Err unread.Memory) read = Unit {0}

-- why no server was read, as a fault of the configuration
abbrev pub unread_fault : UnreadServer → ConfigFault
unread_fault (unread.Wrong misfit) = faults.BadServer misfit
unread_fault unread.Memory = faults.Memory

-- the numbers are within their limits
pub record IsServer (server : Server) : Type 0 where
  pub some_records : 1 ≤ server.records
  pub records : server.records ≤ MAX_RECORDS
  pub some_chunks : 1 ≤ server.chunks
  pub chunks : server.chunks ≤ MAX_CHUNKS

abbrev pub with_server : List Table → PublicationSet → Result Server ServerMisfit → Result Setting ConfigFault
with_server tables publications (Ok server) = Ok (record { tables = tables; publications = publications; server = server })
with_server tables publications (Err misfit) = Err (faults.BadServer misfit)

abbrev pub with_publications : List Table → Result PublicationSet PubFault → Result Server ServerMisfit → Result Setting ConfigFault
with_publications tables (Ok publications) server = with_server tables publications server
with_publications tables (Err fault) server = Err (faults.Publications fault)

-- the tables first, then the publications over them, then the server
abbrev pub setting_with : Data → Result (List Table) CatalogMisfit → Result Setting ConfigFault
setting_with d (Ok tables) = with_publications tables (publications_in tables d) (server_of d)
setting_with d (Err misfit) = Err (faults.Catalog (catalog_faults.BadTables misfit))

abbrev pub setting_in : Data → Result Setting ConfigFault
setting_in d = setting_with d (tables_in d)

-- the configuration that a text names; None where it is no TOML
abbrev pub named_by : List ℕ → Option (Result Setting ConfigFault)
named_by text = option_map setting_in (document_of text)

-- What reading the setting of a document answers, memory apart.
abbrev pub ReadsSetting : Result Setting ConfigFault → Result Setting ConfigFault → Type 0
ReadsSetting (Ok setting) read = read ≡ Ok setting
ReadsSetting (Err (faults.Catalog (catalog_faults.NotToml line))) read = ⊥
ReadsSetting (Err (faults.Catalog (catalog_faults.BadTables misfit))) read = read ≡ Err (faults.Catalog (catalog_faults.BadTables misfit))
ReadsSetting (Err (faults.Catalog catalog_faults.Memory)) read = Unit {0}
ReadsSetting (Err (faults.Publications (pubs.NotToml line))) read = ⊥
ReadsSetting (Err (faults.Publications pubs.Memory)) read = Unit {0}
ReadsSetting (Err (faults.Publications fault)) read = read ≡ Err (faults.Publications fault)
ReadsSetting (Err (faults.BadServer misfit)) read = read ≡ Err (faults.BadServer misfit)
ReadsSetting (Err faults.Memory) read = Unit {0}

-- What a reader answers is what the text names, memory apart. Which line of a text that is no TOML is at fault isn't told here.
abbrev pub Names : Result Setting ConfigFault → Option (Result Setting ConfigFault) → Type 0
Names (Ok setting) named = named ≡ Some (Ok setting)
Names (Err (faults.Catalog (catalog_faults.NotToml line))) named = named ≡ None
Names (Err (faults.Catalog (catalog_faults.BadTables misfit))) named = named ≡ Some (Err (faults.Catalog (catalog_faults.BadTables misfit)))
Names (Err (faults.Catalog catalog_faults.Memory)) named = Unit {0}
Names (Err (faults.Publications (pubs.NotToml line))) named = ⊥
Names (Err (faults.Publications pubs.Memory)) named = Unit {0}
Names (Err (faults.Publications fault)) named = named ≡ Some (Err (faults.Publications fault))
Names (Err (faults.BadServer misfit)) named = named ≡ Some (Err (faults.BadServer misfit))
Names (Err faults.Memory) named = Unit {0}

-- memory ran out, which is no fault of the text
abbrev pub is_memory : ConfigFault → Bool
is_memory (faults.Catalog catalog_faults.Memory) = true
is_memory (faults.Publications pubs.Memory) = true
is_memory faults.Memory = true
is_memory fault = false
