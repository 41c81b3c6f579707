-- What an ErrorResponse says of each cause (PostgreSQL 15, appendix A): the code, and the text.
use Rattle.std.specs.Prelude.{◌≡◌, ℕ, List, [], ◌∷◌, ◌++◌, length, nat_le, Option, Some, None, codes, if◌then◌else◌}
use Rattle.replcmd.specs.Position.{position_text}
use Rattle.server.specs.declared.asked.naming.TheConstants.{MOST_NAME_BYTES}
use Rattle.replcmd.specs.declared.fault.CmdFault.{CmdFault}
use Rattle.replcmd.specs.declared.fault.CmdFault.TheVariants as commands
use Rattle.replcmd.specs.declared.fault.OptionFault.{OptionFault}
use Rattle.replcmd.specs.declared.fault.OptionFault.TheVariants as options
use Rattle.replcmd.specs.declared.fault.Unserved.TheVariants as unserved
use Rattle.replcmd.specs.Unrecognized.{Unrecognized}
use Rattle.server.specs.declared.backend_fault.BackendFault.{BackendFault}
use Rattle.server.specs.declared.backend_fault.StartAhead.{StartAhead}
use Rattle.server.specs.declared.backend_fault.BackendFault.TheVariants as backends
use Rattle.server.specs.declared.refusal.Refusal.{Refusal}
use Rattle.server.specs.declared.refusal.Refusal.TheVariants.{Violation, Version, NoReplication, InitialCopy, NoTransaction, NotFirst, ExportInBlock, StartInBlock, BlockFailed, UnknownParameter, ExtendedQuery, FunctionCall, Command, Question, Asked}

abbrev pub command_code : CmdFault → List ℕ
command_code commands.Syntax = codes "42601"
command_code commands.BadName = codes "42602"
command_code commands.BadPosition = codes "42601"
command_code commands.Unsupported = codes "0A000"
command_code (commands.BadOption options.OtherVersion) = codes "0A000"
command_code (commands.BadOption fault) = codes "22023"
command_code commands.Memory = codes "53200"

-- what is wrong with an option, in PostgreSQL's words where it has some
abbrev pub option_text : OptionFault → List ℕ
option_text options.Unrecognized = codes "unrecognized pgoutput option"
option_text options.Version = codes "invalid proto_version: only 1 is served"
option_text options.OtherVersion = codes "proto_version not supported: only 1, 2 and 3 are"
option_text options.PublicationNames = codes "invalid publication_names syntax"
option_text options.Messages = codes "messages requires a Boolean value"
option_text (options.NotServed unserved.Binary) = codes "binary is not served"
option_text (options.NotServed unserved.Streaming) = codes "streaming is not served"
option_text (options.NotServed unserved.TwoPhase) = codes "two_phase is not served"
option_text (options.NoTruth unserved.Binary) = codes "binary requires a Boolean value"
option_text (options.NoTruth unserved.Streaming) = codes "streaming requires a Boolean value"
option_text (options.NoTruth unserved.TwoPhase) = codes "two_phase requires a Boolean value"
option_text options.Redundant = codes "conflicting or redundant options"
option_text options.VersionMissing = codes "proto_version parameter missing"
option_text options.PublicationNamesMissing = codes "publication_names parameter missing"

abbrev pub command_text : CmdFault → List ℕ
command_text commands.Syntax = codes "syntax error"
command_text commands.BadName = codes "bad slot name"
command_text commands.BadPosition = codes "bad position"
command_text commands.Unsupported = codes "not supported"
command_text (commands.BadOption fault) = option_text fault
command_text commands.Memory = codes "out of memory"

abbrev pub backend_code : BackendFault → List ℕ
backend_code backends.SlotMissing = codes "42704"
backend_code backends.SlotInUse = codes "55006"
backend_code backends.SlotExists = codes "42710"
backend_code backends.NoSlotPlace = codes "53400"
backend_code backends.UnknownPublication = codes "42704"
backend_code backends.ListConflict = codes "0A000"
backend_code backends.NoReader = codes "53400"
backend_code (backends.StartAhead ahead) = codes "55000"
backend_code backends.SlotLost = codes "55000"
backend_code backends.NotOwner = codes "42501"
backend_code backends.NotGranted = codes "42501"
backend_code backends.NoCopies = codes "0A000"
backend_code backends.UnknownTable = codes "42P01"
backend_code backends.UnknownColumn = codes "42703"
backend_code backends.UnknownFilter = codes "42601"
backend_code backends.NotKept = codes "58030"
backend_code backends.Memory = codes "53200"

abbrev pub backend_text : BackendFault → List ℕ
backend_text backends.SlotMissing = codes "slot does not exist"
backend_text backends.SlotInUse = codes "slot is in use"
backend_text backends.SlotExists = codes "slot already exists"
backend_text backends.NoSlotPlace = codes "no slot place is left"
backend_text backends.UnknownPublication = codes "publication does not exist"
backend_text backends.ListConflict = codes "different column lists"
backend_text backends.NoReader = codes "too many senders"
backend_text (backends.StartAhead ahead) = codes "start is ahead of what the slot has sent"
backend_text backends.SlotLost = codes "can no longer get changes from replication slot"
backend_text backends.NotOwner = codes "must be owner of replication slot"
backend_text backends.NotGranted = codes "permission denied for publication"
backend_text backends.NoCopies = codes "initial copies are not served: use WITH (copy_data = false)"
backend_text backends.UnknownTable = codes "relation does not exist"
backend_text backends.UnknownColumn = codes "column does not exist"
backend_text backends.UnknownFilter = codes "invalid row filter"
backend_text backends.NotKept = codes "could not write to the log's disk"
backend_text backends.Memory = codes "out of memory"

abbrev pub refusal_code : Refusal → List ℕ
refusal_code Violation = codes "08P01"
refusal_code Version = codes "0A000"
refusal_code NoReplication = codes "0A000"
refusal_code InitialCopy = codes "0A000"
refusal_code NoTransaction = codes "XX000"
refusal_code NotFirst = codes "XX000"
refusal_code ExportInBlock = codes "XX000"
refusal_code StartInBlock = codes "25001"
refusal_code BlockFailed = codes "25P02"
refusal_code UnknownParameter = codes "42704"
refusal_code ExtendedQuery = codes "08P01"
refusal_code FunctionCall = codes "08P01"
refusal_code (Command fault) = command_code fault
refusal_code (Question fault) = command_code fault
refusal_code (Asked fault) = backend_code fault

abbrev pub refusal_text : Refusal → List ℕ
refusal_text Violation = codes "protocol violation"
refusal_text Version = codes "unsupported protocol version"
refusal_text NoReplication = codes "only replication=database is served"
refusal_text InitialCopy = codes "initial copies are not served: use WITH (copy_data = false)"
refusal_text NoTransaction = codes "CREATE_REPLICATION_SLOT ... (SNAPSHOT 'use') must be called inside a transaction"
refusal_text NotFirst = codes "CREATE_REPLICATION_SLOT ... (SNAPSHOT 'use') must be called before any query"
refusal_text ExportInBlock = codes "a slot's snapshot must not be exported inside a transaction"
refusal_text StartInBlock = codes "START_REPLICATION cannot run inside a transaction block"
refusal_text BlockFailed = codes "current transaction is aborted, commands ignored until its end"
refusal_text UnknownParameter = codes "unrecognized configuration parameter"
refusal_text ExtendedQuery = codes "extended query protocol not supported: only simple queries are served"
refusal_text FunctionCall = codes "function calls not supported: only simple queries are served"
refusal_text (Command fault) = command_text fault
refusal_text (Question fault) = codes "not answered without --answer-postgresql"
refusal_text (Asked fault) = backend_text fault

-- an option that isn't known is named; a name that is too long for one isn't repeated
abbrev pub unrecognized_text : Option (List ℕ) → List ℕ
unrecognized_text None = option_text options.Unrecognized
unrecognized_text (Some name) = if nat_le (length name) MOST_NAME_BYTES then codes "unrecognized pgoutput option: " ++ name else option_text options.Unrecognized

-- a parameter that isn't known is named
abbrev pub parameter_text : List ℕ → List ℕ
parameter_text name = codes "unrecognized configuration parameter \"" ++ name ++ codes "\""

-- the text by which a query is refused
abbrev pub TellsRefusal : Refusal → List ℕ → List ℕ → Type 0
TellsRefusal (Command (commands.BadOption options.Unrecognized)) query text = (name : Option (List ℕ)) × Unrecognized query name × (text ≡ unrecognized_text name)
TellsRefusal refusal query text = text ≡ refusal_text refusal

-- what is at fault, named as PostgreSQL 15 names it
abbrev pub named_slot : List ℕ → List ℕ → List ℕ
named_slot slot state = codes "replication slot \"" ++ slot ++ codes "\" " ++ state

-- where a stream would start, and what its slot has sent: positions begin anew with the publisher
abbrev pub ahead_text : StartAhead → List ℕ
ahead_text ahead = codes "start " ++ position_text ahead.start ++ codes " is ahead of " ++ position_text ahead.reached ++ codes ", all that its slot has sent: the publisher began anew"

-- a slot that was given up
abbrev pub lost_text : List ℕ → List ℕ
lost_text slot = codes "can no longer get changes from replication slot \"" ++ slot ++ codes "\""

-- a slot that another user made
abbrev pub owner_text : List ℕ → List ℕ
owner_text slot = codes "must be owner of replication slot \"" ++ slot ++ codes "\""

abbrev pub named_publication : List ℕ → List ℕ
named_publication name = codes "publication \"" ++ name ++ codes "\" does not exist"

abbrev pub state_text : BackendFault → List ℕ → List ℕ
state_text backends.SlotMissing slot = named_slot slot (codes "does not exist")
state_text backends.SlotInUse slot = named_slot slot (codes "is active")
state_text backends.SlotExists slot = named_slot slot (codes "already exists")
state_text (backends.StartAhead ahead) slot = ahead_text ahead
state_text backends.SlotLost slot = lost_text slot
state_text backends.NotOwner slot = owner_text slot
state_text fault slot = backend_text fault

-- the text of a fault of this slot; a name that is too long for one isn't repeated
abbrev pub slot_text : BackendFault → List ℕ → List ℕ
slot_text fault slot = if nat_le (length slot) MOST_NAME_BYTES then state_text fault slot else backend_text fault

abbrev pub only_name : List (List ℕ) → Option (List ℕ)
only_name [] = None
only_name (name ∷ []) = Some name
only_name (name ∷ another ∷ names) = None

-- a publication that isn't there is named where no other was asked for
abbrev pub publication_text : Option (List ℕ) → List ℕ
publication_text None = backend_text backends.UnknownPublication
publication_text (Some name) = if nat_le (length name) MOST_NAME_BYTES then named_publication name else backend_text backends.UnknownPublication

-- of a stream from this slot and of these publications
abbrev pub start_text : BackendFault → List ℕ → List (List ℕ) → List ℕ
start_text backends.UnknownPublication slot names = publication_text (only_name names)
start_text fault slot names = slot_text fault slot
