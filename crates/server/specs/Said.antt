-- What the server says, frame by frame, as PostgreSQL 15, 55.2.1, 55.2.2 and 55.4 have it.
use Rattle.std.specs.Prelude.{ℕ, ◌^◌, ◌≤◌, List, [], ◌∷◌, ◌++◌, length, Option, Some, None, Result, Ok, Err, codes}
use Rattle.frames.specs.declared.back.Back.{Back}
use Rattle.frames.specs.declared.back.Back.TheVariants.{AuthenticationOk, ParameterStatus, BackendKeyData, ReadyForQuery, CommandComplete, RowDescription, DataRow, ErrorResponse, CopyBothResponse, CopyDone}
use Rattle.frames.specs.declared.backend.ready_for_query.TransactionStatus.TheVariants as statuses
use Rattle.frames.specs.declared.backend.row_description.ColumnType.{ColumnType}
use Rattle.frames.specs.declared.backend.row_description.ColumnDescription.{ColumnDescription}
use Rattle.frames.specs.declared.backend.data_row.DataValue.{DataValue}
use Rattle.frames.specs.declared.backend.data_row.DataValue.TheVariants.{Null, Bytes}
use Rattle.frames.specs.Frame.{frame}
use Rattle.frames.specs.Back.{back_kind, back_body}
use Rattle.replcmd.specs.Position.{position_text}
use Rattle.server.specs.declared.said.say.TheConstants.{TEXT_OID, INT4_OID, INT4_SIZE, ANY_SIZE, NO_MODIFIER, NO_ATTRIBUTE}
use Rattle.server.specs.declared.backend_fault.BackendFault.{BackendFault}
use Rattle.server.specs.declared.refusal.Refusal.{Refusal}
use Rattle.server.specs.declared.connection_terms.Dialect.{Dialect}
use Rattle.server.specs.declared.connection_terms.Dialect.TheVariants.{Commands, Questions}
use Rattle.server.specs.declared.connection_terms.ConnectionTerms.{ConnectionTerms}
use Rattle.server.specs.declared.refusal.Refusal.TheVariants.{NoReplication}
use Rattle.server.specs.Refusals.{refusal_code, refusal_text, backend_code, slot_text, start_text}

-- a frame as it is sent
unfoldable pub sent_frame : Back → List ℕ
sent_frame f = frame (back_kind f) (back_body f)

-- ---- errors

abbrev pub error_frame : List ℕ → List ℕ → Back
error_frame code text = ErrorResponse (record {
  fields =
      record { code = 83; text = codes "ERROR" } ∷ record { code = 86; text = codes "ERROR" } ∷ record { code = 67; text = code } ∷ record { code = 77; text = text } ∷ [];
})

unfoldable pub error_of_refusal : Refusal → List ℕ
error_of_refusal refusal = sent_frame (error_frame (refusal_code refusal) (refusal_text refusal))

unfoldable pub ready : List ℕ
ready = sent_frame (ReadyForQuery statuses.Idle)

-- a command that is refused: the session goes on
abbrev pub error_and_ready : Refusal → List ℕ
error_and_ready refusal = error_of_refusal refusal ++ ready

-- so is one that is refused by a text of its own
unfoldable pub refused_with : Refusal → List ℕ → List ℕ
refused_with refusal text = sent_frame (error_frame (refusal_code refusal) text) ++ ready

-- what was asked of this slot is refused: the session goes on
unfoldable pub slot_refused : BackendFault → List ℕ → List ℕ
slot_refused fault slot = sent_frame (error_frame (backend_code fault) (slot_text fault slot)) ++ ready

-- and so is a stream from this slot and of these publications
unfoldable pub start_refused : BackendFault → List ℕ → List (List ℕ) → List ℕ
start_refused fault slot names = sent_frame (error_frame (backend_code fault) (start_text fault slot names)) ++ ready

-- ---- the beginning of a session

abbrev pub status : List ℕ → List ℕ → Back
status name value = ParameterStatus (record { name = name; value = value })

abbrev pub key_frame : ℕ → Back
key_frame process = BackendKeyData (record { process = process; key = 0 })

abbrev pub columns_frame : List ColumnDescription → Back
columns_frame columns = RowDescription (record { columns = columns })

abbrev pub values_frame : List DataValue → Back
values_frame values = DataRow (record { values = values })

unfoldable pub greeting : ℕ → List ℕ
greeting number = sent_frame AuthenticationOk ++ (sent_frame (status (codes "server_version") (codes "15.0")) ++ (sent_frame (status (codes "client_encoding") (codes "UTF8"))
    ++ (sent_frame (key_frame number) ++ ready)))

-- Who answers questions tells how it keeps times, too.
unfoldable pub other_greeting : ℕ → List ℕ
other_greeting number = sent_frame AuthenticationOk ++ (sent_frame (status (codes "server_version") (codes "15.0")) ++ (sent_frame (status (codes "client_encoding") (codes "UTF8"))
    ++ (sent_frame (status (codes "integer_datetimes") (codes "on")) ++ (sent_frame (key_frame number) ++ ready))))

abbrev pub greeting_in : Dialect → ℕ → List ℕ
greeting_in Commands number = greeting number
greeting_in Questions number = other_greeting number

abbrev pub greeting_of : ConnectionTerms → List ℕ
greeting_of service = greeting_in service.dialect service.number

-- a startup that is served, and one that isn't
abbrev pub answer_to_startup : ConnectionTerms → Option (List ℕ) → List ℕ
answer_to_startup service (Some database) = greeting_of service
answer_to_startup service None = error_of_refusal NoReplication

-- ---- rows

abbrev pub completion : List ℕ → Back
completion tag = CommandComplete (record { tag = tag })

-- the columns are no table's, and their values are texts
abbrev pub column_of : ColumnType → List ℕ → ColumnDescription
column_of data_type name = record { name = name; table = 0; attribute = NO_ATTRIBUTE; data_type = data_type; format = 0 }

abbrev pub text_type : ColumnType
text_type = record { oid = TEXT_OID; size = ANY_SIZE; modifier = NO_MODIFIER }

abbrev pub int4_type : ColumnType
int4_type = record { oid = INT4_OID; size = INT4_SIZE; modifier = NO_MODIFIER }

-- a value that a row has room for
abbrev pub IsSmall : DataValue → Type 0
IsSmall Null = Unit {0}
IsSmall (Bytes bytes) = length bytes ≤ 2 ^ 16

-- IDENTIFY_SYSTEM: the configured text, the timeline 1, the end of the log, and the database
abbrev pub identity_columns : Back
identity_columns = columns_frame (column_of text_type (codes "systemid") ∷ column_of int4_type (codes "timeline") ∷ column_of text_type (codes "xlogpos") ∷ column_of text_type (codes "dbname") ∷ [])

abbrev pub identity_values : List ℕ → ℕ → List ℕ → Back
identity_values systemid end database = values_frame (Bytes systemid ∷ Bytes (codes "1") ∷ Bytes (position_text end) ∷ Bytes database ∷ [])

unfoldable pub answer_to_identify : List ℕ → ℕ → List ℕ → List ℕ
answer_to_identify systemid end database = sent_frame identity_columns ++ (sent_frame (identity_values systemid end database) ++ (sent_frame (completion (codes "IDENTIFY_SYSTEM")) ++ ready))

-- CREATE_REPLICATION_SLOT: the slot, its consistent point, no snapshot, and the plugin
abbrev pub slot_columns : Back
slot_columns = columns_frame (column_of text_type (codes "slot_name") ∷ column_of text_type (codes "consistent_point") ∷ column_of text_type (codes "snapshot_name") ∷ column_of text_type (codes "output_plugin") ∷ [])

abbrev pub slot_values : List ℕ → ℕ → Back
slot_values slot position = values_frame (Bytes slot ∷ Bytes (position_text position) ∷ Null ∷ Bytes (codes "pgoutput") ∷ [])

unfoldable pub slot_made : List ℕ → ℕ → List ℕ
slot_made slot position = sent_frame slot_columns ++ (sent_frame (slot_values slot position) ++ (sent_frame (completion (codes "CREATE_REPLICATION_SLOT")) ++ ready))

unfoldable pub answer_to_create : List ℕ → Result ℕ BackendFault → List ℕ
answer_to_create slot (Ok position) = slot_made slot position
answer_to_create slot (Err fault) = slot_refused fault slot

unfoldable pub answer_to_drop : List ℕ → Result (Unit {0}) BackendFault → List ℕ
answer_to_drop slot (Ok u) = sent_frame (completion (codes "DROP_REPLICATION_SLOT")) ++ ready
answer_to_drop slot (Err fault) = slot_refused fault slot

-- START_REPLICATION: the stream begins
unfoldable pub answer_to_start : List ℕ → List (List ℕ) → Result (Unit {0}) BackendFault → List ℕ
answer_to_start slot names (Ok u) = sent_frame (CopyBothResponse (record { format = 0; formats = [] }))
answer_to_start slot names (Err fault) = start_refused fault slot names

-- PostgreSQL's own clients wait for the end of what was copied too.
abbrev pub copied : Dialect → List ℕ
copied Commands = []
copied Questions = sent_frame (completion (codes "COPY 0"))

-- the end of a stream, after all of it: the command that began it is complete
unfoldable pub end_of_stream : Dialect → List ℕ
end_of_stream dialect = sent_frame CopyDone ++ (copied dialect ++ (sent_frame (completion (codes "START_REPLICATION")) ++ ready))
