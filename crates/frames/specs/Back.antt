-- The frames that the server sends: their type bytes, limits and bodies, and how they are spelled and read.
use Rattle.std.specs.Prelude.{◌≡◌, ℕ, ◌^◌, ◌<◌, ◌==◌, Bool, true, false, List, [], ◌∷◌, length, Option, Some, None, Result, Ok, Err, if◌then◌else◌}
use Rattle.std.specs.List.{AllByRecursion, list_all}
use Rattle.std.specs.Str.{is_utf8}
use Rattle.frames.specs.declared.back.Back.{Back}
use Rattle.frames.specs.declared.back.Back.TheVariants.{AuthenticationOk, ParameterStatus, BackendKeyData, ReadyForQuery, CommandComplete, RowDescription, DataRow, ErrorResponse, CopyBothResponse, CopyData, CopyDone}
use Rattle.frames.specs.declared.backend.authentication_ok.TheConstants.{AUTHENTICATION}
use Rattle.frames.specs.declared.backend.parameter_status.TheConstants.{PARAMETER_STATUS}
use Rattle.frames.specs.declared.backend.backend_key_data.TheConstants.{BACKEND_KEY_DATA}
use Rattle.frames.specs.declared.backend.ready_for_query.TheConstants.{READY_FOR_QUERY}
use Rattle.frames.specs.declared.backend.command_complete.TheConstants.{COMMAND_COMPLETE}
use Rattle.frames.specs.declared.backend.row_description.TheConstants.{ROW_DESCRIPTION}
use Rattle.frames.specs.declared.backend.data_row.TheConstants.{DATA_ROW}
use Rattle.frames.specs.declared.backend.error_response.TheConstants.{ERROR_RESPONSE}
use Rattle.frames.specs.declared.backend.copy_both_response.TheConstants.{COPY_BOTH_RESPONSE}
use Rattle.frames.specs.declared.copy_data.TheConstants.{COPY_DATA}
use Rattle.frames.specs.declared.copy_done.TheConstants.{COPY_DONE}
use Rattle.frames.specs.declared.parts.frame.TheConstants.{FRAME_LIMIT}
use Rattle.frames.specs.declared.fault.FrameFault.{FrameFault}
use Rattle.frames.specs.declared.fault.FrameFault.TheVariants.{UnknownType}
use Rattle.pqformat.specs.Steps.{◌>>=◌, until_at, closed_list}
use Rattle.pqformat.specs.Fields.{int32, string, has_zero}
use Rattle.frames.specs.Body.{whole, always, nothing_at, text_at}
use Rattle.frames.specs.Frame.{Fits, SpellsFrame, IsShort, StandsAt, framed_at}
use Rattle.frames.specs.Parameter.{parameter, parameter_at, is_parameter_text}
use Rattle.frames.specs.Plain.{authentication_at, backend_key, backend_key_at, status_letter, status_at, counted_items, counted_at, copy_both, copy_both_at}
use Rattle.frames.specs.RowDescription.{column, column_at, FitsColumn, is_column_text}
use Rattle.frames.specs.DataRow.{data_value, value_at, FitsValue}
use Rattle.frames.specs.ErrorResponse.{error_field, error_field_at, FitsErrorField, is_error_text}
use Rattle.frames.specs.CopyData.{copy_data, copy_data_at}

-- the type byte of each frame
abbrev pub back_kind : Back → ℕ
back_kind AuthenticationOk = AUTHENTICATION
back_kind (ParameterStatus m) = PARAMETER_STATUS
back_kind (BackendKeyData m) = BACKEND_KEY_DATA
back_kind (ReadyForQuery m) = READY_FOR_QUERY
back_kind (CommandComplete m) = COMMAND_COMPLETE
back_kind (RowDescription m) = ROW_DESCRIPTION
back_kind (DataRow m) = DATA_ROW
back_kind (ErrorResponse m) = ERROR_RESPONSE
back_kind (CopyBothResponse m) = COPY_BOTH_RESPONSE
back_kind (CopyData m) = COPY_DATA
back_kind CopyDone = COPY_DONE

-- the body of each frame
abbrev pub back_body : Back → List ℕ
back_body AuthenticationOk = int32 0
back_body (ParameterStatus m) = parameter m
back_body (BackendKeyData m) = backend_key (m.process, m.key)
back_body (ReadyForQuery m) = status_letter m ∷ []
back_body (CommandComplete m) = string m.tag
back_body (RowDescription m) = counted_items column m.columns
back_body (DataRow m) = counted_items data_value m.values
back_body (ErrorResponse m) = closed_list error_field m.fields
back_body (CopyBothResponse m) = copy_both m
back_body (CopyData m) = copy_data m
back_body CopyDone = []

-- Counts and lengths fit their fields, and no top bit is set.
abbrev pub HasCounts : Back → Type 0
HasCounts (RowDescription m) = length m.columns < 2 ^ 15
HasCounts (DataRow m) = (length m.values < 2 ^ 15) × AllByRecursion FitsValue m.values
HasCounts (CopyBothResponse m) = length m.formats < 2 ^ 15
HasCounts _ = Unit {0}

-- Texts have no zero byte, codes of fields aren't zero, and numbers are those of their fields.
abbrev pub HasFields : Back → Type 0
HasFields (ParameterStatus m) = (has_zero m.name ≡ false) × (has_zero m.value ≡ false)
HasFields (BackendKeyData m) = (m.process < 2 ^ 32) × (m.key < 2 ^ 32)
HasFields (CommandComplete m) = has_zero m.tag ≡ false
HasFields (RowDescription m) = AllByRecursion FitsColumn m.columns
HasFields (ErrorResponse m) = AllByRecursion FitsErrorField m.fields
HasFields (CopyBothResponse m) = (m.format < 256) × AllByRecursion (λ n. n < 2 ^ 16) m.formats
HasFields _ = Unit {0}

-- what can be spelled, apart from the length
abbrev pub IsShapedBack : Back → Type 0
IsShapedBack f = HasCounts f × HasFields f

-- the texts are UTF-8
abbrev pub is_back_text : Back → Bool
is_back_text (ParameterStatus m) = is_parameter_text m
is_back_text (CommandComplete m) = is_utf8 m.tag
is_back_text (RowDescription m) = list_all is_column_text m.columns
is_back_text (ErrorResponse m) = list_all is_error_text m.fields
is_back_text _ = true

-- Four frames hold nothing to keep; the others hold texts, bytes or a list.
abbrev pub back_needs_memory : Back → Bool
back_needs_memory AuthenticationOk = false
back_needs_memory (BackendKeyData m) = false
back_needs_memory (ReadyForQuery m) = false
back_needs_memory CopyDone = false
back_needs_memory _ = true

abbrev pub FitsBack : Back → Type 0
FitsBack f = Fits IsShapedBack is_back_text f

-- The bytes are the one spelling of the frame.
abbrev pub SpellsBack : List ℕ → Back → Type 0
SpellsBack bytes f = SpellsFrame back_kind back_body FitsBack bytes f

-- the greatest length field after a type byte; None: no frame has that byte
abbrev pub back_limit : ℕ → Option ℕ
back_limit kind =
    if kind == AUTHENTICATION then Some FRAME_LIMIT
    else if kind == PARAMETER_STATUS then Some FRAME_LIMIT
    else if kind == BACKEND_KEY_DATA then Some FRAME_LIMIT
    else if kind == READY_FOR_QUERY then Some FRAME_LIMIT
    else if kind == COMMAND_COMPLETE then Some FRAME_LIMIT
    else if kind == COPY_BOTH_RESPONSE then Some FRAME_LIMIT
    else if kind == COPY_DATA then Some FRAME_LIMIT
    else if kind == COPY_DONE then Some FRAME_LIMIT
    else if kind == ROW_DESCRIPTION then Some FRAME_LIMIT
    else if kind == DATA_ROW then Some FRAME_LIMIT
    else if kind == ERROR_RESPONSE then Some FRAME_LIMIT
    else None

-- a frame that isn't too long to be read
abbrev pub IsShortBack : Back → Type 0
IsShortBack f = IsShort back_limit back_kind back_body f

-- the frame with this type byte and this body: those that are a list
unfoldable pub list_at : ℕ → List ℕ → Result Back FrameFault
list_at kind body =
    if kind == ROW_DESCRIPTION then (whole (list_all is_column_text) (counted_at column_at body) >>= λ columns. Ok (RowDescription (record { columns = columns })))
    else if kind == DATA_ROW then (whole always (counted_at value_at body) >>= λ values. Ok (DataRow (record { values = values })))
    else if kind == ERROR_RESPONSE then (whole (list_all is_error_text) (until_at tt error_field_at (length body) body) >>= λ fields. Ok (ErrorResponse (record { fields = fields })))
    else Err UnknownType

-- and all
unfoldable pub back_at : ℕ → List ℕ → Result Back FrameFault
back_at kind body =
    if kind == AUTHENTICATION then (whole always (authentication_at body) >>= λ _. Ok AuthenticationOk)
    else if kind == PARAMETER_STATUS then (whole is_parameter_text (parameter_at body) >>= λ m. Ok (ParameterStatus m))
    else if kind == BACKEND_KEY_DATA then (whole always (backend_key_at body) >>= λ m. Ok (BackendKeyData (record { process = m.0; key = m.1 })))
    else if kind == READY_FOR_QUERY then (whole always (status_at body) >>= λ m. Ok (ReadyForQuery m))
    else if kind == COMMAND_COMPLETE then (whole is_utf8 (text_at body) >>= λ tag. Ok (CommandComplete (record { tag = tag })))
    else if kind == COPY_BOTH_RESPONSE then (whole always (copy_both_at body) >>= λ m. Ok (CopyBothResponse m))
    else if kind == COPY_DATA then (whole always (copy_data_at body) >>= λ m. Ok (CopyData m))
    else if kind == COPY_DONE then (whole always (nothing_at body) >>= λ _. Ok CopyDone)
    else list_at kind body

-- the frame at the front, and how many bytes it takes
abbrev pub framed_back : List ℕ → Result (Option (Back × ℕ)) FrameFault
framed_back bytes = framed_at back_limit back_at bytes

-- a fault that stands in the bytes
abbrev pub IsBackFault : FrameFault → List ℕ → Type 0
IsBackFault e bytes = StandsAt back_limit back_kind back_body IsShapedBack is_back_text back_needs_memory e bytes
