-- COPY of a table to the client, as a subscriber asks for it in the transaction block that holds its slot's snapshot (PostgreSQL 15, COPY,
-- 55.2.6 and 55.7): the text, the rows, and the end.
use Rattle.std.specs.Prelude.{◌≡◌, ◌⊎◌, ℕ, ◌+◌, ◌<◌, ◌≤◌, ◌==◌, List, [], ◌∷◌, ◌++◌, length, map, replicate, Option, Some, None, Result, Ok, Err, Bool, true, false, ◌||◌, ◌&&◌, codes, if◌then◌else◌}
use Rattle.std.specs.Char.{is_ascii_lowercase, is_ascii_digit}
use Rattle.std.specs.Fmt.{decimal}
use Rattle.std.specs.List.{flat_map, list_all}
use Rattle.frames.specs.declared.back.Back.TheVariants.{ReadyForQuery, CopyData, CopyDone}
use Rattle.frames.specs.declared.backend.ready_for_query.TransactionStatus.TheVariants as statuses
use Rattle.frames.specs.Frame.{frame}
use Rattle.frames.specs.Plain.{copy_both}
use Rattle.pqformat.specs.Quoting.{in_quotes}
use Rattle.server.specs.declared.backend_fault.BackendFault.{BackendFault}
use Rattle.server.specs.declared.backend_fault.BackendFault.TheVariants.{NoCopies}
use Rattle.server.specs.declared.sessions.block.Block.{Block}
use Rattle.server.specs.declared.sessions.block.BlockState.{BlockState}
use Rattle.server.specs.declared.sessions.block.BlockState.TheVariants.{Begun, Used, Failed}
use Rattle.server.specs.declared.asked.copy_command.CopyCommand.{CopyCommand}
use Rattle.server.specs.declared.asked.copy_command.TheConstants.{MOST_COLUMNS}
use Rattle.server.specs.declared.stages.copying.Copying.{Copying}
use Rattle.server.specs.declared.asked.quoted.TheConstants.{NAME_QUOTE}
use Rattle.server.specs.declared.refusal.Refusal.{Refusal}
use Rattle.server.specs.declared.refusal.Refusal.TheVariants.{Asked, BlockFailed}
use Rattle.server.specs.declared.said.say_copy.TheConstants.{COPY_OUT_RESPONSE}
use Rattle.server.specs.declared.stages.stage.Stage.{Stage}
use Rattle.server.specs.declared.stages.stage.Stage.TheVariants as stages
use Rattle.server.specs.declared.asked.table_name.TableName.{TableName}
use Rattle.server.specs.Calls.{Call, OpenCopy, NextRow}
use Rattle.server.specs.Reading.{quoted_front}
use Rattle.server.specs.RowText.{row_text}
use Rattle.server.specs.Said.{sent_frame, completion, error_of_refusal}

-- ---- the text

-- a lower-case letter or an underscore, and then digits too
abbrev pub begins_name : ℕ → Bool
begins_name b = is_ascii_lowercase b || b == 95

abbrev pub goes_on_in_name : ℕ → Bool
goes_on_in_name b = begins_name b || is_ascii_digit b

abbrev pub is_bare_name : List ℕ → Bool
is_bare_name [] = false
is_bare_name (b ∷ bytes) = begins_name b && list_all goes_on_in_name bytes

-- A name stands in quotes, or bare.
abbrev pub SpellsName : List ℕ → List ℕ → Type 0
SpellsName named name = (named ≡ in_quotes NAME_QUOTE name) ⊎ ((named ≡ name) × (is_bare_name name ≡ true))

-- the bytes of a bare name, and what follows it
abbrev pub name_run : List ℕ → List ℕ × List ℕ
name_run [] = ([], [])
name_run (b ∷ bytes) = if goes_on_in_name b then (b ∷ (name_run bytes).0, (name_run bytes).1) else ([], b ∷ bytes)

-- the name at the front, and what follows it
abbrev pub name_front : List ℕ → Option (List ℕ × List ℕ)
name_front [] = None
name_front (b ∷ bytes) = if b == NAME_QUOTE then quoted_front NAME_QUOTE (b ∷ bytes) else if begins_name b then Some (name_run (b ∷ bytes)) else None

abbrev pub SpellsTableName : List ℕ → TableName → Type 0
SpellsTableName named table = (schema name : List ℕ) × SpellsName schema table.schema × SpellsName name table.name × (named ≡ schema ++ (codes "." ++ name))

-- one at least
abbrev pub SpellsColumns : List ℕ → List (List ℕ) → Type 0
SpellsColumns named [] = ⊥
SpellsColumns named (name ∷ []) = SpellsName named name
SpellsColumns named (name ∷ another ∷ names) = (first rest : List ℕ) × SpellsName first name × (named ≡ first ++ (codes ", " ++ rest)) × SpellsColumns rest (another ∷ names)

-- of all rows, or of those that pass a filter, which ends where the text does
abbrev pub copy_text : List ℕ → List ℕ → Option (List ℕ) → List ℕ
copy_text table columns None = codes "COPY " ++ (table ++ (codes " (" ++ (columns ++ codes ") TO STDOUT")))
copy_text table columns (Some filter) = codes "COPY (SELECT " ++ (columns ++ (codes " FROM ONLY " ++ (table ++ (codes " WHERE " ++ (filter ++ codes ") TO STDOUT")))))

-- The whole text asks for this copy. A table has no more columns than so many.
abbrev pub SpellsCopy : List ℕ → CopyCommand → Type 0
SpellsCopy text copy =
    (length copy.columns ≤ MOST_COLUMNS) × ((table columns : List ℕ) × SpellsTableName table copy.table × SpellsColumns columns copy.columns × (text ≡ copy_text table columns copy.filter))

-- Which copy the text asks for, if it does.
abbrev pub ReadsCopy : List ℕ → Option CopyCommand → Type 0
ReadsCopy text (Some copy) = SpellsCopy text copy
ReadsCopy text None = (copy : CopyCommand) → SpellsCopy text copy → ⊥

-- ---- the beginning

-- CopyOutResponse has the body of a CopyBothResponse: texts, with a format for each column.
unfoldable pub copy_begun : ℕ → List ℕ
copy_begun count = frame COPY_OUT_RESPONSE (copy_both (record { format = 0; formats = replicate count 0 }))

-- what a block refuses, which fails by it
unfoldable pub refused_in_block : Refusal → List ℕ
refused_in_block refusal = error_of_refusal refusal ++ sent_frame (ReadyForQuery statuses.Failed)

abbrev pub used : Block → Block
used block = record { database = block.database; state = Used; holds = block.holds }

abbrev pub failed : Block → Block
failed block = record { database = block.database; state = Failed; holds = block.holds }

abbrev pub RefusesCopy : Block → Refusal → List Call → List ℕ → Stage → Type 0
RefusesCopy block refusal asked said next = (asked ≡ []) × (said ≡ refused_in_block refusal) × (next ≡ stages.InBlock (failed block))

abbrev pub opening_said : ℕ → Result (Unit {0}) BackendFault → List ℕ
opening_said count (Ok u) = copy_begun count
opening_said count (Err fault) = refused_in_block (Asked fault)

-- No row was copied yet.
abbrev pub opened : Block → Result (Unit {0}) BackendFault → Stage
opened block (Ok u) = stages.Copying (record { block = used block; count = 0 })
opened block (Err fault) = stages.InBlock (failed block)

-- A snapshot must be held.
abbrev pub OpensCopy : Bool → Block → CopyCommand → List Call → List ℕ → Stage → Type 0
OpensCopy true block copy asked said next =
    (answer : Result (Unit {0}) BackendFault) × (asked ≡ OpenCopy copy.table copy.columns copy.filter answer ∷ []) × (said ≡ opening_said (length copy.columns) answer) × (next ≡ opened block answer)
OpensCopy false block copy asked said next = RefusesCopy block (Asked NoCopies) asked said next

abbrev pub AnswersCopy : BlockState → Block → CopyCommand → List Call → List ℕ → Stage → Type 0
AnswersCopy Failed block copy asked said next = RefusesCopy block BlockFailed asked said next
AnswersCopy Begun block copy asked said next = OpensCopy block.holds block copy asked said next
AnswersCopy Used block copy asked said next = OpensCopy block.holds block copy asked said next

-- ---- the rows

unfoldable pub copied_row : List (Option (List ℕ)) → List ℕ
copied_row row = sent_frame (CopyData (record { bytes = row_text row }))

-- the end of a copy of so many rows
unfoldable pub copy_ended : ℕ → List ℕ
copy_ended count = sent_frame CopyDone ++ (sent_frame (completion (codes "COPY " ++ decimal count)) ++ sent_frame (ReadyForQuery statuses.InTransaction))

-- the call by which the backend gives a row
abbrev pub row_asked : List (Option (List ℕ)) → Call
row_asked row = NextRow (Ok (Some row))

-- A copy ends behind its last row, or by a fault, or it goes on.
abbrev pub end_asked : Option (Result (Unit {0}) BackendFault) → List Call
end_asked None = []
end_asked (Some (Ok u)) = NextRow (Ok None) ∷ []
end_asked (Some (Err fault)) = NextRow (Err fault) ∷ []

abbrev pub end_said : ℕ → Option (Result (Unit {0}) BackendFault) → List ℕ
end_said count None = []
end_said count (Some (Ok u)) = copy_ended count
end_said count (Some (Err fault)) = refused_in_block (Asked fault)

abbrev pub after_rows : Block → ℕ → Option (Result (Unit {0}) BackendFault) → Stage
after_rows block count None = stages.Copying (record { block = block; count = count })
after_rows block count (Some (Ok u)) = stages.InBlock block
after_rows block count (Some (Err fault)) = stages.InBlock (failed block)

-- What a copy of which so many rows were said goes on with: the rows that the backend gives, in order and each once, and its end, if that
-- comes. The tag's number is how many rows were said in all.
pub record CopiesOn (copying : Copying) (asked : List Call) (said : List ℕ) (next : Stage) : Type 0 where
  pub rows : List (List (Option (List ℕ)))
  pub end : Option (Result (Unit {0}) BackendFault)
  pub some : 0 < length asked
  pub ask : asked ≡ map row_asked rows ++ end_asked end
  pub say : said ≡ flat_map copied_row rows ++ end_said (copying.count + length rows) end
  pub led : next ≡ after_rows copying.block (copying.count + length rows) end

-- ---- one row

-- what is said of what the backend gives
abbrev pub next_said : ℕ → Result (Option (List (Option (List ℕ)))) BackendFault → List ℕ
next_said count (Ok (Some row)) = copied_row row
next_said count (Ok None) = copy_ended count
next_said count (Err fault) = refused_in_block (Asked fault)

abbrev pub after_row : Copying → Result (Option (List (Option (List ℕ)))) BackendFault → Stage
after_row copying (Ok (Some row)) = stages.Copying (record { block = copying.block; count = copying.count + 1 })
after_row copying (Ok None) = stages.InBlock copying.block
after_row copying (Err fault) = stages.InBlock (failed copying.block)

-- a copy goes on at this stage
abbrev pub CopiesFrom : Stage → List Call → List ℕ → Stage → Type 0
CopiesFrom (stages.Copying copying) asked said next = CopiesOn copying asked said next
CopiesFrom stages.Fresh asked said next = ⊥
CopiesFrom (stages.Idle database) asked said next = ⊥
CopiesFrom (stages.InBlock block) asked said next = ⊥
CopiesFrom (stages.Skipping database) asked said next = ⊥
CopiesFrom (stages.Streaming database) asked said next = ⊥
CopiesFrom (stages.Stopping database) asked said next = ⊥
CopiesFrom stages.Closed asked said next = ⊥
