-- What a session's line asks of the publisher: the one call that it names, with its refusal and what it leaves.
use Rattle.std.specs.Prelude.{◌≡◌, ℕ, Bool, true, false, is_some, List, [], ◌∷◌, ◌++◌, Option, Some, None, option_map}
use Rattle.tables.specs.declared.table.Table.{Table}
use Rattle.tables.specs.declared.changes.change.Change.TheVariants as changes
use Rattle.tables.specs.Tables.{table_named}
use Rattle.store.specs.Rows.{Key}
use Rattle.txlog.specs.declared.answers.fault.SessionFault.{SessionFault}
use Rattle.txlog.specs.declared.answers.fault.SessionFault.TheVariants as faults
use Rattle.txlog.specs.Publishing.{PublisherState, IsRefusalOrMemory, after_begin, after_change, after_update, after_delete, message_with, after_note, after_savepoint, after_rollback, after_release, after_commit, after_abort, begin_refusal, insert_refusal, update_refusal, delete_refusal, truncate_refusal, message_refusal, note_refusal, receipt_of, savepoint_refusal, rollback_refusal, release_refusal, end_refusal}
use Rattle.txlog.specs.Receipts.{Committed}
use Rattle.schedule.specs.declared.event.Event.{Event}
use Rattle.schedule.specs.declared.event.Event.TheVariants as events
use Rattle.schedule.specs.declared.event.SessionStep.{SessionStep}
use Rattle.schedule.specs.declared.event.SessionStep.TheVariants as steps
use Rattle.schedule.specs.declared.event.Literal.{Literal}
use Rattle.schedule.specs.declared.session_answer.SessionAnswer.{SessionAnswer}
use Rattle.schedule.specs.declared.session_answer.SessionAnswer.TheVariants as answers
use Rattle.schedule.specs.Transactions.{NamedTx, xid_of, without_name}
use Rattle.schedule.specs.Rows.{row_in, key_columns}

-- a call: the refusal that it meets, if any, and the publisher and the names that it leaves where it is done
pub record Ask : Type 0 where
  pub refusal : Option SessionFault
  pub done : PublisherState
  pub transactions : List NamedTx

-- a table that is not known has no columns to read the row by
abbrev pub insert_refused : Option Table → ℕ → List Literal → PublisherState → Option SessionFault
insert_refused None xid row p = Some faults.UnknownTable
insert_refused (Some table) xid row p = insert_refusal xid table.oid (row_in table.columns row) p

abbrev pub inserted_in : Option Table → ℕ → List Literal → PublisherState → PublisherState
inserted_in None xid row p = p
inserted_in (Some table) xid row p = after_change xid (changes.Insert table.oid (row_in table.columns row)) p

-- a key has a literal for each column of the primary key, in table order
abbrev pub key_in : Table → List Literal → Key
key_in table key = record { oid = table.oid; values = row_in (key_columns table.columns) key }

abbrev pub update_refused : Option Table → ℕ → List Literal → List Literal → PublisherState → Option SessionFault
update_refused None xid key row p = Some faults.UnknownTable
update_refused (Some table) xid key row p = update_refusal xid (key_in table key) (row_in table.columns row) p

abbrev pub updated_in : Option Table → ℕ → List Literal → List Literal → PublisherState → PublisherState
updated_in None xid key row p = p
updated_in (Some table) xid key row p = after_update xid (key_in table key) (row_in table.columns row) p

abbrev pub delete_refused : Option Table → ℕ → List Literal → PublisherState → Option SessionFault
delete_refused None xid key p = Some faults.UnknownTable
delete_refused (Some table) xid key p = delete_refusal xid (key_in table key) p

abbrev pub deleted_in : Option Table → ℕ → List Literal → PublisherState → PublisherState
deleted_in None xid key p = p
deleted_in (Some table) xid key p = after_delete xid (key_in table key) p

-- the OIDs of the tables of these names, in order; none where one of them is not known
abbrev pub with_oid : Option Table → Option (List ℕ) → Option (List ℕ)
with_oid (Some table) (Some oids) = Some (table.oid ∷ oids)
with_oid table oids = None

abbrev pub oids_named : List Table → List (List ℕ) → Option (List ℕ)
oids_named tables [] = Some []
oids_named tables (name ∷ names) = with_oid (table_named name tables) (oids_named tables names)

abbrev pub truncate_refused : Option (List ℕ) → ℕ → PublisherState → Option SessionFault
truncate_refused None xid p = Some faults.UnknownTable
truncate_refused (Some oids) xid p = truncate_refusal xid oids p

abbrev pub truncated_in : Option (List ℕ) → ℕ → PublisherState → PublisherState
truncated_in None xid p = p
truncated_in (Some oids) xid p = after_change xid (changes.Truncate oids) p

-- a name that is in use
abbrev pub if_known : Option ℕ → (ℕ → Ask) → Option Ask
if_known None ask = None
if_known (Some xid) ask = Some (ask xid)

-- a name that is not in use
abbrev pub if_new : Option ℕ → Ask → Option Ask
if_new None ask = Some ask
if_new (Some xid) ask = None

-- Why the step of a transaction in progress is refused by the publisher, and what it leaves where it is done. `begin` has a
-- transaction of its own.
abbrev pub step_refusal : SessionStep → ℕ → PublisherState → Option SessionFault
step_refusal steps.Begin xid p = begin_refusal p
step_refusal (steps.Insert table row) xid p = insert_refused (table_named table p.tables) xid row p
step_refusal (steps.Update table key row) xid p = update_refused (table_named table p.tables) xid key row p
step_refusal (steps.Delete table key) xid p = delete_refused (table_named table p.tables) xid key p
step_refusal (steps.Truncate names) xid p = truncate_refused (oids_named p.tables names) xid p
step_refusal (steps.Message prefix content) xid p = message_refusal xid prefix content p
step_refusal steps.Savepoint xid p = savepoint_refusal xid p
step_refusal (steps.Rollback depth) xid p = rollback_refusal xid depth p
step_refusal (steps.Release depth) xid p = release_refusal xid depth p
step_refusal (steps.Commit time) xid p = end_refusal xid p
step_refusal steps.Abort xid p = end_refusal xid p

abbrev pub after_step : SessionStep → ℕ → PublisherState → PublisherState
after_step steps.Begin xid p = after_begin p
after_step (steps.Insert table row) xid p = inserted_in (table_named table p.tables) xid row p
after_step (steps.Update table key row) xid p = updated_in (table_named table p.tables) xid key row p
after_step (steps.Delete table key) xid p = deleted_in (table_named table p.tables) xid key p
after_step (steps.Truncate names) xid p = truncated_in (oids_named p.tables names) xid p
after_step (steps.Message prefix content) xid p = after_change xid (message_with prefix content) p
after_step steps.Savepoint xid p = after_savepoint xid p
after_step (steps.Rollback depth) xid p = after_rollback xid depth p
after_step (steps.Release depth) xid p = after_release xid depth p
after_step (steps.Commit time) xid p = after_commit xid time p
after_step steps.Abort xid p = after_abort xid p

-- the names that it leaves: `begin` adds one, and the end of a transaction takes its name
abbrev pub names_after : List ℕ → SessionStep → ℕ → List NamedTx → List NamedTx
names_after t steps.Begin xid ts = ts ++ record { name = t; xid = xid } ∷ []
names_after t (steps.Commit time) xid ts = without_name t ts
names_after t steps.Abort xid ts = without_name t ts
names_after t step xid ts = ts

abbrev pub asks : List ℕ → SessionStep → PublisherState → List NamedTx → ℕ → Ask
asks t step p ts xid = record { refusal = step_refusal step xid p; done = after_step step xid p; transactions = names_after t step xid ts }

-- The call of a step, for the transaction of its name: none where that name is unknown, or begins a second time.
abbrev pub step_ask : List ℕ → SessionStep → PublisherState → List NamedTx → Option Ask
step_ask t steps.Begin p ts = if_new (xid_of t ts) (asks t steps.Begin p ts p.next_xid)
step_ask t step p ts = if_known (xid_of t ts) (asks t step p ts)

-- the call of a note, which is of no transaction
abbrev pub note_ask : List ℕ → List ℕ → PublisherState → List NamedTx → Ask
note_ask prefix content p ts = record { refusal = note_refusal prefix content p; done = after_note prefix content p; transactions = ts }

-- The call of a line: none for lines that aren't a session's.
abbrev pub ask_of : Event → PublisherState → List NamedTx → Option Ask
ask_of (events.Session t step) p ts = step_ask t step p ts
ask_of (events.Note prefix content) p ts = Some (note_ask prefix content p ts)
ask_of event p ts = None

-- a step that keeps its name, or a row, a key or OIDs: it may be refused for memory of its own, unless its table is not known
abbrev pub takes_memory : SessionStep → PublisherState → Bool
takes_memory steps.Begin p = true
takes_memory (steps.Insert table row) p = is_some (table_named table p.tables)
takes_memory (steps.Update table key row) p = is_some (table_named table p.tables)
takes_memory (steps.Delete table key) p = is_some (table_named table p.tables)
takes_memory (steps.Truncate names) p = true
takes_memory step p = false

abbrev pub line_takes_memory : Event → PublisherState → Bool
line_takes_memory (events.Session t step) p = takes_memory step p
line_takes_memory event p = false

-- what session lines see and change
pub record SessionState : Type 0 where
  pub publisher : PublisherState
  pub transactions : List NamedTx

-- Done, the call left what it leaves; refused, by its refusal or for memory, it left everything as it was.
abbrev pub IsAnswered : Ask → SessionState → SessionAnswer → SessionState → Type 0
IsAnswered ask old answers.Done new = (ask.refusal ≡ None) × (new ≡ record { publisher = ask.done; transactions = ask.transactions })
IsAnswered ask old (answers.Refused fault) new = IsRefusalOrMemory ask.refusal fault × (new ≡ old)

abbrev pub IsCalled : Option Ask → SessionState → SessionAnswer → SessionState → Type 0
IsCalled None old answer new = ⊥
IsCalled (Some ask) old answer new = IsAnswered ask old answer new

abbrev pub state_of : PublisherState → List NamedTx → SessionState
state_of publisher transactions = record { publisher = publisher; transactions = transactions }

-- the line's call, for the transaction of its name
abbrev pub IsLine : Event → SessionState → SessionAnswer → SessionState → Type 0
IsLine event old answer new = IsCalled (ask_of event old.publisher old.transactions) old answer new

-- a commit that is done tells of its record; nothing else does
abbrev pub receipt_due : Event → SessionState → SessionAnswer → Option Committed
receipt_due (events.Session t (steps.Commit time)) old answers.Done = option_map (λ xid. receipt_of xid time old.publisher) (xid_of t old.transactions)
receipt_due event old answer = None
