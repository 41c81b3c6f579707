-- A conversation: what is said to each text that a client sends, and what is asked of the backend for it.
use Rattle.std.specs.Prelude.{◌≡◌, ◌≢◌, ℕ, ◌≤◌, length, ◌⊎◌, Bool, true, false, List, [], ◌∷◌, ◌++◌, Option, Result, Ok, Err, codes}
use Rattle.std.specs.Str.{bytes_eq}
use Rattle.replcmd.specs.declared.command.Command.{Command}
use Rattle.replcmd.specs.declared.command.Command.TheVariants.{Identify, Create, Start, Drop}
use Rattle.replcmd.specs.declared.clauses.snapshot_clause.SnapshotClause.{SnapshotClause}
use Rattle.replcmd.specs.declared.clauses.snapshot_clause.SnapshotClause.TheVariants.{Export, Nothing, Use}
use Rattle.replcmd.specs.declared.clauses.strictness.Strictness.{Strictness}
use Rattle.replcmd.specs.declared.clauses.strictness.Strictness.TheVariants.{Strict, Lenient}
use Rattle.replcmd.specs.declared.fault.CmdFault.{CmdFault}
use Rattle.replcmd.specs.declared.fault.CmdFault.TheVariants as commands
use Rattle.replcmd.specs.Grammar.{SpellsCommand}
use Rattle.replcmd.specs.Commands.{Tells}
use Rattle.pqformat.specs.Putting.{Extends}
use Rattle.std.specs.declared.alloc.AllocError.{AllocError}
use Rattle.server.specs.declared.backend_fault.BackendFault.{BackendFault}
use Rattle.server.specs.declared.refusal.Refusal.{Refusal}
use Rattle.server.specs.declared.refusal.Refusal.TheVariants as refusals
use Rattle.server.specs.declared.connection_terms.Dialect.{Dialect}
use Rattle.server.specs.declared.connection_terms.Dialect.TheVariants.{Commands, Questions}
use Rattle.server.specs.declared.asked.table_name.TableName.{TableName}
use Rattle.server.specs.declared.asked.table_name.TableColumns.{TableColumns}
use Rattle.server.specs.declared.found_table.FoundTable.{FoundTable}
use Rattle.server.specs.declared.found_table.TableAttribute.{TableAttribute}
use Rattle.server.specs.Answers.{path_set, parameter_shown, publications_told, tables_told, columns_told}
use Rattle.server.specs.TableAnswers.{table_told, attributes_told, lists_told, filters_told}
use Rattle.server.specs.Calls.{Call, End, System, CreateSlot, DropSlot, StartStream, AreAsked}
use Rattle.server.specs.Calls as calls
use Rattle.server.specs.Refusals.{TellsRefusal, parameter_text}
use Rattle.server.specs.Said.{error_and_ready, refused_with, answer_to_identify, answer_to_create, answer_to_drop, answer_to_start}
use Rattle.server.specs.declared.asked.question.Question.{Question}
use Rattle.server.specs.declared.asked.question.Question.TheVariants.{SearchPath, InitialCopy, Publications, Tables, Columns, Table, ColumnLists, Attributes, RowFilters, Show, DropWhenFree}
use Rattle.server.specs.Questions.{SpellsQuestion}

-- what was asked of the backend, and what was said, in one step
pub record Gave {D : Type 0} (told : D → Call → D → Type 0) (Fact : List Call → List ℕ → Type 0) (backend : D) (out : List ℕ) (backend' : D) (out' : List ℕ) : Type 0 where
  pub asked : List Call
  pub text : List ℕ
  pub fact : Fact asked text
  pub asks : AreAsked told backend asked backend'
  pub says : out' ≡ out ++ text

-- A step in which memory ran out: the backend was asked nothing, or all that the step asks.
pub record Tried {D : Type 0} (told : D → Call → D → Type 0) (Asks : List Call → Type 0) (backend : D) (backend' : D) : Type 0 where
  pub asked : List Call
  pub fact : (asked ≡ []) ⊎ Asks asked
  pub asks : AreAsked told backend asked backend'

-- A step with its answer, or one in which memory ran out: what was said before it stands at the front still.
abbrev pub Answered : {D A : Type 0} → (D → Call → D → Type 0) → Result A AllocError → (A → List Call → List ℕ → Type 0) → D → List ℕ → D → List ℕ → Type 0
Answered told (Ok a) Fact backend out backend' out' = Gave told (Fact a) backend out backend' out'
Answered {D} {A} told (Err e) Fact backend out backend' out' = Tried told (λ asked. (a : A) × (text : List ℕ) × Fact a asked text) backend backend' × Extends out out'

-- ---- commands

abbrev pub is_ok : Result (Unit {0}) BackendFault → Bool
is_ok (Ok u) = true
is_ok (Err fault) = false

-- A slot is made, and its snapshot isn't named. No transaction is there to use it.
abbrev pub MakesSlot : List ℕ → List Call → List ℕ → Type 0
MakesSlot slot asked text = (answer : Result ℕ BackendFault) × (asked ≡ CreateSlot slot answer ∷ []) × (text ≡ answer_to_create slot answer)

abbrev pub RefusesUse : List Call → List ℕ → Type 0
RefusesUse asked text = (asked ≡ []) × (text ≡ error_and_ready refusals.NoTransaction)

abbrev pub Makes : List ℕ → SnapshotClause → List Call → List ℕ → Type 0
Makes slot Export asked text = MakesSlot slot asked text
Makes slot Nothing asked text = MakesSlot slot asked text
Makes slot Use asked text = RefusesUse asked text

-- Each command makes its own calls, each once. One of them may begin a stream.
abbrev pub Runs : List ℕ → Command → Bool → List Call → List ℕ → Type 0
Runs database Identify begins asked text = (end : ℕ) × (systemid : List ℕ) × (asked ≡ End end ∷ System systemid ∷ []) × (text ≡ answer_to_identify systemid end database) × (begins ≡ false)
Runs database (Create slot snapshot) begins asked text = Makes slot snapshot asked text × (begins ≡ false)
Runs database (Drop slot) begins asked text = (answer : Result (Unit {0}) BackendFault) × (asked ≡ DropSlot slot answer ∷ []) × (text ≡ answer_to_drop slot answer) × (begins ≡ false)
Runs database (Start slot position options) begins asked text =
    (answer : Result (Unit {0}) BackendFault) × (asked ≡ StartStream slot position options answer ∷ []) × (text ≡ answer_to_start slot options.publications answer) × (begins ≡ is_ok answer)

-- the slot of a command to make one is no longer than slots' names are
abbrev pub HasShortSlot : Command → Type 0
HasShortSlot (Create slot snapshot) = length slot ≤ 63
HasShortSlot _ = Unit {0}

-- A query that is no command: the code of the fault that its reading meets, or that memory ran out in the reading.
pub record IsRefused (strictness : Strictness) (why : CmdFault → Refusal) (query : List ℕ) (asked : List Call) (text : List ℕ) : Type 0 where
  pub fault : CmdFault
  pub nothing : asked ≡ []
  pub told : List ℕ
  pub tells : TellsRefusal (why fault) query told
  pub answer : text ≡ refused_with (why fault) told
  pub read : Tells strictness query (Err fault)
  pub no_command : fault ≢ commands.Memory → (c : Command) → SpellsCommand strictness query c → ⊥

abbrev pub Replies : Strictness → (CmdFault → Refusal) → List ℕ → List ℕ → Bool → List Call → List ℕ → Type 0
Replies strictness why database query begins asked text = ((c : Command) × SpellsCommand strictness query c × Runs database c begins asked text) ⊎ (IsRefused strictness why query asked text × (begins ≡ false))

-- why a text is refused that is no command: as a question that isn't answered, or as what is none
abbrev pub why_of : Bool → CmdFault → Refusal
why_of true fault = refusals.Question fault
why_of false fault = refusals.Command fault

-- ---- questions

abbrev pub RefusesParameter : List ℕ → List Call → List ℕ → Type 0
RefusesParameter name asked text = (asked ≡ []) × (text ≡ refused_with refusals.UnknownParameter (parameter_text name))

-- A question makes one call or none. The answers of those without a call never change.
abbrev pub AnswersQuestion : Question → List Call → List ℕ → Type 0
AnswersQuestion SearchPath asked text = (asked ≡ []) × (text ≡ path_set)
AnswersQuestion InitialCopy asked text = (asked ≡ []) × (text ≡ error_and_ready refusals.InitialCopy)
AnswersQuestion (Publications names) asked text =
    (answer : Result (List (List ℕ)) BackendFault) × (asked ≡ calls.Publications names answer ∷ []) × (text ≡ publications_told answer)
AnswersQuestion (Tables names) asked text = (answer : Result (List TableName) BackendFault) × (asked ≡ calls.Tables names answer ∷ []) × (text ≡ tables_told answer)
AnswersQuestion (Columns names) asked text = (answer : Result (List TableColumns) BackendFault) × (asked ≡ calls.Columns names answer ∷ []) × (text ≡ columns_told answer)
AnswersQuestion (Table table) asked text =
    (answer : Result (Option FoundTable) BackendFault) × (asked ≡ calls.Table table.schema table.name answer ∷ []) × (text ≡ table_told answer)
AnswersQuestion (ColumnLists oid names) asked text =
    (answer : Result (List (Option (List ℕ))) BackendFault) × (asked ≡ calls.ColumnLists oid names answer ∷ []) × (text ≡ lists_told answer)
AnswersQuestion (Attributes oid) asked text = (answer : Result (List TableAttribute) BackendFault) × (asked ≡ calls.Attributes oid answer ∷ []) × (text ≡ attributes_told answer)
AnswersQuestion (RowFilters oid names) asked text =
    (answer : Result (List (Option (List ℕ))) BackendFault) × (asked ≡ calls.RowFilters oid names answer ∷ []) × (text ≡ filters_told answer)
AnswersQuestion (Show name) asked text = (asked ≡ []) × (text ≡ parameter_shown name)
AnswersQuestion (DropWhenFree slot) asked text = (answer : Result (Unit {0}) BackendFault) × (asked ≡ DropSlot slot answer ∷ []) × (text ≡ answer_to_drop slot answer)

-- a text that is a question
abbrev pub IsAnswered : List ℕ → List Call → List ℕ → Type 0
IsAnswered query asked text = (question : Question) × SpellsQuestion query question × AnswersQuestion question asked text

abbrev pub IsNoQuestion : List ℕ → Type 0
IsNoQuestion query = (question : Question) → SpellsQuestion query question → ⊥

-- the parameter of a question to show one is named as PostgreSQL's are
abbrev pub HasShortName : Question → Type 0
HasShortName (Show name) = length name ≤ 63
HasShortName _ = Unit {0}

-- What a client asks first, and pg_recvlogical. Who asks this where questions aren't answered is told of the option.
abbrev pub is_asked_first : Question → Bool
is_asked_first (Columns names) = false
is_asked_first (Show name) = bytes_eq name (codes "data_directory_mode")
is_asked_first _ = true

abbrev pub IsAskedFirst : Bool → List ℕ → Type 0
IsAskedFirst true query = (question : Question) × SpellsQuestion query question × (is_asked_first question ≡ true)
IsAskedFirst false query = (question : Question) → SpellsQuestion query question → is_asked_first question ≡ false

-- Where questions are answered, what is none is read as a command leniently. Where they aren't, commands are read strictly, and what
-- clients ask first is refused as what it is.
abbrev pub RepliesIn : Dialect → List ℕ → List ℕ → Bool → List Call → List ℕ → Type 0
RepliesIn Commands database query begins asked text = (is_question : Bool) × IsAskedFirst is_question query × Replies Strict (why_of is_question) database query begins asked text
RepliesIn Questions database query begins asked text = (IsAnswered query asked text × (begins ≡ false)) ⊎ (IsNoQuestion query × Replies Lenient (why_of false) database query begins asked text)
