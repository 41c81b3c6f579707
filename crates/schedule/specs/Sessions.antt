-- How sessions keep their transactions, and what a call of the publisher leaves. No promise is told here but by `Called`
-- and `Grows`.
use Rattle.std.specs.Prelude.{◌≡◌, ℕ, ◌+◌, Bool, true, false, List, [], ◌∷◌, ◌++◌, map, Option, Some, None, slice_get, remove, if◌then◌else◌}
use Rattle.std.specs.Str.{bytes_eq}
use Rattle.wal.specs.declared.record.Record.{Record}
use Rattle.wal.specs.Log.{IsWellFormedLog}
use Rattle.txlog.specs.declared.answers.fault.SessionFault.{SessionFault}
use Rattle.txlog.specs.Publishing.{PublisherState, IsRefusalOrMemory}
use Rattle.schedule.specs.declared.event.SessionStep.{SessionStep}
use Rattle.schedule.specs.declared.event.SessionStep.TheVariants as steps
use Rattle.schedule.specs.declared.session_answer.SessionAnswer.{SessionAnswer}
use Rattle.schedule.specs.declared.session_answer.SessionAnswer.TheVariants as answers
use Rattle.schedule.specs.declared.session.Session.{Session}
use Rattle.schedule.specs.Transactions.{NamedTx, xid_of, without_name}
use Rattle.schedule.specs.SessionLines.{SessionState, IsCalled, step_ask}

abbrev pub named_tx : Session → NamedTx
named_tx s = record { name = s.name; xid = s.tx }

abbrev pub sessions_state : PublisherState → List Session → SessionState
sessions_state publisher sessions = record { publisher = publisher; transactions = map named_tx sessions }

-- where the transaction of this name stands, counted from a number on
abbrev pub place_from : ℕ → List ℕ → List NamedTx → Option ℕ
place_from at name [] = None
place_from at name (t ∷ ts) = if bytes_eq t.name name then Some at else place_from (at + 1) name ts

-- the transaction of this name stands there, and is the first of it
pub record IsNamedAt (name : List ℕ) (place : ℕ) (sessions : List Session) : Type 0 where
  pub session : Session
  pub there : slice_get sessions place ≡ Some session
  pub xid : xid_of name (map named_tx sessions) ≡ Some session.tx
  pub without : without_name name (map named_tx sessions) ≡ map named_tx (remove sessions place)

-- A call of the publisher: done, it left this state; refused, by this refusal or for memory, it left the state as it was.
abbrev pub Called : Option SessionFault → PublisherState → PublisherState → SessionAnswer → PublisherState → Type 0
Called refusal done old answers.Done new = (refusal ≡ None) × (new ≡ done)
Called refusal done old (answers.Refused fault) new = IsRefusalOrMemory refusal fault × (new ≡ old)

-- a step, for the sessions by name
abbrev pub IsStepOf : List ℕ → SessionStep → PublisherState → List Session → SessionAnswer → PublisherState → List Session → Type 0
IsStepOf name step publisher sessions answer new_publisher new_sessions =
    IsCalled (step_ask name step publisher (map named_tx sessions)) (sessions_state publisher sessions) answer (sessions_state new_publisher new_sessions)

-- a step within a transaction: it neither begins nor ends one
abbrev pub is_within : SessionStep → Bool
is_within steps.Begin = false
is_within (steps.Commit time) = false
is_within steps.Abort = false
is_within step = true

-- a log that has grown, or stayed as it was
pub record Grows (old new : List Record) : Type 0 where
  pub more : List Record
  pub is : new ≡ old ++ more
  pub good : IsWellFormedLog old → IsWellFormedLog new
