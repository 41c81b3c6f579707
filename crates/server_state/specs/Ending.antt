-- How a transaction of who builds a service ends.
use Rattle.std.specs.Prelude.{◌≡◌, ℕ, ℤ, true, false, Option, None, Some, Result, Ok, Err, IsSome}
use Rattle.txlog.specs.Publishing.{PublisherState, IsRefusalOrMemory, after_abort, after_begin, after_commit, end_refusal, log_end, receipt_of}
use Rattle.txlog.specs.declared.answers.fault.SessionFault.{SessionFault}
use Rattle.server_state.specs.declared.fault.EndFault.{EndFault}
use Rattle.server_state.specs.declared.fault.EndFault.TheVariants.{Aborted, Disk, Unended}
use Rattle.server_state.specs.Notices.{News, news_of_commit, news_of_end}

-- the publisher, whose lock it holds; its xid; and why it can't commit any more, where a savepoint couldn't be ended
pub record TransactionState : Type 0 where
  pub publisher : PublisherState
  pub xid : ℕ
  pub spoilt : Option SessionFault

-- it has just begun, and has written nothing
abbrev pub HasBegun : TransactionState → Type 0
HasBegun t = (before : PublisherState) × (t ≡ record { publisher = after_begin before; xid = before.next_xid; spoilt = None })

-- the transaction after a call of the publisher
abbrev pub writes : (ℕ → PublisherState → PublisherState) → TransactionState → TransactionState
writes call t = record t { publisher = call t.xid t.publisher }

-- it can't commit any more, and nothing else has changed
abbrev pub IsSpoilt : TransactionState → TransactionState → Type 0
IsSpoilt old new = (new.publisher ≡ old.publisher) × (new.xid ≡ old.xid) × IsSome new.spoilt

-- It doesn't commit: it is aborted, and streams are told where the log ends; or that is refused, it stays as it is, and no
-- stream is told.
abbrev pub IsUndone : ℕ → PublisherState → PublisherState → Option News → Type 0
IsUndone xid old new None = new ≡ old
IsUndone xid old new (Some news) = (new ≡ after_abort xid old) × (news ≡ news_of_end (log_end new))

-- it is to commit at this time, or to abort
abbrev pub Ends : {A : Type 0} → ℕ → Option ℤ → PublisherState → PublisherState → Result A EndFault → Option News → Type 0
Ends xid (Some time) old new (Ok x) news = (new ≡ after_commit xid time old) × (news ≡ Some (news_of_commit (receipt_of xid time old)))
Ends xid (Some time) old new (Err (Aborted fault)) news = IsUndone xid old new news × IsSome news × IsRefusalOrMemory (end_refusal xid old) fault
Ends xid (Some time) old new (Err (Disk fault)) news = true ≡ false
Ends xid (Some time) old new (Err Unended) news = (new ≡ old) × (news ≡ None)
Ends xid None old new (Ok x) news = IsUndone xid old new news × IsSome news
Ends xid None old new (Err (Aborted fault)) news = true ≡ false
Ends xid None old new (Err (Disk fault)) news = true ≡ false
Ends xid None old new (Err Unended) news = (new ≡ old) × (news ≡ None)

-- the error is made of a refusal, after which the transaction is aborted
abbrev pub FromRefused : {E : Type 0} → (EndFault → E → Type 0) → E → Type 0
FromRefused gives e = (fault : SessionFault) × gives (Aborted fault) e
