-- A publisher that goes on by records of an earlier log.
use Rattle.std.specs.Prelude.{◌≡◌, ℕ, Bool, true, false, List, ◌∷◌, ◌++◌}
use Rattle.std.specs.List.{AllByRecursion}
use Rattle.wal.specs.declared.record.Record.{Record}
use Rattle.wal.specs.declared.record.Body.{Body}
use Rattle.wal.specs.declared.record.Body.TheVariants.{Abort}
use Rattle.txlog.specs.Publishing.{LiveTransaction, PublisherState}

-- the tables, how many records there may be, which were given back, and the snapshots are as they were
pub record IsBeside (old new : PublisherState) : Type 0 where
  pub tables : new.tables ≡ old.tables
  pub capacity : new.capacity ≡ old.capacity
  pub given : new.given ≡ old.given
  pub snapshots : new.snapshots ≡ old.snapshots

abbrev pub is_abort : Body → Bool
is_abort (Abort xid) = true
is_abort body = false

-- Aborts were written, and nothing else.
pub record OnlyAborts (old new : List Record) : Type 0 where
  pub aborts : List Record
  pub log : new ≡ old ++ aborts
  pub all : AllByRecursion (λ r. is_abort r.body ≡ true) aborts

-- the first of the live transactions has this xid
pub record IsOldest (live : List LiveTransaction) (xid : ℕ) : Type 0 where
  pub oldest : LiveTransaction
  pub others : List LiveTransaction
  pub are : live ≡ oldest ∷ others
  pub is : oldest.xid ≡ xid
