-- Whole logs with what they commit, as worked by hand: the definitions compute to it.
use Rattle.std.proofs.Common.{◌≡◌, ℕ, pos, true, false, List, [], ◌∷◌, Some, None, take, refl}
use Rattle.std.specs.Prelude.{codes}
use Rattle.pqformat.specs.Fields.{int16, int32, int64}
use Rattle.tables.specs.declared.kinds.Value.TheVariants as values
use Rattle.tables.specs.declared.changes.change.Change.{Change}
use Rattle.tables.specs.declared.changes.change.Change.TheVariants as changes
use Rattle.store.specs.Rows.{Key}
use Rattle.tables.specs.Tables.{item_tables}
use Rattle.wal.specs.declared.record.Record.{Record}
use Rattle.wal.specs.declared.record.Body.{Body}
use Rattle.wal.specs.declared.record.Body.TheVariants.{Assign, Change as Changed, AbortSub, Commit}
use Rattle.store.specs.History.{is_key_held}
use Rattle.txlog.specs.Rows.{history_of, rows_of}
use Rattle.wal.specs.Log.{Entry, Transaction, IsWellFormedLog, committed_transactions}
use Rattle.wal.specs.Restart.{restart}
use Rattle.wal.proofs.LiveChanges.{live_changes}

-- inserts into public.item of a row with this id, name and quantity
abbrev insert : ℕ → List ℕ → ℕ → Change
insert id name qty = changes.Insert 16384 (values.Int4 (pos id) ∷ values.Text name ∷ values.Int8 (pos qty) ∷ [])

abbrev first : Change
first = insert 1 (codes "a") 1

abbrev second : Change
second = insert 2 (codes "b") 2

abbrev third : Change
third = insert 3 (codes "c") 3

abbrev at : ℕ → ℕ → Body → Record
at start end body = record { start = start; end = end; body = body }

abbrev entry : ℕ → ℕ → Change → Entry
entry position xid change = record { position = position; xid = xid; change = change }

-- Two transactions that take turns; the second commits first.
abbrev interleaved : List Record
interleaved = at 0x1000000 0x1000030 (Changed 700 first)
    ∷ at 0x1000030 0x1000060 (Changed 701 second)
    ∷ at 0x1000060 0x1000090 (Changed 700 third)
    ∷ at 0x1000090 0x10000B0 (Commit 701 (pos 1))
    ∷ at 0x10000B0 0x10000D0 (Commit 700 (pos 2)) ∷ []

abbrev by_second : Transaction
by_second = record { is_note = false; start = 0x1000090; end = 0x10000B0; time = pos 1; xid = 701; changes = entry 0x1000030 701 second ∷ [] }

abbrev by_first : Transaction
by_first = record { is_note = false; start = 0x10000B0; end = 0x10000D0; time = pos 2; xid = 700; changes = entry 0x1000000 700 first ∷ entry 0x1000060 700 third ∷ [] }

interleaved-committed : committed_transactions interleaved 0 ≡ by_second ∷ by_first ∷ []
interleaved-committed = refl

-- a start position takes a Commit that starts there, and none before it
interleaved-at_commit : committed_transactions interleaved 0x1000090 ≡ by_second ∷ by_first ∷ []
interleaved-at_commit = refl

interleaved-past_commit : committed_transactions interleaved 0x1000091 ≡ by_first ∷ []
interleaved-past_commit = refl

interleaved-past_all : committed_transactions interleaved 0x2000000 ≡ []
interleaved-past_all = refl

interleaved-well_formed : IsWellFormedLog interleaved
unfolding int16 int32 int64
interleaved-well_formed = record {
  follows = refl;
  sizes = (refl, (refl, (refl, (refl, (refl, tt)))));
  order = (
    record { running = refl; undropped = refl },
    (
      record { running = refl; undropped = refl },
      (
        record { running = refl; undropped = refl },
        ((refl, record { running = refl; undropped = refl }), ((refl, record { running = refl; undropped = refl }), tt)),
      ),
    ),
  );
}

-- A savepoint, a change, a savepoint under it, a change, the inner one released and the outer one rolled back: both
-- changes are dropped.
abbrev rolled_back : List Record
rolled_back = at 0x1000000 0x1000018 (Assign 701 700)
    ∷ at 0x1000018 0x1000048 (Changed 701 first)
    ∷ at 0x1000048 0x1000060 (Assign 702 701)
    ∷ at 0x1000060 0x1000090 (Changed 702 second)
    ∷ at 0x1000090 0x10000A8 (AbortSub 701)
    ∷ at 0x10000A8 0x10000D8 (Changed 700 third)
    ∷ at 0x10000D8 0x10000F8 (Commit 700 (pos 1)) ∷ []

rolled_back-committed : committed_transactions rolled_back 0 ≡ record { is_note = false; start = 0x10000D8; end = 0x10000F8; time = pos 1; xid = 700; changes = entry 0x10000A8 700 third ∷ [] } ∷ []
rolled_back-committed = refl

rolled_back-well_formed : IsWellFormedLog rolled_back
unfolding int16 int32 int64
rolled_back-well_formed = record {
  follows = refl;
  sizes = (refl, (refl, (refl, (refl, (refl, (refl, (refl, tt)))))));
  order = (
    (refl, refl, record { running = refl; undropped = refl }),
    (
      record { running = refl; undropped = refl },
      (
        (refl, refl, record { running = refl; undropped = refl }),
        (
          record { running = refl; undropped = refl },
          (
            (refl, record { running = refl; undropped = refl }),
            (
              record { running = refl; undropped = refl },
              ((refl, record { running = refl; undropped = refl }), tt),
            ),
          ),
        ),
      ),
    ),
  );
}

-- A change, a savepoint, a change under it, the savepoint released, a change: all three are kept, in order.
abbrev released : List Record
released = at 0x1000000 0x1000030 (Changed 700 first)
    ∷ at 0x1000030 0x1000048 (Assign 701 700)
    ∷ at 0x1000048 0x1000078 (Changed 701 second)
    ∷ at 0x1000078 0x10000A8 (Changed 700 third)
    ∷ at 0x10000A8 0x10000C8 (Commit 700 (pos 1)) ∷ []

released-committed : committed_transactions released 0 ≡ record { is_note = false; start = 0x10000A8; end = 0x10000C8; time = pos 1; xid = 700; changes = entry 0x1000000 700 first ∷ entry 0x1000048 701 second ∷ entry 0x1000078 700 third ∷ [] } ∷ []
released-committed = refl

released-live : live_changes released ≡ []
released-live = refl

-- WHERE A STREAM BEGINS TO READ

-- the first transaction began before the other one committed, and both have ended after its Commit
interleaved-from_last_commit : restart 0x10000B0 interleaved ≡ 0x1000000
interleaved-from_last_commit = refl

interleaved-after_last_commit : restart 0x10000B1 interleaved ≡ 0x10000D0
interleaved-after_last_commit = refl

interleaved-from_end : restart 0x10000D0 interleaved ≡ 0x10000D0
interleaved-from_end = refl

-- where only a savepoint of it has written, a transaction began with the savepoint
rolled_back-from_change : restart 0x1000018 rolled_back ≡ 0x1000000
rolled_back-from_change = refl

-- what was rolled back was its own still
rolled_back-from_commit : restart 0x10000D8 rolled_back ≡ 0x1000000
rolled_back-from_commit = refl

rolled_back-from_end : restart 0x10000F8 rolled_back ≡ 0x10000F8
rolled_back-from_end = refl

-- THE ROWS THAT A LOG LEAVES

abbrev item_key : ℕ → Key
item_key id = record { oid = 16384; values = values.Int4 (pos id) ∷ [] }

-- what was rolled back leaves no row
rolled_back-first : rows_of item_tables rolled_back (item_key 1) ≡ None
unfolding int16 int32 int64
rolled_back-first = refl

rolled_back-third : rows_of item_tables rolled_back (item_key 3) ≡ Some (values.Int4 (pos 3) ∷ values.Text (codes "c") ∷ values.Int8 (pos 3) ∷ [])
unfolding int16 int32 int64
rolled_back-third = refl

-- a transaction holds the keys of its changes until they are rolled back, and not against itself
rolled_back-held : is_key_held item_tables 703 (history_of (take 4 rolled_back)) (item_key 1) ≡ true
unfolding int16 int32 int64
rolled_back-held = refl

rolled_back-own : is_key_held item_tables 700 (history_of (take 4 rolled_back)) (item_key 1) ≡ false
unfolding int16 int32 int64
rolled_back-own = refl

rolled_back-let_go : is_key_held item_tables 703 (history_of (take 5 rolled_back)) (item_key 1) ≡ false
unfolding int16 int32 int64
rolled_back-let_go = refl

-- what is committed is held by nobody
released-let_go : is_key_held item_tables 703 (history_of released) (item_key 1) ≡ false
unfolding int16 int32 int64
released-let_go = refl
