-- The steps of the calls, by plain values: s is the state when a call begins, as its fields say, and now as its caller sees it.
use Rattle.std.proofs.Common.{◌≡◌, ℕ, ℤ, zero, suc, ◌+◌, ◌-◌, ◌^◌, ◌<◌, ◌≤◌, true, List, [], ◌∷◌, ◌++◌, length, take, Some, refl, sym, ap, subst, ◌∙◌, arith}
use Rattle.std.specs.Prelude.{FitsSigned, slice_index, unwrap_or}
use Rattle.std.specs.List.{AllByRecursion, slice_get}
use Rattle.std.specs.Int.{w64}
use Rattle.tables.specs.declared.table.Table.{Table}
use Rattle.tables.specs.declared.changes.change.Change.{Change}
use Rattle.tables.specs.declared.changes.change.Change.TheVariants as changes
use Rattle.tables.specs.Spelling.{IsShort}
use Rattle.tables.specs.Tables.{FitsChange}
use Rattle.store.specs.History.{change_made, count_of, history_after_rollback, history_after_end}
use Rattle.store.specs.Keeping.{StoreState, Keeps}
use Rattle.tables.proofs.Lengths.{insert_length, delete_length, two_rows_length, truncate_length, message_length}
use Rattle.txlog.specs.declared.transactions.savepoint.Savepoint.{Savepoint}
use Rattle.txlog.specs.declared.limits.TheConstants.{MAX_DEPTH, MAX_LIVE, MAX_RECORDS, MOST_RECORDS}
use Rattle.wal.specs.declared.record.TheConstants.{FIRST_POSITION}
use Rattle.wal.specs.declared.record.Record.{Record}
use Rattle.wal.specs.declared.record.Body.TheVariants.{Assign, Change as Changed, AbortSub, Abort, Commit, Note}
use Rattle.wal.specs.Log.{IsOpen, IsMessage, IsWellFormedLog, end_of, size_of, top_of}
use Rattle.txlog.specs.Rows.{standing_changes, history_of}
use Rattle.txlog.specs.Publishing as calls
use Rattle.wal.specs.Records.{record_after}
use Rattle.txlog.specs.Publishing.{LiveTransaction, PublisherState, xids, log_end, with_record, room, is_live, savepoints_of, innermost, with_savepoints, without, new_publisher, after_begin, after_change, next_savepoint, after_commit, receipt_of}
use Rattle.txlog.specs.Invariants.{IsPublisher, IsInProgress, IsBehind, IsMarked, KeepsLog, is_own, is_under}
use Rattle.wal.proofs.Lists.{all_append}
use Rattle.txlog.proofs.LiveList.{found, restored}
use Rattle.txlog.proofs.Progress.{IsOpen-innermost, xids-top}
use Rattle.txlog.proofs.Histories.{history-change, history-commit, history-abort, history-undo, history-assign, history-note}
use Rattle.txlog.proofs.Marks.{rolled_last}
use Rattle.txlog.proofs.Marking.{marked-changed, marked-saved, marked-released, marked-rolled_back, marked-commit, marked-abort, marked-note}
use Rattle.txlog.proofs.Transitions.{all_innermost, open_at, new_publisher-IsPublisher, begun-IsPublisher, changed-IsPublisher, noted-IsPublisher, after_commit-IsPublisher, after_abort-IsPublisher, saved-IsPublisher, rolled_back-IsPublisher, released-IsPublisher}

pub some_room : (s now : PublisherState) (n : ℕ) → s ≡ now → n ≡ room now → (n ≡ 0 → ⊥) → 0 < room s
some_room s now n same is some = omega (arith, is, some, ap room same)

-- every record ends far below the limit of positions
pub record_fits : (s : PublisherState) (size : ℕ) → IsPublisher s → size ≤ 2 ^ 14 → end_of FIRST_POSITION s.log + size < 2 ^ 64
record_fits s size h small = omega (arith, h.log.near, h.reserve, h.limit, small)

pub change_small : (x : ℕ) (c : Change) → IsShort c → size_of (Changed x c) ≤ 2 ^ 14
change_small x (changes.Insert oid row) short = omega (arith, insert_length oid row, short)
change_small x (changes.Update oid old row) short = omega (arith, two_rows_length oid old row, short.0, short.1)
change_small x (changes.Delete oid old) short = omega (arith, delete_length oid old, short)
change_small x (changes.Truncate oids) short = omega (arith, truncate_length oids, short)
change_small x (changes.Message message) short = omega (arith, message_length message, short.0, short.1)

some_is : {A : Type 0} (x y : A) → Some x ≡ Some y → x ≡ y
some_is x y is = ap (λ o. unwrap_or o x) is

pub change_fits : (log : List Record) (x : ℕ) (c d : Change) → IsShort c → end_of FIRST_POSITION log + 2 ^ 14 < 2 ^ 64 → d ≡ c → end_of FIRST_POSITION log + size_of (Changed x d) < 2 ^ 64
change_fits log x c d short fits is = rw is (omega (arith, fits, change_small x c short))

-- CHANGES

pub innermost_open : (s : PublisherState) (xid : ℕ) → IsPublisher s → is_live xid s.live ≡ true → IsOpen s.log (innermost xid s.live) × (top_of s.log (innermost xid s.live) ≡ xid)
innermost_open s xid h is =
    let running : IsInProgress s.log s.next_xid xid (xids (savepoints_of xid s.live)) = open_at s xid h is in (
      IsOpen-innermost s.log s.next_xid xid (xids (savepoints_of xid s.live)) running,
      all_innermost (λ x. top_of s.log x ≡ xid) xid (xids (savepoints_of xid s.live)) (xids-top s.log s.next_xid xid (xids (savepoints_of xid s.live)) running),
    )

-- a change that the tables took, and its record
pub changed_kept : (store new : StoreState) (s : PublisherState) (xid : ℕ) (change : Change) → KeepsLog store s → is_live xid s.live ≡ true → 0 < room s →
    FitsChange s.tables change → IsShort change → Keeps new (history_of s.log ++ change_made xid change ∷ []) → KeepsLog new (after_change xid change s)
changed_kept store new s xid change h is free fits short keeps =
    let at = innermost_open s xid h.publisher is in
    record {
      publisher = changed-IsPublisher s xid change h.publisher is free fits (change_small (innermost xid s.live) change short);
      marked = marked-changed s xid change h.publisher h.marked is;
      rows = subst (Keeps new) (sym (history-change s.log (end_of FIRST_POSITION s.log) (end_of FIRST_POSITION s.log + size_of (Changed (innermost xid s.live) change)) (innermost xid s.live) xid change at.0 at.1)) keeps;
    }

-- a note concerns no table and no transaction
pub noted_kept : (store : StoreState) (s : PublisherState) (change : Change) → KeepsLog store s → 0 < room s → IsMessage change → FitsChange s.tables change → IsShort change →
    KeepsLog store (with_record (Note change) s)
noted_kept store s change h free is fits short = record {
  publisher = noted-IsPublisher s change h.publisher free is fits (change_small 0 change short);
  marked = marked-note s change h.marked;
  rows = subst (Keeps store) (sym (history-note s.log (end_of FIRST_POSITION s.log) (end_of FIRST_POSITION s.log + size_of (Note change)) change)) h.rows;
}

-- a change that the tables took, and that was undone
pub unchanged_kept : (store new : StoreState) (s : PublisherState) (xid mark : ℕ) (change : Change) → KeepsLog store s → mark ≡ count_of xid (history_of s.log) →
    Keeps new (history_after_rollback xid mark (history_of s.log ++ change_made xid change ∷ [])) → KeepsLog new s
unchanged_kept store new s xid mark change h at keeps =
    record {
      publisher = h.publisher;
      marked = h.marked;
      rows = subst (Keeps new) (ap (λ (n : ℕ). history_after_rollback xid n (history_of s.log ++ change_made xid change ∷ [])) at ∙ rolled_last xid change (history_of s.log)) keeps;
    }

pub rows_kept : (store new : StoreState) (s : PublisherState) → KeepsLog store s → Keeps new (history_of s.log) → KeepsLog new s
rows_kept store new s h keeps = record { publisher = h.publisher; marked = h.marked; rows = keeps }

-- THE RECORD MAY COME

pub commit_good : (store : StoreState) (s : PublisherState) (xid : ℕ) (time kept : ℤ) → KeepsLog store s → true ≡ is_live xid s.live → FitsSigned w64 time → kept ≡ time →
    IsWellFormedLog (s.log ++ record_after s.log (Commit xid kept) ∷ [])
commit_good store s xid time kept h is fits t = (after_commit-IsPublisher s xid kept h.publisher (sym is) (rw t fits)).log.good

pub abort_good : (store : StoreState) (s : PublisherState) (xid : ℕ) → KeepsLog store s → true ≡ is_live xid s.live → IsWellFormedLog (s.log ++ record_after s.log (Abort xid) ∷ [])
abort_good store s xid h is = (after_abort-IsPublisher s xid h.publisher (sym is)).log.good

pub saved_good : (store : StoreState) (s now : PublisherState) (xid parent depth : ℕ) → s ≡ now → KeepsLog store s → is_live xid now.live ≡ true → 0 < room now →
    depth ≡ length (savepoints_of xid now.live) → depth < MAX_DEPTH → parent ≡ innermost xid s.live → IsWellFormedLog (s.log ++ record_after s.log (Assign s.next_xid parent) ∷ [])
saved_good store s now xid parent depth same h is free at shallow inner =
    let here : length (savepoints_of xid s.live) ≡ length (savepoints_of xid now.live) = ap (λ (n : PublisherState). length (savepoints_of xid n.live)) same in
    let lives : is_live xid s.live ≡ true = ap (λ (n : PublisherState). is_live xid n.live) same ∙ is in
    rw inner (saved-IsPublisher s xid h.publisher lives (omega (arith, at, shallow, here)) (omega (arith, free, ap room same))).log.good

-- COMMIT AND ABORT

pub committed_is : (tables : List Table) (s now : PublisherState) (tx xid place start end : ℕ) (time kept : ℤ) (log : List Record) (live : List LiveTransaction) → s ≡ now → tables ≡ s.tables →
    xid ≡ tx → kept ≡ time → place ≡ length s.log → log_end s ≡ start → log_end s + size_of (Commit xid kept) ≡ end → log ≡ s.log ++ record_after s.log (Commit xid kept) ∷ [] →
    live ≡ without xid s.live →
    (record { place = place; start = start; end = end; xid = xid } ≡ receipt_of tx time now) × (record s { tables = tables; log = log; live = live } ≡ after_commit tx time now)
committed_is tables s now tx xid place start end time kept log live same fixed n t p b e grown fewer =
    let told : record { place = place; start = start; end = end; xid = xid } ≡ receipt_of xid kept s = rw (p, ← b, ← e) refl in
    let moved : record s { tables = tables; log = log; live = live } ≡ after_commit xid kept s = rw (fixed, grown, fewer) refl in
    (told ∙ ap (receipt_of xid kept) same ∙ ap (λ (x : ℕ). receipt_of x kept now) n, moved ∙ ap (after_commit xid kept) same ∙ rw (n, t) refl)

pub committed_kept : (store new : StoreState) (tables : List Table) (s : PublisherState) (xid : ℕ) (time kept : ℤ) (log : List Record) (live : List LiveTransaction) → KeepsLog store s →
    true ≡ is_live xid s.live → FitsSigned w64 time → kept ≡ time → log ≡ s.log ++ record_after s.log (Commit xid kept) ∷ [] → live ≡ without xid s.live →
    Keeps new (history_after_end xid (history_of s.log)) → tables ≡ s.tables → KeepsLog new (record s { tables = tables; log = log; live = live })
committed_kept store new tables s xid time kept log live h is fits t grown fewer keeps fixed =
    rw (fixed, grown, fewer) (record {
      publisher = after_commit-IsPublisher s xid kept h.publisher (sym is) (rw t fits);
      marked = marked-commit s xid kept h.publisher h.marked;
      rows = subst (Keeps new) (sym (history-commit s.log (end_of FIRST_POSITION s.log) (end_of FIRST_POSITION s.log + size_of (Commit xid kept)) xid kept)) keeps;
    })

pub aborted_kept : (store new : StoreState) (tables : List Table) (s : PublisherState) (xid : ℕ) (log : List Record) (live : List LiveTransaction) → KeepsLog store s →
    true ≡ is_live xid s.live → log ≡ s.log ++ record_after s.log (Abort xid) ∷ [] → live ≡ without xid s.live →
    Keeps new (history_after_end xid (history_after_rollback xid 0 (history_of s.log))) → tables ≡ s.tables → KeepsLog new (record s { tables = tables; log = log; live = live })
aborted_kept store new tables s xid log live h is grown fewer keeps fixed =
    let running = open_at s xid h.publisher (sym is) in
    rw (fixed, grown, fewer) (record {
      publisher = after_abort-IsPublisher s xid h.publisher (sym is);
      marked = marked-abort s xid h.publisher h.marked;
      rows = subst (Keeps new) (sym (history-abort s.log (end_of FIRST_POSITION s.log) (end_of FIRST_POSITION s.log + size_of (Abort xid)) xid running.running)) keeps;
    })

-- SAVEPOINTS

mark_at : (P : Savepoint → Type 0) (savepoints : List Savepoint) (n : ℕ) (s : Savepoint) → slice_get savepoints n ≡ Some s → AllByRecursion P savepoints → P s
mark_at P [] n s is all = absurd cc
mark_at P (p ∷ savepoints) zero s is all = subst P (some_is p s is) all.0
mark_at P (p ∷ savepoints) (suc n) s is all = mark_at P savepoints n s is all.1

pub xid_at : (savepoints : List Savepoint) (n : ℕ) (s : Savepoint) → slice_get savepoints n ≡ Some s → slice_index (xids savepoints) n ≡ s.xid
xid_at [] n s is = absurd cc
xid_at (p ∷ savepoints) zero s is = ap (λ (q : Savepoint). q.xid) (some_is p s is)
xid_at (p ∷ savepoints) (suc n) s is = xid_at savepoints n s is

-- the state after a savepoint of this xid is rolled back
abbrev moved_back : ℕ → ℕ → ℕ → PublisherState → PublisherState
moved_back xid depth x s = calls.after_release xid depth (with_record (AbortSub x) s)

pub saved_kept : (store : StoreState) (s now : PublisherState) (xid parent depth : ℕ) (savepoint : Savepoint) (log : List Record) (live : List LiveTransaction) → s ≡ now → KeepsLog store s →
    is_live xid now.live ≡ true → 0 < room now → depth ≡ length (savepoints_of xid now.live) → depth < MAX_DEPTH → parent ≡ innermost xid s.live → savepoint ≡ next_savepoint xid s →
    live ≡ with_savepoints xid (savepoints_of xid s.live ++ savepoint ∷ []) s.live → log ≡ s.log ++ record_after s.log (Assign s.next_xid parent) ∷ [] →
    KeepsLog store (record s { log = log; live = live; next_xid = s.next_xid + 1 })
saved_kept store s now xid parent depth savepoint log live same h is free at shallow inner new more grown =
    let here : length (savepoints_of xid s.live) ≡ length (savepoints_of xid now.live) = ap (λ (n : PublisherState). length (savepoints_of xid n.live)) same in
    let lives : is_live xid s.live ≡ true = ap (λ (n : PublisherState). is_live xid n.live) same ∙ is in
    rw (grown, inner, more, new) (record {
      publisher = saved-IsPublisher s xid h.publisher lives (omega (arith, at, shallow, here)) (omega (arith, free, ap room same));
      marked = marked-saved s xid h.publisher h.marked lives;
      rows = subst (Keeps store) (sym (history-assign s.log (end_of FIRST_POSITION s.log) (end_of FIRST_POSITION s.log + size_of (Assign s.next_xid (innermost xid s.live))) s.next_xid (innermost xid s.live)
          (h.publisher.fresh s.next_xid (omega arith)))) h.rows;
    })

pub rolled_back_kept : (store new : StoreState) (tables : List Table) (s now : PublisherState) (xid depth : ℕ) (savepoint : Savepoint) (log : List Record) (live : List LiveTransaction) → s ≡ now → KeepsLog store s →
    is_live xid now.live ≡ true → 0 < room now → 0 < depth → depth ≤ length (savepoints_of xid now.live) → slice_get (savepoints_of xid now.live) (depth - 1) ≡ Some savepoint →
    log ≡ s.log ++ record_after s.log (AbortSub savepoint.xid) ∷ [] → live ≡ with_savepoints xid (take (depth - 1) (savepoints_of xid s.live)) s.live →
    Keeps new (history_after_rollback xid savepoint.mark (history_of s.log)) → tables ≡ s.tables → KeepsLog new (record s { tables = tables; log = log; live = live })
rolled_back_kept store new tables s now xid depth savepoint log live same h is free some enough at grown less keeps fixed =
    let back : savepoints_of xid now.live ≡ savepoints_of xid s.live = ap (λ (n : PublisherState). savepoints_of xid n.live) (sym same) in
    let lives : is_live xid s.live ≡ true = ap (λ (n : PublisherState). is_live xid n.live) same ∙ is in
    let here : slice_get (savepoints_of xid s.live) (depth - 1) ≡ Some savepoint = ap (λ (l : List Savepoint). slice_get l (depth - 1)) (sym back) ∙ at in
    let value : savepoint.xid ≡ slice_index (xids (savepoints_of xid s.live)) (depth - 1) = sym (xid_at (savepoints_of xid s.live) (depth - 1) savepoint here) in
    let within : depth ≤ length (savepoints_of xid s.live) = omega (arith, enough, ap length back) in
    let running = open_at s xid h.publisher lives in
    let mark = mark_at (λ (p : Savepoint). IsBehind (is_own s.log xid) (is_under s.log p.xid) p.mark (standing_changes s.log)) (savepoints_of xid s.live) (depth - 1) savepoint here
    (found (IsMarked s.log) xid s.live lives h.marked) in
    let moved : IsPublisher (moved_back xid depth savepoint.xid s) × AllByRecursion (IsMarked (moved_back xid depth savepoint.xid s).log) (moved_back xid depth savepoint.xid s).live =
    subst (λ (x : ℕ). IsPublisher (moved_back xid depth x s) × AllByRecursion (IsMarked (moved_back xid depth x s).log) (moved_back xid depth x s).live) (sym value)
    (rolled_back-IsPublisher s xid depth h.publisher lives some within (omega (arith, free, ap room same)), marked-rolled_back s xid depth h.publisher h.marked lives some within) in
    rw (fixed, grown, less) (record {
      publisher = moved.0;
      marked = moved.1;
      rows = subst (Keeps new) (sym (history-undo s.log (end_of FIRST_POSITION s.log) (end_of FIRST_POSITION s.log + size_of (AbortSub savepoint.xid)) savepoint.xid xid savepoint.mark running.running mark)) keeps;
    })

pub rolled_back_is : (tables : List Table) (s now : PublisherState) (tx xid depth : ℕ) (savepoint : Savepoint) (log : List Record) (live : List LiveTransaction) → s ≡ now → tables ≡ s.tables → xid ≡ tx →
    slice_get (savepoints_of xid now.live) (depth - 1) ≡ Some savepoint → log ≡ s.log ++ record_after s.log (AbortSub savepoint.xid) ∷ [] →
    live ≡ with_savepoints xid (take (depth - 1) (savepoints_of xid s.live)) s.live → record s { tables = tables; log = log; live = live } ≡ calls.after_rollback tx depth now
rolled_back_is tables s now tx xid depth savepoint log live same fixed n at grown less =
    let here : slice_get (savepoints_of xid s.live) (depth - 1) ≡ Some savepoint = ap (λ (p : PublisherState). slice_get (savepoints_of xid p.live) (depth - 1)) same ∙ at in
    let value : savepoint.xid ≡ slice_index (xids (savepoints_of xid s.live)) (depth - 1) = sym (xid_at (savepoints_of xid s.live) (depth - 1) savepoint here) in
    let moved : record s { tables = tables; log = log; live = live } ≡ moved_back xid depth savepoint.xid s = rw (fixed, grown, less) refl in
    moved ∙ ap (λ (x : ℕ). moved_back xid depth x s) value ∙ ap (λ (x : ℕ). calls.after_rollback x depth s) n ∙ ap (calls.after_rollback tx depth) same

pub released_kept : (store : StoreState) (s : PublisherState) (xid depth : ℕ) (live : List LiveTransaction) → KeepsLog store s → true ≡ is_live xid s.live →
    live ≡ with_savepoints xid (take (depth - 1) (savepoints_of xid s.live)) s.live → KeepsLog store (record s { live = live })
released_kept store s xid depth live h is less =
    rw less (record {
      publisher = released-IsPublisher s xid depth h.publisher (sym is);
      marked = marked-released s xid depth h.publisher h.marked (sym is);
      rows = h.rows;
    })

pub rolled_back_good : (store : StoreState) (s now : PublisherState) (xid depth : ℕ) (savepoint : Savepoint) → s ≡ now → KeepsLog store s → is_live xid now.live ≡ true → 0 < room now → 0 < depth →
    depth ≤ length (savepoints_of xid now.live) → slice_get (savepoints_of xid now.live) (depth - 1) ≡ Some savepoint → IsWellFormedLog (s.log ++ record_after s.log (AbortSub savepoint.xid) ∷ [])
rolled_back_good store s now xid depth savepoint same h is free some enough at =
    let back : savepoints_of xid now.live ≡ savepoints_of xid s.live = ap (λ (n : PublisherState). savepoints_of xid n.live) (sym same) in
    let lives : is_live xid s.live ≡ true = ap (λ (n : PublisherState). is_live xid n.live) same ∙ is in
    let here : slice_get (savepoints_of xid s.live) (depth - 1) ≡ Some savepoint = ap (λ (l : List Savepoint). slice_get l (depth - 1)) (sym back) ∙ at in
    let value : savepoint.xid ≡ slice_index (xids (savepoints_of xid s.live)) (depth - 1) = sym (xid_at (savepoints_of xid s.live) (depth - 1) savepoint here) in
    let within : depth ≤ length (savepoints_of xid s.live) = omega (arith, enough, ap length back) in
    rw value (rolled_back-IsPublisher s xid depth h.publisher lives some within (omega (arith, free, ap room same))).log.good

-- without memory for the record, the savepoint is taken off again
pub unsaved : (s now : PublisherState) (xid depth : ℕ) (savepoint : Savepoint) (log : List Record) (more less : List LiveTransaction) → s ≡ now → is_live xid now.live ≡ true →
    depth ≡ length (savepoints_of xid now.live) → more ≡ with_savepoints xid (savepoints_of xid s.live ++ savepoint ∷ []) s.live →
    log ≡ s.log → less ≡ with_savepoints xid (take depth (savepoints_of xid more)) more → record s { log = log; live = less } ≡ s
unsaved s now xid depth savepoint log more less same is at pushed unwritten cut =
    let back : less ≡ s.live = restored xid savepoint depth s.live more less (ap (λ (n : PublisherState). is_live xid n.live) same ∙ is)
    (at ∙ ap (λ (n : PublisherState). length (savepoints_of xid n.live)) (sym same)) pushed cut in
    rw (unwritten, back) refl

pub new_kept : (store : StoreState) (tables : List Table) (records : ℕ) → records ≤ MAX_RECORDS → Keeps store [] → KeepsLog store (new_publisher tables records)
new_kept store tables records le keeps = record { publisher = new_publisher-IsPublisher tables records le; marked = tt; rows = keeps }

pub begun_kept : (store : StoreState) (s : PublisherState) → KeepsLog store s → length s.live < MAX_LIVE → 0 < room s → KeepsLog store (after_begin s)
begun_kept store s h few free = record {
  publisher = begun-IsPublisher s h.publisher few free;
  marked = all_append (IsMarked s.log) s.live (record { xid = s.next_xid; savepoints = [] } ∷ []) h.marked (tt, tt);
  rows = h.rows;
}

-- records that may be given back make room
pub given_back_kept : (store : StoreState) (s : PublisherState) (given capacity : ℕ) → KeepsLog store s → s.capacity ≤ capacity → capacity ≤ MOST_RECORDS → KeepsLog store (record s { given = given; capacity = capacity })
given_back_kept store s given capacity h more limit = record {
  publisher = record {
    log = h.publisher.log;
    limit = limit;
    reserve = omega (arith, h.publisher.reserve, more);
    xids = h.publisher.xids;
    few = h.publisher.few;
    fresh = h.publisher.fresh;
    rising = h.publisher.rising;
    live = h.publisher.live;
  };
  marked = h.marked;
  rows = h.rows;
}
