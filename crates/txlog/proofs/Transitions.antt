-- What is true of a publisher stays true with each call.
use Rattle.std.proofs.Common.{◌≡◌, ℕ, ℤ, ◌+◌, ◌-◌, ◌^◌, ◌<◌, ◌≤◌, ◌==◌, Bool, true, false, ◌||◌, List, [], ◌∷◌, ◌++◌, length, take, get_or, refl, ap, subst, ◌∙◌, sym, arith, eq-eqb, length-append}
use Rattle.std.specs.Prelude.{FitsSigned}
use Rattle.std.specs.Int.{w64}
use Rattle.std.specs.List.{list_any, AllByRecursion}
use Rattle.std.proofs.lemmas.Bool.{ne_eqb}
use Rattle.tables.specs.declared.table.Table.{Table}
use Rattle.tables.specs.declared.changes.change.Change.{Change}
use Rattle.tables.specs.Tables.{FitsChange}
use Rattle.txlog.specs.declared.limits.TheConstants.{MAX_LIVE, MAX_DEPTH, MAX_RECORDS, MOST_RECORDS}
use Rattle.wal.specs.declared.record.TheConstants.{FIRST_POSITION, FIRST_XID}
use Rattle.txlog.specs.declared.transactions.savepoint.Savepoint.{Savepoint}
use Rattle.wal.specs.declared.record.Record.{Record}
use Rattle.wal.specs.declared.record.Body.{Body}
use Rattle.wal.specs.declared.record.Body.TheVariants.{Assign, Change as Changed, AbortSub, Abort, Commit, Note}
use Rattle.wal.specs.Log.{IsSized, IsOpen, IsNext, FitsBody, FitsRecord, IsMessage, size_of, end_of, names, is_named, assigns, is_assigned, chain, last_of, top_of, undoes, is_undone, ends}
use Rattle.wal.specs.Records.{record_after}
use Rattle.txlog.specs.Snapshots.{no_snapshots}
use Rattle.txlog.specs.Publishing.{LiveTransaction, PublisherState, xids, with_record, next_savepoint, room, is_live, savepoints_of, innermost, with_savepoints, without, after_begin, after_change, after_savepoint, after_release, after_rollback, after_end, after_commit, after_abort}
use Rattle.txlog.specs.Invariants.{IsLog, IsInProgress, IsRunning, IsPublisher}
use Rattle.wal.proofs.Laws.{end_of-append, follows-append, WellFormedAfter-append, is_named-one, is_assigned-one, is_undone-one, chain-append, chain-unassigned, all_when}
use Rattle.wal.proofs.Lists.{eqb_comm, all_append}
use Rattle.txlog.proofs.LiveList.{xids_take, xids_push, xids_length, found, length-with_savepoints, rising-with_savepoints, all_changed, all_without, rising-without, length-without, rising-push}
use Rattle.txlog.proofs.Progress.{onto, chain-innermost, IsOpen-innermost, xids-top, in_progress_push, above_xids, last_of-take, all_at, in_progress_cut, IsQuiet, in_progress_quiet, tops_apart}

-- THE LOG

log_grown : (tables : List Table) (log : List Record) (body : Body) → IsLog tables log → IsNext log body → FitsBody tables body → size_of body ≤ 2 ^ 14 → length log < MOST_RECORDS →
    IsLog tables (log ++ record_after log body ∷ [])
log_grown tables log body h next fits small few =
    record {
      good = record {
        follows = follows-append FIRST_POSITION log (record_after log body ∷ []) ∙ rw (h.good.follows, eq-eqb (end_of FIRST_POSITION log) (end_of FIRST_POSITION log) refl) refl;
        sizes = all_append IsSized log (record_after log body ∷ []) h.good.sizes (refl, tt);
        order = WellFormedAfter-append [] log (record_after log body ∷ []) h.good.order (next, tt);
      };
      in_range = all_append (FitsRecord tables) log (record_after log body ∷ []) h.in_range (record { start = omega (arith, h.near, few); end = omega (arith, h.near, few, small); body = fits }, tt);
      near = rw (end_of-append FIRST_POSITION log (record_after log body ∷ [])) (omega (arith, h.near, small, length-append log (record_after log body ∷ [])));
    }

-- no xid that comes later is named
fresh_grown : (log : List Record) (r : Record) (next more : ℕ) → next ≤ more → ((x : ℕ) → next ≤ x → is_named log x ≡ false) → ((x : ℕ) → more ≤ x → names x r.body ≡ false) →
    (x : ℕ) → more ≤ x → is_named (log ++ r ∷ []) x ≡ false
fresh_grown log r next more le fresh later x above = is_named-one log r x ∙ rw (fresh x (omega arith), later x above) refl

later_than : (xid more x : ℕ) → xid < more → more ≤ x → (x == xid) ≡ false
later_than xid more x below above = ne_eqb x xid (λ is. absurd (omega (arith, is)))

-- what no record names is no subtransaction, has not ended and is not rolled back
unnamed : (test : ℕ → Body → Bool) (x : ℕ) → ((body : Body) → names x body ≡ false → test x body ≡ false) → (log : List Record) → is_named log x ≡ false → list_any (λ r. test x r.body) log ≡ false
unnamed test x each [] none = refl
unnamed test x each (r ∷ log) none = by_test (names x r.body) refl none (unnamed test x each log)
  where
    by_test : (b : Bool) → names x r.body ≡ b → (b || is_named log x) ≡ false → (is_named log x ≡ false → list_any (λ r. test x r.body) log ≡ false) →
        (test x r.body || list_any (λ r. test x r.body) log) ≡ false
    by_test true is none rest = cc
    by_test false is none rest = rw (each r.body is, rest none) refl

or_first : (a b : Bool) → (a || b) ≡ false → a ≡ false
or_first true b e = cc
or_first false b e = refl

unnamed-assigns : (x : ℕ) (body : Body) → names x body ≡ false → assigns x body ≡ false
unnamed-assigns x (Assign sub parent) none = eqb_comm sub x ∙ or_first (x == sub) (x == parent) none
unnamed-assigns x (Changed xid change) none = refl
unnamed-assigns x (AbortSub xid) none = refl
unnamed-assigns x (Abort xid) none = refl
unnamed-assigns x (Note change) none = refl
unnamed-assigns x (Commit xid time) none = refl

unnamed-ends : (x : ℕ) (body : Body) → names x body ≡ false → ends x body ≡ false
unnamed-ends x (Assign sub parent) none = refl
unnamed-ends x (Changed xid change) none = refl
unnamed-ends x (AbortSub xid) none = refl
unnamed-ends x (Abort xid) none = eqb_comm xid x ∙ none
unnamed-ends x (Note change) none = refl
unnamed-ends x (Commit xid time) none = eqb_comm xid x ∙ none

unnamed-undoes : (x : ℕ) (body : Body) → names x body ≡ false → undoes x body ≡ false
unnamed-undoes x (Assign sub parent) none = refl
unnamed-undoes x (Changed xid change) none = refl
unnamed-undoes x (AbortSub xid) none = eqb_comm xid x ∙ none
unnamed-undoes x (Abort xid) none = refl
unnamed-undoes x (Note change) none = refl
unnamed-undoes x (Commit xid time) none = refl

-- CALLS THAT WRITE NO RECORD

pub new_publisher-IsPublisher : (tables : List Table) (records : ℕ) → records ≤ MAX_RECORDS → IsPublisher (record { tables = tables; capacity = records; log = []; given = 0; next_xid = FIRST_XID; live = []; snapshots = no_snapshots })
new_publisher-IsPublisher tables records le = record {
  log = record { good = record { follows = refl; sizes = tt; order = tt }; in_range = tt; near = omega arith };
  limit = omega (arith, le);
  reserve = omega arith;
  xids = omega arith;
  few = omega arith;
  fresh = λ x above. refl;
  rising = tt;
  live = tt;
}

in_progress_later : (log : List Record) (next more : ℕ) → next ≤ more → (t : ℕ) (xs : List ℕ) → IsInProgress log next t xs → IsInProgress log more t xs
in_progress_later log next more le t xs h = record {
  below = all_when _ _ (λ (x : ℕ) (lt : x < next). omega (arith, lt, le)) (t ∷ xs) h.below;
  top = h.top;
  running = h.running;
  subs = h.subs;
  undropped = h.undropped;
  nested = h.nested;
  deep = h.deep;
}

pub begun-IsPublisher : (s : PublisherState) → IsPublisher s → length s.live < MAX_LIVE → 0 < room s → IsPublisher (after_begin s)
begun-IsPublisher s h few free =
    let o : LiveTransaction = record { xid = s.next_xid; savepoints = [] } in
    let longer : length (s.live ++ record { xid = s.next_xid; savepoints = [] } ∷ []) ≡ length s.live + 1 = length-append s.live (record { xid = s.next_xid; savepoints = [] } ∷ []) in
    record {
      log = h.log;
      limit = h.limit;
      reserve = omega (arith, longer, free);
      xids = omega (arith, longer, h.xids);
      few = omega (arith, longer, few);
      fresh = λ x above. h.fresh x (omega arith);
      rising = rising-push s.live (record { xid = s.next_xid; savepoints = [] }) (all_when _ _ (λ (p : LiveTransaction) (running : IsRunning s.log s.next_xid p). running.below.0) s.live h.live) h.rising;
      live = all_append (IsRunning s.log (s.next_xid + 1)) s.live (record { xid = s.next_xid; savepoints = [] } ∷ []) (all_when (IsRunning s.log s.next_xid) (IsRunning s.log (s.next_xid + 1)) (λ p. in_progress_later s.log s.next_xid (s.next_xid + 1) (omega arith) p.xid (xids p.savepoints)) s.live h.live) (
        record {
          below = (omega arith, tt);
          top = unnamed assigns s.next_xid (unnamed-assigns s.next_xid) s.log (h.fresh s.next_xid (omega arith));
          running = unnamed ends s.next_xid (unnamed-ends s.next_xid) s.log (h.fresh s.next_xid (omega arith));
          subs = tt;
          undropped = (unnamed undoes s.next_xid (unnamed-undoes s.next_xid) s.log (h.fresh s.next_xid (omega arith)), tt);
          nested = tt;
          deep = omega arith;
        },
        tt,
      );
    }

-- the same of fewer savepoints
running_cut : (log : List Record) (next n t : ℕ) (savepoints : List Savepoint) → IsInProgress log next t (xids savepoints) → IsInProgress log next t (xids (take n savepoints))
running_cut log next n t savepoints h =
    subst (λ (ys : List ℕ). IsInProgress log next t ys) (sym (xids_take n savepoints)) (in_progress_cut log next n t (xids savepoints) h)

pub released-IsPublisher : (s : PublisherState) (xid depth : ℕ) → IsPublisher s → is_live xid s.live ≡ true → IsPublisher (after_release xid depth s)
released-IsPublisher s xid depth h is =
    let kept : List Savepoint = take (depth - 1) (savepoints_of xid s.live) in
    let same : length (with_savepoints xid (take (depth - 1) (savepoints_of xid s.live)) s.live) ≡ length s.live = length-with_savepoints xid kept s.live in
    let running : IsInProgress s.log s.next_xid xid (xids (savepoints_of xid s.live)) = found (IsRunning s.log s.next_xid) xid s.live is h.live in
    record {
      log = h.log;
      limit = h.limit;
      reserve = omega (arith, same, h.reserve);
      xids = omega (arith, same, h.xids);
      few = omega (arith, same, h.few);
      fresh = h.fresh;
      rising = rising-with_savepoints xid kept s.live h.rising;
      live = all_changed (IsRunning s.log s.next_xid) (IsRunning s.log s.next_xid) xid kept s.live h.rising h.live (λ p progress other. progress)
          (running_cut s.log s.next_xid (depth - 1) xid (savepoints_of xid s.live) running);
    }

-- CALLS THAT WRITE A RECORD

pub all_innermost : (P : ℕ → Type 0) (y : ℕ) (xs : List ℕ) → AllByRecursion P (y ∷ xs) → P (last_of y xs)
all_innermost P y [] all = all.0
all_innermost P y (x ∷ xs) all = all_innermost P x xs all.1

pub open_at : (s : PublisherState) (xid : ℕ) → IsPublisher s → is_live xid s.live ≡ true → IsInProgress s.log s.next_xid xid (xids (savepoints_of xid s.live))
open_at s xid h is = found (IsRunning s.log s.next_xid) xid s.live is h.live

all_quiet : (body : Body) → ((x : ℕ) → IsQuiet body x) → (xs : List ℕ) → AllByRecursion (IsQuiet body) xs
all_quiet body quiet [] = tt
all_quiet body quiet (x ∷ xs) = (quiet x, all_quiet body quiet xs)

innermost_below : (s : PublisherState) (xid : ℕ) → IsPublisher s → is_live xid s.live ≡ true → innermost xid s.live < s.next_xid
innermost_below s xid h is = all_innermost (λ x. x < s.next_xid) xid (xids (savepoints_of xid s.live)) (open_at s xid h is).below

pub changed-IsPublisher : (s : PublisherState) (xid : ℕ) (change : Change) → IsPublisher s → is_live xid s.live ≡ true → 0 < room s →
    FitsChange s.tables change → size_of (Changed (innermost xid s.live) change) ≤ 2 ^ 14 → IsPublisher (after_change xid change s)
changed-IsPublisher s xid change h is free fits small =
    let body : Body = Changed (innermost xid s.live) change in
    let r : Record = record_after s.log (Changed (innermost xid s.live) change) in
    let below : innermost xid s.live < s.next_xid = innermost_below s xid h is in
    let longer : length (s.log ++ record_after s.log (Changed (innermost xid s.live) change) ∷ []) ≡ length s.log + 1 = length-append s.log (r ∷ []) in
    record {
      log = log_grown s.tables s.log body h.log (IsOpen-innermost s.log s.next_xid xid (xids (savepoints_of xid s.live)) (open_at s xid h is))
          (omega (arith, h.limit, h.xids, h.reserve), fits) small (omega (arith, h.limit));
      limit = h.limit;
      reserve = omega (arith, longer, free);
      xids = omega (arith, longer, h.xids);
      few = h.few;
      fresh = fresh_grown s.log r s.next_xid s.next_xid (omega arith) h.fresh (λ x above. later_than (innermost xid s.live) s.next_xid x below above);
      rising = h.rising;
      live = all_when (IsRunning s.log s.next_xid) (IsRunning (s.log ++ r ∷ []) s.next_xid) (λ (p : LiveTransaction) (running : IsRunning s.log s.next_xid p).
          in_progress_quiet s.log r s.next_xid s.next_xid p.xid (xids p.savepoints) (omega arith) (all_quiet body (λ x. record { assigned = refl; ended = refl; undone = refl }) (p.xid ∷ xids p.savepoints)) running) s.live h.live;
    }

pub noted-IsPublisher : (s : PublisherState) (change : Change) → IsPublisher s → 0 < room s → IsMessage change → FitsChange s.tables change → size_of (Note change) ≤ 2 ^ 14 →
    IsPublisher (with_record (Note change) s)
noted-IsPublisher s change h free is fits small =
    let r : Record = record_after s.log (Note change) in
    let longer : length (s.log ++ record_after s.log (Note change) ∷ []) ≡ length s.log + 1 = length-append s.log (r ∷ []) in
    record {
      log = log_grown s.tables s.log (Note change) h.log tt (is, fits) small (omega (arith, h.limit, free));
      limit = h.limit;
      reserve = omega (arith, longer, free);
      xids = omega (arith, longer, h.xids);
      few = h.few;
      fresh = fresh_grown s.log r s.next_xid s.next_xid (omega arith) h.fresh (λ x above. refl);
      rising = h.rising;
      live = all_when (IsRunning s.log s.next_xid) (IsRunning (s.log ++ r ∷ []) s.next_xid) (λ (p : LiveTransaction) (running : IsRunning s.log s.next_xid p).
          in_progress_quiet s.log r s.next_xid s.next_xid p.xid (xids p.savepoints) (omega arith) (all_quiet (Note change) (λ x. record { assigned = refl; ended = refl; undone = refl }) (p.xid ∷ xids p.savepoints)) running) s.live h.live;
    }

-- the end of another transaction does nothing to the xids of this one
quiet_by_top : (log : List Record) (next y t : ℕ) (body : Body) (p : LiveTransaction) → IsRunning log next p → top_of log y ≡ t → (p.xid == t) ≡ false →
    ((x : ℕ) → (y == x) ≡ false → IsQuiet body x) → AllByRecursion (IsQuiet body) (p.xid ∷ xids p.savepoints)
quiet_by_top log next y t body p running top other quiet =
    all_when _ _ (λ (x : ℕ) (x_top : top_of log x ≡ p.xid). quiet x (tops_apart log y x t p.xid top x_top (eqb_comm t p.xid ∙ other))) (p.xid ∷ xids p.savepoints) (xids-top log next p.xid (xids p.savepoints) running)

ended-IsPublisher : (s : PublisherState) (xid : ℕ) (body : Body) → IsPublisher s → is_live xid s.live ≡ true →
    (is_assigned s.log xid ≡ false → IsOpen s.log xid → IsNext s.log body) → (xid < 2 ^ 32 → FitsBody s.tables body) → size_of body ≤ 2 ^ 14 →
    ((x : ℕ) → names x body ≡ (x == xid)) → ((x : ℕ) → (xid == x) ≡ false → IsQuiet body x) → IsPublisher (after_end xid body s)
ended-IsPublisher s xid body h is next fits small naming quiet =
    let o : IsInProgress s.log s.next_xid xid (xids (savepoints_of xid s.live)) = open_at s xid h is in
    let alone : IsOpen s.log xid = IsOpen-innermost s.log s.next_xid xid [] (in_progress_cut s.log s.next_xid 0 xid (xids (savepoints_of xid s.live)) o) in
    let r : Record = record_after s.log body in
    let below : xid < s.next_xid = o.below.0 in
    let top : top_of s.log xid ≡ xid = rw (chain-unassigned s.log xid o.top) refl in
    let longer : length (s.log ++ record_after s.log body ∷ []) ≡ length s.log + 1 = length-append s.log (r ∷ []) in
    let fewer : length (without xid s.live) + 1 ≡ length s.live = length-without xid s.live h.rising is in
    record {
      log = log_grown s.tables s.log body h.log (next o.top alone) (fits (omega (arith, h.limit, h.xids, h.reserve))) small (omega (arith, h.limit, h.reserve));
      limit = h.limit;
      reserve = omega (arith, longer, fewer, h.reserve);
      xids = omega (arith, longer, fewer, h.xids);
      few = omega (arith, fewer, h.few);
      fresh = fresh_grown s.log r s.next_xid s.next_xid (omega arith) h.fresh (λ x above. naming x ∙ later_than xid s.next_xid x below above);
      rising = rising-without xid s.live h.rising;
      live = all_without (IsRunning s.log s.next_xid) (IsRunning (s.log ++ r ∷ []) s.next_xid) xid s.live h.live
          (λ p running other. in_progress_quiet s.log r s.next_xid s.next_xid p.xid (xids p.savepoints) (omega arith) (quiet_by_top s.log s.next_xid xid xid body p running top other quiet) running);
    }

pub after_commit-IsPublisher : (s : PublisherState) (xid : ℕ) (time : ℤ) → IsPublisher s → is_live xid s.live ≡ true → FitsSigned w64 time → IsPublisher (after_commit xid time s)
after_commit-IsPublisher s xid time h is fits =
    ended-IsPublisher s xid (Commit xid time) h is (λ top alone. (top, alone)) (λ lt. (lt, fits)) (omega arith) (λ x. refl)
    (λ x other. record { assigned = refl; ended = other; undone = refl })

pub after_abort-IsPublisher : (s : PublisherState) (xid : ℕ) → IsPublisher s → is_live xid s.live ≡ true → IsPublisher (after_abort xid s)
after_abort-IsPublisher s xid h is =
    ended-IsPublisher s xid (Abort xid) h is (λ top alone. (top, alone)) (λ lt. lt) (omega arith) (λ x. refl)
    (λ x other. record { assigned = refl; ended = other; undone = refl })

pub saved-IsPublisher : (s : PublisherState) (xid : ℕ) → IsPublisher s → is_live xid s.live ≡ true → length (savepoints_of xid s.live) < MAX_DEPTH → 0 < room s → IsPublisher (after_savepoint xid s)
saved-IsPublisher s xid h is shallow free =
    let open_ones : List Savepoint = savepoints_of xid s.live in
    let more : List Savepoint = open_ones ++ next_savepoint xid s ∷ [] in
    let xs : List ℕ = xids open_ones in
    let parent : ℕ = innermost xid s.live in
    let body : Body = Assign s.next_xid parent in
    let r : Record = record_after s.log body in
    let running : IsInProgress s.log s.next_xid xid xs = open_at s xid h is in
    let below : parent < s.next_xid = innermost_below s xid h is in
    let longer : length (s.log ++ r ∷ []) ≡ length s.log + 1 = length-append s.log (r ∷ []) in
    let same : length (with_savepoints xid more s.live) ≡ length s.live = length-with_savepoints xid more s.live in
    let unheard : is_named s.log s.next_xid ≡ false = h.fresh s.next_xid (omega arith) in
    let quiet : (t : ℕ) (ys : List ℕ) → IsInProgress s.log s.next_xid t ys → AllByRecursion (IsQuiet body) (t ∷ ys) =
    λ t ys progress. all_when _ _ (λ (x : ℕ) (lt : x < s.next_xid). record { assigned = ne_eqb s.next_xid x (λ e. absurd (omega (arith, lt, e))); ended = refl; undone = refl }) (t ∷ ys) progress.below in
    let chained : chain (s.log ++ r ∷ []) s.next_xid ≡ s.next_xid ∷ onto (xid ∷ []) xs =
    chain-append s.log r s.next_xid ∙ rw (eq-eqb s.next_xid s.next_xid refl) (ap (λ ys. s.next_xid ∷ ys) (chain-innermost s.log xid [] xs (chain-unassigned s.log xid running.top) running.nested)) in
    let assigned : is_assigned (s.log ++ r ∷ []) s.next_xid ≡ true =
    is_assigned-one s.log r s.next_xid ∙ rw (unnamed assigns s.next_xid (unnamed-assigns s.next_xid) s.log unheard, eq-eqb s.next_xid s.next_xid refl) refl in
    let undropped : is_undone (s.log ++ r ∷ []) s.next_xid ≡ false =
    is_undone-one s.log r s.next_xid ∙ rw (unnamed undoes s.next_xid (unnamed-undoes s.next_xid) s.log unheard) refl in
    record {
      log = log_grown s.tables s.log body h.log (unheard, ne_eqb s.next_xid parent (λ e. absurd (omega (arith, below, e))), IsOpen-innermost s.log s.next_xid xid xs running)
          (omega (arith, h.limit, h.xids, h.reserve, free), omega (arith, below, h.limit, h.xids, h.reserve)) (omega arith) (omega (arith, h.limit, free));
      limit = h.limit;
      reserve = omega (arith, longer, same, free);
      xids = omega (arith, longer, same, h.xids);
      few = omega (arith, same, h.few);
      fresh = fresh_grown s.log r s.next_xid (s.next_xid + 1) (omega arith) h.fresh
          (λ x above. rw (later_than s.next_xid (s.next_xid + 1) x (omega arith) above, later_than parent (s.next_xid + 1) x (omega (arith, below)) above) refl);
      rising = rising-with_savepoints xid more s.live h.rising;
      live = all_changed (IsRunning s.log s.next_xid) (IsRunning (s.log ++ r ∷ []) (s.next_xid + 1)) xid more s.live h.rising h.live
          (λ p progress other. in_progress_quiet s.log r s.next_xid (s.next_xid + 1) p.xid (xids p.savepoints) (omega arith) (quiet p.xid (xids p.savepoints) progress) progress)
          (subst (λ (ys : List ℕ). IsInProgress (s.log ++ r ∷ []) (s.next_xid + 1) xid ys) (sym (xids_push open_ones (next_savepoint xid s)))
          (in_progress_push (s.log ++ r ∷ []) (s.next_xid + 1) s.next_xid xid xs (in_progress_quiet s.log r s.next_xid (s.next_xid + 1) xid xs (omega arith) (quiet xid xs running) running)
          (omega arith) assigned undropped chained running.below (omega (arith, shallow, xids_length open_ones))));
    }

pub rolled_back-IsPublisher : (s : PublisherState) (xid depth : ℕ) → IsPublisher s → is_live xid s.live ≡ true → 0 < depth → depth ≤ length (savepoints_of xid s.live) → 0 < room s → IsPublisher (after_rollback xid depth s)
rolled_back-IsPublisher s xid depth h is some within free =
    let open_ones : List Savepoint = savepoints_of xid s.live in
    let xs : List ℕ = xids open_ones in
    let n : ℕ = depth - 1 in
    let sub : ℕ = get_or xs n 0 in
    let lt : n < length xs = omega (arith, some, within, xids_length open_ones) in
    let body : Body = AbortSub sub in
    let r : Record = record_after s.log body in
    let running : IsInProgress s.log s.next_xid xid xs = open_at s xid h is in
    let cut : IsInProgress s.log s.next_xid xid (take n xs) = in_progress_cut s.log s.next_xid n xid xs running in
    let below : sub < s.next_xid = all_at (λ x. x < s.next_xid) n xs lt running.below.1 in
    let longer : length (s.log ++ r ∷ []) ≡ length s.log + 1 = length-append s.log (r ∷ []) in
    let same : length (with_savepoints xid (take n open_ones) s.live) ≡ length s.live = length-with_savepoints xid (take n open_ones) s.live in
    let last : last_of xid (take (n + 1) xs) ≡ sub = last_of-take xid n xs lt in
    let alive : IsOpen s.log sub = subst (λ (x : ℕ). IsOpen s.log x) last (IsOpen-innermost s.log s.next_xid xid (take (n + 1) xs) (in_progress_cut s.log s.next_xid (n + 1) xid xs running)) in
    let top : top_of s.log sub ≡ xid = all_at (λ x. top_of s.log x ≡ xid) n xs lt (xids-top s.log s.next_xid xid xs running).1 in
    let quiet : (x : ℕ) → (sub == x) ≡ false → IsQuiet body x = λ x other. record { assigned = refl; ended = refl; undone = other } in
    let kept : AllByRecursion (IsQuiet body) (xid ∷ take n xs) =
    all_when _ _ (λ (x : ℕ) (low : x < sub). quiet x (ne_eqb sub x (λ e. absurd (omega (arith, low, e))))) (xid ∷ take n xs) (above_xids s.log s.next_xid n xid xs running lt) in
    record {
      log = log_grown s.tables s.log body h.log (all_at (λ x. is_assigned s.log x ≡ true) n xs lt running.subs, alive)
          (omega (arith, below, h.limit, h.xids, h.reserve)) (omega arith) (omega (arith, h.limit, free));
      limit = h.limit;
      reserve = omega (arith, longer, same, free);
      xids = omega (arith, longer, same, h.xids);
      few = omega (arith, same, h.few);
      fresh = fresh_grown s.log r s.next_xid s.next_xid (omega arith) h.fresh (λ x above. later_than sub s.next_xid x below above);
      rising = rising-with_savepoints xid (take n open_ones) s.live h.rising;
      live = all_changed (IsRunning s.log s.next_xid) (IsRunning (s.log ++ r ∷ []) s.next_xid) xid (take n open_ones) s.live h.rising h.live
          (λ p progress other. in_progress_quiet s.log r s.next_xid s.next_xid p.xid (xids p.savepoints) (omega arith) (quiet_by_top s.log s.next_xid sub xid body p progress top other quiet) progress)
          (subst (λ (ys : List ℕ). IsInProgress (s.log ++ r ∷ []) s.next_xid xid ys) (sym (xids_take n open_ones))
          (in_progress_quiet s.log r s.next_xid s.next_xid xid (take n xs) (omega arith) kept cut));
    }
