-- The transaction of each record that a call writes.
use Rattle.std.proofs.Common.{◌≡◌, ◌<◌, ◌≤◌, ◌-◌, ℕ, true, false, cond, List, [], ◌∷◌, ◌++◌, length, reverse, Some, refl, ap, sym, subst, ◌∙◌, arith, eq-eqb}
use Rattle.std.specs.Prelude.{slice_get, slice_index}
use Rattle.tables.specs.declared.changes.change.Change.{Change}
use Rattle.wal.specs.declared.record.Record.{Record}
use Rattle.wal.specs.declared.record.Body.TheVariants.{Assign, Change as Changed, AbortSub}
use Rattle.wal.specs.Log.{assigns, chain, last_of, top_of}
use Rattle.wal.specs.Records.{record_after}
use Rattle.wal.proofs.Laws.{chain-append, chain-quiet, chain-unassigned}
use Rattle.wal.proofs.Sections.{ends_in}
use Rattle.txlog.specs.declared.transactions.savepoint.Savepoint.{Savepoint}
use Rattle.txlog.specs.Publishing.{PublisherState, xids, is_live, savepoints_of, innermost}
use Rattle.txlog.specs.Invariants.{IsPublisher}
use Rattle.txlog.specs.declared.changing.Changing.{Changing}
use Rattle.txlog.proofs.Calls.{xid_at}
use Rattle.txlog.proofs.LiveList.{xids_length}
use Rattle.txlog.proofs.Progress.{all_at, xids-top}
use Rattle.txlog.proofs.Transitions.{all_innermost, open_at}

live_in : (s now : PublisherState) (xid : ℕ) → s ≡ now → is_live xid now.live ≡ true → is_live xid s.live ≡ true
live_in s now xid same is = ap (λ (n : PublisherState). is_live xid n.live) same ∙ is

-- the innermost savepoint is of its transaction
pub innermost-top : (s now : PublisherState) (xid : ℕ) → s ≡ now → IsPublisher s → is_live xid now.live ≡ true → top_of s.log (innermost xid s.live) ≡ xid
innermost-top s now xid same h is =
    all_innermost (λ (x : ℕ). top_of s.log x ≡ xid) xid (xids (savepoints_of xid s.live))
    (xids-top s.log s.next_xid xid (xids (savepoints_of xid s.live)) (open_at s xid h (live_in s now xid same is)))

pub changed-top : (log : List Record) (xid innermost : ℕ) (change : Change) → top_of log innermost ≡ xid → top_of (log ++ record_after log (Changed innermost change) ∷ []) innermost ≡ xid
changed-top log xid innermost change is = ap (last_of innermost) (chain-quiet log (record_after log (Changed innermost change)) innermost refl) ∙ is

pub saved-top : (s now : PublisherState) (xid sub parent : ℕ) → s ≡ now → IsPublisher s → is_live xid now.live ≡ true → parent ≡ innermost xid s.live → top_of (s.log ++ record_after s.log (Assign sub parent) ∷ []) sub ≡ xid
saved-top s now xid sub parent same h is inner =
    ap (last_of sub) (chain-append s.log (record_after s.log (Assign sub parent)) sub ∙ ap (λ b. cond b (sub ∷ chain s.log parent) (chain s.log sub)) (eq-eqb sub sub refl))
    ∙ ends_in (reverse s.log) sub parent
    ∙ ap (top_of s.log) inner ∙ innermost-top s now xid same h is

pub ended-top : (s now : PublisherState) (xid : ℕ) (r : Record) → s ≡ now → IsPublisher s → is_live xid now.live ≡ true → assigns xid r.body ≡ false → top_of (s.log ++ r ∷ []) xid ≡ xid
ended-top s now xid r same h is quiet =
    ap (last_of xid) (chain-quiet s.log r xid quiet ∙ chain-unassigned s.log xid (open_at s xid h (live_in s now xid same is)).top)

-- a savepoint is of its transaction
pub undone-top : (s now : PublisherState) (xid depth : ℕ) (savepoint : Savepoint) → s ≡ now → IsPublisher s → is_live xid now.live ≡ true → depth ≤ length (savepoints_of xid now.live)
    → slice_get (savepoints_of xid now.live) (depth - 1) ≡ Some savepoint → 0 < depth → top_of (s.log ++ record_after s.log (AbortSub savepoint.xid) ∷ []) savepoint.xid ≡ xid
undone-top s now xid depth savepoint same h is within at some =
    let back : savepoints_of xid now.live ≡ savepoints_of xid s.live = ap (λ (n : PublisherState). savepoints_of xid n.live) (sym same) in
    let here : slice_get (savepoints_of xid s.live) (depth - 1) ≡ Some savepoint = ap (λ (l : List Savepoint). slice_get l (depth - 1)) (sym back) ∙ at in
    let value : savepoint.xid ≡ slice_index (xids (savepoints_of xid s.live)) (depth - 1) = sym (xid_at (savepoints_of xid s.live) (depth - 1) savepoint here) in
    let tops = xids-top s.log s.next_xid xid (xids (savepoints_of xid s.live)) (open_at s xid h (live_in s now xid same is)) in
    let P : ℕ → Type 0 = λ x. top_of s.log x ≡ xid in
    ap (last_of savepoint.xid) (chain-quiet s.log (record_after s.log (AbortSub savepoint.xid)) savepoint.xid refl)
    ∙ subst P (sym value) (all_at P (depth - 1) (xids (savepoints_of xid s.live)) (omega (arith, within, some, xids_length (savepoints_of xid s.live), ap length back)) tops.1)

pub changing-top : (s now : PublisherState) (tx : ℕ) (at : Changing) → s ≡ now → IsPublisher s → (at.xid ≡ tx) × (is_live tx now.live ≡ true) → at.innermost ≡ innermost tx now.live → top_of s.log at.innermost ≡ at.xid
changing-top s now tx at same h own inner =
    ap (top_of s.log) (inner ∙ ap (λ (p : PublisherState). innermost tx p.live) (sym same)) ∙ innermost-top s now tx same h own.1 ∙ sym own.0
