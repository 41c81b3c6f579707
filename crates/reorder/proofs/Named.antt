-- Xids that are named, and the changes of a log with their positions.
use Rattle.std.proofs.Common.{◌≡◌, ℕ, ◌<◌, ◌==◌, Bool, true, false, cond, ◌||◌, List, [], ◌∷◌, reverse, refl, sym, ap, ◌∙◌, eq-eqb}
use Rattle.std.specs.List.{filter, list_any, AllByRecursion}
use Rattle.std.proofs.lemmas.Bool.{eqb-true}
use Rattle.wal.specs.declared.record.Record.{Record}
use Rattle.wal.specs.declared.record.Body.{Body}
use Rattle.wal.specs.declared.record.Body.TheVariants.{Assign, Change as Changed, AbortSub, Abort, Commit, Note}
use Rattle.wal.specs.Log.{Entry, names, is_named, assigns, is_assigned, chain_step, chain_back, is_undone, is_dropped, entry_at, entries}
use Rattle.wal.proofs.Lists.{eqb_comm, all_append}
use Rattle.wal.proofs.Laws.{all_when}
use Rattle.reorder.specs.Bookkeeping.{changes_of}
use Rattle.reorder.specs.Taking.{StartsBehind}

pub or_left : (a b : Bool) → (a || b) ≡ false → a ≡ false
or_left true b is = cc
or_left false b is = refl

pub or_right : (a b : Bool) → (a || b) ≡ false → b ≡ false
or_right true b is = cc
or_right false b is = is

pub or_true : (a b : Bool) → b ≡ true → (a || b) ≡ true
or_true true b is = refl
or_true false b is = is

-- a test of one body that holds only where the xid is named
unnamed : (test : ℕ → Body → Bool) (x : ℕ) → ((body : Body) → names x body ≡ false → test x body ≡ false) → (log : List Record) → is_named log x ≡ false → list_any (λ r. test x r.body) log ≡ false
unnamed test x each [] none = refl
unnamed test x each (r ∷ log) none = rw (each r.body (or_left (names x r.body) (is_named log x) none), unnamed test x each log (or_right (names x r.body) (is_named log x) none)) refl

assigns_named : (x : ℕ) (body : Body) → names x body ≡ false → assigns x body ≡ false
assigns_named x (Assign sub parent) none = eqb_comm sub x ∙ or_left (x == sub) (x == parent) none
assigns_named x (Changed xid change) none = refl
assigns_named x (AbortSub xid) none = refl
assigns_named x (Abort xid) none = refl
assigns_named x (Note change) none = refl
assigns_named x (Commit xid time) none = refl

pub unassigned : (log : List Record) (x : ℕ) → is_named log x ≡ false → is_assigned log x ≡ false
unassigned log x none = unnamed assigns x (assigns_named x) log none

-- a chain begins with its xid
pub none_first : (p : ℕ → Bool) (older : List Record) (x : ℕ) → list_any p (chain_back older x) ≡ false → p x ≡ false
none_first p [] x none = or_left (p x) false none
none_first p (r ∷ older) x none = by_body r.body (none_first p older x) none
  where
    by_body : (body : Body) → (list_any p (chain_back older x) ≡ false → p x ≡ false) → list_any p (chain_step (chain_back older) body x) ≡ false → p x ≡ false
    by_body (Assign sub parent) earlier none' = by_test (sub == x) none'
      where
        by_test : (b : Bool) → list_any p (cond b (x ∷ chain_back older parent) (chain_back older x)) ≡ false → p x ≡ false
        by_test true is = or_left (p x) (list_any p (chain_back older parent)) is
        by_test false is = earlier is
    by_body (Changed xid change) earlier none' = earlier none'
    by_body (AbortSub xid) earlier none' = earlier none'
    by_body (Abort xid) earlier none' = earlier none'
    by_body (Note change) earlier none' = earlier none'
    by_body (Commit xid time) earlier none' = earlier none'

-- what is not dropped is not undone
pub undropped : (log : List Record) (x : ℕ) → is_dropped log x ≡ false → is_undone log x ≡ false
undropped log x none = none_first (is_undone log) (reverse log) x none

-- the changes of a log are of xids that are named
pub entries_named : (log : List Record) → AllByRecursion (λ e. is_named log e.xid ≡ true) (entries log)
entries_named [] = tt
entries_named (r ∷ log) =
    all_append _ (entry_at r.start r.body) (entries log) (here r.start r.body)
    (all_when _ _ (λ (e : Entry) (named : is_named log e.xid ≡ true). or_true (names e.xid r.body) (is_named log e.xid) named) (entries log) (entries_named log))
  where
    here : (start : ℕ) (body : Body) → AllByRecursion (λ (e : Entry). (names e.xid body || is_named log e.xid) ≡ true) (entry_at start body)
    here start (Assign sub parent) = tt
    here start (Changed xid change) = (rw (eq-eqb xid xid refl) refl, tt)
    here start (AbortSub xid) = tt
    here start (Abort xid) = tt
    here start (Note change) = tt
    here start (Commit xid time) = tt

-- their positions are those of records
pub entries_before : (log : List Record) (r : Record) → StartsBehind log r → AllByRecursion (λ e. e.position < r.start) (entries log)
entries_before [] r behind = tt
entries_before (q ∷ log) r behind = all_append _ (entry_at q.start q.body) (entries log) (here q.start q.body behind.0) (entries_before log r behind.1)
  where
    here : (start : ℕ) (body : Body) → start < r.start → AllByRecursion (λ (e : Entry). e.position < r.start) (entry_at start body)
    here start (Assign sub parent) lt = tt
    here start (Changed xid change) lt = (lt, tt)
    here start (AbortSub xid) lt = tt
    here start (Abort xid) lt = tt
    here start (Note change) lt = tt
    here start (Commit xid time) lt = tt

none_pass : (p : Entry → Bool) (es : List Entry) → AllByRecursion (λ e. p e ≡ false) es → filter p es ≡ []
none_pass p [] all = refl
none_pass p (e ∷ es) all = rw (all.0, none_pass p es all.1) refl

pub no_changes : (log : List Record) (x : ℕ) → is_named log x ≡ false → changes_of log x ≡ []
no_changes log x none = none_pass _ (entries log) (all_when _ _ (λ (e : Entry) (named : is_named log e.xid ≡ true). apart e named (e.xid == x) refl) (entries log) (entries_named log))
  where
    apart : (e : Entry) → is_named log e.xid ≡ true → (b : Bool) → (e.xid == x) ≡ b → b ≡ false
    apart e named true is = let never : true ≡ false = sym named ∙ ap (is_named log) (eqb-true e.xid x is) ∙ none in cc
    apart e named false is = refl
