-- The marks of open savepoints part the changes of their transactions, after each call too.
use Rattle.std.proofs.Common.{◌≡◌, ℕ, ℤ, ◌+◌, ◌-◌, ◌<◌, ◌≤◌, ◌==◌, Bool, true, false, cond, ◌||◌, not, List, [], ◌∷◌, ◌++◌, reverse, length, take, get_or, add-one, refl, sym, ap, subst, ◌∙◌, arith, eq-eqb}
use Rattle.std.specs.List.{filter, list_any, AllByRecursion}
use Rattle.std.proofs.lemmas.Bool.{eqb-true, eqb-false}
use Rattle.std.proofs.lemmas.List.Sorted.{list_any-IsPermutation, IsPermutation-reverse}
use Rattle.tables.specs.declared.changes.change.Change.{Change}
use Rattle.txlog.specs.declared.transactions.savepoint.Savepoint.{Savepoint}
use Rattle.wal.specs.declared.record.Record.{Record}
use Rattle.wal.specs.declared.record.Body.{Body}
use Rattle.wal.specs.declared.record.Body.TheVariants.{Assign, Change as Changed, AbortSub, Abort, Commit, Note}
use Rattle.wal.specs.Log.{IsWellFormedLog, IsOpen, names, is_named, chain_step, chain_back, chain, last_of, top_of, Entry, entries}
use Rattle.wal.specs.Places.{IsChain}
use Rattle.txlog.specs.Rows.{stands, standing_changes, made_by}
use Rattle.wal.specs.Records.{record_after}
use Rattle.txlog.specs.Publishing.{LiveTransaction, PublisherState, xids, next_savepoint, with_record, is_live, savepoints_of, innermost, after_change, after_savepoint, after_release, after_rollback, after_commit, after_abort}
use Rattle.txlog.specs.Invariants.{IsInProgress, IsRunning, IsPublisher, IsBehind, IsMarked, is_own, is_under}
use Rattle.wal.proofs.Lists.{or_false, each, all_both, all_filter, all_fewer, eqb_comm, all_append}
use Rattle.wal.proofs.Laws.{chain-append, chain-unassigned, top-kept, KeepsChains, all_when, changes_named}
use Rattle.txlog.proofs.LiveList.{xids_take, xids_length, found, all_changed, all_without, with-own}
use Rattle.wal.proofs.Places.{chain-IsChain, chain-only}
use Rattle.txlog.proofs.Progress.{onto, chain-innermost, IsOpen-innermost, xids-top, all_take, in_progress_cut, last_of-take, all_at}
use Rattle.txlog.proofs.Standing.{standing-commit, standing-abort, standing-undo, standing-change, standing-assign, standing-note, chain-assign}
use Rattle.txlog.proofs.Histories.{tells_own}
use Rattle.txlog.proofs.Marks.{after_agrees, after_push, after_filter, after_all}
use Rattle.txlog.proofs.Transitions.{open_at, all_innermost}

-- CHAINS

or_left : (a b : Bool) → (a || b) ≡ false → a ≡ false
or_left true b e = cc
or_left false b e = refl

or_right : (a b : Bool) → (a || b) ≡ false → b ≡ false
or_right true b e = cc
or_right false b e = e

or_true : (a b : Bool) → b ≡ true → (a || b) ≡ true
or_true true b e = refl
or_true false b e = e

not_true : (b : Bool) → (b ≡ true → ⊥) → b ≡ false
not_true true f = absurd (f refl)
not_true false f = refl

true_by_not : (b : Bool) → not b ≡ false → b ≡ true
true_by_not true e = refl
true_by_not false e = cc

-- what is said of the chain of an xid above, in the chain of one below
abbrev Within : List Record → ℕ → ℕ → List ℕ → Type 0
Within log x z xs = (last_of x (chain log x) ≡ last_of z xs) × ((p : ℕ → Bool) → list_any p (chain log x) ≡ true → list_any p xs ≡ true)

whole : (log : List Record) → IsWellFormedLog log → (z y : ℕ) (rest : List ℕ) → IsChain log z (y ∷ rest) → y ≡ z → (x : ℕ) → (x == y) ≡ true → Within log x z (y ∷ rest)
whole log h z y rest chained head x same =
    let is : x ≡ z = eqb-true x y same ∙ head in
    let all : chain log x ≡ y ∷ rest = ap (chain log) is ∙ sym (chain-only log z (y ∷ rest) h chained) in
    (ap (last_of x) all, λ p any. ap (list_any p) (sym all) ∙ any)

within : (log : List Record) → IsWellFormedLog log → (z : ℕ) (xs : List ℕ) → IsChain log z xs → (x : ℕ) → list_any (λ y. x == y) xs ≡ true → Within log x z xs
within log h z [] chained x is = absurd chained
within log h z (y ∷ []) chained x is = whole log h z y [] chained chained.0 x (sym (or_false (x == y)) ∙ is)
within log h z (y ∷ w ∷ above) chained x is = by_test (x == y) refl is (within log h w (w ∷ above) chained.2 x)
  where
    by_test : (b : Bool) → (x == y) ≡ b → (b || list_any (λ v. x == v) (w ∷ above)) ≡ true → (list_any (λ v. x == v) (w ∷ above) ≡ true → Within log x w (w ∷ above)) →
        Within log x z (y ∷ w ∷ above)
    by_test true same any rest = whole log h z y (w ∷ above) chained chained.0 x same
    by_test false same any rest = let inner = rest any in (inner.0, λ p one. or_true (p y) (list_any p (w ∷ above)) (inner.1 p one))

-- a change under a savepoint is its transaction's, and under all that are above it
under_within : (log : List Record) → IsWellFormedLog log → (x : ℕ) (e : Entry) → is_under log x e ≡ true → Within log x e.xid (chain log e.xid)
under_within log h x e is = within log h e.xid (chain log e.xid) (chain-IsChain log e.xid h) x is

not_under : (log : List Record) → IsWellFormedLog log → (x s t : ℕ) (e : Entry) → top_of log x ≡ s → top_of log e.xid ≡ t → (s == t) ≡ false → is_under log x e ≡ false
not_under log h x s t e x_top e_top other = not_true (is_under log x e) (λ is.
    let same : s ≡ t = sym x_top ∙ (under_within log h x e is).0 ∙ e_top in
    eqb-false s t other same)

onto_any : (p : ℕ → Bool) (below xs : List ℕ) → list_any p below ≡ true → list_any p (onto below xs) ≡ true
onto_any p below [] is = is
onto_any p below (x ∷ xs) is = onto_any p (x ∷ below) xs (or_true (p x) (list_any p below) is)

members : (below xs : List ℕ) → AllByRecursion (λ x. list_any (λ y. x == y) (onto below xs) ≡ true) xs
members below [] = tt
members below (x ∷ xs) = (onto_any (λ y. x == y) (x ∷ below) xs (rw (eq-eqb x x refl) refl), members (x ∷ below) xs)

-- an xid that no record names is in no other's chain
absent_back : (older : List Record) (z x : ℕ) → is_named older z ≡ false → (z == x) ≡ false → list_any (λ y. z == y) (chain_back older x) ≡ false
absent_back [] z x none other = rw other refl
absent_back (r ∷ older) z x none other =
    by_body r.body (or_left (names z r.body) (is_named older z) none) (λ w. absent_back older z w (or_right (names z r.body) (is_named older z) none))
  where
    by_body : (body : Body) → names z body ≡ false → ((w : ℕ) → (z == w) ≡ false → list_any (λ y. z == y) (chain_back older w) ≡ false) →
        list_any (λ y. z == y) (chain_step (chain_back older) body x) ≡ false
    by_body (Assign sub parent) unnamed rest = by_test (sub == x)
      where
        by_test : (b : Bool) → list_any (λ y. z == y) (cond b (x ∷ chain_back older parent) (chain_back older x)) ≡ false
        by_test true = rw (other, rest parent (or_right (z == sub) (z == parent) unnamed)) refl
        by_test false = rest x other
    by_body (Changed xid change) unnamed rest = rest x other
    by_body (AbortSub xid) unnamed rest = rest x other
    by_body (Abort xid) unnamed rest = rest x other
    by_body (Note change) unnamed rest = rest x other
    by_body (Commit xid time) unnamed rest = rest x other

absent_in_chain : (log : List Record) (z x : ℕ) → is_named log z ≡ false → (z == x) ≡ false → list_any (λ y. z == y) (chain log x) ≡ false
absent_in_chain log z x none other =
    absent_back (reverse log) z x (sym (list_any-IsPermutation (λ r. names z r.body) log (reverse log) (IsPermutation-reverse log)) ∙ none) other

-- MARKS

abbrev MarkedAt : List Record → ℕ → Savepoint → Type 0
MarkedAt log t s = IsBehind (is_own log t) (is_under log s.xid) s.mark (standing_changes log)

of_xids : (P : ℕ → Type 0) (savepoints : List Savepoint) → AllByRecursion P (xids savepoints) → AllByRecursion (λ s. P s.xid) savepoints
of_xids P [] all = tt
of_xids P (s ∷ savepoints) all = (all.0, of_xids P savepoints all.1)

-- after a record that names no parent, whatever stands then
kept_mark : (log : List Record) (r : Record) → KeepsChains r.body → (t : ℕ) (s : Savepoint) (es : List Entry) → standing_changes (log ++ r ∷ []) ≡ es →
    IsBehind (is_own log t) (is_under log s.xid) s.mark es → MarkedAt (log ++ r ∷ []) t s
kept_mark log r keeps t s es stood h =
    subst (λ (l : List Entry). IsBehind (is_own (log ++ r ∷ []) t) (is_under (log ++ r ∷ []) s.xid) s.mark l) (sym stood)
    (after_agrees (is_own log t) (is_under log s.xid) (is_own (log ++ r ∷ []) t) (is_under (log ++ r ∷ []) s.xid) s.mark es (each _ same es) h)
  where
    same : (e : Entry) → (is_own (log ++ r ∷ []) t e ≡ is_own log t e) × (is_under (log ++ r ∷ []) s.xid e ≡ is_under log s.xid e)
    same e = (ap (λ (n : ℕ). n == t) (top-kept log r keeps e.xid), ap (list_any (λ y. s.xid == y)) (chain-append log r e.xid ∙ keeps (chain log) e.xid))

-- the savepoints of a transaction, each with its top and its mark
abbrev TopAndMark : List Record → ℕ → Savepoint → Type 0
TopAndMark log t s = (top_of log s.xid ≡ t) × MarkedAt log t s

tops_and_marks : (log : List Record) (next : ℕ) (o : LiveTransaction) → IsRunning log next o → IsMarked log o → AllByRecursion (TopAndMark log o.xid) o.savepoints
tops_and_marks log next o running marked =
    all_both (λ s. top_of log s.xid ≡ o.xid) (MarkedAt log o.xid) o.savepoints
    (of_xids (λ x. top_of log x ≡ o.xid) o.savepoints (xids-top log next o.xid (xids o.savepoints) running).1) marked

abbrev RunsMarked : PublisherState → LiveTransaction → Type 0
RunsMarked s o = IsRunning s.log s.next_xid o × IsMarked s.log o

all_marked : (s : PublisherState) → IsPublisher s → AllByRecursion (IsMarked s.log) s.live → AllByRecursion (RunsMarked s) s.live
all_marked s h marked = all_both (IsRunning s.log s.next_xid) (IsMarked s.log) s.live h.live marked

-- what is done to the savepoints of the others
others : (s : PublisherState) (log : List Record) (xid : ℕ) → ((t : ℕ) (p : Savepoint) → (t == xid) ≡ false → TopAndMark s.log t p → MarkedAt log t p) →
    (o : LiveTransaction) → RunsMarked s o → (o.xid == xid) ≡ false → IsMarked log o
others s log xid step o both other =
    all_when (TopAndMark s.log o.xid) (MarkedAt log o.xid) (λ p. step o.xid p other) o.savepoints (tops_and_marks s.log s.next_xid o both.0 both.1)

-- CALLS

pub marked-changed : (s : PublisherState) (xid : ℕ) (change : Change) → IsPublisher s → AllByRecursion (IsMarked s.log) s.live → is_live xid s.live ≡ true →
    AllByRecursion (IsMarked (after_change xid change s).log) s.live
marked-changed s xid change h marked is =
    let savepoints : List Savepoint = savepoints_of xid s.live in
    let y : ℕ = innermost xid s.live in
    let r : Record = record_after s.log (Changed y change) in
    let e : Entry = record { position = r.start; xid = y; change = change } in
    let running : IsInProgress s.log s.next_xid xid (xids savepoints) = open_at s xid h is in
    let is_open : IsOpen s.log y = IsOpen-innermost s.log s.next_xid xid (xids savepoints) running in
    let top : top_of s.log y ≡ xid = all_innermost (λ x. top_of s.log x ≡ xid) xid (xids savepoints) (xids-top s.log s.next_xid xid (xids savepoints) running) in
    let stood : standing_changes (s.log ++ r ∷ []) ≡ standing_changes s.log ++ e ∷ [] = standing-change s.log r.start r.end y change is_open.running is_open.undropped in
    let chained : chain s.log y ≡ onto (xid ∷ []) (xids savepoints) = chain-innermost s.log xid [] (xids savepoints) (chain-unassigned s.log xid running.top) running.nested in
    let pushed : (t : ℕ) (p : Savepoint) → is_under s.log p.xid e ≡ is_own s.log t e → MarkedAt s.log t p → MarkedAt (s.log ++ r ∷ []) t p =
    λ t p same mark. kept_mark s.log r (λ above x. refl) t p (standing_changes s.log ++ e ∷ []) stood (after_push (is_own s.log t) (is_under s.log p.xid) p.mark (standing_changes s.log) e same mark) in
    let of_other : (t : ℕ) (p : Savepoint) → (t == xid) ≡ false → TopAndMark s.log t p → MarkedAt (s.log ++ r ∷ []) t p =
    λ t p other both. pushed t p
    (not_under s.log h.log.good p.xid t xid e both.0 top other ∙ sym (ap (λ (n : ℕ). n == t) top ∙ eqb_comm xid t ∙ other)) both.1 in
    let own : AllByRecursion (λ (p : Savepoint). (is_under s.log p.xid e ≡ true) × MarkedAt s.log xid p) savepoints =
    all_both (λ p. is_under s.log p.xid e ≡ true) (MarkedAt s.log xid) savepoints
    (of_xids (λ x. list_any (λ z. x == z) (chain s.log y) ≡ true) savepoints
    (subst (λ (l : List ℕ). AllByRecursion (λ x. list_any (λ z. x == z) l ≡ true) (xids savepoints)) (sym chained) (members (xid ∷ []) (xids savepoints))))
    (found (IsMarked s.log) xid s.live is marked) in
    subst (λ (live : List LiveTransaction). AllByRecursion (IsMarked (s.log ++ r ∷ [])) live) (with-own xid s.live)
    (all_changed (RunsMarked s) (IsMarked (s.log ++ r ∷ [])) xid savepoints s.live h.rising (all_marked s h marked) (others s (s.log ++ r ∷ []) xid of_other)
    (all_when _ _ (λ (p : Savepoint) (both : (is_under s.log p.xid e ≡ true) × MarkedAt s.log xid p).
    pushed xid p (both.0 ∙ sym (ap (λ (n : ℕ). n == xid) top ∙ eq-eqb xid xid refl)) both.1) savepoints own))

pub marked-saved : (s : PublisherState) (xid : ℕ) → IsPublisher s → AllByRecursion (IsMarked s.log) s.live → is_live xid s.live ≡ true →
    AllByRecursion (IsMarked (after_savepoint xid s).log) (after_savepoint xid s).live
marked-saved s xid h marked is =
    let savepoints : List Savepoint = savepoints_of xid s.live in
    let sub : ℕ = s.next_xid in
    let parent : ℕ = innermost xid s.live in
    let r : Record = record_after s.log (Assign sub parent) in
    let unheard : is_named s.log sub ≡ false = h.fresh sub (omega arith) in
    let running : IsInProgress s.log s.next_xid xid (xids savepoints) = open_at s xid h is in
    let stood : standing_changes (s.log ++ r ∷ []) ≡ standing_changes s.log = standing-assign s.log r.start r.end sub parent unheard in
    let apart : AllByRecursion (λ (e : Entry). (sub == e.xid) ≡ false) (standing_changes s.log) = all_filter _ (stands s.log) (entries s.log) (changes_named s.log sub unheard) in
    let moved : (t : ℕ) (p : Savepoint) → MarkedAt s.log t p → MarkedAt (s.log ++ r ∷ []) t p =
    λ t p mark. subst (λ (l : List Entry). IsBehind (is_own (s.log ++ r ∷ []) t) (is_under (s.log ++ r ∷ []) p.xid) p.mark l) (sym stood)
    (after_agrees (is_own s.log t) (is_under s.log p.xid) (is_own (s.log ++ r ∷ []) t) (is_under (s.log ++ r ∷ []) p.xid) p.mark (standing_changes s.log)
    (all_when _ _ (λ (e : Entry) (other : (sub == e.xid) ≡ false).
    let same : chain (s.log ++ r ∷ []) e.xid ≡ chain s.log e.xid = chain-assign s.log r sub parent e.xid refl other in
    (ap (λ (l : List ℕ). last_of e.xid l == t) same, ap (list_any (λ y. p.xid == y)) same)) (standing_changes s.log) apart) mark) in
    let fresh : MarkedAt s.log xid (next_savepoint xid s) =
    after_all xid (made_by s.log) (is_own s.log xid) (is_under s.log sub) (standing_changes s.log) (tells_own s.log xid running.running)
    (all_when _ _ (λ (e : Entry) (other : (sub == e.xid) ≡ false). absent_in_chain s.log sub e.xid unheard other) (standing_changes s.log) apart) in
    all_changed (IsMarked s.log) (IsMarked (s.log ++ r ∷ [])) xid (savepoints ++ next_savepoint xid s ∷ []) s.live h.rising marked
    (λ o mark other. all_when _ _ (moved o.xid) o.savepoints mark)
    (all_append (MarkedAt (s.log ++ r ∷ []) xid) savepoints (next_savepoint xid s ∷ []) (all_when _ _ (moved xid) savepoints (found (IsMarked s.log) xid s.live is marked))
    (moved xid (next_savepoint xid s) fresh, tt))

pub marked-released : (s : PublisherState) (xid depth : ℕ) → IsPublisher s → AllByRecursion (IsMarked s.log) s.live → is_live xid s.live ≡ true →
    AllByRecursion (IsMarked s.log) (after_release xid depth s).live
marked-released s xid depth h marked is =
    all_changed (IsMarked s.log) (IsMarked s.log) xid (take (depth - 1) (savepoints_of xid s.live)) s.live h.rising marked (λ o mark other. mark)
    (all_take _ (depth - 1) (savepoints_of xid s.live) (found (IsMarked s.log) xid s.live is marked))

pub marked-rolled_back : (s : PublisherState) (xid depth : ℕ) → IsPublisher s → AllByRecursion (IsMarked s.log) s.live → is_live xid s.live ≡ true →
    0 < depth → depth ≤ length (savepoints_of xid s.live) → AllByRecursion (IsMarked (after_rollback xid depth s).log) (after_rollback xid depth s).live
marked-rolled_back s xid depth h marked is some enough =
    let savepoints : List Savepoint = savepoints_of xid s.live in
    let xs : List ℕ = xids savepoints in
    let n : ℕ = depth - 1 in
    let lt : n < length xs = omega (arith, some, enough, xids_length savepoints) in
    let sub : ℕ = get_or xs n 0 in
    let r : Record = record_after s.log (AbortSub sub) in
    let running : IsInProgress s.log s.next_xid xid xs = open_at s xid h is in
    let top : top_of s.log sub ≡ xid = all_at (λ x. top_of s.log x ≡ xid) n xs lt (xids-top s.log s.next_xid xid xs running).1 in
    let last : last_of xid (take (n + 1) xs) ≡ sub = last_of-take xid n xs lt in
    let chained : chain s.log sub ≡ onto (xid ∷ []) (take (n + 1) xs) =
    ap (chain s.log) (sym last)
    ∙ chain-innermost s.log xid [] (take (n + 1) xs) (chain-unassigned s.log xid running.top) (in_progress_cut s.log s.next_xid (n + 1) xid xs running).nested in
    let above : AllByRecursion (λ (x : ℕ). list_any (λ y. x == y) (chain s.log sub) ≡ true) (take (n + 1) xs) =
    subst (λ (l : List ℕ). AllByRecursion (λ x. list_any (λ y. x == y) l ≡ true) (take (n + 1) xs)) (sym chained) (members (xid ∷ []) (take (n + 1) xs)) in
    let left : List Entry = filter (λ e. not (is_under s.log sub e)) (standing_changes s.log) in
    let stood : standing_changes (s.log ++ r ∷ []) ≡ left = standing-undo s.log r.start r.end sub in
    let cut : (t : ℕ) (p : Savepoint) → ((e : Entry) → is_under s.log sub e ≡ true → is_own s.log t e ≡ true → is_under s.log p.xid e ≡ true) →
    MarkedAt s.log t p → MarkedAt (s.log ++ r ∷ []) t p =
    λ t p keep mark. kept_mark s.log r (λ above x. refl) t p left stood
    (after_filter (is_own s.log t) (is_under s.log p.xid) (λ e. not (is_under s.log sub e)) p.mark (standing_changes s.log)
    (each _ (λ e gone. keep e (true_by_not (is_under s.log sub e) gone)) (standing_changes s.log)) mark) in
    let of_other : (t : ℕ) (p : Savepoint) → (t == xid) ≡ false → TopAndMark s.log t p → MarkedAt (s.log ++ r ∷ []) t p =
    λ t p other both. cut t p (λ e under own.
    let same : t ≡ xid = sym (eqb-true (top_of s.log e.xid) t own) ∙ sym (under_within s.log h.log.good sub e under).0 ∙ top in
    absurd (eqb-false t xid other same)) both.1 in
    let kept_above : AllByRecursion (λ (p : Savepoint). list_any (λ y. p.xid == y) (chain s.log sub) ≡ true) (take n savepoints) =
    of_xids (λ x. list_any (λ y. x == y) (chain s.log sub) ≡ true) (take n savepoints)
    (subst (λ (l : List ℕ). AllByRecursion (λ x. list_any (λ y. x == y) (chain s.log sub) ≡ true) l) (sym (xids_take n savepoints))
    (all_fewer _ n xs (subst (λ (m : ℕ). AllByRecursion (λ x. list_any (λ y. x == y) (chain s.log sub) ≡ true) (take m xs)) (add-one n) above))) in
    let kept_marks : AllByRecursion (MarkedAt s.log xid) (take n savepoints) = all_take _ n savepoints (found (IsMarked s.log) xid s.live is marked) in
    all_changed (RunsMarked s) (IsMarked (s.log ++ r ∷ [])) xid (take n savepoints) s.live h.rising (all_marked s h marked) (others s (s.log ++ r ∷ []) xid of_other)
    (all_when _ _ (λ (p : Savepoint) (both : (list_any (λ y. p.xid == y) (chain s.log sub) ≡ true) × MarkedAt s.log xid p).
    cut xid p (λ e under own. (under_within s.log h.log.good sub e under).1 (λ y. p.xid == y) both.0) both.1) (take n savepoints)
    (all_both (λ p. list_any (λ y. p.xid == y) (chain s.log sub) ≡ true) (MarkedAt s.log xid) (take n savepoints) kept_above kept_marks))

pub marked-commit : (s : PublisherState) (xid : ℕ) (time : ℤ) → IsPublisher s → AllByRecursion (IsMarked s.log) s.live →
    AllByRecursion (IsMarked (after_commit xid time s).log) (after_commit xid time s).live
marked-commit s xid time h marked =
    let r : Record = record_after s.log (Commit xid time) in
    all_without (IsMarked s.log) (IsMarked (s.log ++ r ∷ [])) xid s.live marked (λ o mark other.
    all_when (MarkedAt s.log o.xid) (MarkedAt (s.log ++ r ∷ []) o.xid)
    (λ p one. kept_mark s.log r (λ above x. refl) o.xid p (standing_changes s.log) (standing-commit s.log r.start r.end xid time) one) o.savepoints mark)

pub marked-abort : (s : PublisherState) (xid : ℕ) → IsPublisher s → AllByRecursion (IsMarked s.log) s.live →
    AllByRecursion (IsMarked (after_abort xid s).log) (after_abort xid s).live
marked-abort s xid h marked =
    let r : Record = record_after s.log (Abort xid) in
    let left : List Entry = filter (λ e. not (is_own s.log xid e)) (standing_changes s.log) in
    all_without (IsMarked s.log) (IsMarked (s.log ++ r ∷ [])) xid s.live marked (λ o mark other.
    all_when (MarkedAt s.log o.xid) (MarkedAt (s.log ++ r ∷ []) o.xid)
    (λ p one. kept_mark s.log r (λ above x. refl) o.xid p left (standing-abort s.log r.start r.end xid)
    (after_filter (is_own s.log o.xid) (is_under s.log p.xid) (λ e. not (is_own s.log xid e)) p.mark (standing_changes s.log)
    (each _ (λ e gone own.
    let same : o.xid ≡ xid = sym (eqb-true (top_of s.log e.xid) o.xid own) ∙ eqb-true (top_of s.log e.xid) xid (true_by_not (is_own s.log xid e) gone) in
    absurd (eqb-false o.xid xid other same)) (standing_changes s.log)) one)) o.savepoints mark)

pub marked-note : (s : PublisherState) (change : Change) → AllByRecursion (IsMarked s.log) s.live → AllByRecursion (IsMarked (with_record (Note change) s).log) s.live
marked-note s change marked =
    let r : Record = record_after s.log (Note change) in
    all_when (IsMarked s.log) (IsMarked (s.log ++ r ∷ [])) (λ o mark.
    all_when (MarkedAt s.log o.xid) (MarkedAt (s.log ++ r ∷ []) o.xid)
    (λ p one. kept_mark s.log r (λ above x. refl) o.xid p (standing_changes s.log) (standing-note s.log r.start r.end change) one) o.savepoints mark) s.live marked
