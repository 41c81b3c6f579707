-- The changes of the transactions in progress, and what each kind of record does to them. No contract of this crate speaks
-- of them yet: a crate that keeps what it may still have to send does.
use Rattle.std.proofs.Common.{◌≡◌, ℕ, ℤ, ◌==◌, Bool, true, false, ◌&&◌, ◌||◌, not, List, [], ◌∷◌, ◌++◌, refl, sym, ap, ◌∙◌}
use Rattle.std.specs.List.{filter, list_any, AllByRecursion}
use Rattle.std.proofs.lemmas.Bool.{eqb-true}
use Rattle.std.proofs.lemmas.List.{append-nil}
use Rattle.std.proofs.lemmas.List.Elements.{filter-append}
use Rattle.tables.specs.declared.changes.change.Change.{Change}
use Rattle.wal.specs.declared.record.Record.{Record}
use Rattle.wal.specs.declared.record.Body.TheVariants.{Assign, Change as Changed, AbortSub, Abort, Commit}
use Rattle.wal.specs.Log.{is_named, is_assigned, chain, last_of, top_of, undoes, is_undone, is_dropped, ends, has_ended, Entry, entry_at, entries, is_kept, kept_changes, IsOpen}
use Rattle.wal.proofs.Lists.{or_false, and_true, none_of, filter_all, filter_agrees, all_agree, filter_twice, list_any_agrees}
use Rattle.wal.proofs.Laws.{entries-append, is_undone-one, has_ended-one, chain-append, chain-unassigned, top-kept, dropped-kept, KeepsChains, all_when, changes_named}

-- whether a change is not dropped and its transaction has not ended
abbrev pub is_live_change : List Record → Entry → Bool
is_live_change log e = not (has_ended log (top_of log e.xid)) && not (is_dropped log e.xid)

-- the changes of the transactions in progress, in order
abbrev pub live_changes : List Record → List Entry
live_changes log = filter (is_live_change log) (entries log)

live-more : (log : List Record) (r : Record) (q : Entry → Bool) →
    AllByRecursion (λ e. is_live_change (log ++ r ∷ []) e ≡ (is_live_change log e && q e)) (entries log) →
    live_changes (log ++ r ∷ []) ≡ filter q (live_changes log) ++ filter (is_live_change (log ++ r ∷ [])) (entry_at r.start r.body)
live-more log r q agree =
    ap (filter (is_live_change (log ++ r ∷ []))) (entries-append log (r ∷ []) ∙ ap (λ es. entries log ++ es) (append-nil (entry_at r.start r.body)))
    ∙ filter-append (is_live_change (log ++ r ∷ [])) (entries log) (entry_at r.start r.body)
    ∙ ap (λ es. es ++ filter (is_live_change (log ++ r ∷ [])) (entry_at r.start r.body))
    (filter_agrees (is_live_change (log ++ r ∷ [])) (λ e. is_live_change log e && q e) (entries log) agree ∙ sym (filter_twice q (is_live_change log) (entries log)))

not_ended : (a b d : Bool) → (not (a || b) && not d) ≡ ((not a && not d) && not b)
not_ended true b d = refl
not_ended false true true = refl
not_ended false true false = refl
not_ended false false true = refl
not_ended false false false = refl

not_dropped : (a d b : Bool) → (not a && not (d || b)) ≡ ((not a && not d) && not b)
not_dropped true d b = refl
not_dropped false true b = refl
not_dropped false false b = refl

-- A transaction that ends takes its changes with it.
live-end : (log : List Record) (r : Record) (t : ℕ) → KeepsChains r.body → ((x : ℕ) → ends x r.body ≡ (t == x)) → ((x : ℕ) → undoes x r.body ≡ false) → entry_at r.start r.body ≡ [] →
    live_changes (log ++ r ∷ []) ≡ filter (λ e. not (t == top_of log e.xid)) (live_changes log)
live-end log r t keeps ending undoing empty =
    live-more log r (λ e. not (t == top_of log e.xid)) (all_agree _ _ agree (entries log))
    ∙ ap (λ es. filter (λ e. not (t == top_of log e.xid)) (live_changes log) ++ filter (is_live_change (log ++ r ∷ [])) es) empty
    ∙ append-nil _
  where
    ended : (e : Entry) → has_ended (log ++ r ∷ []) (top_of (log ++ r ∷ []) e.xid) ≡ (has_ended log (top_of log e.xid) || (t == top_of log e.xid))
    ended e = ap (has_ended (log ++ r ∷ [])) (top-kept log r keeps e.xid) ∙ has_ended-one log r (top_of log e.xid) ∙ ap (λ b. has_ended log (top_of log e.xid) || b) (ending (top_of log e.xid))

    dropped : (e : Entry) → is_dropped (log ++ r ∷ []) e.xid ≡ is_dropped log e.xid
    dropped e = dropped-kept log r keeps e.xid ∙ ap (λ b. is_dropped log e.xid || b) (list_any_agrees _ (λ y. false) undoing (chain log e.xid) ∙ none_of (chain log e.xid)) ∙ or_false (is_dropped log e.xid)

    agree : (e : Entry) → is_live_change (log ++ r ∷ []) e ≡ (is_live_change log e && not (t == top_of log e.xid))
    agree e = rw (ended e, dropped e) (not_ended (has_ended log (top_of log e.xid)) (t == top_of log e.xid) (is_dropped log e.xid))

pub live-commit : (log : List Record) (start end t : ℕ) (time : ℤ) →
    live_changes (log ++ record { start = start; end = end; body = Commit t time } ∷ []) ≡ filter (λ e. not (t == top_of log e.xid)) (live_changes log)
live-commit log start end t time = live-end log (record { start = start; end = end; body = Commit t time }) t (λ above x. refl) (λ x. refl) (λ x. refl) refl

pub live-abort : (log : List Record) (start end t : ℕ) →
    live_changes (log ++ record { start = start; end = end; body = Abort t } ∷ []) ≡ filter (λ e. not (t == top_of log e.xid)) (live_changes log)
live-abort log start end t = live-end log (record { start = start; end = end; body = Abort t }) t (λ above x. refl) (λ x. refl) (λ x. refl) refl

top_ended : (log : List Record) (r : Record) → KeepsChains r.body → ((x : ℕ) → ends x r.body ≡ false) → (x : ℕ) →
    has_ended (log ++ r ∷ []) (top_of (log ++ r ∷ []) x) ≡ has_ended log (top_of log x)
top_ended log r keeps ending x =
    ap (has_ended (log ++ r ∷ [])) (top-kept log r keeps x) ∙ has_ended-one log r (top_of log x)
    ∙ ap (λ b. has_ended log (top_of log x) || b) (ending (top_of log x)) ∙ or_false (has_ended log (top_of log x))

none_dropped : (log : List Record) (r : Record) → KeepsChains r.body → ((x : ℕ) → undoes x r.body ≡ false) → (x : ℕ) → is_dropped (log ++ r ∷ []) x ≡ is_dropped log x
none_dropped log r keeps undoing x =
    dropped-kept log r keeps x
    ∙ ap (λ b. is_dropped log x || b) (list_any_agrees _ (λ y. false) undoing (chain log x) ∙ none_of (chain log x))
    ∙ or_false (is_dropped log x)

-- An AbortSub takes the changes of all whose chain has its xid.
pub live-undo : (log : List Record) (start end s : ℕ) →
    live_changes (log ++ record { start = start; end = end; body = AbortSub s } ∷ []) ≡ filter (λ e. not (list_any (λ y. s == y) (chain log e.xid))) (live_changes log)
live-undo log start end s = undone (record { start = start; end = end; body = AbortSub s }) (λ above x. refl) (λ x. refl) (λ x. refl) refl
  where
    undone : (r : Record) → KeepsChains r.body → ((x : ℕ) → ends x r.body ≡ false) → ((x : ℕ) → undoes x r.body ≡ (s == x)) → entry_at r.start r.body ≡ [] →
        live_changes (log ++ r ∷ []) ≡ filter (λ e. not (list_any (λ y. s == y) (chain log e.xid))) (live_changes log)
    undone r keeps ending undoing empty =
        let dropped : (e : Entry) → is_dropped (log ++ r ∷ []) e.xid ≡ (is_dropped log e.xid || list_any (λ y. s == y) (chain log e.xid)) =
        λ e. dropped-kept log r keeps e.xid ∙ ap (λ b. is_dropped log e.xid || b) (list_any_agrees _ (λ y. s == y) undoing (chain log e.xid)) in
        let agree : (e : Entry) → is_live_change (log ++ r ∷ []) e ≡ (is_live_change log e && not (list_any (λ y. s == y) (chain log e.xid))) =
        λ e. rw (top_ended log r keeps ending e.xid, dropped e) (not_dropped (has_ended log (top_of log e.xid)) (is_dropped log e.xid) (list_any (λ y. s == y) (chain log e.xid))) in
        live-more log r (λ e. not (list_any (λ y. s == y) (chain log e.xid))) (all_agree _ _ agree (entries log))
        ∙ ap (λ es. filter (λ e. not (list_any (λ y. s == y) (chain log e.xid))) (live_changes log) ++ filter (is_live_change (log ++ r ∷ [])) es) empty
        ∙ append-nil _

-- A change of an open xid is live_changes.
pub live-change : (log : List Record) (start end x : ℕ) (c : Change) → IsOpen log x →
    live_changes (log ++ record { start = start; end = end; body = Changed x c } ∷ []) ≡ live_changes log ++ record { position = start; xid = x; change = c } ∷ []
live-change log start end x c is_open = changed (record { start = start; end = end; body = Changed x c }) (record { position = start; xid = x; change = c }) (λ above y. refl) (λ y. refl) (λ y. refl) refl refl
  where
    changed : (r : Record) (made : Entry) → KeepsChains r.body → ((y : ℕ) → ends y r.body ≡ false) → ((y : ℕ) → undoes y r.body ≡ false) → entry_at r.start r.body ≡ made ∷ [] → made.xid ≡ x →
        live_changes (log ++ r ∷ []) ≡ live_changes log ++ made ∷ []
    changed r made keeps ending undoing one is =
        let same : (e : Entry) → is_live_change (log ++ r ∷ []) e ≡ is_live_change log e =
        λ e. rw (top_ended log r keeps ending e.xid, none_dropped log r keeps undoing e.xid) refl in
        let lives : is_live_change (log ++ r ∷ []) made ≡ true = same made ∙ rw (is, is_open.running, is_open.undropped) refl in
        live-more log r (λ e. true) (all_agree _ _ (λ e. same e ∙ and_true (is_live_change log e)) (entries log))
        ∙ rw (filter_all (live_changes log), one, lives) refl

-- A subtransaction that no record names yet has no changes.
pub live-assign : (log : List Record) (start end sub parent : ℕ) → is_named log sub ≡ false →
    live_changes (log ++ record { start = start; end = end; body = Assign sub parent } ∷ []) ≡ live_changes log
live-assign log start end sub parent unnamed =
    live-more log (record { start = start; end = end; body = Assign sub parent }) (λ e. true) (all_when _ _ agree (entries log) (changes_named log sub unnamed))
    ∙ append-nil _ ∙ filter_all (live_changes log)
  where
    chains : (r : Record) (x : ℕ) → r.body ≡ Assign sub parent → (sub == x) ≡ false → chain (log ++ r ∷ []) x ≡ chain log x
    chains r x is other = chain-append log r x ∙ rw (is, other) refl

    agree_by : (r : Record) (e : Entry) → r.body ≡ Assign sub parent → (sub == e.xid) ≡ false → is_live_change (log ++ r ∷ []) e ≡ (is_live_change log e && true)
    agree_by r e is other =
        let chained : chain (log ++ r ∷ []) e.xid ≡ chain log e.xid = chains r e.xid is other in
        let ended : (x : ℕ) → has_ended (log ++ r ∷ []) x ≡ has_ended log x = λ x. has_ended-one log r x ∙ rw is (or_false (has_ended log x)) in
        let undone : (x : ℕ) → is_undone (log ++ r ∷ []) x ≡ is_undone log x = λ x. is_undone-one log r x ∙ rw is (or_false (is_undone log x)) in
        rw (chained, ended (top_of log e.xid), list_any_agrees (is_undone (log ++ r ∷ [])) (is_undone log) undone (chain log e.xid)) (and_true (is_live_change log e))

    agree : (e : Entry) → (sub == e.xid) ≡ false → is_live_change (log ++ record { start = start; end = end; body = Assign sub parent } ∷ []) e ≡ (is_live_change log e && true)
    agree e other = agree_by (record { start = start; end = end; body = Assign sub parent }) e refl other

kept_test : (b h d : Bool) → (b ≡ true → h ≡ false) → (b && not d) ≡ ((not h && not d) && b)
kept_test true true d k = let never : true ≡ false = k refl in cc
kept_test true false true k = refl
kept_test true false false k = refl
kept_test false true true k = refl
kept_test false true false k = refl
kept_test false false true k = refl
kept_test false false false k = refl

-- What a transaction in progress keeps are its live_changes changes.
pub kept-live : (log : List Record) (t : ℕ) → has_ended log t ≡ false → kept_changes log t ≡ filter (λ e. top_of log e.xid == t) (live_changes log)
kept-live log t running =
    filter_agrees (is_kept log t) (λ e. is_live_change log e && (top_of log e.xid == t)) (entries log) (all_agree _ _ agree (entries log))
    ∙ sym (filter_twice (λ e. top_of log e.xid == t) (is_live_change log) (entries log))
  where
    agree : (e : Entry) → is_kept log t e ≡ (is_live_change log e && (top_of log e.xid == t))
    agree e = kept_test (top_of log e.xid == t) (has_ended log (top_of log e.xid)) (is_dropped log e.xid)
        (λ same. ap (has_ended log) (eqb-true (top_of log e.xid) t same) ∙ running)

-- what ends next has not ended yet
pub open-running : (log : List Record) (t : ℕ) → is_assigned log t ≡ false → IsOpen log t → has_ended log t ≡ false
open-running log t unassigned is_open =
    let top : top_of log t ≡ t = ap (last_of t) (chain-unassigned log t unassigned) in
    sym (ap (has_ended log) top) ∙ is_open.running
