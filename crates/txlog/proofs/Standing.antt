-- The changes that stand, and what each kind of record does to them.
use Rattle.std.proofs.Common.{◌≡◌, ℕ, ℤ, ◌==◌, Bool, true, false, ◌&&◌, ◌||◌, not, List, [], ◌∷◌, ◌++◌, refl, sym, ap, ◌∙◌}
use Rattle.std.specs.List.{filter, list_any, AllByRecursion}
use Rattle.std.proofs.lemmas.List.{append-nil}
use Rattle.std.proofs.lemmas.List.Elements.{filter-append}
use Rattle.std.proofs.lemmas.List.Folds.{list_any-append}
use Rattle.tables.specs.declared.changes.change.Change.{Change}
use Rattle.wal.specs.declared.record.Record.{Record}
use Rattle.wal.specs.declared.record.Body.{Body}
use Rattle.wal.specs.declared.record.Body.TheVariants.{Assign, Change as Changed, AbortSub, Abort, Commit, Note}
use Rattle.wal.specs.Log.{is_named, chain, top_of, undoes, is_undone, is_dropped, ends, has_ended, Entry, entry_at, entries}
use Rattle.txlog.specs.Rows.{aborts, is_aborted, stands, standing_changes}
use Rattle.txlog.specs.Invariants.{is_own, is_under}
use Rattle.wal.proofs.Lists.{eqb_comm, or_false, and_true, filter_agrees, filter_all, all_agree, filter_twice, list_any_agrees, none_of}
use Rattle.wal.proofs.Laws.{entries-append, is_undone-one, chain-append, top-kept, dropped-kept, KeepsChains, all_when, changes_named}

is_aborted-one : (log : List Record) (r : Record) (x : ℕ) → is_aborted (log ++ r ∷ []) x ≡ (is_aborted log x || aborts x r.body)
is_aborted-one log r x = list_any-append (λ r. aborts x r.body) log (r ∷ []) ∙ ap (λ b. is_aborted log x || b) (or_false (aborts x r.body))

aborts-ends : (x : ℕ) (body : Body) → ends x body ≡ false → aborts x body ≡ false
aborts-ends x (Assign sub parent) none = refl
aborts-ends x (Changed xid change) none = refl
aborts-ends x (AbortSub xid) none = refl
aborts-ends x (Abort xid) none = none
aborts-ends x (Note change) none = refl
aborts-ends x (Commit xid time) none = refl

-- what has not ended was not aborted
not_aborted : (log : List Record) (x : ℕ) → has_ended log x ≡ false → is_aborted log x ≡ false
not_aborted [] x none = refl
not_aborted (r ∷ log) x none = by_test (ends x r.body) refl none (not_aborted log x)
  where
    by_test : (b : Bool) → ends x r.body ≡ b → (b || has_ended log x) ≡ false → (has_ended log x ≡ false → is_aborted log x ≡ false) →
        (aborts x r.body || is_aborted log x) ≡ false
    by_test true is none rest = cc
    by_test false is none rest = rw (aborts-ends x r.body is, rest none) refl

standing-more : (log : List Record) (r : Record) (q : Entry → Bool) → AllByRecursion (λ e. stands (log ++ r ∷ []) e ≡ (stands log e && q e)) (entries log) →
    standing_changes (log ++ r ∷ []) ≡ filter q (standing_changes log) ++ filter (stands (log ++ r ∷ [])) (entry_at r.start r.body)
standing-more log r q agree =
    ap (filter (stands (log ++ r ∷ []))) (entries-append log (r ∷ []) ∙ ap (λ es. entries log ++ es) (append-nil (entry_at r.start r.body)))
    ∙ filter-append (stands (log ++ r ∷ [])) (entries log) (entry_at r.start r.body)
    ∙ ap (λ es. es ++ filter (stands (log ++ r ∷ [])) (entry_at r.start r.body))
    (filter_agrees (stands (log ++ r ∷ [])) (λ e. stands log e && q e) (entries log) agree ∙ sym (filter_twice q (stands log) (entries log)))

standing-less : (log : List Record) (r : Record) (q : Entry → Bool) → entry_at r.start r.body ≡ [] → ((e : Entry) → stands (log ++ r ∷ []) e ≡ (stands log e && q e)) →
    standing_changes (log ++ r ∷ []) ≡ filter q (standing_changes log)
standing-less log r q empty agree =
    standing-more log r q (all_agree _ _ agree (entries log))
    ∙ ap (λ es. filter q (standing_changes log) ++ filter (stands (log ++ r ∷ [])) es) empty ∙ append-nil _

standing-same : (log : List Record) (r : Record) → entry_at r.start r.body ≡ [] → AllByRecursion (λ e. stands (log ++ r ∷ []) e ≡ (stands log e && true)) (entries log) →
    standing_changes (log ++ r ∷ []) ≡ standing_changes log
standing-same log r empty agree =
    standing-more log r (λ e. true) agree
    ∙ ap (λ es. filter (λ e. true) (standing_changes log) ++ filter (stands (log ++ r ∷ [])) es) empty ∙ append-nil _ ∙ filter_all (standing_changes log)

-- A RECORD THAT NAMES NO PARENT

abbrev UndoesIn : (ℕ → Bool) → Record → Type 0
UndoesIn p r = (x : ℕ) → undoes x r.body ≡ p x

abbrev AbortsIn : (ℕ → Bool) → Record → Type 0
AbortsIn p r = (x : ℕ) → aborts x r.body ≡ p x

stands-one : (log : List Record) (r : Record) (undone aborted : ℕ → Bool) → KeepsChains r.body → UndoesIn undone r → AbortsIn aborted r → (e : Entry) →
    stands (log ++ r ∷ []) e ≡ (not (is_dropped log e.xid || list_any undone (chain log e.xid)) && not (is_aborted log (top_of log e.xid) || aborted (top_of log e.xid)))
stands-one log r undone aborted keeps undoing aborting e =
    let drops : is_dropped (log ++ r ∷ []) e.xid ≡ (is_dropped log e.xid || list_any undone (chain log e.xid)) =
    dropped-kept log r keeps e.xid ∙ ap (λ b. is_dropped log e.xid || b) (list_any_agrees _ undone undoing (chain log e.xid)) in
    let ends_so : is_aborted (log ++ r ∷ []) (top_of (log ++ r ∷ []) e.xid) ≡ (is_aborted log (top_of log e.xid) || aborted (top_of log e.xid)) =
    ap (is_aborted (log ++ r ∷ [])) (top-kept log r keeps e.xid) ∙ is_aborted-one log r (top_of log e.xid) ∙ ap (λ b. is_aborted log (top_of log e.xid) || b) (aborting (top_of log e.xid)) in
    rw (drops, ends_so) refl

abbrev no_xid : ℕ → Bool
no_xid x = false

no_any : (xs : List ℕ) → list_any no_xid xs ≡ false
no_any xs = list_any_agrees no_xid (λ x. false) (λ x. refl) xs ∙ none_of xs

test_same : (d a u b : Bool) → u ≡ false → b ≡ false → (not (d || u) && not (a || b)) ≡ ((not d && not a) && true)
test_same true a u b no_u no_b = refl
test_same false true u b no_u no_b = rw no_u refl
test_same false false u b no_u no_b = rw (no_u, no_b) refl

test_undone : (d a u b : Bool) → b ≡ false → (not (d || u) && not (a || b)) ≡ ((not d && not a) && not u)
test_undone true a u b no_b = refl
test_undone false true true b no_b = refl
test_undone false true false b no_b = refl
test_undone false false true b no_b = refl
test_undone false false false b no_b = rw no_b refl

test_aborted : (d a u b : Bool) → u ≡ false → (not (d || u) && not (a || b)) ≡ ((not d && not a) && not b)
test_aborted true a u b no_u = refl
test_aborted false true u b no_u = rw no_u refl
test_aborted false false u b no_u = rw no_u refl

quiet : (log : List Record) (r : Record) → KeepsChains r.body → UndoesIn no_xid r → AbortsIn no_xid r → (e : Entry) → stands (log ++ r ∷ []) e ≡ (stands log e && true)
quiet log r keeps undoing aborting e =
    stands-one log r no_xid no_xid keeps undoing aborting e
    ∙ test_same (is_dropped log e.xid) (is_aborted log (top_of log e.xid)) (list_any no_xid (chain log e.xid)) (no_xid (top_of log e.xid)) (no_any (chain log e.xid)) refl

pub standing-commit : (log : List Record) (start end t : ℕ) (time : ℤ) → standing_changes (log ++ record { start = start; end = end; body = Commit t time } ∷ []) ≡ standing_changes log
standing-commit log start end t time = committed (record { start = start; end = end; body = Commit t time }) refl (λ above x. refl) (λ x. refl) (λ x. refl)
  where
    committed : (r : Record) → entry_at r.start r.body ≡ [] → KeepsChains r.body → UndoesIn no_xid r → AbortsIn no_xid r → standing_changes (log ++ r ∷ []) ≡ standing_changes log
    committed r empty keeps undoing aborting = standing-same log r empty (all_agree _ _ (quiet log r keeps undoing aborting) (entries log))

-- A note is no change.
pub standing-note : (log : List Record) (start end : ℕ) (c : Change) → standing_changes (log ++ record { start = start; end = end; body = Note c } ∷ []) ≡ standing_changes log
standing-note log start end c = noted (record { start = start; end = end; body = Note c }) refl (λ above x. refl) (λ x. refl) (λ x. refl)
  where
    noted : (r : Record) → entry_at r.start r.body ≡ [] → KeepsChains r.body → UndoesIn no_xid r → AbortsIn no_xid r → standing_changes (log ++ r ∷ []) ≡ standing_changes log
    noted r empty keeps undoing aborting = standing-same log r empty (all_agree _ _ (quiet log r keeps undoing aborting) (entries log))

-- An abort takes the changes of its transaction.
pub standing-abort : (log : List Record) (start end t : ℕ) →
    standing_changes (log ++ record { start = start; end = end; body = Abort t } ∷ []) ≡ filter (λ e. not (is_own log t e)) (standing_changes log)
standing-abort log start end t = aborted (record { start = start; end = end; body = Abort t }) refl (λ above x. refl) (λ x. refl) (λ x. refl)
  where
    aborted : (r : Record) → entry_at r.start r.body ≡ [] → KeepsChains r.body → UndoesIn no_xid r → AbortsIn (λ x. t == x) r →
        standing_changes (log ++ r ∷ []) ≡ filter (λ e. not (is_own log t e)) (standing_changes log)
    aborted r empty keeps undoing aborting = standing-less log r (λ e. not (is_own log t e)) empty (λ e.
        stands-one log r no_xid (λ x. t == x) keeps undoing aborting e
        ∙ test_aborted (is_dropped log e.xid) (is_aborted log (top_of log e.xid)) (list_any no_xid (chain log e.xid)) (t == top_of log e.xid) (no_any (chain log e.xid))
        ∙ ap (λ b. stands log e && not b) (eqb_comm t (top_of log e.xid)))

-- An AbortSub takes the changes under its xid.
pub standing-undo : (log : List Record) (start end s : ℕ) →
    standing_changes (log ++ record { start = start; end = end; body = AbortSub s } ∷ []) ≡ filter (λ e. not (is_under log s e)) (standing_changes log)
standing-undo log start end s = undone (record { start = start; end = end; body = AbortSub s }) refl (λ above x. refl) (λ x. refl) (λ x. refl)
  where
    undone : (r : Record) → entry_at r.start r.body ≡ [] → KeepsChains r.body → UndoesIn (λ x. s == x) r → AbortsIn no_xid r →
        standing_changes (log ++ r ∷ []) ≡ filter (λ e. not (is_under log s e)) (standing_changes log)
    undone r empty keeps undoing aborting = standing-less log r (λ e. not (is_under log s e)) empty (λ e.
        stands-one log r (λ x. s == x) no_xid keeps undoing aborting e
        ∙ test_undone (is_dropped log e.xid) (is_aborted log (top_of log e.xid)) (is_under log s e) (no_xid (top_of log e.xid)) refl)

-- A change of an open xid stands.
pub standing-change : (log : List Record) (start end x : ℕ) (c : Change) → has_ended log (top_of log x) ≡ false → is_dropped log x ≡ false →
    standing_changes (log ++ record { start = start; end = end; body = Changed x c } ∷ []) ≡ standing_changes log ++ record { position = start; xid = x; change = c } ∷ []
standing-change log start end x c running undropped =
    changed (record { start = start; end = end; body = Changed x c }) (record { position = start; xid = x; change = c }) (λ above y. refl) (λ y. refl) (λ y. refl) refl refl
  where
    changed : (r : Record) (made : Entry) → KeepsChains r.body → UndoesIn no_xid r → AbortsIn no_xid r → entry_at r.start r.body ≡ made ∷ [] → made.xid ≡ x →
        standing_changes (log ++ r ∷ []) ≡ standing_changes log ++ made ∷ []
    changed r made keeps undoing aborting one is =
        let stood : stands log made ≡ true = rw (is, undropped, not_aborted log (top_of log x) running) refl in
        let lives : stands (log ++ r ∷ []) made ≡ true = quiet log r keeps undoing aborting made ∙ rw stood refl in
        standing-more log r (λ e. true) (all_agree _ _ (quiet log r keeps undoing aborting) (entries log))
        ∙ rw (filter_all (standing_changes log), one, lives) refl

-- A SUBTRANSACTION THAT NO RECORD NAMES YET

pub chain-assign : (log : List Record) (r : Record) (sub parent x : ℕ) → r.body ≡ Assign sub parent → (sub == x) ≡ false → chain (log ++ r ∷ []) x ≡ chain log x
chain-assign log r sub parent x is other = chain-append log r x ∙ rw (is, other) refl

pub standing-assign : (log : List Record) (start end sub parent : ℕ) → is_named log sub ≡ false →
    standing_changes (log ++ record { start = start; end = end; body = Assign sub parent } ∷ []) ≡ standing_changes log
standing-assign log start end sub parent unnamed = assigned (record { start = start; end = end; body = Assign sub parent }) refl refl
  where
    agree : (r : Record) → r.body ≡ Assign sub parent → (e : Entry) → (sub == e.xid) ≡ false → stands (log ++ r ∷ []) e ≡ (stands log e && true)
    agree r is e other =
        let chained : chain (log ++ r ∷ []) e.xid ≡ chain log e.xid = chain-assign log r sub parent e.xid is other in
        let undone : (x : ℕ) → is_undone (log ++ r ∷ []) x ≡ is_undone log x = λ x. is_undone-one log r x ∙ rw is (or_false (is_undone log x)) in
        let aborted : (x : ℕ) → is_aborted (log ++ r ∷ []) x ≡ is_aborted log x = λ x. is_aborted-one log r x ∙ rw is (or_false (is_aborted log x)) in
        rw (chained, aborted (top_of log e.xid), list_any_agrees (is_undone (log ++ r ∷ [])) (is_undone log) undone (chain log e.xid)) (and_true (stands log e))

    assigned : (r : Record) → r.body ≡ Assign sub parent → entry_at r.start r.body ≡ [] → standing_changes (log ++ r ∷ []) ≡ standing_changes log
    assigned r is empty = standing-same log r empty (all_when _ _ (agree r is) (entries log) (changes_named log sub unnamed))
