-- The history of a log, and what each kind of record does to it.
use Rattle.std.proofs.Common.{◌≡◌, ℕ, ℤ, ◌==◌, Bool, true, false, cond, ◌||◌, not, List, [], ◌∷◌, ◌++◌, map, Option, Some, None, refl, sym, ap, ◌∙◌}
use Rattle.std.specs.List.{filter}
use Rattle.std.proofs.lemmas.Bool.{eqb-true}
use Rattle.std.proofs.lemmas.List.{map-append}
use Rattle.tables.specs.declared.changes.change.Change.{Change}
use Rattle.store.specs.History.{Made, change_made, is_top, owner_after_end, change_after_end, history_after_end, history_after_rollback}
use Rattle.wal.specs.declared.record.Record.{Record}
use Rattle.wal.specs.declared.record.Body.TheVariants.{Assign, Change as Changed, AbortSub, Abort, Commit, Note}
use Rattle.wal.specs.Log.{is_named, chain, last_of, top_of, ends, has_ended, Entry, entries, IsOpen}
use Rattle.txlog.specs.Rows.{stands, standing_changes, while_live, made_by, history_of}
use Rattle.txlog.specs.Invariants.{is_own, is_under, IsBehind}
use Rattle.wal.proofs.Lists.{or_false, map_agrees, map_twice, each, all_filter, eqb_comm}
use Rattle.wal.proofs.Laws.{has_ended-one, chain-append, top-kept, KeepsChains, all_when, changes_named}
use Rattle.txlog.proofs.Standing.{standing-commit, standing-abort, standing-undo, standing-change, standing-assign, standing-note, chain-assign}
use Rattle.txlog.proofs.Marks.{undone_behind, undone_all}

abbrev EndsIn : (ℕ → Bool) → Record → Type 0
EndsIn p r = (x : ℕ) → ends x r.body ≡ p x

-- a change is a transaction's exactly while that is live
pub tells_own : (log : List Record) (t : ℕ) → has_ended log t ≡ false → (e : Entry) → is_top t (made_by log e).top ≡ is_own log t e
tells_own log t running e = by_end (has_ended log (top_of log e.xid)) refl
  where
    other : (c : Bool) → (top_of log e.xid == t) ≡ c → has_ended log (top_of log e.xid) ≡ true → false ≡ c
    other true same ended = let never : true ≡ false = sym ended ∙ ap (has_ended log) (eqb-true (top_of log e.xid) t same) ∙ running in cc
    other false same ended = refl

    by_end : (b : Bool) → has_ended log (top_of log e.xid) ≡ b → is_top t (cond b None (Some (top_of log e.xid))) ≡ (top_of log e.xid == t)
    by_end true ended = other (top_of log e.xid == t) refl ended
    by_end false ended = refl

abbrev made_with : Entry → Option ℕ → Made
made_with e top = record { top = top; change = e.change }

told : (e : Entry) (old new : Option ℕ) → new ≡ old → made_with e new ≡ made_with e old
told e old new is = ap (made_with e) is

-- a record that ends nothing
same_made : (log : List Record) (r : Record) (e : Entry) → chain (log ++ r ∷ []) e.xid ≡ chain log e.xid → EndsIn (λ x. false) r → made_by (log ++ r ∷ []) e ≡ made_by log e
same_made log r e chained ending =
    let top : top_of (log ++ r ∷ []) e.xid ≡ top_of log e.xid = ap (last_of e.xid) chained in
    let ended : has_ended (log ++ r ∷ []) (top_of log e.xid) ≡ has_ended log (top_of log e.xid) =
    has_ended-one log r (top_of log e.xid) ∙ ap (λ b. has_ended log (top_of log e.xid) || b) (ending (top_of log e.xid)) ∙ or_false (has_ended log (top_of log e.xid)) in
    told e (while_live log (top_of log e.xid)) (while_live (log ++ r ∷ []) (top_of (log ++ r ∷ []) e.xid))
    (ap (while_live (log ++ r ∷ [])) top ∙ ap (λ b. cond b None (Some (top_of log e.xid))) ended)

-- the end of a transaction
settle : (t top : ℕ) (b : Bool) → cond (b || (t == top)) None (Some top) ≡ owner_after_end t (cond b None (Some top))
settle t top true = refl
settle t top false = ap (λ b. cond b None (Some top)) (eqb_comm t top)

settled_made : (log : List Record) (r : Record) (t : ℕ) → KeepsChains r.body → EndsIn (λ x. t == x) r → (e : Entry) → made_by (log ++ r ∷ []) e ≡ change_after_end t (made_by log e)
settled_made log r t keeps ending e =
    let ended : has_ended (log ++ r ∷ []) (top_of log e.xid) ≡ (has_ended log (top_of log e.xid) || (t == top_of log e.xid)) =
    has_ended-one log r (top_of log e.xid) ∙ ap (λ b. has_ended log (top_of log e.xid) || b) (ending (top_of log e.xid)) in
    told e (owner_after_end t (while_live log (top_of log e.xid))) (while_live (log ++ r ∷ []) (top_of (log ++ r ∷ []) e.xid))
    (ap (while_live (log ++ r ∷ [])) (top-kept log r keeps e.xid) ∙ ap (λ b. cond b None (Some (top_of log e.xid))) ended ∙ settle t (top_of log e.xid) (has_ended log (top_of log e.xid)))

all_settled : (log : List Record) (r : Record) (t : ℕ) → KeepsChains r.body → EndsIn (λ x. t == x) r → (es : List Entry) →
    map (made_by (log ++ r ∷ [])) es ≡ map (change_after_end t) (map (made_by log) es)
all_settled log r t keeps ending es =
    map_agrees (made_by (log ++ r ∷ [])) (λ e. change_after_end t (made_by log e)) es (each _ (settled_made log r t keeps ending) es)
    ∙ sym (map_twice (change_after_end t) (made_by log) es)

-- A transaction that commits holds nothing any more.
pub history-commit : (log : List Record) (start end t : ℕ) (time : ℤ) →
    history_of (log ++ record { start = start; end = end; body = Commit t time } ∷ []) ≡ history_after_end t (history_of log)
history-commit log start end t time =
    let r : Record = record { start = start; end = end; body = Commit t time } in
    ap (map (made_by (log ++ r ∷ []))) (standing-commit log start end t time)
    ∙ all_settled log r t (λ above x. refl) (λ x. refl) (standing_changes log)

-- One that aborts is undone whole.
pub history-abort : (log : List Record) (start end t : ℕ) → has_ended log t ≡ false →
    history_of (log ++ record { start = start; end = end; body = Abort t } ∷ []) ≡ history_after_end t (history_after_rollback t 0 (history_of log))
history-abort log start end t running =
    let r : Record = record { start = start; end = end; body = Abort t } in
    ap (map (made_by (log ++ r ∷ []))) (standing-abort log start end t)
    ∙ all_settled log r t (λ above x. refl) (λ x. refl) (filter (λ e. not (is_own log t e)) (standing_changes log))
    ∙ ap (history_after_end t) (sym (undone_all t (made_by log) (is_own log t) (standing_changes log) (tells_own log t running)))

-- A savepoint that is rolled back is undone to its mark.
pub history-undo : (log : List Record) (start end s t mark : ℕ) → has_ended log t ≡ false → IsBehind (is_own log t) (is_under log s) mark (standing_changes log) →
    history_of (log ++ record { start = start; end = end; body = AbortSub s } ∷ []) ≡ history_after_rollback t mark (history_of log)
history-undo log start end s t mark running behind =
    let r : Record = record { start = start; end = end; body = AbortSub s } in
    let left : List Entry = filter (λ e. not (is_under log s e)) (standing_changes log) in
    ap (map (made_by (log ++ r ∷ []))) (standing-undo log start end s)
    ∙ map_agrees (made_by (log ++ r ∷ [])) (made_by log) left (each _ (λ e. same_by r e refl (λ x. refl)) left)
    ∙ sym (undone_behind t (made_by log) (is_own log t) (is_under log s) mark (standing_changes log) (tells_own log t running) behind)
  where
    same_by : (r : Record) (e : Entry) → r.body ≡ AbortSub s → EndsIn (λ x. false) r → made_by (log ++ r ∷ []) e ≡ made_by log e
    same_by r e is ending = same_made log r e (chain-append log r e.xid ∙ rw is refl) ending

-- A change of an open xid is its transaction's.
pub history-change : (log : List Record) (start end x t : ℕ) (c : Change) → IsOpen log x → top_of log x ≡ t →
    history_of (log ++ record { start = start; end = end; body = Changed x c } ∷ []) ≡ history_of log ++ change_made t c ∷ []
history-change log start end x t c is_open top = changed (record { start = start; end = end; body = Changed x c }) (record { position = start; xid = x; change = c })
    (standing-change log start end x c is_open.running is_open.undropped) refl refl refl (λ y. refl)
  where
    changed : (r : Record) (e : Entry) → standing_changes (log ++ r ∷ []) ≡ standing_changes log ++ e ∷ [] → r.body ≡ Changed x c → e.xid ≡ x → e.change ≡ c → EndsIn (λ y. false) r →
        history_of (log ++ r ∷ []) ≡ history_of log ++ change_made t c ∷ []
    changed r e stood is by what ending =
        let same : (d : Entry) → made_by (log ++ r ∷ []) d ≡ made_by log d = λ d. same_made log r d (chain-append log r d.xid ∙ rw is refl) ending in
        let last : made_by log e ≡ change_made t c = rw (by, what, is_open.running, top) refl in
        ap (map (made_by (log ++ r ∷ []))) stood
        ∙ map_agrees (made_by (log ++ r ∷ [])) (made_by log) (standing_changes log ++ e ∷ []) (each _ same (standing_changes log ++ e ∷ []))
        ∙ map-append (made_by log) (standing_changes log) (e ∷ [])
        ∙ ap (λ (m : Made). history_of log ++ m ∷ []) last

-- A savepoint changes nothing.
pub history-assign : (log : List Record) (start end sub parent : ℕ) → is_named log sub ≡ false →
    history_of (log ++ record { start = start; end = end; body = Assign sub parent } ∷ []) ≡ history_of log
history-assign log start end sub parent unnamed = assigned (record { start = start; end = end; body = Assign sub parent }) (standing-assign log start end sub parent unnamed) refl (λ x. refl)
  where
    assigned : (r : Record) → standing_changes (log ++ r ∷ []) ≡ standing_changes log → r.body ≡ Assign sub parent → EndsIn (λ x. false) r → history_of (log ++ r ∷ []) ≡ history_of log
    assigned r stood is ending =
        ap (map (made_by (log ++ r ∷ []))) stood
        ∙ map_agrees (made_by (log ++ r ∷ [])) (made_by log) (standing_changes log) (all_when _ _ (λ (e : Entry) (other : (sub == e.xid) ≡ false).
        same_made log r e (chain-assign log r sub parent e.xid is other) ending) (standing_changes log)
        (all_filter _ (stands log) (entries log) (changes_named log sub unnamed)))

-- Nor does a note.
pub history-note : (log : List Record) (start end : ℕ) (c : Change) → history_of (log ++ record { start = start; end = end; body = Note c } ∷ []) ≡ history_of log
history-note log start end c = noted (record { start = start; end = end; body = Note c }) (standing-note log start end c) (λ above x. refl) (λ x. refl)
  where
    noted : (r : Record) → standing_changes (log ++ r ∷ []) ≡ standing_changes log → KeepsChains r.body → EndsIn (λ x. false) r → history_of (log ++ r ∷ []) ≡ history_of log
    noted r stood keeps ending =
        ap (map (made_by (log ++ r ∷ []))) stood
        ∙ map_agrees (made_by (log ++ r ∷ [])) (made_by log) (standing_changes log) (each _ (λ e. same_made log r e (chain-append log r e.xid ∙ keeps (chain log) e.xid) ending) (standing_changes log))
