-- Laws of the definitions: what one more record, or a further list of them, does to each.
use Rattle.std.proofs.Common.{◌≡◌, ℕ, suc, ◌-◌, ◌<◌, ◌==◌, Bool, true, false, cond, ◌&&◌, ◌||◌, List, [], ◌∷◌, ◌++◌, length, get_or, reverse, refl, sym, ap, ◌∙◌, arith, append_assoc}
use Rattle.std.specs.List.{list_any, AllByRecursion}
use Rattle.std.proofs.lemmas.Grind.{flat_map-append}
use Rattle.std.proofs.lemmas.List.{reverse-append, append-nil}
use Rattle.std.proofs.lemmas.List.Folds.{list_any-append}
use Rattle.std.proofs.lemmas.List.Sorted.{list_any-IsPermutation, IsPermutation-reverse}
use Rattle.wal.specs.declared.record.Record.{Record}
use Rattle.wal.specs.declared.record.Body.{Body}
use Rattle.wal.specs.declared.record.Body.TheVariants.{Assign, Change as Changed, AbortSub, Abort, Commit, Note}
use Rattle.wal.specs.Log.{follows, end_of, names, is_named, assigns, is_assigned, chain_step, chain_back, chain, last_of, top_of, undoes, is_undone, is_dropped, ends, has_ended, Entry, entry_at, entries, committed_by, committed_from, WellFormedAfter}
use Rattle.wal.proofs.Lists.{or_false, list_any_agrees, list_any_or}

-- A FURTHER LIST

pub end_of-append : (at : ℕ) (log more : List Record) → end_of at (log ++ more) ≡ end_of (end_of at log) more
end_of-append at [] more = refl
end_of-append at (r ∷ log) more = end_of-append r.end log more

both : (b c d : Bool) (f : Bool) → f ≡ (c && d) → cond b f false ≡ (cond b c false && d)
both true c d f e = e
both false c d f e = refl

pub follows-append : (at : ℕ) (log more : List Record) → follows at (log ++ more) ≡ (follows at log && follows (end_of at log) more)
follows-append at [] more = refl
follows-append at (r ∷ log) more = both (r.start == at) (follows r.end log) (follows (end_of r.end log) more) (follows r.end (log ++ more)) (follows-append r.end log more)

pub committed_from-append : (s : ℕ) (before log more : List Record) →
    committed_from s before (log ++ more) ≡ committed_from s before log ++ committed_from s (before ++ log) more
committed_from-append s before [] more = rw (append-nil before) refl
committed_from-append s before (r ∷ log) more =
    rw (
      committed_from-append s (before ++ r ∷ []) log more,
      append_assoc before (r ∷ []) log,
      append_assoc (committed_by s before r) (committed_from s (before ++ r ∷ []) log) (committed_from s (before ++ r ∷ log) more),
    ) refl

pub WellFormedAfter-append : (before log more : List Record) → WellFormedAfter before log → WellFormedAfter (before ++ log) more → WellFormedAfter before (log ++ more)
WellFormedAfter-append before [] more front back = rw append-nil at back
WellFormedAfter-append before (r ∷ log) more front back =
    (front.0, WellFormedAfter-append (before ++ r ∷ []) log more front.1 (rw (append_assoc before (r ∷ []) log) back))

pub WellFormedAfter-front : (before log more : List Record) → WellFormedAfter before (log ++ more) → WellFormedAfter before log
WellFormedAfter-front before [] more all = tt
WellFormedAfter-front before (r ∷ log) more all = (all.0, WellFormedAfter-front (before ++ r ∷ []) log more all.1)

pub WellFormedAfter-back : (before log more : List Record) → WellFormedAfter before (log ++ more) → WellFormedAfter (before ++ log) more
WellFormedAfter-back before [] more all = rw (append-nil before) all
WellFormedAfter-back before (r ∷ log) more all =
    rw (← append_assoc before (r ∷ []) log) (WellFormedAfter-back (before ++ r ∷ []) log more all.1)

pub has_ended-append : (log more : List Record) (x : ℕ) → has_ended (log ++ more) x ≡ (has_ended log x || has_ended more x)
has_ended-append log more x = list_any-append (λ r. ends x r.body) log more

pub is_named-append : (log more : List Record) (x : ℕ) → is_named (log ++ more) x ≡ (is_named log x || is_named more x)
is_named-append log more x = list_any-append (λ r. names x r.body) log more

pub is_assigned-append : (log more : List Record) (x : ℕ) → is_assigned (log ++ more) x ≡ (is_assigned log x || is_assigned more x)
is_assigned-append log more x = list_any-append (λ r. assigns x r.body) log more

pub is_undone-append : (log more : List Record) (x : ℕ) → is_undone (log ++ more) x ≡ (is_undone log x || is_undone more x)
is_undone-append log more x = list_any-append (λ r. undoes x r.body) log more

pub entries-append : (log more : List Record) → entries (log ++ more) ≡ entries log ++ entries more
entries-append log more = flat_map-append (λ r. entry_at r.start r.body) log more

-- ONE MORE RECORD

pub has_ended-one : (log : List Record) (r : Record) (x : ℕ) → has_ended (log ++ r ∷ []) x ≡ (has_ended log x || ends x r.body)
has_ended-one log r x = has_ended-append log (r ∷ []) x ∙ ap (λ b. has_ended log x || b) (or_false (ends x r.body))

pub is_named-one : (log : List Record) (r : Record) (x : ℕ) → is_named (log ++ r ∷ []) x ≡ (is_named log x || names x r.body)
is_named-one log r x = is_named-append log (r ∷ []) x ∙ ap (λ b. is_named log x || b) (or_false (names x r.body))

pub is_assigned-one : (log : List Record) (r : Record) (x : ℕ) → is_assigned (log ++ r ∷ []) x ≡ (is_assigned log x || assigns x r.body)
is_assigned-one log r x = is_assigned-append log (r ∷ []) x ∙ ap (λ b. is_assigned log x || b) (or_false (assigns x r.body))

pub is_undone-one : (log : List Record) (r : Record) (x : ℕ) → is_undone (log ++ r ∷ []) x ≡ (is_undone log x || undoes x r.body)
is_undone-one log r x = is_undone-append log (r ∷ []) x ∙ ap (λ b. is_undone log x || b) (or_false (undoes x r.body))

pub chain-append : (log : List Record) (r : Record) (x : ℕ) → chain (log ++ r ∷ []) x ≡ chain_step (chain log) r.body x
chain-append log r x = ap (λ older. chain_back older x) (reverse-append log (r ∷ []))

step_none : (b rest : Bool) (up same : List ℕ) (x : ℕ) → (b || rest) ≡ false → (rest ≡ false → same ≡ x ∷ []) → cond b up same ≡ x ∷ []
step_none true rest up same x none k = cc
step_none false rest up same x none k = k none

body_none : (body : Body) (above : ℕ → List ℕ) (rest : Bool) (x : ℕ) → (rest ≡ false → above x ≡ x ∷ []) → (assigns x body || rest) ≡ false → chain_step above body x ≡ x ∷ []
body_none (Assign sub parent) above rest x k none = step_none (sub == x) rest (x ∷ above parent) (above x) x none k
body_none (Changed xid change) above rest x k none = k none
body_none (AbortSub xid) above rest x k none = k none
body_none (Abort xid) above rest x k none = k none
body_none (Note change) above rest x k none = k none
body_none (Commit xid time) above rest x k none = k none

pub chain_back-unassigned : (older : List Record) (x : ℕ) → is_assigned older x ≡ false → chain_back older x ≡ x ∷ []
chain_back-unassigned [] x none = refl
chain_back-unassigned (r ∷ older) x none = body_none r.body (chain_back older) (is_assigned older x) x (chain_back-unassigned older x) none

-- an xid without an Assign is a top of its own
pub chain-unassigned : (log : List Record) (x : ℕ) → is_assigned log x ≡ false → chain log x ≡ x ∷ []
chain-unassigned log x none =
    chain_back-unassigned (reverse log) x (sym (list_any-IsPermutation (λ r. assigns x r.body) log (reverse log) (IsPermutation-reverse log)) ∙ none)

-- what a body that names no parent leaves as it was
abbrev pub KeepsChains : Body → Type 0
KeepsChains body = (above : ℕ → List ℕ) (x : ℕ) → chain_step above body x ≡ above x

pub top-kept : (log : List Record) (r : Record) → KeepsChains r.body → (x : ℕ) → top_of (log ++ r ∷ []) x ≡ top_of log x
top-kept log r keeps x = ap (last_of x) (chain-append log r x ∙ keeps (chain log) x)

pub dropped-kept : (log : List Record) (r : Record) → KeepsChains r.body → (x : ℕ) →
    is_dropped (log ++ r ∷ []) x ≡ (is_dropped log x || list_any (λ y. undoes y r.body) (chain log x))
dropped-kept log r keeps x =
    ap (list_any (is_undone (log ++ r ∷ []))) (chain-append log r x ∙ keeps (chain log) x)
    ∙ list_any_agrees (is_undone (log ++ r ∷ [])) (λ y. is_undone log y || undoes y r.body) (is_undone-one log r) (chain log x)
    ∙ list_any_or (is_undone log) (λ y. undoes y r.body) (chain log x)

pub all_when : {A : Type 0} (P Q : A → Type 0) → ((x : A) → P x → Q x) → (xs : List A) → AllByRecursion P xs → AllByRecursion Q xs
all_when P Q f [] all = tt
all_when P Q f (x ∷ xs) all = (f x all.0, all_when P Q f xs all.1)

-- the changes so far are of xids that are named
pub changes_named : (log : List Record) (x : ℕ) → is_named log x ≡ false → AllByRecursion (λ e. (x == e.xid) ≡ false) (entries log)
changes_named [] x none = tt
changes_named (r ∷ log) x none = by_body r.start r.body (is_named log x) (entries log) none (changes_named log x)
  where
    left : (a b : Bool) → (a || b) ≡ false → a ≡ false
    left true b e = cc
    left false b e = refl

    right : (a b : Bool) → (a || b) ≡ false → b ≡ false
    right true b e = cc
    right false b e = e

    by_body : (start : ℕ) (body : Body) (rest : Bool) (es : List Entry) → (names x body || rest) ≡ false → (rest ≡ false → AllByRecursion (λ (e : Entry). (x == e.xid) ≡ false) es) →
        AllByRecursion (λ (e : Entry). (x == e.xid) ≡ false) (entry_at start body ++ es)
    by_body start (Assign sub parent) rest es none k = k (right (names x (Assign sub parent)) rest none)
    by_body start (Changed xid change) rest es none k = (left (x == xid) rest none, k (right (x == xid) rest none))
    by_body start (AbortSub xid) rest es none k = k (right (x == xid) rest none)
    by_body start (Abort xid) rest es none k = k (right (x == xid) rest none)
    by_body start (Note change) rest es none k = k none
    by_body start (Commit xid time) rest es none k = k (right (x == xid) rest none)

-- a record that makes no subtransaction of an xid
step-quiet : (above : ℕ → List ℕ) (body : Body) (x : ℕ) → assigns x body ≡ false → chain_step above body x ≡ above x
step-quiet above (Assign sub parent) x other = rw other refl
step-quiet above (Changed xid change) x other = refl
step-quiet above (AbortSub xid) x other = refl
step-quiet above (Abort xid) x other = refl
step-quiet above (Note change) x other = refl
step-quiet above (Commit xid time) x other = refl

pub chain-quiet : (log : List Record) (r : Record) (x : ℕ) → assigns x r.body ≡ false → chain (log ++ r ∷ []) x ≡ chain log x
chain-quiet log r x other = chain-append log r x ∙ step-quiet (chain log) r.body x other

-- the last of some
pub last_at : (y : ℕ) (xs : List ℕ) → 0 < length xs → get_or xs (length xs - 1) 0 ≡ last_of y xs
last_at y [] lt = absurd (omega arith)
last_at y (x ∷ []) lt = refl
last_at y (x ∷ z ∷ xs) lt =
    let e : length (x ∷ z ∷ xs) - 1 ≡ suc (length (z ∷ xs) - 1) = omega arith in
    rw e (last_at x (z ∷ xs) (omega arith))
