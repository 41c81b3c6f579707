-- In a well-formed log, what a record keeps by the records before it is what it keeps by the whole log and its place.
use Rattle.std.proofs.Common.{◌≡◌, ℕ, ◌+◌, ◌==◌, Bool, true, false, cond, ◌&&◌, ◌||◌, not, List, [], ◌∷◌, ◌++◌, length, refl, sym, ap, subst, ◌∙◌, append_assoc, eq-eqb, length-append, ◌⊎◌, inl, inr}
use Rattle.std.specs.List.{list_any, AllByRecursion}
use Rattle.std.specs.Prelude.{nat_le}
use Rattle.std.proofs.lemmas.Bool.{ne_eqb, eqb-true}
use Rattle.std.proofs.lemmas.List.{append-nil}
use Rattle.std.proofs.lemmas.List.Folds.{list_any-append}
use Rattle.std.proofs.Math.Seq.{take-append_seam}
use Rattle.wal.specs.declared.record.Record.{Record}
use Rattle.wal.specs.declared.record.Body.{Body}
use Rattle.wal.specs.declared.record.Body.TheVariants.{Assign, Change as Changed, AbortSub, Abort, Commit, Note}
use Rattle.wal.specs.Log.{names, is_named, assigns, chain, top_of, is_assigned, is_undone, Entry, entry_at, entries, is_kept, kept_changes, committed_at, committed_by, committed_from, committed_transactions, IsNext, WellFormedAfter, IsWellFormedLog, chain_step}
use Rattle.wal.specs.Places.{puts_under, is_parent, IsChain, kept_changes_at, placed_at, placed_from, committed_by_places}
use Rattle.wal.proofs.Lists.{or_false, filter_agrees, eqb_comm}
use Rattle.wal.proofs.Laws.{is_named-one, is_assigned-one, chain-append, all_when, chain-quiet}

-- a record assigns no xid that was named before it
pub next-assigns : (before : List Record) (body : Body) (x : ℕ) → is_named before x ≡ true → IsNext before body → assigns x body ≡ false
next-assigns before (Assign sub parent) x named next = ne_eqb sub x (λ same. let both : true ≡ false = sym named ∙ ap (is_named before) (sym same) ∙ next.0 in cc)
next-assigns before (Changed xid change) x named next = refl
next-assigns before (AbortSub xid) x named next = refl
next-assigns before (Abort xid) x named next = refl
next-assigns before (Note change) x named next = refl
next-assigns before (Commit xid time) x named next = refl

-- the chain of an xid that is named stays
pub chain-stable : (before rest : List Record) (x : ℕ) → is_named before x ≡ true → WellFormedAfter before rest → chain (before ++ rest) x ≡ chain before x
chain-stable before [] x named h = ap (λ log. chain log x) (append-nil before)
chain-stable before (r ∷ rest) x named h =
    ap (λ log. chain log x) (sym (append_assoc before (r ∷ []) rest))
    ∙ chain-stable (before ++ r ∷ []) rest x (is_named-one before r x ∙ rw named refl) h.1
    ∙ chain-quiet before r x (next-assigns before r.body x named h.0)

-- the changes are of xids that are named
pub changes-named : (log : List Record) → AllByRecursion (λ e. is_named log e.xid ≡ true) (entries log)
changes-named [] = tt
changes-named (r ∷ log) = by_body r.start r.body (all_when _ _ (λ (e : Entry) (named : is_named log e.xid ≡ true). or_right (names e.xid r.body) (is_named log e.xid) named) (entries log) (changes-named log))
  where
    or_right : (a b : Bool) → b ≡ true → (a || b) ≡ true
    or_right true b e = refl
    or_right false b e = e

    by_body : (start : ℕ) (body : Body) → AllByRecursion (λ (e : Entry). (names e.xid body || is_named log e.xid) ≡ true) (entries log) →
        AllByRecursion (λ (e : Entry). (names e.xid body || is_named log e.xid) ≡ true) (entry_at start body ++ entries log)
    by_body start (Assign sub parent) all = all
    by_body start (Changed xid change) all = (rw (eq-eqb xid xid refl) refl, all)
    by_body start (AbortSub xid) all = all
    by_body start (Abort xid) all = all
    by_body start (Note change) all = all
    by_body start (Commit xid time) all = all

pub kept-at : (before rest : List Record) (top : ℕ) → WellFormedAfter before rest → kept_changes_at (before ++ rest) top (length before) ≡ kept_changes before top
kept-at before rest top h =
    rw (take-append_seam before rest) (filter_agrees (λ e. (top_of (before ++ rest) e.xid == top) && not (list_any (is_undone before) (chain (before ++ rest) e.xid))) (is_kept before top) (entries before)
    (all_when _ _ (λ (e : Entry) (named : is_named before e.xid ≡ true). let same = chain-stable before rest e.xid named h in rw same refl) (entries before) (changes-named before)))

placed-same : (s : ℕ) (before rest : List Record) (start end : ℕ) (body : Body) → WellFormedAfter before rest →
    placed_at s (before ++ rest) (length before) start end body ≡ committed_at s before start end body
placed-same s before rest start end (Assign sub parent) h = refl
placed-same s before rest start end (Changed xid change) h = refl
placed-same s before rest start end (AbortSub xid) h = refl
placed-same s before rest start end (Abort xid) h = refl
placed-same s before rest start end (Note change) h = refl
placed-same s before rest start end (Commit xid time) h = by_changes (kept-at before rest xid h)
  where
    by_changes : kept_changes_at (before ++ rest) xid (length before) ≡ kept_changes before xid →
        placed_at s (before ++ rest) (length before) start end (Commit xid time) ≡ committed_at s before start end (Commit xid time)
    by_changes e = ap (λ (es : List Entry). cond (nat_le s start) (record { is_note = false; start = start; end = end; time = time; xid = xid; changes = es } ∷ []) []) e

placed-from : (s : ℕ) (before rest : List Record) → WellFormedAfter before rest → placed_from s (before ++ rest) (length before) rest ≡ committed_from s before rest
placed-from s before [] h = refl
placed-from s before (r ∷ rest) h =
    let longer : length (before ++ r ∷ []) ≡ length before + 1 = length-append before (r ∷ []) in
    let whole : (before ++ r ∷ []) ++ rest ≡ before ++ r ∷ rest = append_assoc before (r ∷ []) rest in
    ap (λ txs. txs ++ placed_from s (before ++ r ∷ rest) (length before + 1) rest) (placed-same s before (r ∷ rest) r.start r.end r.body h)
    ∙ ap (λ txs. committed_by s before r ++ txs)
    (ap (λ log. placed_from s log (length before + 1) rest) (sym whole) ∙ ap (λ n. placed_from s ((before ++ r ∷ []) ++ rest) n rest) (sym longer) ∙ placed-from s (before ++ r ∷ []) rest h.1)

pub committed-by_places : (log : List Record) (s : ℕ) → IsWellFormedLog log → committed_by_places log s ≡ committed_transactions log s
committed-by_places log s h = placed-from s [] log h.order

-- CHAINS

pub or_left : (a b : Bool) → a ≡ true → (a || b) ≡ true
or_left true b e = refl
or_left false b e = cc

pub or_right : (a b : Bool) → b ≡ true → (a || b) ≡ true
or_right true b e = refl
or_right false b e = e

is_parent-one : (log : List Record) (r : Record) (x y : ℕ) → is_parent (log ++ r ∷ []) x y ≡ (is_parent log x y || puts_under x y r.body)
is_parent-one log r x y = list_any-append (λ r. puts_under x y r.body) log (r ∷ []) ∙ ap (λ b. is_parent log x y || b) (or_false (puts_under x y r.body))

-- a parent is named
parent-body : (body : Body) (x y : ℕ) → puts_under x y body ≡ true → names y body ≡ true
parent-body (Assign sub parent) x y is = by_test (sub == x) (parent == y) refl is
  where
    by_test : (a b : Bool) → (parent == y) ≡ b → (a && b) ≡ true → ((y == sub) || (y == parent)) ≡ true
    by_test true true same is = or_right (y == sub) (y == parent) (eqb_comm y parent ∙ same)
    by_test true false same is = absurd cc
    by_test false b same is = absurd cc
parent-body (Changed xid change) x y is = absurd cc
parent-body (AbortSub xid) x y is = absurd cc
parent-body (Abort xid) x y is = absurd cc
parent-body (Note change) x y is = absurd cc
parent-body (Commit xid time) x y is = absurd cc

parent-named : (log : List Record) (x y : ℕ) → is_parent log x y ≡ true → is_named log y ≡ true
parent-named [] x y is = absurd cc
parent-named (r ∷ log) x y is = by_test (puts_under x y r.body) refl is (parent-named log x y)
  where
    by_test : (b : Bool) → puts_under x y r.body ≡ b → (b || is_parent log x y) ≡ true → (is_parent log x y ≡ true → is_named log y ≡ true) → (names y r.body || is_named log y) ≡ true
    by_test true same is rest = or_left (names y r.body) (is_named log y) (parent-body r.body x y same)
    by_test false same is rest = or_right (names y r.body) (is_named log y) (rest is)

chain-kept : (log : List Record) (r : Record) (x : ℕ) (ys : List ℕ) → IsNext log r.body → assigns x r.body ≡ false → IsChain log x ys → IsChain (log ++ r ∷ []) x ys
chain-kept log r x [] next other h = h
chain-kept log r x (y ∷ []) next other h = (h.0, is_assigned-one log r x ∙ rw (h.1, other) refl)
chain-kept log r x (y ∷ z ∷ above) next other h =
    (h.0, is_parent-one log r x z ∙ rw h.1 refl, chain-kept log r z (z ∷ above) next (next-assigns log r.body z (parent-named log x z h.1) next) h.2)

chain-under : (log : List Record) (x p : ℕ) (ys : List ℕ) → is_parent log x p ≡ true → IsChain log p ys → IsChain log x (x ∷ ys)
chain-under log x p [] par h = absurd h
chain-under log x p (y ∷ []) par h = (refl, rw h.0 par, (refl, rw h.0 h.1))
chain-under log x p (y ∷ z ∷ above) par h = (refl, rw h.0 par, (refl, rw h.0 h.1, h.2))

chain-one : (log : List Record) (start end : ℕ) (body : Body) → IsNext log body → ((x : ℕ) → IsChain log x (chain log x)) →
    (x : ℕ) → IsChain (log ++ record { start = start; end = end; body = body } ∷ []) x (chain_step (chain log) body x)
chain-one log start end (Assign sub parent) next h x = by_test (sub == x) refl
  where
    by_test : (b : Bool) → (sub == x) ≡ b → IsChain (log ++ record { start = start; end = end; body = Assign sub parent } ∷ []) x (cond b (x ∷ chain log parent) (chain log x))
    by_test true same =
        let here : is_parent (log ++ record { start = start; end = end; body = Assign sub parent } ∷ []) x parent ≡ true =
        is_parent-one log (record { start = start; end = end; body = Assign sub parent }) x parent ∙ or_right (is_parent log x parent) ((sub == x) && (parent == parent)) (rw (same, eq-eqb parent parent refl) refl) in
        chain-under (log ++ record { start = start; end = end; body = Assign sub parent } ∷ []) x parent (chain log parent) here
        (chain-kept log (record { start = start; end = end; body = Assign sub parent }) parent (chain log parent) next next.1 (h parent))
    by_test false same = chain-kept log (record { start = start; end = end; body = Assign sub parent }) x (chain log x) next same (h x)
chain-one log start end (Changed xid change) next h x = chain-kept log (record { start = start; end = end; body = Changed xid change }) x (chain log x) next refl (h x)
chain-one log start end (AbortSub xid) next h x = chain-kept log (record { start = start; end = end; body = AbortSub xid }) x (chain log x) next refl (h x)
chain-one log start end (Abort xid) next h x = chain-kept log (record { start = start; end = end; body = Abort xid }) x (chain log x) next refl (h x)
chain-one log start end (Note change) next h x = chain-kept log (record { start = start; end = end; body = Note change }) x (chain log x) next refl (h x)
chain-one log start end (Commit xid time) next h x = chain-kept log (record { start = start; end = end; body = Commit xid time }) x (chain log x) next refl (h x)

chain-all : (before rest : List Record) → WellFormedAfter before rest → ((x : ℕ) → IsChain before x (chain before x)) → (x : ℕ) → IsChain (before ++ rest) x (chain (before ++ rest) x)
chain-all before [] h each x = rw (append-nil before) (each x)
chain-all before (r ∷ rest) h each x =
    rw (← append_assoc before (r ∷ []) rest) (chain-all (before ++ r ∷ []) rest h.1 (λ y. rw (chain-append before r y) (chain-one before r.start r.end r.body h.0 each y)) x)

pub chain-IsChain : (log : List Record) (x : ℕ) → IsWellFormedLog log → IsChain log x (chain log x)
chain-IsChain log x h = chain-all [] log h.order (λ y. (refl, refl)) x

-- ONE CHAIN

pub or_of : (a b : Bool) → (a || b) ≡ true → (a ≡ true) ⊎ (b ≡ true)
or_of true b e = inl refl
or_of false b e = inr e

under_assigns : (body : Body) (x y : ℕ) → puts_under x y body ≡ true → assigns x body ≡ true
under_assigns (Assign sub parent) x y is = by_test (sub == x) is
  where
    by_test : (a : Bool) → (a && (parent == y)) ≡ true → a ≡ true
    by_test true is = refl
    by_test false is = absurd cc
under_assigns (Changed xid change) x y is = absurd cc
under_assigns (AbortSub xid) x y is = absurd cc
under_assigns (Abort xid) x y is = absurd cc
under_assigns (Note change) x y is = absurd cc
under_assigns (Commit xid time) x y is = absurd cc

-- an xid with a parent is assigned
parent-assigned : (log : List Record) (x y : ℕ) → is_parent log x y ≡ true → is_assigned log x ≡ true
parent-assigned [] x y is = absurd cc
parent-assigned (r ∷ log) x y is =
    elim (or_of (puts_under x y r.body) (is_parent log x y) is) [
      | inl here ↦ or_left (assigns x r.body) (is_assigned log x) (under_assigns r.body x y here)
      | inr there ↦ or_right (assigns x r.body) (is_assigned log x) (parent-assigned log x y there)
    ]

assigned-body : (body : Body) (x : ℕ) → assigns x body ≡ true → names x body ≡ true
assigned-body (Assign sub parent) x is = or_left (x == sub) (x == parent) (eqb_comm x sub ∙ is)
assigned-body (Changed xid change) x is = absurd cc
assigned-body (AbortSub xid) x is = absurd cc
assigned-body (Abort xid) x is = absurd cc
assigned-body (Note change) x is = absurd cc
assigned-body (Commit xid time) x is = absurd cc

pub assigned-named : (log : List Record) (x : ℕ) → is_assigned log x ≡ true → is_named log x ≡ true
assigned-named [] x is = absurd cc
assigned-named (r ∷ log) x is =
    elim (or_of (assigns x r.body) (is_assigned log x) is) [
      | inl here ↦ or_left (names x r.body) (is_named log x) (assigned-body r.body x here)
      | inr there ↦ or_right (names x r.body) (is_named log x) (assigned-named log x there)
    ]

-- each xid has one parent at most
abbrev HasOneParent : List Record → Type 0
HasOneParent log = (x y z : ℕ) → is_parent log x y ≡ true → is_parent log x z ≡ true → y ≡ z

-- a body that puts x under something comes when nothing does yet
first-parent : (log : List Record) (body : Body) (x y z : ℕ) → IsNext log body → puts_under x y body ≡ true → is_parent log x z ≡ true → ⊥
first-parent log body x y z next here there =
    let named : is_named log x ≡ true = assigned-named log x (parent-assigned log x z there) in
    let both : true ≡ false = sym (under_assigns body x y here) ∙ next-assigns log body x named next in cc

same_parent : (body : Body) (x y z : ℕ) → puts_under x y body ≡ true → puts_under x z body ≡ true → y ≡ z
same_parent (Assign sub parent) x y z a b = sym (eqb-true parent y (right (sub == x) (parent == y) a)) ∙ eqb-true parent z (right (sub == x) (parent == z) b)
  where
    right : (a b : Bool) → (a && b) ≡ true → b ≡ true
    right true b e = e
    right false b e = absurd cc
same_parent (Changed xid change) x y z a b = absurd cc
same_parent (AbortSub xid) x y z a b = absurd cc
same_parent (Abort xid) x y z a b = absurd cc
same_parent (Note change) x y z a b = absurd cc
same_parent (Commit xid time) x y z a b = absurd cc

one_parent-next : (log : List Record) (r : Record) → IsNext log r.body → HasOneParent log → HasOneParent (log ++ r ∷ [])
one_parent-next log r next one x y z a b =
    elim (or_of (is_parent log x y) (puts_under x y r.body) (sym (is_parent-one log r x y) ∙ a)) [
      | inl before ↦ elim (or_of (is_parent log x z) (puts_under x z r.body) (sym (is_parent-one log r x z) ∙ b)) [
        | inl before2 ↦ one x y z before before2
        | inr here ↦ absurd (first-parent log r.body x z y next here before)
      ]
      | inr here ↦ elim (or_of (is_parent log x z) (puts_under x z r.body) (sym (is_parent-one log r x z) ∙ b)) [
        | inl before ↦ absurd (first-parent log r.body x y z next here before)
        | inr here2 ↦ same_parent r.body x y z here here2
      ]
    ]

one_parent-all : (before rest : List Record) → WellFormedAfter before rest → HasOneParent before → HasOneParent (before ++ rest)
one_parent-all before [] h one = rw (append-nil before) one
one_parent-all before (r ∷ rest) h one = rw (← append_assoc before (r ∷ []) rest) (one_parent-all (before ++ r ∷ []) rest h.1 (one_parent-next before r h.0 one))

no_parent : (log : List Record) (x y : ℕ) → is_assigned log x ≡ false → is_parent log x y ≡ true → ⊥
no_parent log x y top under = let both : true ≡ false = sym (parent-assigned log x y under) ∙ top in cc

one_way : (log : List Record) → HasOneParent log → (xs ys : List ℕ) (x : ℕ) → IsChain log x xs → IsChain log x ys → xs ≡ ys
one_way log one [] ys x h k = absurd h
one_way log one (a ∷ xs) [] x h k = absurd k
one_way log one (a ∷ []) (b ∷ []) x h k = ap (λ (n : ℕ). n ∷ []) (h.0 ∙ sym k.0)
one_way log one (a ∷ []) (b ∷ z ∷ zs) x h k = absurd (no_parent log x z h.1 k.1)
one_way log one (a ∷ y ∷ xs) (b ∷ []) x h k = absurd (no_parent log x y k.1 h.1)
one_way log one (a ∷ y ∷ xs) (b ∷ z ∷ zs) x h k =
    let same : y ≡ z = one x y z h.1 k.1 in
    let above : (y ∷ xs) ≡ (z ∷ zs) = one_way log one (y ∷ xs) (z ∷ zs) y h.2 (subst (λ (n : ℕ). IsChain log n (z ∷ zs)) (sym same) k.2) in
    ap (λ (n : ℕ). n ∷ y ∷ xs) (h.0 ∙ sym k.0) ∙ ap (λ (ns : List ℕ). b ∷ ns) above

-- and `chain` is it
pub chain-only : (log : List Record) (x : ℕ) (xs : List ℕ) → IsWellFormedLog log → IsChain log x xs → xs ≡ chain log x
chain-only log x xs h is = one_way log (one_parent-all [] log h.order (λ x y z a b. absurd cc)) xs (chain log x) x is (chain-IsChain log x h)
