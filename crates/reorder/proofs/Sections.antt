-- What may come next in a well-formed log may come next in a section of it, which begins after its first records.
use Rattle.std.proofs.Common.{◌≡◌, ℕ, ◌==◌, Bool, true, false, cond, List, [], ◌∷◌, ◌++◌, reverse, refl, sym, ap, ◌∙◌}
use Rattle.std.specs.List.{list_any}
use Rattle.std.proofs.lemmas.Bool.{eqb-true}
use Rattle.std.proofs.lemmas.List.{reverse-append}
use Rattle.wal.specs.declared.record.Record.{Record}
use Rattle.wal.specs.declared.record.Body.{Body}
use Rattle.wal.specs.declared.record.Body.TheVariants.{Assign, Change as Changed, AbortSub, Abort, Commit, Note}
use Rattle.wal.specs.Log.{IsNext, IsOpen, WellFormedAfter, is_named, is_assigned, chain_step, chain_back, chain, last_of, top_of, is_undone, is_dropped, ends, has_ended}
use Rattle.wal.proofs.Laws.{chain-unassigned, has_ended-append, is_named-append, is_assigned-append, is_assigned-one, is_undone-append}
use Rattle.wal.proofs.Sections.{goes_on}
use Rattle.reorder.specs.Taking.{MayCome}
use Rattle.reorder.proofs.Named.{or_left, or_right, none_first}

-- CHAINS, the newest record first

-- what holds of no member of a chain in more records holds of none in the newer ones
none_newer : (p : ℕ → Bool) (newer older : List Record) (x : ℕ) → list_any p (chain_back (newer ++ older) x) ≡ false → list_any p (chain_back newer x) ≡ false
none_newer p [] older x none = rw (none_first p older x none) refl
none_newer p (r ∷ newer) older x none = by_body r.body (none_newer p newer older) none
  where
    by_body : (body : Body) → ((y : ℕ) → list_any p (chain_back (newer ++ older) y) ≡ false → list_any p (chain_back newer y) ≡ false) →
        list_any p (chain_step (chain_back (newer ++ older)) body x) ≡ false → list_any p (chain_step (chain_back newer) body x) ≡ false
    by_body (Assign sub parent) above none' = by_test (sub == x) none'
      where
        by_test : (b : Bool) → list_any p (cond b (x ∷ chain_back (newer ++ older) parent) (chain_back (newer ++ older) x)) ≡ false → list_any p (cond b (x ∷ chain_back newer parent) (chain_back newer x)) ≡ false
        by_test true is = rw (or_left (p x) _ is) (above parent (or_right (p x) _ is))
        by_test false is = above x is
    by_body (Changed xid change) above none' = above x none'
    by_body (AbortSub xid) above none' = above x none'
    by_body (Abort xid) above none' = above x none'
    by_body (Note change) above none' = above x none'
    by_body (Commit xid time) above none' = above x none'

-- A SECTION

-- a subtransaction never ends by a Commit or an Abort
never_ended : (before rs : List Record) (x : ℕ) → is_assigned before x ≡ true → WellFormedAfter before rs → has_ended rs x ≡ false
never_ended before [] x assigned good = refl
never_ended before (r ∷ rs) x assigned good =
    rw (not_here r.body good.0) (never_ended (before ++ r ∷ []) rs x (is_assigned-one before r x ∙ rw assigned refl) good.1)
  where
    apart : (y : ℕ) → is_assigned before y ≡ false → (b : Bool) → (y == x) ≡ b → b ≡ false
    apart y none true same = let never : true ≡ false = sym assigned ∙ ap (is_assigned before) (sym (eqb-true y x same)) ∙ none in cc
    apart y none false other = refl

    not_here : (body : Body) → IsNext before body → ends x body ≡ false
    not_here (Assign sub parent) next = refl
    not_here (Changed xid change) next = refl
    not_here (AbortSub xid) next = refl
    not_here (Abort xid) next = apart xid next.0 (xid == x) refl
    not_here (Note change) next = refl
    not_here (Commit xid time) next = apart xid next.0 (xid == x) refl

-- what is open in the log is open in its section
open_within : (skipped before : List Record) (x : ℕ) → WellFormedAfter skipped before → IsOpen (skipped ++ before) x → IsOpen before x
open_within skipped before x good alive = record { running = running (is_assigned skipped (top_of before x)) refl; undropped = undropped }
  where
    chained : chain (skipped ++ before) x ≡ chain_back (reverse before ++ reverse skipped) x
    chained = ap (λ older. chain_back older x) (reverse-append skipped before)

    any_less : (ys : List ℕ) → list_any (is_undone (skipped ++ before)) ys ≡ false → list_any (is_undone before) ys ≡ false
    any_less [] none = refl
    any_less (y ∷ ys) none =
        rw (or_right (is_undone skipped y) (is_undone before y) (sym (is_undone-append skipped before y) ∙ or_left (is_undone (skipped ++ before) y) (list_any (is_undone (skipped ++ before)) ys) none))
        (any_less ys (or_right (is_undone (skipped ++ before) y) (list_any (is_undone (skipped ++ before)) ys) none))

    undropped : is_dropped before x ≡ false
    undropped = any_less (chain before x) (none_newer (is_undone (skipped ++ before)) (reverse before) (reverse skipped) x (ap (list_any (is_undone (skipped ++ before))) (sym chained) ∙ alive.undropped))

    -- the top in the log, from the top in the section
    on : top_of (skipped ++ before) x ≡ top_of skipped (top_of before x)
    on = ap (last_of x) chained ∙ goes_on (reverse before) (reverse skipped) x

    running : (b : Bool) → is_assigned skipped (top_of before x) ≡ b → has_ended before (top_of before x) ≡ false
    running true assigned = never_ended skipped before (top_of before x) assigned good
    running false none =
        let same : top_of (skipped ++ before) x ≡ top_of before x = on ∙ ap (last_of (top_of before x)) (chain-unassigned skipped (top_of before x) none) in
        or_right (has_ended skipped (top_of before x)) (has_ended before (top_of before x))
        (sym (has_ended-append skipped before (top_of before x)) ∙ ap (has_ended (skipped ++ before)) (sym same) ∙ alive.running)

pub next_within : (skipped before : List Record) (body : Body) → WellFormedAfter skipped before → IsNext (skipped ++ before) body → MayCome before body
next_within skipped before (Assign sub parent) good next =
    (or_right (is_named skipped sub) (is_named before sub) (sym (is_named-append skipped before sub) ∙ next.0), next.1, open_within skipped before parent good next.2)
next_within skipped before (Changed xid change) good next = open_within skipped before xid good next
next_within skipped before (AbortSub xid) good next = open_within skipped before xid good next.1
next_within skipped before (Abort xid) good next =
    (or_right (is_assigned skipped xid) (is_assigned before xid) (sym (is_assigned-append skipped before xid) ∙ next.0), open_within skipped before xid good next.1)
next_within skipped before (Note change) good next = next
next_within skipped before (Commit xid time) good next =
    (or_right (is_assigned skipped xid) (is_assigned before xid) (sym (is_assigned-append skipped before xid) ∙ next.0), open_within skipped before xid good next.1)
