-- A section of a well-formed log, after records that were skipped: what it commits of transactions that have no record there.
use Rattle.std.proofs.Common.{◌≡◌, ℕ, ℤ, ◌==◌, Bool, true, false, cond, ◌&&◌, ◌||◌, not, List, [], ◌∷◌, ◌++◌, reverse, refl, sym, ap, subst, ◌∙◌, append_assoc, eq-eqb, inl, inr}
use Rattle.std.specs.List.{filter, list_any, AllByRecursion}
use Rattle.std.specs.Prelude.{nat_le}
use Rattle.std.proofs.lemmas.Bool.{ne_eqb, eqb-true}
use Rattle.std.proofs.lemmas.List.{append-nil, reverse-append}
use Rattle.std.proofs.lemmas.List.Elements.{filter-append}
use Rattle.std.proofs.lemmas.List.Folds.{list_any-append}
use Rattle.std.proofs.lemmas.List.Sorted.{list_any-IsPermutation, IsPermutation-reverse}
use Rattle.wal.specs.declared.record.Record.{Record}
use Rattle.wal.specs.declared.record.Body.{Body}
use Rattle.wal.specs.declared.record.Body.TheVariants.{Assign, Change as Changed, AbortSub, Abort, Commit, Note}
use Rattle.wal.specs.Log.{names, is_named, is_note, xid_in, assigns, is_assigned, chain_step, chain_back, last_of, top_of, undoes, is_undone, is_dropped, Entry, note_as_transaction, entry_at, entries, is_kept, kept_changes, Transaction, committed_at, committed_by, committed_from, committed_transactions, IsNext, WellFormedAfter, IsWellFormedLog}
use Rattle.wal.specs.Places.{committed_by_places, commits_at, commits_from, is_needed, SkipsNone}
use Rattle.wal.proofs.Lists.{filter_agrees, filter_none, eqb_comm, all_both, each}
use Rattle.wal.proofs.Laws.{is_named-append, is_named-one, is_assigned-append, is_undone-append, entries-append, all_when, chain_back-unassigned, chain-unassigned, chain-quiet, committed_from-append, WellFormedAfter-front, WellFormedAfter-back}
use Rattle.wal.proofs.Places.{or_of, or_left, or_right, next-assigns, chain-stable, changes-named, assigned-named, committed-by_places}

-- CHAINS, the newest record first

-- a chain has an end, whatever is named where there is none
pub ends_in : (older : List Record) (a x : ℕ) → last_of a (chain_back older x) ≡ last_of x (chain_back older x)
ends_in [] a x = refl
ends_in (r ∷ older) a x = by_body r.body (ends_in older a x)
  where
    by_body : (body : Body) → last_of a (chain_back older x) ≡ last_of x (chain_back older x) → last_of a (chain_step (chain_back older) body x) ≡ last_of x (chain_step (chain_back older) body x)
    by_body (Assign sub parent) above = by_test (sub == x)
      where
        by_test : (b : Bool) → last_of a (cond b (x ∷ chain_back older parent) (chain_back older x)) ≡ last_of x (cond b (x ∷ chain_back older parent) (chain_back older x))
        by_test true = refl
        by_test false = above
    by_body (Changed xid change) above = above
    by_body (AbortSub xid) above = above
    by_body (Abort xid) above = above
    by_body (Note change) above = above
    by_body (Commit xid time) above = above

-- the end of a chain in the newer records goes on in the older ones
pub goes_on : (newer older : List Record) (x : ℕ) → last_of x (chain_back (newer ++ older) x) ≡ last_of (last_of x (chain_back newer x)) (chain_back older (last_of x (chain_back newer x)))
goes_on [] older x = refl
goes_on (r ∷ newer) older x = by_body r.body (goes_on newer older)
  where
    by_body : (body : Body) → ((y : ℕ) → last_of y (chain_back (newer ++ older) y) ≡ last_of (last_of y (chain_back newer y)) (chain_back older (last_of y (chain_back newer y)))) →
        last_of x (chain_step (chain_back (newer ++ older)) body x) ≡ last_of (last_of x (chain_step (chain_back newer) body x)) (chain_back older (last_of x (chain_step (chain_back newer) body x)))
    by_body (Assign sub parent) above = by_test (sub == x)
      where
        by_test : (b : Bool) → last_of x (cond b (x ∷ chain_back (newer ++ older) parent) (chain_back (newer ++ older) x))
            ≡ last_of (last_of x (cond b (x ∷ chain_back newer parent) (chain_back newer x))) (chain_back older (last_of x (cond b (x ∷ chain_back newer parent) (chain_back newer x))))
        by_test true =
            ends_in (newer ++ older) x parent ∙ above parent
            ∙ sym (ap (λ (y : ℕ). last_of y (chain_back older y)) (ends_in newer x parent))
        by_test false = above x
    by_body (Changed xid change) above = above x
    by_body (AbortSub xid) above = above x
    by_body (Abort xid) above = above x
    by_body (Note change) above = above x
    by_body (Commit xid time) above = above x

-- Two tests that agree at the end of the chain of x in the newer records, which the older ones put under none.
abbrev AgreesAtEnd : (ℕ → Bool) → (ℕ → Bool) → List ℕ → List Record → ℕ → Type 0
AgreesAtEnd p q ways older x = (is_assigned older (last_of x ways) ≡ false) × (p (last_of x ways) ≡ q (last_of x ways))

-- Such tests, where they agree at each xid that the newer records put under another too.
any_alike : (p q : ℕ → Bool) (newer older : List Record) → ((y : ℕ) → is_assigned newer y ≡ true → p y ≡ q y) →
    (x : ℕ) → AgreesAtEnd p q (chain_back newer x) older x → list_any p (chain_back (newer ++ older) x) ≡ list_any q (chain_back newer x)
any_alike p q [] older inner x end = ap (list_any p) (chain_back-unassigned older x end.0) ∙ ap (λ b. b || false) end.1
any_alike p q (r ∷ newer) older inner x end =
    by_body r.body inner (any_alike p q newer older (λ y is. inner y (or_right (assigns y r.body) (is_assigned newer y) is))) end
  where
    by_body : (body : Body) → ((y : ℕ) → (assigns y body || is_assigned newer y) ≡ true → p y ≡ q y) →
        ((y : ℕ) → AgreesAtEnd p q (chain_back newer y) older y → list_any p (chain_back (newer ++ older) y) ≡ list_any q (chain_back newer y)) →
        AgreesAtEnd p q (chain_step (chain_back newer) body x) older x → list_any p (chain_step (chain_back (newer ++ older)) body x) ≡ list_any q (chain_step (chain_back newer) body x)
    by_body (Assign sub parent) here above end = by_test (sub == x) refl end
      where
        by_test : (b : Bool) → (sub == x) ≡ b → AgreesAtEnd p q (cond b (x ∷ chain_back newer parent) (chain_back newer x)) older x →
            list_any p (cond b (x ∷ chain_back (newer ++ older) parent) (chain_back (newer ++ older) x)) ≡ list_any q (cond b (x ∷ chain_back newer parent) (chain_back newer x))
        by_test true same end =
            let E : ℕ → Type 0 = λ y. (is_assigned older y ≡ false) × (p y ≡ q y) in
            ap (λ b. b || list_any p (chain_back (newer ++ older) parent)) (here x (or_left (sub == x) (is_assigned newer x) same))
            ∙ ap (λ b. q x || b) (above parent (subst E (ends_in newer x parent) end))
        by_test false same end = above x end
    by_body (Changed xid change) here above end = above x end
    by_body (AbortSub xid) here above end = above x end
    by_body (Abort xid) here above end = above x end
    by_body (Note change) here above end = above x end
    by_body (Commit xid time) here above end = above x end

-- WHAT RECORDS ARE ABOUT

is_about : List Record → ℕ → Bool
is_about log x = list_any (λ r. not (is_note r.body) && (xid_in r.body == x)) log

any_more : {A : Type 0} (p q : A → Bool) → ((x : A) → p x ≡ true → q x ≡ true) → (xs : List A) → list_any p xs ≡ true → list_any q xs ≡ true
any_more p q more [] is = is
any_more p q more (x ∷ xs) is =
    elim (or_of (p x) (list_any p xs) is) [
      | inl here ↦ or_left (q x) (list_any q xs) (more x here)
      | inr there ↦ or_right (q x) (list_any q xs) (any_more p q more xs there)
    ]

assigned_about : (log : List Record) (x : ℕ) → is_assigned log x ≡ true → is_about log x ≡ true
unfolding is_about
assigned_about log x = any_more (λ r. assigns x r.body) (λ r. not (is_note r.body) && (xid_in r.body == x)) (λ (r : Record). by_body r.body) log
  where
    by_body : (body : Body) → assigns x body ≡ true → (not (is_note body) && (xid_in body == x)) ≡ true
    by_body (Assign sub parent) is = is
    by_body (Changed xid change) is = absurd cc
    by_body (AbortSub xid) is = absurd cc
    by_body (Abort xid) is = absurd cc
    by_body (Note change) is = absurd cc
    by_body (Commit xid time) is = absurd cc

undone_about : (log : List Record) (x : ℕ) → is_undone log x ≡ true → is_about log x ≡ true
unfolding is_about
undone_about log x = any_more (λ r. undoes x r.body) (λ r. not (is_note r.body) && (xid_in r.body == x)) (λ (r : Record). by_body r.body) log
  where
    by_body : (body : Body) → undoes x body ≡ true → (not (is_note body) && (xid_in body == x)) ≡ true
    by_body (Assign sub parent) is = absurd cc
    by_body (Changed xid change) is = absurd cc
    by_body (AbortSub xid) is = is
    by_body (Abort xid) is = absurd cc
    by_body (Note change) is = absurd cc
    by_body (Commit xid time) is = absurd cc

about_named : (log : List Record) (x : ℕ) → is_about log x ≡ true → is_named log x ≡ true
unfolding is_about
about_named log x = any_more (λ r. not (is_note r.body) && (xid_in r.body == x)) (λ r. names x r.body) (λ (r : Record). by_body r.body) log
  where
    by_body : (body : Body) → (not (is_note body) && (xid_in body == x)) ≡ true → names x body ≡ true
    by_body (Assign sub parent) is = or_left (x == sub) (x == parent) (eqb_comm x sub ∙ is)
    by_body (Changed xid change) is = eqb_comm x xid ∙ is
    by_body (AbortSub xid) is = eqb_comm x xid ∙ is
    by_body (Abort xid) is = eqb_comm x xid ∙ is
    by_body (Note change) is = absurd cc
    by_body (Commit xid time) is = eqb_comm x xid ∙ is

about_other : (b c : Bool) → (not b && c) ≡ true → (b ≡ false) × (c ≡ true)
about_other true c is = absurd cc
about_other false c is = (refl, is)

-- what holds of the xid of each record that is no note
abbrev OfEach : (ℕ → Type 0) → List Record → Type 0
OfEach P log = AllByRecursion (λ (r : Record). is_note r.body ≡ false → P (xid_in r.body)) log

-- holds of what one is about, and of each change
of_about : (P : ℕ → Type 0) (log : List Record) (x : ℕ) → OfEach P log → is_about log x ≡ true → P x
unfolding is_about
of_about P [] x all is = absurd cc
of_about P (r ∷ log) x all is =
    elim (or_of (not (is_note r.body) && (xid_in r.body == x)) (list_any (λ (q : Record). not (is_note q.body) && (xid_in q.body == x)) log) is) [
      | inl here ↦ let own = about_other (is_note r.body) (xid_in r.body == x) here in subst P (eqb-true (xid_in r.body) x own.1) (all.0 own.0)
      | inr there ↦ of_about P log x all.1 there
    ]

of_changes : (P : ℕ → Type 0) (log : List Record) → OfEach P log → AllByRecursion (λ (e : Entry). P e.xid) (entries log)
of_changes P [] all = tt
of_changes P (r ∷ log) all = by_body r.start r.body all.0 (of_changes P log all.1)
  where
    by_body : (start : ℕ) (body : Body) → (is_note body ≡ false → P (xid_in body)) → AllByRecursion (λ (e : Entry). P e.xid) (entries log) → AllByRecursion (λ (e : Entry). P e.xid) (entry_at start body ++ entries log)
    by_body start (Assign sub parent) here rest = rest
    by_body start (Changed xid change) here rest = (here refl, rest)
    by_body start (AbortSub xid) here rest = rest
    by_body start (Abort xid) here rest = rest
    by_body start (Note change) here rest = rest
    by_body start (Commit xid time) here rest = rest

-- a record that is skipped and is no note is of no transaction that commits at s or later
others_away : (log : List Record) (s : ℕ) (skipped : List Record) → SkipsNone log s skipped → OfEach (λ y. commits_from log s (top_of log y) ≡ false) skipped
others_away log s skipped none = all_when _ _ away skipped none
  where
    away : (r : Record) → is_needed log s r ≡ false → is_note r.body ≡ false → commits_from log s (top_of log (xid_in r.body)) ≡ false
    away r unneeded other = ap (λ (b : Bool). cond b (nat_le s r.start) (commits_from log s (top_of log (xid_in r.body)))) (sym other) ∙ unneeded

-- what was named is put under nothing later
named_apart : (before rest : List Record) (x : ℕ) → is_named before x ≡ true → WellFormedAfter before rest → is_assigned rest x ≡ false
named_apart before [] x named good = refl
named_apart before (r ∷ rest) x named good =
    rw (next-assigns before r.body x named good.0) (named_apart (before ++ r ∷ []) rest x (is_named-one before r x ∙ rw named refl) good.1)

not_true : (b : Bool) → (b ≡ true → ⊥) → b ≡ false
not_true b never = by_test b refl
  where
    by_test : (c : Bool) → b ≡ c → c ≡ false
    by_test true is = absurd (never is)
    by_test false is = refl

-- A TRANSACTION THAT COMMITS

module _ (log : List Record) (s : ℕ) (skipped before : List Record) (none : SkipsNone log s skipped) (good : WellFormedAfter skipped before)
    (stable : (x : ℕ) → is_named (skipped ++ before) x ≡ true → top_of log x ≡ top_of (skipped ++ before) x)
    (top : ℕ) (commits : commits_from log s top ≡ true) (own : top_of log top ≡ top) (free : is_assigned (skipped ++ before) top ≡ false) where
  -- no record that was skipped is about something of it
  not_skipped : (x : ℕ) → is_about skipped x ≡ true → top_of log x ≡ top → ⊥
  not_skipped x is same =
      let never : commits_from log s (top_of log x) ≡ false = of_about (λ (y : ℕ). commits_from log s (top_of log y) ≡ false) skipped x (others_away log s skipped none) is in
      let both : true ≡ false = sym commits ∙ ap (commits_from log s) (sym same) ∙ never in cc

  named_all : (x : ℕ) → is_named skipped x ≡ true → is_named (skipped ++ before) x ≡ true
  named_all x is = is_named-append skipped before x ∙ or_left (is_named skipped x) (is_named before x) is

  skipped_away : (e : Entry) → (commits_from log s (top_of log e.xid) ≡ false) × (is_named skipped e.xid ≡ true) → is_kept (skipped ++ before) top e ≡ false
  skipped_away e is = rw (ne_eqb (top_of (skipped ++ before) e.xid) top (λ same.
      let both : true ≡ false = sym commits ∙ ap (commits_from log s) (sym (stable e.xid (named_all e.xid is.1) ∙ same)) ∙ is.0 in cc)) refl

  -- the end of a chain in the section goes on in what was skipped
  on : (x : ℕ) → top_of (skipped ++ before) x ≡ top_of skipped (top_of before x)
  on x = ap (λ older. last_of x (chain_back older x)) (reverse-append skipped before) ∙ goes_on (reverse before) (reverse skipped) x

  assigned_back : (log : List Record) (x : ℕ) → is_assigned (reverse log) x ≡ is_assigned log x
  assigned_back log x = sym (list_any-IsPermutation (λ r. assigns x r.body) log (reverse log) (IsPermutation-reverse log))

  undone_alike : (x : ℕ) → is_undone skipped x ≡ false → is_undone (skipped ++ before) x ≡ is_undone before x
  undone_alike x is = is_undone-append skipped before x ∙ ap (λ b. b || is_undone before x) is

  inner : (x : ℕ) → is_assigned (reverse before) x ≡ true → is_undone (skipped ++ before) x ≡ is_undone before x
  inner x is = undone_alike x (not_true (is_undone skipped x) (λ undone.
      let both : true ≡ false = sym is ∙ assigned_back before x ∙ named_apart skipped before x (about_named skipped x (undone_about skipped x undone)) good in cc))

  same_drops : (x : ℕ) → top_of before x ≡ top → is_dropped (skipped ++ before) x ≡ is_dropped before x
  same_drops x same =
      let E : ℕ → Type 0 = λ y. (is_assigned (reverse skipped) y ≡ false) × (is_undone (skipped ++ before) y ≡ is_undone before y) in
      let bare : is_assigned skipped top ≡ false = not_true (is_assigned skipped top) (λ is.
      let both : true ≡ false = sym (is_assigned-append skipped before top ∙ or_left (is_assigned skipped top) (is_assigned before top) is) ∙ free in cc) in
      let kept_up : is_undone skipped top ≡ false = not_true (is_undone skipped top) (λ is. not_skipped top (undone_about skipped top is) own) in
      ap (λ older. list_any (is_undone (skipped ++ before)) (chain_back older x)) (reverse-append skipped before)
      ∙ any_alike (is_undone (skipped ++ before)) (is_undone before) (reverse before) (reverse skipped) inner x
      (subst E (sym same) (assigned_back skipped top ∙ bare, undone_alike top kept_up))

  -- a change in the section is kept by all records where it is kept by those of the section
  same_kept : (e : Entry) → is_kept (skipped ++ before) top e ≡ is_kept before top e
  same_kept e = by_end (is_assigned skipped (top_of before e.xid)) refl
    where
      -- the way up leads into what was skipped, so it isn't a change of this transaction
      into : is_assigned skipped (top_of before e.xid) ≡ true → ((top_of (skipped ++ before) e.xid == top) ≡ false) × ((top_of before e.xid == top) ≡ false)
      into is = (
        ne_eqb (top_of (skipped ++ before) e.xid) top (λ same.
            let named : is_named skipped (top_of before e.xid) ≡ true = assigned-named skipped (top_of before e.xid) is in
            not_skipped (top_of before e.xid) (assigned_about skipped (top_of before e.xid) is)
            (stable (top_of before e.xid) (named_all (top_of before e.xid) named) ∙ ap (last_of (top_of before e.xid)) (chain-stable skipped before (top_of before e.xid) named good) ∙ sym (on e.xid) ∙ same)),
        ne_eqb (top_of before e.xid) top (λ same.
            let both : true ≡ false = sym (is_assigned-append skipped before top ∙ or_left (is_assigned skipped top) (is_assigned before top) (ap (is_assigned skipped) (sym same) ∙ is)) ∙ free in cc),
      )

      by_top : (b : Bool) → (top_of before e.xid == top) ≡ b → (b && not (is_dropped (skipped ++ before) e.xid)) ≡ (b && not (is_dropped before e.xid))
      by_top true is = ap not (same_drops e.xid (eqb-true (top_of before e.xid) top is))
      by_top false is = refl

      by_end : (b : Bool) → is_assigned skipped (top_of before e.xid) ≡ b → is_kept (skipped ++ before) top e ≡ is_kept before top e
      by_end true is = let apart = into is in rw (apart.0, apart.1) refl
      by_end false is =
          let same : top_of (skipped ++ before) e.xid ≡ top_of before e.xid = on e.xid ∙ ap (last_of (top_of before e.xid)) (chain-unassigned skipped (top_of before e.xid) is) in
          ap (λ y. (y == top) && not (is_dropped (skipped ++ before) e.xid)) same ∙ ap (λ b. b && not (is_dropped (skipped ++ before) e.xid)) refl ∙ by_top (top_of before e.xid == top) refl

  kept_alike : kept_changes (skipped ++ before) top ≡ kept_changes before top
  kept_alike =
      let away : AllByRecursion (λ (e : Entry). is_kept (skipped ++ before) top e ≡ false) (entries skipped) =
      all_when _ _ skipped_away (entries skipped)
      (all_both _ _ (entries skipped) (of_changes (λ (y : ℕ). commits_from log s (top_of log y) ≡ false) skipped (others_away log s skipped none)) (changes-named skipped)) in
      ap (filter (is_kept (skipped ++ before) top)) (entries-append skipped before)
      ∙ filter-append (is_kept (skipped ++ before) top) (entries skipped) (entries before)
      ∙ ap (λ es. es ++ filter (is_kept (skipped ++ before) top) (entries before)) (filter_none (is_kept (skipped ++ before) top) (entries skipped) away)
      ∙ filter_agrees (is_kept (skipped ++ before) top) (is_kept before top) (entries before) (each _ same_kept (entries before))

-- a Commit at s or later after some records of the log
record Commits (log before : List Record) (s xid : ℕ) : Type 0 where
  counts : commits_from log s xid ≡ true
  own : top_of log xid ≡ xid
  free : is_assigned before xid ≡ false

commit_counts : (log before rest : List Record) (r : Record) (s xid : ℕ) (time : ℤ) → log ≡ before ++ r ∷ rest → WellFormedAfter before (r ∷ rest) →
    r.body ≡ Commit xid time → nat_le s r.start ≡ true → Commits log before s xid
commit_counts log before rest r s xid time whole good is late =
    record { counts = counts; own = ap (λ l. top_of l xid) (whole ∙ sym (append_assoc before (r ∷ []) rest)) ∙ ap (last_of xid) (chain-stable (before ++ r ∷ []) rest xid named good.1 ∙ chain-quiet before r xid quiet ∙ chain-unassigned before xid free); free = free }
  where
    free : is_assigned before xid ≡ false
    free = let N : Body → Type 0 = λ b. IsNext before b in let next : IsNext before (Commit xid time) = subst N is good.0 in next.0

    quiet : assigns xid r.body ≡ false
    quiet = ap (assigns xid) is

    named : is_named (before ++ r ∷ []) xid ≡ true
    named = is_named-one before r xid ∙ or_right (is_named before xid) (names xid r.body) (ap (names xid) is ∙ eq-eqb xid xid refl)

    here : commits_at s xid r.start r.body ≡ true
    here = ap (commits_at s xid r.start) is ∙ rw (eq-eqb xid xid refl, late) refl

    counts : commits_from log s xid ≡ true
    counts =
        ap (λ l. commits_from l s xid) whole ∙ list_any-append (λ q. commits_at s xid q.start q.body) before (r ∷ rest)
        ∙ or_right (commits_from before s xid) (commits_from (r ∷ rest) s xid) (or_left (commits_at s xid r.start r.body) (commits_from rest s xid) here)

-- what each record of a section commits, with what was skipped before it or without
pub commits_alike : (log : List Record) (s : ℕ) (skipped before rest : List Record) → log ≡ skipped ++ (before ++ rest) → SkipsNone log s skipped →
    WellFormedAfter skipped (before ++ rest) → committed_from s (skipped ++ before) rest ≡ committed_from s before rest
commits_alike log s skipped before [] whole none good = refl
commits_alike log s skipped before (r ∷ rest) whole none good =
    ap (λ txs. txs ++ committed_from s ((skipped ++ before) ++ r ∷ []) rest) (by_body r.body refl)
    ∙ ap (λ txs. committed_by s before r ++ txs)
    (ap (λ l. committed_from s l rest) (append_assoc skipped before (r ∷ []))
    ∙ commits_alike log s skipped (before ++ r ∷ []) rest (whole ∙ ap (λ l. skipped ++ l) (sym regrouped)) none (subst (WellFormedAfter skipped) (sym regrouped) good))
  where
    regrouped : (before ++ r ∷ []) ++ rest ≡ before ++ r ∷ rest
    regrouped = append_assoc before (r ∷ []) rest

    parted : log ≡ (skipped ++ before) ++ r ∷ rest
    parted = whole ∙ sym (append_assoc skipped before (r ∷ rest))

    behind : WellFormedAfter (skipped ++ before) (r ∷ rest)
    behind = WellFormedAfter-back skipped before (r ∷ rest) good

    stable : (x : ℕ) → is_named (skipped ++ before) x ≡ true → top_of log x ≡ top_of (skipped ++ before) x
    stable x named = ap (λ l. top_of l x) parted ∙ ap (last_of x) (chain-stable (skipped ++ before) (r ∷ rest) x named behind)

    by_body : (body : Body) → r.body ≡ body → committed_at s (skipped ++ before) r.start r.end body ≡ committed_at s before r.start r.end body
    by_body (Assign sub parent) is = refl
    by_body (Changed xid change) is = refl
    by_body (AbortSub xid) is = refl
    by_body (Abort xid) is = refl
    by_body (Note change) is = refl
    by_body (Commit xid time) is = by_test (nat_le s r.start) refl
      where
        by_test : (b : Bool) → nat_le s r.start ≡ b →
            cond {A = List Transaction} b (record { is_note = false; start = r.start; end = r.end; time = time; xid = xid; changes = kept_changes (skipped ++ before) xid } ∷ []) []
            ≡ cond {A = List Transaction} b (record { is_note = false; start = r.start; end = r.end; time = time; xid = xid; changes = kept_changes before xid } ∷ []) []
        by_test true late =
            let it = commit_counts log (skipped ++ before) rest r s xid time parted behind is late in
            ap (λ (es : List Entry). record { is_note = false; start = r.start; end = r.end; time = time; xid = xid; changes = es } ∷ [])
            (kept_alike log s skipped before none (WellFormedAfter-front skipped before (r ∷ rest) good) stable xid it.counts it.own it.free)
        by_test false early = refl

-- and those that were skipped commit nothing that counts
pub skipped_none : (log : List Record) (s : ℕ) (before skipped rest : List Record) → log ≡ before ++ (skipped ++ rest) → WellFormedAfter before (skipped ++ rest) →
    SkipsNone log s skipped → committed_from s before skipped ≡ []
skipped_none log s before [] rest whole good none = refl
skipped_none log s before (r ∷ skipped) rest whole good none =
    ap (λ txs. txs ++ committed_from s (before ++ r ∷ []) skipped) (by_body r.body refl)
    ∙ skipped_none log s (before ++ r ∷ []) skipped rest (whole ∙ sym (append_assoc before (r ∷ []) (skipped ++ rest))) good.1 none.1
  where
    by_body : (body : Body) → r.body ≡ body → committed_at s before r.start r.end body ≡ []
    by_body (Assign sub parent) is = refl
    by_body (Changed xid change) is = refl
    by_body (AbortSub xid) is = refl
    by_body (Abort xid) is = refl
    by_body (Note change) is = by_test (nat_le s r.start) (ap (λ b. cond (is_note b) (nat_le s r.start) (commits_from log s (top_of log (xid_in b)))) (sym is) ∙ none.0)
      where
        by_test : (b : Bool) → b ≡ false → cond {A = List Transaction} b (note_as_transaction r.start r.end change ∷ []) [] ≡ []
        by_test true late = absurd cc
        by_test false early = refl
    by_body (Commit xid time) is = by_test (nat_le s r.start) refl
      where
        by_test : (b : Bool) → nat_le s r.start ≡ b → cond {A = List Transaction} b (record { is_note = false; start = r.start; end = r.end; time = time; xid = xid; changes = kept_changes before xid } ∷ []) [] ≡ []
        by_test true late =
            let it = commit_counts log before (skipped ++ rest) r s xid time whole good is late in
            let never : commits_from log s (top_of log xid) ≡ false = ap (λ b. cond (is_note b) (nat_le s r.start) (commits_from log s (top_of log (xid_in b)))) (sym is) ∙ none.0 in
            let both : true ≡ false = sym it.counts ∙ ap (commits_from log s) (sym it.own) ∙ never in cc
        by_test false early = refl

pub section-by_places : (skipped records : List Record) (s : ℕ) → IsWellFormedLog (skipped ++ records) → SkipsNone (skipped ++ records) s skipped →
    committed_transactions records s ≡ committed_by_places (skipped ++ records) s
section-by_places skipped records s good none =
    sym (commits_alike (skipped ++ records) s skipped [] records refl none (WellFormedAfter-back [] skipped records good.order))
    ∙ ap (λ l. committed_from s l records) (append-nil skipped)
    ∙ sym (committed_from-append s [] skipped records ∙ ap (λ txs. txs ++ committed_from s skipped records) (skipped_none (skipped ++ records) s [] skipped records refl good.order none))
    ∙ sym (committed-by_places (skipped ++ records) s good)
