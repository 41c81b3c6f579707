-- What a log publishes stands in the order of its commits, each after the one before it; what it publishes from a later start position
-- is the later part.
use Rattle.std.proofs.Common.{◌≡◌, ◌≤◌, ◌<◌, ℕ, Bool, true, false, cond, List, [], ◌∷◌, ◌++◌, map, filter, refl, sym, ap, subst, ◌∙◌, arith}
use Rattle.std.specs.Prelude.{not, nat_le}
use Rattle.std.specs.List.{AllByRecursion}
use Rattle.std.proofs.lemmas.Bool.{le-leb, leb-true, lt-leb}
use Rattle.std.proofs.lemmas.List.Elements.{filter-append}
use Rattle.wal.specs.declared.record.Record.{Record}
use Rattle.wal.specs.declared.record.Body.{Body}
use Rattle.wal.specs.declared.record.Body.TheVariants.{Assign, Change as Changed, AbortSub, Abort, Commit, Note}
use Rattle.wal.specs.Log.{IsSized, Transaction, note_as_transaction, committed_at, end_of, follows, kept_changes}
use Rattle.publication.specs.Publications.{PublicationSet}
use Rattle.pgoutput.specs.declared.published.Published.{Published}
use Rattle.walsender.specs.Published.{has_message, published_as, published_from}
use Rattle.walsender.proofs.Batches.{published_from-append}
use Rattle.walsender.proofs.Sections.{followed}

-- ---- Transactions in order.

-- they stand one after the other, between two positions
abbrev pub InOrder : ℕ → ℕ → List Published → Type 0
InOrder from to [] = from ≤ to
InOrder from to (t ∷ ts) = (from ≤ t.start) × (t.start < t.end) × InOrder t.end to ts

pub in_order_from : (early from to : ℕ) (ts : List Published) → early ≤ from → InOrder from to ts → InOrder early to ts
in_order_from early from to [] le order = omega (arith, le, order)
in_order_from early from to (t ∷ ts) le order = (omega (arith, le, order.0), order.1, order.2)

pub in_order_after : (from mid to : ℕ) (ts us : List Published) → InOrder from mid ts → InOrder mid to us → InOrder from to (ts ++ us)
in_order_after from mid to [] us first second = in_order_from from mid to us first second
in_order_after from mid to (t ∷ ts) us first second = (first.0, first.1, in_order_after t.end mid to ts us first.2 second)

pub in_order_within : (from to : ℕ) (ts : List Published) → InOrder from to ts → from ≤ to
in_order_within from to [] order = order
in_order_within from to (t ∷ ts) order = let rest = in_order_within t.end to ts order.2 in omega (arith, order.0, order.1, rest)

pub all_from : (from to : ℕ) (ts : List Published) → InOrder from to ts → AllByRecursion (λ (t : Published). from ≤ t.start) ts
all_from from to [] order = tt
all_from from to (t ∷ ts) order = (order.0, all_from from to ts (in_order_from from t.end to ts (omega (arith, order.0, order.1)) order.2))

-- ---- The earlier and the later part.

abbrev pub late : ℕ → List Published → List Published
late p ts = filter (λ (t : Published). nat_le p t.start) ts

abbrev pub below : ℕ → List Published → List Published
below p ts = filter (λ (t : Published). not (nat_le p t.start)) ts

pub below-append : (p : ℕ) (ts us : List Published) → below p (ts ++ us) ≡ below p ts ++ below p us
below-append p ts us = filter-append (λ (t : Published). not (nat_le p t.start)) ts us

pub all_late : (p : ℕ) (ts : List Published) → AllByRecursion (λ (t : Published). p ≤ t.start) ts → late p ts ≡ ts
all_late p [] all = refl
all_late p (t ∷ ts) all = rw (le-leb p t.start all.0) (ap (λ l. t ∷ l) (all_late p ts all.1))

pub none_below : (p : ℕ) (ts : List Published) → AllByRecursion (λ (t : Published). p ≤ t.start) ts → below p ts ≡ []
none_below p [] all = refl
none_below p (t ∷ ts) all = rw (le-leb p t.start all.0) (none_below p ts all.1)

pub all_below : (p : ℕ) (ts : List Published) → AllByRecursion (λ (t : Published). t.start < p) ts → below p ts ≡ ts
all_below p [] all = refl
all_below p (t ∷ ts) all = rw (lt-leb p t.start all.0) (ap (λ l. t ∷ l) (all_below p ts all.1))

-- each is in one of them
pub parted : (p from to : ℕ) (ts : List Published) → InOrder from to ts → ts ≡ below p ts ++ late p ts
parted p from to [] order = refl
parted p from to (t ∷ ts) order = by_test (nat_le p t.start) refl (parted p t.end to ts order.2)
  where
    by_test : (b : Bool) → nat_le p t.start ≡ b → ts ≡ below p ts ++ late p ts → t ∷ ts ≡ cond (not b) (t ∷ below p ts) (below p ts) ++ cond b (t ∷ late p ts) (late p ts)
    by_test false is rest = ap (λ l. t ∷ l) rest
    by_test true is rest =
        let behind : AllByRecursion (λ (u : Published). p ≤ u.start) ts =
        all_from p to ts (in_order_from p t.end to ts (omega (arith, leb-true p t.start is, order.1)) order.2) in
        rw (none_below p ts behind) (ap (λ l. t ∷ l) (sym (all_late p ts behind)))

pub late_all : (p : ℕ) (ts : List Published) → AllByRecursion (λ (t : Published). p ≤ t.start) (late p ts)
late_all p [] = tt
late_all p (t ∷ ts) = by_test (nat_le p t.start) refl (late_all p ts)
  where
    by_test : (b : Bool) → nat_le p t.start ≡ b → AllByRecursion (λ (u : Published). p ≤ u.start) (late p ts) → AllByRecursion (λ (u : Published). p ≤ u.start) (cond b (t ∷ late p ts) (late p ts))
    by_test true is rest = (leb-true p t.start is, rest)
    by_test false is rest = rest

-- ---- What a log publishes.

-- what one record publishes stands between its start and its end
one_in_order : (selection : PublicationSet) (s : ℕ) (before : List Record) (r : Record) → r.start < r.end → InOrder r.start r.end (published_from selection s before (r ∷ []))
one_in_order selection s before r lt = by_body r.body
  where
    by_message : (t : Published) → t.start ≡ r.start → t.end ≡ r.end → (b : Bool) → InOrder r.start r.end (cond b (t ∷ []) [])
    by_message t starts ends true = (omega (arith, starts), omega (arith, starts, ends, lt), omega (arith, ends))
    by_message t starts ends false = omega (arith, lt)

    by_start : (t : Transaction) → t.start ≡ r.start → t.end ≡ r.end → (b : Bool) → InOrder r.start r.end (filter has_message (map (published_as selection) (cond b (t ∷ []) [] ++ [])))
    by_start t starts ends true = by_message (published_as selection t) starts ends (has_message (published_as selection t))
    by_start t starts ends false = omega (arith, lt)

    by_body : (body : Body) → InOrder r.start r.end (filter has_message (map (published_as selection) (committed_at s before r.start r.end body ++ [])))
    by_body (Assign sub parent) = omega (arith, lt)
    by_body (Changed xid change) = omega (arith, lt)
    by_body (AbortSub xid) = omega (arith, lt)
    by_body (Abort xid) = omega (arith, lt)
    by_body (Note change) = by_start (note_as_transaction r.start r.end change) refl refl (nat_le s r.start)
    by_body (Commit xid time) = by_start (record { is_note = false; start = r.start; end = r.end; time = time; xid = xid; changes = kept_changes before xid }) refl refl (nat_le s r.start)

pub in_order : (selection : PublicationSet) (s at : ℕ) (before rs : List Record) → follows at rs ≡ true → AllByRecursion IsSized rs → InOrder at (end_of at rs) (published_from selection s before rs)
in_order selection s at before [] goes sized = omega arith
in_order selection s at before (r ∷ rs) goes sized =
    let next = followed at r rs goes in
    let one = one_in_order selection s before r (omega (arith, sized.0)) in
    let rest = in_order selection s r.end (before ++ r ∷ []) rs next.1 sized.1 in
    let both = in_order_after r.start r.end (end_of r.end rs) (published_from selection s before (r ∷ [])) (published_from selection s (before ++ r ∷ []) rs) one rest in
    let Whole : List Published → Type 0 = λ ts. InOrder r.start (end_of r.end rs) ts in
    let Begins : ℕ → Type 0 = λ n. InOrder n (end_of r.end rs) (published_from selection s before (r ∷ rs)) in
    subst Begins next.0 (subst Whole (sym (published_from-append selection s before (r ∷ []) rs)) both)

-- what one record publishes from a later start position
one_late : (selection : PublicationSet) (q s : ℕ) (before : List Record) (r : Record) → q ≤ s → late s (published_from selection q before (r ∷ [])) ≡ published_from selection s before (r ∷ [])
one_late selection q s before r le = by_body r.body
  where
    by_message : (t : Published) → nat_le s t.start ≡ true → (b : Bool) → late s (cond b (t ∷ []) []) ≡ cond b (t ∷ []) []
    by_message t is true = rw is refl
    by_message t is false = refl

    by_message_early : (t : Published) → nat_le s t.start ≡ false → (b : Bool) → late s (cond b (t ∷ []) []) ≡ []
    by_message_early t is true = rw is refl
    by_message_early t is false = refl

    publishing : List Transaction → List Published
    publishing ts = filter has_message (map (published_as selection) ts)

    by_start : (t : Transaction) → t.start ≡ r.start → (b c : Bool) → nat_le q r.start ≡ b → nat_le s r.start ≡ c → late s (publishing (cond b (t ∷ []) [] ++ [])) ≡ publishing (cond c (t ∷ []) [] ++ [])
    by_start t starts true true is_b is_c = by_message (published_as selection t) (ap (nat_le s) starts ∙ is_c) (has_message (published_as selection t))
    by_start t starts true false is_b is_c = by_message_early (published_as selection t) (ap (nat_le s) starts ∙ is_c) (has_message (published_as selection t))
    by_start t starts false true is_b is_c = let later : nat_le q r.start ≡ true = le-leb q r.start (omega (arith, le, leb-true s r.start is_c)) in absurd cc
    by_start t starts false false is_b is_c = refl

    by_body : (body : Body) → late s (publishing (committed_at q before r.start r.end body ++ [])) ≡ publishing (committed_at s before r.start r.end body ++ [])
    by_body (Assign sub parent) = refl
    by_body (Changed xid change) = refl
    by_body (AbortSub xid) = refl
    by_body (Abort xid) = refl
    by_body (Note change) = by_start (note_as_transaction r.start r.end change) refl (nat_le q r.start) (nat_le s r.start) refl refl
    by_body (Commit xid time) = by_start (record { is_note = false; start = r.start; end = r.end; time = time; xid = xid; changes = kept_changes before xid }) refl (nat_le q r.start) (nat_le s r.start) refl refl

pub late_part : (selection : PublicationSet) (q s : ℕ) (before rs : List Record) → q ≤ s → late s (published_from selection q before rs) ≡ published_from selection s before rs
late_part selection q s before [] le = refl
late_part selection q s before (r ∷ rs) le =
    ap (late s) (published_from-append selection q before (r ∷ []) rs)
    ∙ filter-append (λ (t : Published). nat_le s t.start) (published_from selection q before (r ∷ [])) (published_from selection q (before ++ r ∷ []) rs)
    ∙ ap (λ l. l ++ late s (published_from selection q (before ++ r ∷ []) rs)) (one_late selection q s before r le)
    ∙ ap (λ l. published_from selection s before (r ∷ []) ++ l) (late_part selection q s (before ++ r ∷ []) rs le)
    ∙ sym (published_from-append selection s before (r ∷ []) rs)
