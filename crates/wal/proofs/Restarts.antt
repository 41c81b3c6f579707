-- What may be skipped: after the restart position stands every record of a transaction that commits at the start position or
-- later, and a section that begins there says what the whole log does.
use Rattle.std.proofs.Common.{◌≡◌, ◌≤◌, ℕ, zero, suc, ◌==◌, Bool, true, false, cond, ◌&&◌, ◌||◌, not, List, [], ◌∷◌, ◌++◌, length, take, drop, refl, sym, ap, subst, ◌∙◌, append_assoc, eq-eqb, arith}
use Rattle.std.specs.List.{AllByRecursion}
use Rattle.std.specs.Prelude.{nat_le}
use Rattle.std.proofs.lemmas.Bool.{eqb-true}
use Rattle.std.proofs.lemmas.List.{append-nil, take-append-drop}
use Rattle.std.proofs.lemmas.List.Folds.{list_any-append}
use Rattle.wal.specs.declared.record.Record.{Record}
use Rattle.wal.specs.declared.record.Body.{Body}
use Rattle.wal.specs.declared.record.Body.TheVariants.{Assign, Change as Changed, AbortSub, Abort, Commit, Note}
use Rattle.wal.specs.Log.{names, is_named, is_note, xid_in, last_of, top_of, has_ended, committed_from, IsNext, IsWellFormedLog, WellFormedAfter}
use Rattle.wal.specs.Places.{commits_at, commits_from, is_needed, SkipsNone}
use Rattle.wal.specs.Restart.{first_place, is_in_progress, oldest, place_from, restart_place}
use Rattle.wal.proofs.Lists.{all_both}
use Rattle.wal.proofs.Laws.{all_when, committed_from-append, has_ended-one, is_named-append, WellFormedAfter-front, WellFormedAfter-back}
use Rattle.wal.proofs.LiveChanges.{open-running}
use Rattle.wal.proofs.Places.{or_left, or_right, chain-stable}
use Rattle.wal.proofs.Sections.{commits_alike, skipped_none}

-- ---- The first record that passes a test.

-- those before it don't
pub none_before : (test : Record → Bool) (log : List Record) → AllByRecursion (λ r. test r ≡ false) (take (first_place test log) log)
none_before test [] = tt
none_before test (r ∷ log) = by_test (test r) refl (none_before test log)
  where
    by_test : (b : Bool) → test r ≡ b → AllByRecursion (λ q. test q ≡ false) (take (first_place test log) log) → AllByRecursion (λ q. test q ≡ false) (take (cond b 0 (suc (first_place test log))) (r ∷ log))
    by_test true is rest = tt
    by_test false is rest = (is, rest)

pub within : (test : Record → Bool) (log : List Record) → first_place test log ≤ length log
within test [] = omega arith
within test (r ∷ log) = by_test (test r) (within test log)
  where
    by_test : (b : Bool) → first_place test log ≤ length log → cond b 0 (suc (first_place test log)) ≤ length (r ∷ log)
    by_test true le = omega arith
    by_test false le = omega (arith, le)

-- ---- Parts of a log.

take_less : {A : Type 0} (k n : ℕ) (xs : List A) → k ≤ length (take n xs) → take k (take n xs) ≡ take k xs
take_less zero n xs le = refl
take_less (suc k) zero xs le = absurd (omega (arith, le))
take_less (suc k) (suc n) [] le = refl
take_less (suc k) (suc n) (x ∷ xs) le = ap (λ l. x ∷ l) (take_less k n xs (omega (arith, le)))

all_take : {A : Type 0} (P : A → Type 0) (n : ℕ) (xs : List A) → AllByRecursion P xs → AllByRecursion P (take n xs)
all_take P zero xs all = tt
all_take P (suc n) [] all = tt
all_take P (suc n) (x ∷ xs) all = (all.0, all_take P n xs all.1)

-- each record that is no note names the xid that it is about
names_own : (body : Body) → is_note body ≡ false → names (xid_in body) body ≡ true
names_own (Assign sub parent) other = or_left (sub == sub) (sub == parent) (eq-eqb sub sub refl)
names_own (Changed xid change) other = eq-eqb xid xid refl
names_own (AbortSub xid) other = eq-eqb xid xid refl
names_own (Abort xid) other = eq-eqb xid xid refl
names_own (Note change) other = absurd cc
names_own (Commit xid time) other = eq-eqb xid xid refl

abbrev pub IsNamedIn : List Record → Record → Type 0
IsNamedIn log r = is_note r.body ≡ false → is_named log (xid_in r.body) ≡ true

pub all_named : (log : List Record) → AllByRecursion (IsNamedIn log) log
all_named [] = tt
all_named (r ∷ log) = (
  λ other. or_left (names (xid_in r.body) r.body) (is_named log (xid_in r.body)) (names_own r.body other),
  all_when (IsNamedIn log) (IsNamedIn (r ∷ log)) (λ (q : Record) is other. or_right (names (xid_in q.body) r.body) (is_named log (xid_in q.body)) (is other)) log (all_named log),
)

-- ---- Who has ended commits no more.

none_early : (s top : ℕ) (log : List Record) → AllByRecursion (λ r. nat_le s r.start ≡ false) log → commits_from log s top ≡ false
none_early s top [] early = refl
none_early s top (r ∷ log) early = rw (by_body r.body, none_early s top log early.1) refl
  where
    by_body : (body : Body) → commits_at s top r.start body ≡ false
    by_body (Assign sub parent) = refl
    by_body (Changed xid change) = refl
    by_body (AbortSub xid) = refl
    by_body (Abort xid) = refl
    by_body (Note change) = refl
    by_body (Commit xid time) = by_test (xid == top)
      where
        by_test : (b : Bool) → (b && nat_le s r.start) ≡ false
        by_test true = early.0
        by_test false = refl

none_later : (s top : ℕ) (before rest : List Record) → WellFormedAfter before rest → has_ended before top ≡ true → commits_from rest s top ≡ false
none_later s top before [] good ended = refl
none_later s top before (r ∷ rest) good ended =
    let more : has_ended (before ++ r ∷ []) top ≡ true = has_ended-one before r top ∙ rw ended refl in
    rw (by_body r.body good.0, none_later s top (before ++ r ∷ []) rest good.1 more) refl
  where
    by_body : (body : Body) → IsNext before body → commits_at s top r.start body ≡ false
    by_body (Assign sub parent) next = refl
    by_body (Changed xid change) next = refl
    by_body (AbortSub xid) next = refl
    by_body (Abort xid) next = refl
    by_body (Note change) next = refl
    by_body (Commit xid time) next = by_test (xid == top) refl
      where
        by_test : (b : Bool) → (xid == top) ≡ b → (b && nat_le s r.start) ≡ false
        by_test true same =
            let both : true ≡ false = sym ended ∙ ap (has_ended before) (sym (eqb-true xid top same)) ∙ open-running before xid next.0 next.1 in cc
        by_test false other = refl

not_false : (b : Bool) → not b ≡ false → b ≡ true
not_false true e = refl
not_false false e = cc

-- a note that starts early is not needed, and another record isn't where its transaction has ended
unneeded : (note late commits over : Bool) → (not note && not over) ≡ false → late ≡ false → (note ≡ false → over ≡ true → commits ≡ false) → cond note late commits ≡ false
unneeded true late commits over ended early rest = early
unneeded false late commits over ended early rest = rest refl (not_false over ended)

all_three : {A : Type 0} (P Q R : A → Type 0) (xs : List A) → AllByRecursion P xs → AllByRecursion Q xs → AllByRecursion R xs → AllByRecursion (λ x. P x × Q x × R x) xs
all_three P Q R [] p q r = tt
all_three P Q R (x ∷ xs) p q r = ((p.0, q.0, r.0), all_three P Q R xs p.1 q.1 r.1)

-- What stands before the restart position is of no transaction that commits at s or later, however the log goes on.
pub restart-skips_none : (log more : List Record) (s : ℕ) → IsWellFormedLog (log ++ more) → SkipsNone (log ++ more) s (take (restart_place s log) log)
restart-skips_none log more s good =
    let n = place_from s log in
    let before = take n log in
    let rest = drop n log ++ more in
    let whole : log ++ more ≡ before ++ rest = ap (λ l. l ++ more) (sym (take-append-drop n log)) ∙ append_assoc before (drop n log) more in
    let later : WellFormedAfter before rest = WellFormedAfter-back [] before rest (subst (WellFormedAfter []) whole good.order) in
    let skipped = take (oldest before) before in
    let ended : AllByRecursion (λ r. is_in_progress before r ≡ false) skipped = none_before (is_in_progress before) before in
    let early : AllByRecursion (λ r. nat_le s r.start ≡ false) before = none_before (λ q. nat_le s q.start) log in
    let named : AllByRecursion (IsNamedIn before) skipped = all_take _ (oldest before) before (all_named before) in
    let of_none : (r : Record) → has_ended before (top_of before (xid_in r.body)) ≡ true → is_named before (xid_in r.body) ≡ true → commits_from (before ++ rest) s (top_of (before ++ rest) (xid_in r.body)) ≡ false =
    λ r over is.
    let top = top_of before (xid_in r.body) in
    let same : top_of (before ++ rest) (xid_in r.body) ≡ top = ap (last_of (xid_in r.body)) (chain-stable before rest (xid_in r.body) is later) in
    ap (commits_from (before ++ rest) s) same ∙ list_any-append (λ q. commits_at s top q.start q.body) before rest
    ∙ rw (none_early s top before early, none_later s top before rest later over) refl in
    let each : (r : Record) → (is_in_progress before r ≡ false) × (nat_le s r.start ≡ false) × IsNamedIn before r → is_needed (before ++ rest) s r ≡ false = λ r is.
    unneeded (is_note r.body) (nat_le s r.start) (commits_from (before ++ rest) s (top_of (before ++ rest) (xid_in r.body))) (has_ended before (top_of before (xid_in r.body))) is.0 is.1
    (λ other over. of_none r over (is.2 other)) in
    let all : SkipsNone (before ++ rest) s skipped =
    all_when _ _ each skipped (all_three (λ r. is_in_progress before r ≡ false) (λ r. nat_le s r.start ≡ false) (IsNamedIn before) skipped ended (all_take _ (oldest before) before early) named) in
    let part : skipped ≡ take (restart_place s log) log = take_less (oldest before) n log (within (is_in_progress before) before) in
    subst (λ (l : List Record). SkipsNone l s (take (restart_place s log) log)) (sym whole) (subst (SkipsNone (before ++ rest) s) part all)

-- ---- A section of a log.

left_false : (a b : Bool) → (a || b) ≡ false → a ≡ false
left_false true b e = cc
left_false false b e = refl

fewer : (note late more less : Bool) → cond note late more ≡ false → (note ≡ false → more ≡ false → less ≡ false) → cond note late less ≡ false
fewer true late more less none rest = none
fewer false late more less none rest = rest refl none

-- what a log skips, a beginning of it skips too
pub fewer-skips_none : (skipped before rest : List Record) (s : ℕ) → WellFormedAfter [] ((skipped ++ before) ++ rest) → SkipsNone ((skipped ++ before) ++ rest) s skipped → SkipsNone (skipped ++ before) s skipped
fewer-skips_none skipped before rest s good none =
    let all = skipped ++ before in
    let later : WellFormedAfter all rest = WellFormedAfter-back [] all rest good in
    let named : AllByRecursion (IsNamedIn all) skipped =
    all_when (IsNamedIn skipped) (IsNamedIn all)
    (λ (r : Record) is other. is_named-append skipped before (xid_in r.body) ∙ or_left (is_named skipped (xid_in r.body)) (is_named before (xid_in r.body)) (is other)) skipped (all_named skipped) in
    let of_none : (r : Record) → is_named all (xid_in r.body) ≡ true → commits_from (all ++ rest) s (top_of (all ++ rest) (xid_in r.body)) ≡ false → commits_from all s (top_of all (xid_in r.body)) ≡ false = λ r is away.
    let top = top_of all (xid_in r.body) in
    let same : top_of (all ++ rest) (xid_in r.body) ≡ top = ap (last_of (xid_in r.body)) (chain-stable all rest (xid_in r.body) is later) in
    left_false (commits_from all s top) (commits_from rest s top) (sym (list_any-append (λ q. commits_at s top q.start q.body) all rest) ∙ ap (commits_from (all ++ rest) s) (sym same) ∙ away) in
    let each : (r : Record) → (is_needed (all ++ rest) s r ≡ false) × IsNamedIn all r → is_needed all s r ≡ false = λ r is.
    fewer (is_note r.body) (nat_le s r.start) (commits_from (all ++ rest) s (top_of (all ++ rest) (xid_in r.body))) (commits_from all s (top_of all (xid_in r.body))) is.0
    (λ other away. of_none r (is.1 other) away) in
    all_when _ _ each skipped (all_both _ _ skipped none named)

-- What these records commit, with what was skipped or without, where the log goes on after them.
pub section-alike : (skipped before records rest : List Record) (s : ℕ) → WellFormedAfter [] ((skipped ++ (before ++ records)) ++ rest) → SkipsNone ((skipped ++ (before ++ records)) ++ rest) s skipped
    → committed_from s (skipped ++ before) records ≡ committed_from s before records
section-alike skipped before records rest s good none =
    commits_alike (skipped ++ (before ++ records)) s skipped before records refl (fewer-skips_none skipped (before ++ records) rest s good none)
    (WellFormedAfter-back [] skipped (before ++ records) (WellFormedAfter-front [] (skipped ++ (before ++ records)) rest good))

-- The same of all that they commit, from the log's first record on.
pub section-whole : (skipped records rest : List Record) (s : ℕ) → WellFormedAfter [] ((skipped ++ records) ++ rest) → SkipsNone ((skipped ++ records) ++ rest) s skipped
    → committed_from s [] (skipped ++ records) ≡ committed_from s [] records
section-whole skipped records rest s good none =
    let less = fewer-skips_none skipped records rest s good none in
    let order = WellFormedAfter-front [] (skipped ++ records) rest good in
    committed_from-append s [] skipped records
    ∙ ap (λ txs. txs ++ committed_from s skipped records) (skipped_none (skipped ++ records) s [] skipped records refl order less)
    ∙ sym (ap (λ l. committed_from s l records) (append-nil skipped))
    ∙ commits_alike (skipped ++ records) s skipped [] records refl less (WellFormedAfter-back [] skipped records order)
