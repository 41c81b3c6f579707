-- What is given back before the place that a log is kept from, no stream may need.
use Rattle.std.proofs.Common.{◌≡◌, ◌≤◌, ◌<◌, ◌⊎◌, inl, inr, ℕ, zero, suc, ◌==◌, Bool, true, false, cond, List, [], ◌∷◌, ◌++◌, length, take, refl, sym, ap, subst, ◌∙◌, arith, max, min}
use Rattle.std.specs.Prelude.{nat_le}
use Rattle.std.proofs.lemmas.Bool.{eqb-true, leb-false, leb-true}
use Rattle.std.proofs.lemmas.List.{take-append-le}
use mathlib.Core.List.{IsPrefix}
use Rattle.wal.specs.declared.record.TheConstants.{FIRST_POSITION}
use Rattle.wal.specs.declared.record.Record.{Record}
use Rattle.wal.specs.Log.{IsWellFormedLog, end_of, follows}
use Rattle.wal.specs.Restart.{is_in_progress, oldest, place_from, restart_place}
use Rattle.wal.proofs.Moving.{restart-later}
use Rattle.wal.proofs.Restarts.{within}
use Rattle.shared_log.specs.Kept.{given_after}
use Rattle.shared_log.specs.Removed.{NeedsRemoved}
use Rattle.shared_log.proofs.Kept.{follows-front, front-well_formed}
use Rattle.shared_log.proofs.Prefixes.{begins_longer}
use Rattle.txlog.specs.Publishing.{PublisherState, after_give_back}
use Rattle.txlog.specs.Giving.{GivesBack, Spares, kept_place}

-- a beginning stands in the list as it is
pub front_is : {A : Type 0} (xs ys : List A) → IsPrefix xs ys → take (length xs) ys ≡ xs
front_is [] ys begins = refl
front_is (x ∷ xs) [] begins = absurd (cc begins.1)
front_is (x ∷ xs) (y ∷ ys) begins = let inner = front_is xs ys (begins.0, cc begins.1) in let same : x ≡ y = cc begins.1 in cc (same, inner)

left : (b c : Bool) → cond b c false ≡ true → b ≡ true
left true c e = refl
left false c e = cc

right : (b c : Bool) → cond b c false ≡ true → c ≡ true
right true c e = e
right false c e = absurd cc

-- what stands before a record that starts before a position ends before it
starts_before : (at s k : ℕ) (log : List Record) → follows at log ≡ true → k < place_from s log → end_of at (take k log) < s
starts_before at s zero [] goes lt = absurd (omega (arith, lt))
starts_before at s (suc k) [] goes lt = absurd (omega (arith, lt))
starts_before at s zero (r ∷ log) goes lt = by_test (nat_le s r.start) refl lt
  where
    starts : r.start ≡ at
    starts = eqb-true r.start at (left (r.start == at) (follows r.end log) goes)

    by_test : (b : Bool) → nat_le s r.start ≡ b → 0 < cond b 0 (suc (place_from s log)) → at < s
    by_test true is some = absurd (omega (arith, some))
    by_test false is some = omega (arith, starts, leb-false s r.start is)
starts_before at s (suc k) (r ∷ log) goes lt = by_test (nat_le s r.start) (λ inside. starts_before r.end s k log (right (r.start == at) (follows r.end log) goes) inside) lt
  where
    by_test : (b : Bool) → (k < place_from s log → end_of r.end (take k log) < s) → suc k < cond b 0 (suc (place_from s log)) → end_of r.end (take k log) < s
    by_test true more some = absurd (omega (arith, some))
    by_test false more some = more (omega (arith, some))

-- where a stream would begin stands no further than the records that start before its position
begins_within : (s : ℕ) (log : List Record) → restart_place s log ≤ place_from s log
begins_within s log =
    let records = take (place_from s log) log in
    omega (arith, within (is_in_progress records) records, short (place_from s log) log)
  where
    short : (n : ℕ) (log : List Record) → length (take n log) ≤ n
    short zero log = omega arith
    short (suc n) [] = omega arith
    short (suc n) (r ∷ log) = omega (arith, short n log)

-- nothing before an edge that stands before that is needed
unneeded : (confirmed start limit edge : ℕ) (log whole : List Record) → confirmed ≤ start → IsPrefix log whole → IsWellFormedLog whole → length log ≤ limit → edge < restart_place confirmed log → NeedsRemoved start limit edge whole → ⊥
unneeded confirmed start limit edge log whole later begins good enough before needs =
    let from = begins_within confirmed log in
    let few : place_from confirmed log ≤ length log = within (λ r. nat_le confirmed r.start) log in
    let goes : follows FIRST_POSITION log ≡ true = follows-front FIRST_POSITION log begins.0 (subst (λ (l : List Record). follows FIRST_POSITION l ≡ true) (sym begins.1) good.follows) in
    let front : take edge whole ≡ take edge log = ap (take edge) (sym begins.1) ∙ take-append-le edge log begins.0 (omega (arith, before, from, few)) in
    let ends : end_of FIRST_POSITION (take edge whole) < confirmed =
    subst (λ (l : List Record). end_of FIRST_POSITION l < confirmed) (sym front) (starts_before FIRST_POSITION confirmed edge log goes (omega (arith, before, from))) in
    elim needs [ inl short ↦ omega (arith, short, enough, before, from, few) | inr rest ↦ elim rest [ inl early ↦ omega (arith, early, ends, later) | inr back ↦ omega (arith, back, before, further confirmed start limit log whole later begins good enough) ] ]
  where
    longer : (n : ℕ) (xs ys : List Record) → IsPrefix xs ys → length xs ≤ n → IsPrefix xs (take n ys)
    longer n [] ys p le = (take n ys, refl)
    longer zero (x ∷ xs) ys p le = absurd (omega (arith, le))
    longer (suc n) (x ∷ xs) [] p le = absurd (cc p.1)
    longer (suc n) (x ∷ xs) (y ∷ ys) p le = let inner = longer n xs ys (p.0, cc p.1) (omega (arith, le)) in let same : x ≡ y = cc p.1 in (inner.0, cc (same, inner.1))

    further : (confirmed start limit : ℕ) (log whole : List Record) → confirmed ≤ start → IsPrefix log whole → IsWellFormedLog whole → length log ≤ limit → restart_place confirmed log ≤ restart_place start (take limit whole)
    further confirmed start limit log whole later begins good enough =
        let part = longer limit log whole begins enough in
        let well : IsWellFormedLog (log ++ part.0) = subst IsWellFormedLog (sym part.1) (front-well_formed limit whole good) in
        subst (λ (l : List Record). restart_place confirmed log ≤ restart_place start l) part.1 (restart-later log part.0 confirmed start well later)

-- so what is given back before the kept place spares those that start there or later
pub spares : (confirmed : ℕ) (s : PublisherState) → Spares confirmed s (after_give_back (kept_place confirmed s.log) s)
spares confirmed s start limit log later begins good enough needs = by_place (given_after (kept_place confirmed s.log) s.log s.given) (grows (kept_place confirmed s.log) (oldest s.log) s.given) needs
  where
    grows : (up_to first given : ℕ) → (max given (min up_to first) ≡ given) ⊎ ((given < max given (min up_to first)) × (max given (min up_to first) ≤ up_to))
    grows up_to first given = by_test (nat_le (max given (min up_to first)) given) refl
      where
        by_test : (b : Bool) → nat_le (max given (min up_to first)) given ≡ b → (max given (min up_to first) ≡ given) ⊎ ((given < max given (min up_to first)) × (max given (min up_to first) ≤ up_to))
        by_test true is = inl (omega (arith, leb-true (max given (min up_to first)) given is))
        by_test false is = inr (omega (arith, leb-false (max given (min up_to first)) given is), omega (arith, leb-false (max given (min up_to first)) given is))

    by_place : (g : ℕ) → (g ≡ s.given) ⊎ ((s.given < g) × (g ≤ kept_place confirmed s.log)) → NeedsRemoved start limit g log → NeedsRemoved start limit s.given log
    by_place g (inl same) needs = subst (λ (n : ℕ). NeedsRemoved start limit n log) same needs
    by_place g (inr more) needs = absurd (unneeded confirmed start limit g s.log log later begins good enough (omega (arith, more.0, more.1)) needs)

-- nothing given back spares all
pub spares_same : (confirmed : ℕ) (s : PublisherState) → Spares confirmed s s
spares_same confirmed s start limit log later begins good enough needs = needs

-- so is what is given back before a place that a reader found, which sees the log and perhaps more
pub gives_back : (confirmed place count : ℕ) (old mid new : PublisherState) (told seen : List Record) → new ≡ after_give_back place mid → mid ≡ old → count ≡ length old.log → place ≡ kept_place confirmed (take count seen) → IsPrefix old.log told → IsPrefix told seen → GivesBack confirmed old new
gives_back confirmed place count old mid new told seen given same all is begins ends =
    let whole : take count seen ≡ old.log = ap (λ (n : ℕ). take n seen) all ∙ front_is old.log seen (begins_longer old.log told seen begins ends) in
    let at : place ≡ kept_place confirmed old.log = is ∙ ap (kept_place confirmed) whole in
    let state : new ≡ after_give_back (kept_place confirmed old.log) old = given ∙ ap (after_give_back place) same ∙ ap (λ (n : ℕ). after_give_back n old) at in
    subst (GivesBack confirmed old) (sym state) (record { gives = inr refl; spares = spares confirmed old })

-- and where nothing is
pub gives_none : (confirmed : ℕ) (old new : PublisherState) → new ≡ old → GivesBack confirmed old new
gives_none confirmed old new same = subst (GivesBack confirmed old) (sym same) (record { gives = inl refl; spares = spares_same confirmed old })
