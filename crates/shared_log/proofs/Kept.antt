-- What lies in a copy: its records with their restart places, and what is found there by a position.
use Rattle.std.proofs.Common.{◌≡◌, ◌≤◌, ◌<◌, ℕ, zero, suc, ◌==◌, Bool, true, false, cond, ◌&&◌, leb, List, [], ◌∷◌, ◌++◌, length, map, take, drop, get_or, refl, sym, ap, subst, ◌∙◌, append_assoc, arith}
use Rattle.std.specs.Prelude.{nat_lt}
use Rattle.std.specs.List.{AllByRecursion, drop-map, take-map}
use Rattle.std.specs.List.Sorted.{IsNonDecreasingBy}
use Rattle.std.proofs.lemmas.Bool.{le-leb, lt-leb, ltb-true, ltb-false}
use Rattle.std.proofs.lemmas.List.{append-nil, take-append-drop}
use Rattle.wal.specs.declared.record.TheConstants.{FIRST_POSITION}
use Rattle.wal.specs.declared.record.Record.{Record}
use Rattle.wal.specs.Log.{IsSized, IsWellFormedLog, WellFormedAfter, end_of, follows}
use Rattle.wal.specs.Restart.{oldest, place_from}
use Rattle.wal.proofs.Lists.{map_twice}
use Rattle.wal.proofs.Laws.{follows-append, WellFormedAfter-front}
use Rattle.std.proofs.lemmas.Bool.{eqb-true}
use Rattle.shared_log.specs.declared.histories.copy.Logged.{Logged}
use Rattle.shared_log.specs.Kept.{kept_in, records_in, with_restarts_from}

-- ---- Records and their restart places.

pub restarts-push : (before log : List Record) (r : Record) → with_restarts_from before (log ++ r ∷ []) ≡ with_restarts_from before log ++ (r, oldest ((before ++ log) ++ r ∷ [])) ∷ []
restarts-push before [] r = ap (λ l. (r, oldest (l ++ r ∷ [])) ∷ []) (sym (append-nil before))
restarts-push before (q ∷ log) r =
    ap (λ l. (q, oldest (before ++ q ∷ [])) ∷ l)
    (restarts-push (before ++ q ∷ []) log r ∙ ap (λ l. with_restarts_from (before ++ q ∷ []) log ++ (r, oldest (l ++ r ∷ [])) ∷ []) (append_assoc before (q ∷ []) log))

-- the records of a copy that keeps those after others
pub records_of : (items : List Logged) (before log : List Record) → kept_in items ≡ with_restarts_from before log → records_in items ≡ log
records_of items before log is = sym (map_twice (λ (p : Record × ℕ). p.0) (λ (l : Logged). (l.entry.value, l.restart)) items) ∙ ap (map (λ p. p.0)) is ∙ firsts before log
  where
    firsts : (before log : List Record) → map (λ p. p.0) (with_restarts_from before log) ≡ log
    firsts before [] = refl
    firsts before (r ∷ log) = ap (λ l. r ∷ l) (firsts (before ++ r ∷ []) log)

pub records_part : (items : List Logged) (place max : ℕ) → records_in (take max (drop place items)) ≡ take max (drop place (records_in items))
records_part items place max = sym (take-map (λ (l : Logged). l.entry.value) max (drop place items)) ∙ ap (take max) (sym (drop-map (λ (l : Logged). l.entry.value) place items))

left : (b c : Bool) → (b && c) ≡ true → b ≡ true
left true c e = refl
left false c e = cc

pub all_front : {A : Type 0} (P : A → Type 0) (xs ys : List A) → AllByRecursion P (xs ++ ys) → AllByRecursion P xs
all_front P [] ys all = tt
all_front P (x ∷ xs) ys all = (all.0, all_front P xs ys all.1)

pub follows-front : (at : ℕ) (m n : List Record) → follows at (m ++ n) ≡ true → follows at m ≡ true
follows-front at m n e = left (follows at m) (follows (end_of at m) n) (sym (follows-append at m n) ∙ e)

-- the first records of a log are one
pub front-well_formed : (n : ℕ) (log : List Record) → IsWellFormedLog log → IsWellFormedLog (take n log)
front-well_formed n log good =
    let parts : log ≡ take n log ++ drop n log = sym (take-append-drop n log) in
    let F : List Record → Type 0 = λ l. follows FIRST_POSITION l ≡ true in
    let S : List Record → Type 0 = λ l. AllByRecursion IsSized l in
    let W : List Record → Type 0 = λ l. WellFormedAfter [] l in
    record {
      follows = follows-front FIRST_POSITION (take n log) (drop n log) (subst F parts good.follows);
      sizes = all_front IsSized (take n log) (drop n log) (subst S parts good.sizes);
      order = WellFormedAfter-front [] (take n log) (drop n log) (subst W parts good.order);
    }

-- ---- What lies at a place.

pub restart_at : (items : List Logged) (before : List Record) (k : ℕ) (d : Logged) → kept_in items ≡ with_restarts_from before (records_in items) → k < length items → (get_or items k d).restart ≡ oldest (before ++ take (suc k) (records_in items))
restart_at [] before k d is lt = absurd (omega (arith, lt))
restart_at (l ∷ items) before zero d is lt =
    let here : (l.entry.value, l.restart) ≡ (l.entry.value, oldest (before ++ l.entry.value ∷ [])) = cc is in
    ap (λ (p : Record × ℕ). p.1) here
restart_at (l ∷ items) before (suc k) d is lt =
    let rest : kept_in items ≡ with_restarts_from (before ++ l.entry.value ∷ []) (records_in items) = cc is in
    restart_at items (before ++ l.entry.value ∷ []) k d rest (omega (arith, lt)) ∙ ap oldest (append_assoc before (l.entry.value ∷ []) (take (suc k) (records_in items)))

pub end_at : (items : List Logged) (at k : ℕ) (d : Logged) → k < length items → (get_or items k d).entry.value.end ≡ end_of at (take (suc k) (records_in items))
end_at [] at k d lt = absurd (omega (arith, lt))
end_at (l ∷ items) at zero d lt = refl
end_at (l ∷ items) at (suc k) d lt = end_at items l.entry.value.end k d (omega (arith, lt))

-- ---- Positions rise.

pub starts_at : (r : Record) (at : ℕ) (rs : List Record) → follows at (r ∷ rs) ≡ true → (r.start ≡ at) × (follows r.end rs ≡ true)
starts_at r at rs e = by_test (r.start == at) (λ is. eqb-true r.start at is) e
  where
    by_test : (b : Bool) → (b ≡ true → r.start ≡ at) → cond b (follows r.end rs) false ≡ true → (r.start ≡ at) × (follows r.end rs ≡ true)
    by_test true same e = (same refl, e)
    by_test false same e = absurd cc

starts_after : (items : List Logged) (at k : ℕ) (d : Logged) → follows at (records_in items) ≡ true → AllByRecursion IsSized (records_in items) → k < length items → at ≤ (get_or items k d).entry.value.start
starts_after [] at k d goes sized lt = absurd (omega (arith, lt))
starts_after (l ∷ items) at zero d goes sized lt = omega (arith, (starts_at l.entry.value at (records_in items) goes).0)
starts_after (l ∷ items) at (suc k) d goes sized lt =
    let next = starts_at l.entry.value at (records_in items) goes in
    omega (arith, next.0, sized.0, starts_after items l.entry.value.end k d next.1 sized.1 (omega (arith, lt)))

pub starts_rise : (items : List Logged) (at : ℕ) → follows at (records_in items) ≡ true → AllByRecursion IsSized (records_in items) → IsNonDecreasingBy (λ (l : Logged). l.entry.value.start) items
starts_rise [] at goes sized i j d le lt = absurd (omega (arith, lt))
starts_rise (l ∷ items) at goes sized zero zero d le lt = omega arith
starts_rise (l ∷ items) at goes sized (suc i) zero d le lt = absurd (omega (arith, le))
starts_rise (l ∷ items) at goes sized zero (suc j) d le lt =
    let next = starts_at l.entry.value at (records_in items) goes in
    omega (arith, next.0, sized.0, starts_after items l.entry.value.end j d next.1 sized.1 (omega (arith, lt)))
starts_rise (l ∷ items) at goes sized (suc i) (suc j) d le lt =
    let next = starts_at l.entry.value at (records_in items) goes in
    starts_rise items l.entry.value.end next.1 sized.1 i j d (omega (arith, le)) (omega (arith, lt))

-- what halving finds is the first that starts at the position or later
pub place_at : (items : List Logged) (s i : ℕ) → i ≤ length items
    → ((k : ℕ) (d : Logged) → k < i → nat_lt (get_or items k d).entry.value.start s ≡ true) → ((k : ℕ) (d : Logged) → i ≤ k → k < length items → nat_lt (get_or items k d).entry.value.start s ≡ false)
    → i ≡ place_from s (records_in items)
place_at [] s i le early late = omega (arith, le)
place_at (l ∷ items) s zero le early late =
    let here : leb s l.entry.value.start ≡ true = le-leb s l.entry.value.start (ltb-false l.entry.value.start s (late 0 l (omega arith) (omega arith))) in
    rw here refl
place_at (l ∷ items) s (suc i) le early late =
    let here : leb s l.entry.value.start ≡ false = lt-leb s l.entry.value.start (ltb-true l.entry.value.start s (early 0 l (omega arith))) in
    rw here (ap suc (place_at items s i (omega (arith, le)) (λ k d lt. early (suc k) d (omega (arith, lt))) (λ k d from lt. late (suc k) d (omega (arith, from)) (omega (arith, lt)))))
