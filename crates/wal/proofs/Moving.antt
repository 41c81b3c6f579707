-- The restart place never goes back: neither while the log grows nor for a later start position.
use Rattle.std.proofs.Common.{◌≡◌, ◌≤◌, ℕ, suc, Bool, true, false, cond, ◌&&◌, ◌||◌, not, List, [], ◌∷◌, ◌++◌, take, drop, refl, sym, ap, subst, ◌∙◌, arith}
use Rattle.std.specs.List.{AllByRecursion}
use Rattle.std.specs.Prelude.{nat_le}
use Rattle.std.proofs.lemmas.Bool.{le-leb, leb-true}
use Rattle.std.proofs.lemmas.List.{take-append-drop, take-append-le, take-take}
use Rattle.wal.specs.declared.record.Record.{Record}
use Rattle.wal.specs.Log.{is_note, xid_in, last_of, top_of, has_ended, IsWellFormedLog, WellFormedAfter}
use Rattle.wal.specs.Restart.{first_place, is_in_progress, oldest, place_from, restart_place}
use Rattle.wal.proofs.Lists.{each}
use Rattle.wal.proofs.Laws.{all_when, has_ended-append, WellFormedAfter-front, WellFormedAfter-back}
use Rattle.wal.proofs.Places.{chain-stable}
use Rattle.wal.proofs.Restarts.{IsNamedIn, all_named, within}

-- of a longer list the first that passes a sharper test stands no earlier
first-later : (p q : Record → Bool) (log more : List Record) → AllByRecursion (λ r. q r ≡ true → p r ≡ true) log → first_place p log ≤ first_place q (log ++ more)
first-later p q [] more sharper = omega arith
first-later p q (r ∷ log) more sharper = by_tests (q r) (p r) sharper.0 (first-later p q log more sharper.1)
  where
    by_tests : (b c : Bool) → (b ≡ true → c ≡ true) → first_place p log ≤ first_place q (log ++ more) → cond c 0 (suc (first_place p log)) ≤ cond b 0 (suc (first_place q (log ++ more)))
    by_tests true true is le = omega arith
    by_tests true false is le = absurd (let both : false ≡ true = is refl in cc)
    by_tests false true is le = omega arith
    by_tests false false is le = omega (arith, le)

-- who is in progress after more records was so before them
was_in_progress : (log more : List Record) (r : Record) → WellFormedAfter log more → IsNamedIn log r → is_in_progress (log ++ more) r ≡ true → is_in_progress log r ≡ true
was_in_progress log more r good named goes = by_note (is_note r.body) refl
  where
    ended : (b c : Bool) → not (b || c) ≡ true → not b ≡ true
    ended true c e = absurd cc
    ended false c e = refl

    right : (b c : Bool) → (b && c) ≡ true → c ≡ true
    right true c e = e
    right false c e = absurd cc

    by_note : (b : Bool) → is_note r.body ≡ b → is_in_progress log r ≡ true
    by_note true note = absurd (let never : (not (is_note r.body) && not (has_ended (log ++ more) (top_of (log ++ more) (xid_in r.body)))) ≡ true = goes in let none : false ≡ true = rw note at never in cc)
    by_note false other =
        let top : top_of (log ++ more) (xid_in r.body) ≡ top_of log (xid_in r.body) = ap (last_of (xid_in r.body)) (chain-stable log more (xid_in r.body) (named other) good) in
        let running : not (has_ended (log ++ more) (top_of (log ++ more) (xid_in r.body))) ≡ true = right (not (is_note r.body)) (not (has_ended (log ++ more) (top_of (log ++ more) (xid_in r.body)))) goes in
        let before : not (has_ended log (top_of log (xid_in r.body)) || has_ended more (top_of log (xid_in r.body))) ≡ true =
        ap not (sym (ap (has_ended (log ++ more)) top ∙ has_ended-append log more (top_of log (xid_in r.body)))) ∙ running in
        let still : not (has_ended log (top_of log (xid_in r.body))) ≡ true = ended (has_ended log (top_of log (xid_in r.body))) (has_ended more (top_of log (xid_in r.body))) before in
        rw (other, still) refl

-- the oldest record of a transaction in progress
pub oldest-later : (log more : List Record) → WellFormedAfter [] (log ++ more) → oldest log ≤ oldest (log ++ more)
oldest-later log more good =
    first-later (is_in_progress log) (is_in_progress (log ++ more)) log more
    (all_when (IsNamedIn log) (λ r. is_in_progress (log ++ more) r ≡ true → is_in_progress log r ≡ true) (λ (r : Record) named goes. was_in_progress log more r (WellFormedAfter-back [] log more good) named goes) log (all_named log))

pub restart-later : (log more : List Record) (s t : ℕ) → IsWellFormedLog (log ++ more) → s ≤ t → restart_place s log ≤ restart_place t (log ++ more)
restart-later log more s t good le =
    let p = place_from s log in
    let q = place_from t (log ++ more) in
    let further : p ≤ q = first-later (λ r. nat_le s r.start) (λ r. nat_le t r.start) log more
    (each (λ r. nat_le t r.start ≡ true → nat_le s r.start ≡ true) (λ (r : Record) is. le-leb s r.start (omega (arith, le, leb-true t r.start is))) log) in
    let whole = take q (log ++ more) in
    let front : take p whole ≡ take p log = take-take p q (log ++ more) further ∙ take-append-le p log more (within (λ r. nat_le s r.start) log) in
    let parts : take p log ++ drop p whole ≡ whole = ap (λ l. l ++ drop p whole) (sym front) ∙ take-append-drop p whole in
    let order : WellFormedAfter [] whole = WellFormedAfter-front [] whole (drop q (log ++ more)) (subst (WellFormedAfter []) (sym (take-append-drop q (log ++ more))) good.order) in
    let later = oldest-later (take p log) (drop p whole) (subst (WellFormedAfter []) (sym parts) order) in
    subst (λ (l : List Record). oldest (take p log) ≤ oldest l) parts later
