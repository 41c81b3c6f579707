-- Where transactions in progress began to write, record by record.
use Rattle.std.proofs.Common.{◌≡◌, ◌+◌, ℕ, suc, ◌==◌, Bool, true, false, cond, ◌&&◌, ◌||◌, not, List, [], ◌∷◌, ◌++◌, length, filter, Option, Some, None, refl, sym, ap, subst, ◌∙◌, arith, eq-eqb, length-append, reverse}
use Rattle.std.specs.List.{list_any, AllByRecursion}
use Rattle.wal.specs.declared.record.Record.{Record}
use Rattle.wal.specs.declared.record.Body.{Body}
use Rattle.wal.specs.declared.record.Body.TheVariants.{Assign, Change as Changed, AbortSub, Abort, Commit, Note}
use Rattle.wal.specs.Log.{is_note, assigns, is_assigned, chain, chain_step, ends, has_ended, last_of, top_of, xid_in, IsNext, IsOpen, IsWellFormedLog, WellFormedAfter}
use Rattle.wal.specs.Restart.{first_place, is_in_progress, oldest}
use Rattle.std.proofs.lemmas.Bool.{eqb-true}
use Rattle.wal.proofs.Lists.{and_true, each, eqb_comm}
use Rattle.wal.proofs.Laws.{all_when, chain-append, chain-quiet, chain-unassigned, has_ended-one, WellFormedAfter-back}
use Rattle.wal.proofs.Places.{chain-stable}
use Rattle.wal.proofs.Restarts.{IsNamedIn, all_named}
use Rattle.wal.proofs.Sections.{ends_in}
use Rattle.shared_log.specs.declared.appending.openings.Opening.{Opening}
use Rattle.shared_log.specs.Openings.{AreOpenings, found_from, is_end, openings_after, owner_of, place_or, place_where, restart_after}

-- ---- What is found first.

first_of : Option ℕ → Option ℕ → Option ℕ
first_of None other = other
first_of (Some place) other = Some place

first-none : (a : Option ℕ) → first_of a None ≡ a
unfolding first_of
first-none None = refl
first-none (Some place) = refl

found-push : (at : ℕ) (test : Record → Bool) (log : List Record) (r : Record) → found_from at test (log ++ r ∷ []) ≡ first_of (found_from at test log) (cond (test r) (Some (length log + at)) None)
unfolding first_of
found-push at test [] r = ap (λ (n : ℕ). cond (test r) (Some n) None) (omega arith)
found-push at test (q ∷ log) r = by_test (test q) (found-push (suc at) test log r)
  where
    by_test : (b : Bool) → found_from (suc at) test (log ++ r ∷ []) ≡ first_of (found_from (suc at) test log) (cond (test r) (Some (length log + suc at)) None)
        → cond b (Some at) (found_from (suc at) test (log ++ r ∷ [])) ≡ first_of (cond b (Some at) (found_from (suc at) test log)) (cond (test r) (Some (length (q ∷ log) + at)) None)
    by_test true rest = refl
    by_test false rest = rest ∙ ap (λ (n : ℕ). first_of (found_from (suc at) test log) (cond (test r) (Some n) None)) (omega arith)

found-agrees : (at : ℕ) (p q : Record → Bool) (log : List Record) → AllByRecursion (λ r. p r ≡ q r) log → found_from at p log ≡ found_from at q log
found-agrees at p q [] all = refl
found-agrees at p q (r ∷ log) all = rw all.0 (ap (λ rest. cond (q r) (Some at) rest) (found-agrees (suc at) p q log all.1))

place-push : (p : ℕ → Bool) (os : List Opening) (o : Opening) → place_where p (os ++ o ∷ []) ≡ first_of (place_where p os) (cond (p o.xid) (Some o.place) None)
unfolding first_of
place-push p [] o = refl
place-push p (q ∷ os) o = by_test (p q.xid) (place-push p os o)
  where
    by_test : (b : Bool) → place_where p (os ++ o ∷ []) ≡ first_of (place_where p os) (cond (p o.xid) (Some o.place) None)
        → cond b (Some q.place) (place_where p (os ++ o ∷ [])) ≡ first_of (cond b (Some q.place) (place_where p os)) (cond (p o.xid) (Some o.place) None)
    by_test true rest = refl
    by_test false rest = rest

place-filter : (p q : ℕ → Bool) (os : List Opening) → place_where p (filter (λ o. q o.xid) os) ≡ place_where (λ x. q x && p x) os
place-filter p q [] = refl
place-filter p q (o ∷ os) = by_test (q o.xid) (place-filter p q os)
  where
    by_test : (b : Bool) → place_where p (filter (λ o. q o.xid) os) ≡ place_where (λ x. q x && p x) os
        → place_where p (cond b (o ∷ filter (λ o. q o.xid) os) (filter (λ o. q o.xid) os)) ≡ cond (b && p o.xid) (Some o.place) (place_where (λ x. q x && p x) os)
    by_test true rest = ap (λ other. cond (p o.xid) (Some o.place) other) rest
    by_test false rest = rest

place-agrees : (p q : ℕ → Bool) → ((x : ℕ) → p x ≡ q x) → (os : List Opening) → place_where p os ≡ place_where q os
place-agrees p q same [] = refl
place-agrees p q same (o ∷ os) = rw (same o.xid) (ap (λ rest. cond (q o.xid) (Some o.place) rest) (place-agrees p q same os))

-- one that is there comes before one after
place-there : (p : ℕ → Bool) (top : ℕ) (os : List Opening) (other : ℕ) → list_any (λ o. o.xid == top) os ≡ true → first_of (place_where p os) (cond (p top) (Some other) None) ≡ place_where p os
unfolding first_of
place-there p top [] other is = absurd cc
place-there p top (o ∷ os) other is = by_test (o.xid == top) (p o.xid) refl refl is (place-there p top os other)
  where
    by_test : (same passes : Bool) → (o.xid == top) ≡ same → p o.xid ≡ passes → (same || list_any (λ o. o.xid == top) os) ≡ true
        → (list_any (λ o. o.xid == top) os ≡ true → first_of (place_where p os) (cond (p top) (Some other) None) ≡ place_where p os)
        → first_of (cond passes (Some o.place) (place_where p os)) (cond (p top) (Some other) None) ≡ cond passes (Some o.place) (place_where p os)
    by_test same true at passes any rest = refl
    by_test true false at passes any rest =
        let apart : p top ≡ false = ap p (sym (eqb-true o.xid top at)) ∙ passes in
        rw apart (first-none (place_where p os))
    by_test false false at passes any rest = rest any

-- ---- One more record.

-- Some of a log: those in progress that pass
abbrev some_of : List Record → (ℕ → Bool) → Record → Bool
some_of log p r = is_in_progress log r && p (top_of log (xid_in r.body))

parted : (a b c : Bool) → (not (a || b) && c) ≡ (not a && (not b && c))
parted true b c = refl
parted false b c = refl

-- a note is of no transaction in progress
unless_note : (note a b c d : Bool) → (note ≡ false → (not a && c) ≡ (not b && d)) → ((not note && not a) && c) ≡ ((not note && not b) && d)
unless_note true a b c d same = refl
unless_note false a b c d same = same refl

earlier : (log : List Record) (r : Record) (p : ℕ → Bool) → WellFormedAfter log (r ∷ []) → AllByRecursion (λ q. some_of (log ++ r ∷ []) p q ≡ some_of log (λ x. not (ends x r.body) && p x) q) log
earlier log r p next = all_when (IsNamedIn log) _ each log (all_named log)
  where
    each : (q : Record) → IsNamedIn log q → some_of (log ++ r ∷ []) p q ≡ some_of log (λ x. not (ends x r.body) && p x) q
    each q named =
        let top = top_of log (xid_in q.body) in
        let grown = top_of (log ++ r ∷ []) (xid_in q.body) in
        unless_note (is_note q.body) (has_ended (log ++ r ∷ []) grown) (has_ended log top) (p grown) (not (ends top r.body) && p top) (λ other.
        let same : grown ≡ top = ap (last_of (xid_in q.body)) (chain-stable log (r ∷ []) (xid_in q.body) (named other) next) in
        ap (λ (t : ℕ). not (has_ended (log ++ r ∷ []) t) && p t) same
        ∙ ap (λ b. not b && p top) (has_ended-one log r top)
        ∙ parted (has_ended log top) (ends top r.body) (p top))

-- the record's own transaction is in progress after it, unless it ends it
own : (log : List Record) (r : Record) (top : ℕ) → IsNext log r.body → is_note r.body ≡ false → top_of (log ++ r ∷ []) (xid_in r.body) ≡ top → is_end r.body ≡ false → has_ended log top ≡ false
own log r top next other is goes_on = by_body r.body refl next other goes_on
  where
    running_top : (xid : ℕ) → IsOpen log xid → top_of (log ++ r ∷ []) (xid_in r.body) ≡ top_of log xid → has_ended log top ≡ false
    running_top xid still same = ap (has_ended log) (sym is ∙ same) ∙ still.running

    by_body : (body : Body) → r.body ≡ body → IsNext log body → is_note body ≡ false → is_end body ≡ false → has_ended log top ≡ false
    by_body (Assign sub parent) at n o e =
        running_top parent n.2
        (ap (λ b. top_of (log ++ r ∷ []) (xid_in b)) at
        ∙ ap (last_of sub) (chain-append log r sub ∙ ap (λ (b : Body). chain_step (chain log) b sub) at ∙ ap (λ b. cond b (sub ∷ chain log parent) (chain log sub)) (eq-eqb sub sub refl))
        ∙ ends_in (reverse log) sub parent)
    by_body (Changed xid change) at n o e = running_top xid n (ap (λ b. top_of (log ++ r ∷ []) (xid_in b)) at ∙ ap (last_of xid) (chain-quiet log r xid (ap (assigns xid) at)))
    by_body (AbortSub xid) at n o e = running_top xid n.1 (ap (λ b. top_of (log ++ r ∷ []) (xid_in b)) at ∙ ap (last_of xid) (chain-quiet log r xid (ap (assigns xid) at)))
    by_body (Abort xid) at n o e = absurd cc
    by_body (Commit xid time) at n o e = absurd cc
    by_body (Note change) at n o e = absurd cc

quiet_ends : (body : Body) (x : ℕ) → is_end body ≡ false → ends x body ≡ false
quiet_ends (Assign sub parent) x e = refl
quiet_ends (Changed xid change) x e = refl
quiet_ends (AbortSub xid) x e = refl
quiet_ends (Abort xid) x e = absurd cc
quiet_ends (Commit xid time) x e = absurd cc
quiet_ends (Note change) x e = refl

-- it ends the transaction that it is of
own_ends : (log : List Record) (r : Record) (top : ℕ) → IsNext log r.body → top_of (log ++ r ∷ []) (xid_in r.body) ≡ top → is_end r.body ≡ true → (x : ℕ) → ends x r.body ≡ (x == top)
own_ends log r top next is over x = by_body r.body refl next over
  where
    alone : (xid : ℕ) → is_assigned log xid ≡ false → assigns xid r.body ≡ false → xid_in r.body ≡ xid → xid ≡ top
    alone xid free quiet at = sym (ap (last_of xid) (chain-quiet log r xid quiet ∙ chain-unassigned log xid free)) ∙ ap (top_of (log ++ r ∷ [])) (sym at) ∙ is

    by_body : (body : Body) → r.body ≡ body → IsNext log body → is_end body ≡ true → ends x body ≡ (x == top)
    by_body (Assign sub parent) at n e = absurd cc
    by_body (Changed xid change) at n e = absurd cc
    by_body (AbortSub xid) at n e = absurd cc
    by_body (Note change) at n e = absurd cc
    by_body (Abort xid) at n e = eqb_comm xid x ∙ ap (λ (t : ℕ). x == t) (alone xid n.0 (ap (assigns xid) at) (ap xid_in at))
    by_body (Commit xid time) at n e = eqb_comm xid x ∙ ap (λ (t : ℕ). x == t) (alone xid n.0 (ap (assigns xid) at) (ap xid_in at))

or_true : (b : Bool) → (b || true) ≡ true
or_true true = refl
or_true false = refl

-- a note begins and ends none
openings-note : (log : List Record) (r : Record) (os : List Opening) → IsWellFormedLog (log ++ r ∷ []) → is_note r.body ≡ true → AreOpenings log os → AreOpenings (log ++ r ∷ []) os
openings-note log r os good note are p =
    found-push 0 (some_of (log ++ r ∷ []) p) log r
    ∙ ap (λ found. first_of found (cond (some_of (log ++ r ∷ []) p r) (Some (length log + 0)) None))
    (found-agrees 0 (some_of (log ++ r ∷ []) p) (some_of log (λ x. not (ends x r.body) && p x)) log (earlier log r p (WellFormedAfter-back [] log (r ∷ []) good.order)) ∙ are (λ x. not (ends x r.body) && p x))
    ∙ ap (λ b. first_of (place_where (λ x. not (ends x r.body) && p x) os) (cond ((not b && not (has_ended (log ++ r ∷ []) (top_of (log ++ r ∷ []) (xid_in r.body)))) && p (top_of (log ++ r ∷ []) (xid_in r.body))) (Some (length log + 0)) None)) note
    ∙ first-none (place_where (λ x. not (ends x r.body) && p x) os)
    ∙ place-agrees (λ x. not (ends x r.body) && p x) p (λ x. ap (λ b. not b && p x) (by_body r.body note x)) os
  where
    by_body : (body : Body) → is_note body ≡ true → (x : ℕ) → ends x body ≡ false
    by_body (Assign sub parent) is x = refl
    by_body (Changed xid change) is x = refl
    by_body (AbortSub xid) is x = refl
    by_body (Abort xid) is x = absurd cc
    by_body (Commit xid time) is x = absurd cc
    by_body (Note change) is x = refl

-- a record of a transaction
openings-own : (log : List Record) (r : Record) (os : List Opening) (top : ℕ) (over : Bool) → IsWellFormedLog (log ++ r ∷ []) → is_note r.body ≡ false → top_of (log ++ r ∷ []) (xid_in r.body) ≡ top → is_end r.body ≡ over
    → AreOpenings log os → AreOpenings (log ++ r ∷ []) (openings_after (Some top) over (length log) os)
openings-own log r os top over good other is ends_is are p =
    found-push 0 (some_of (log ++ r ∷ []) p) log r
    ∙ ap (λ found. first_of found (cond (some_of (log ++ r ∷ []) p r) (Some (length log + 0)) None))
    (found-agrees 0 (some_of (log ++ r ∷ []) p) (some_of log (λ x. not (ends x r.body) && p x)) log (earlier log r p next) ∙ are (λ x. not (ends x r.body) && p x))
    ∙ by_end over ends_is
  where
    next : WellFormedAfter log (r ∷ [])
    next = WellFormedAfter-back [] log (r ∷ []) good.order

    of_top : some_of (log ++ r ∷ []) p r ≡ (not (has_ended (log ++ r ∷ []) top) && p top)
    of_top =
        ap (λ b. (not b && not (has_ended (log ++ r ∷ []) (top_of (log ++ r ∷ []) (xid_in r.body)))) && p (top_of (log ++ r ∷ []) (xid_in r.body))) other
        ∙ ap (λ (t : ℕ). not (has_ended (log ++ r ∷ []) t) && p t) is

    by_end : (b : Bool) → is_end r.body ≡ b → first_of (place_where (λ x. not (ends x r.body) && p x) os) (cond (some_of (log ++ r ∷ []) p r) (Some (length log + 0)) None) ≡ place_where p (openings_after (Some top) b (length log) os)
    by_end true at =
        let same = own_ends log r top next.0 is at in
        let ended : some_of (log ++ r ∷ []) p r ≡ false =
        of_top
        ∙ ap (λ b. not b && p top) (has_ended-one log r top ∙ ap (λ b. has_ended log top || b) (same top ∙ eq-eqb top top refl) ∙ or_true (has_ended log top)) in
        rw ended (first-none (place_where (λ x. not (ends x r.body) && p x) os)
        ∙ place-agrees (λ x. not (ends x r.body) && p x) (λ x. not (x == top) && p x) (λ x. ap (λ b. not b && p x) (same x)) os
        ∙ sym (place-filter p (λ x. not (x == top)) os))
    by_end false at =
        let going : some_of (log ++ r ∷ []) p r ≡ p top =
        of_top
        ∙ ap (λ b. not b && p top) (has_ended-one log r top ∙ ap (λ b. b || ends top r.body) (own log r top next.0 other is at) ∙ quiet_ends r.body top at) in
        ap (λ b. first_of (place_where (λ x. not (ends x r.body) && p x) os) (cond b (Some (length log + 0)) None)) going
        ∙ ap (λ (n : ℕ). first_of (place_where (λ x. not (ends x r.body) && p x) os) (cond (p top) (Some n) None)) (omega arith)
        ∙ ap (λ found. first_of found (cond (p top) (Some (length log)) None)) (place-agrees (λ x. not (ends x r.body) && p x) p (λ x. ap (λ b. not b && p x) (quiet_ends r.body x at)) os)
        ∙ by_there (list_any (λ o. o.xid == top) os) refl
      where
        by_there : (b : Bool) → list_any (λ o. o.xid == top) os ≡ b → first_of (place_where p os) (cond (p top) (Some (length log)) None) ≡ place_where p (cond b os (os ++ record { xid = top; place = length log } ∷ []))
        by_there true there = place-there p top os (length log) there
        by_there false there = sym (place-push p os (record { xid = top; place = length log }))

-- one more record, of a transaction or of none
pub openings-next : (log : List Record) (r : Record) (os : List Opening) (owner : Option ℕ) (over : Bool) → IsWellFormedLog (log ++ r ∷ []) → owner_of (log ++ r ∷ []) r ≡ owner → is_end r.body ≡ over
    → AreOpenings log os → AreOpenings (log ++ r ∷ []) (openings_after owner over (length log) os)
openings-next log r os owner over good is ends_is are = by_note (is_note r.body) refl
  where
    top : ℕ
    top = top_of (log ++ r ∷ []) (xid_in r.body)

    by_note : (b : Bool) → is_note r.body ≡ b → AreOpenings (log ++ r ∷ []) (openings_after owner over (length log) os)
    by_note true note =
        subst (λ (o : Option ℕ). AreOpenings (log ++ r ∷ []) (openings_after o over (length log) os)) (sym (ap (λ b. cond b None (Some top)) note) ∙ is)
        (openings-note log r os good note are)
    by_note false other =
        subst (λ (o : Option ℕ). AreOpenings (log ++ r ∷ []) (openings_after o over (length log) os)) (sym (ap (λ b. cond b None (Some top)) other) ∙ is)
        (openings-own log r os top over good other refl ends_is are)

-- ---- The oldest of them.

found-place : (at : ℕ) (test : Record → Bool) (log : List Record) → place_or (length log + at) (found_from at test log) ≡ first_place test log + at
found-place at test [] = refl
found-place at test (r ∷ log) = by_test (test r) (found-place (suc at) test log)
  where
    by_test : (b : Bool) → place_or (length log + suc at) (found_from (suc at) test log) ≡ first_place test log + suc at
        → place_or (length (r ∷ log) + at) (cond b (Some at) (found_from (suc at) test log)) ≡ cond b 0 (suc (first_place test log)) + at
    by_test true rest = omega arith
    by_test false rest = ap (λ (n : ℕ). place_or n (found_from (suc at) test log)) (omega arith) ∙ rest ∙ omega arith

pub oldest_of : (log : List Record) (os : List Opening) → AreOpenings log os → oldest log ≡ place_or (length log) (place_where (λ x. true) os)
oldest_of log os are =
    let all : found_from 0 (is_in_progress log) log ≡ place_where (λ x. true) os =
    found-agrees 0 (is_in_progress log) (some_of log (λ x. true)) log (each (λ (r : Record). is_in_progress log r ≡ some_of log (λ x. true) r) (λ (r : Record). and_true (is_in_progress log r)) log) ∙ are (λ x. true) in
    let zero_more : first_place (is_in_progress log) log + 0 ≡ oldest log = omega arith in
    sym zero_more ∙ sym (found-place 0 (is_in_progress log) log) ∙ ap (λ (n : ℕ). place_or n (found_from 0 (is_in_progress log) log)) (omega arith) ∙ ap (place_or (length log)) all

restart-own : (log : List Record) (os : List Opening) (top : ℕ) (over : Bool) → place_or (suc (length log)) (place_where (λ x. true) (openings_after (Some top) over (length log) os)) ≡ restart_after (Some top) over (length log) os
restart-own log os top over = by_end over
  where
    by_first : (os : List Opening) → place_or (suc (length log)) (place_where (λ x. true) (openings_after (Some top) false (length log) os)) ≡ restart_after (Some top) false (length log) os
    by_first [] = refl
    by_first (o ∷ os) = by_there (list_any (λ o. o.xid == top) (o ∷ os))
      where
        by_there : (b : Bool) → place_or (suc (length log)) (place_where (λ x. true) (cond b (o ∷ os) ((o ∷ os) ++ record { xid = top; place = length log } ∷ []))) ≡ o.place
        by_there true = refl
        by_there false = refl

    by_end : (b : Bool) → place_or (suc (length log)) (place_where (λ x. true) (openings_after (Some top) b (length log) os)) ≡ restart_after (Some top) b (length log) os
    by_end true =
        ap (place_or (suc (length log))) (place-filter (λ x. true) (λ x. not (x == top)) os ∙ place-agrees (λ x. not (x == top) && true) (λ x. not (x == top)) (λ x. sym (and_true (not (x == top)))) os)
    by_end false = by_first os

-- the oldest after one more record
pub oldest-next : (log : List Record) (r : Record) (os : List Opening) (owner : Option ℕ) (over : Bool) → IsWellFormedLog (log ++ r ∷ []) → owner_of (log ++ r ∷ []) r ≡ owner → is_end r.body ≡ over
    → AreOpenings log os → restart_after owner over (length log) os ≡ oldest (log ++ r ∷ [])
oldest-next log r os owner over good is ends_is are =
    sym (oldest_of (log ++ r ∷ []) (openings_after owner over (length log) os) (openings-next log r os owner over good is ends_is are)
    ∙ ap (λ (n : ℕ). place_or n (place_where (λ x. true) (openings_after owner over (length log) os))) (omega (arith, length-append log (r ∷ [])))
    ∙ by_owner owner)
  where
    by_owner : (o : Option ℕ) → place_or (suc (length log)) (place_where (λ x. true) (openings_after o over (length log) os)) ≡ restart_after o over (length log) os
    by_owner None = refl
    by_owner (Some top) = restart-own log os top over
