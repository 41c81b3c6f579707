-- What was passed over is read again, item by item, with its texts judged.
use Rattle.std.proofs.Common.{◌≡◌, ℕ, zero, suc, ◌-◌, ◌<◌, Bool, true, false, cond, List, [], ◌∷◌, length, Option, Some, None, Result, Ok, Err, refl, sym, ap, subst, ◌∙◌}
use Rattle.std.specs.Prelude.{◌&&◌}
use Rattle.std.specs.List.{list_all}
use Rattle.pqformat.specs.Steps.{◌>>=◌, repeat_at, next_at, go_on, until_at}
use Rattle.frames.specs.Body.{nothing_left, checked_text, checked_at, passed_part, whole, always, GivesAt}
use Rattle.frames.specs.Frame.{Fails, Gives}
use Rattle.frames.specs.declared.fault.FrameFault.{FrameFault}
use Rattle.frames.specs.declared.fault.FrameFault.TheVariants.{NotUtf8}
use Rattle.pqformat.proofs.Codec.{bind_ok, ok_is, done}
use Rattle.pqformat.proofs.Loop as loop
use Rattle.pqformat.proofs.Loop.{with_front}
use Rattle.frames.proofs.Faults.{failed, same_fault}
use Rattle.frames.proofs.ListSteps.{Reader, next_none, next_some, pair, same_pair}

abbrev Judged : {A : Type 0} → (A → Bool) → Reader A → List ℕ → Result (A × List ℕ) FrameFault
Judged is_text f bytes = checked_at is_text (f bytes)

pub first_and_others : {A : Type 0} (is_text : A → Bool) (f : Reader A) (n : ℕ) (bytes : List ℕ) (x : A) (rest : List ℕ) (xs : List A) (after : List ℕ) → f bytes ≡ Ok (x, rest)
    → repeat_at (Judged is_text f) n rest ≡ checked_at (list_all is_text) (Ok (xs, after)) → repeat_at (Judged is_text f) (suc n) bytes ≡ checked_at (list_all is_text) (Ok (x ∷ xs, after))
unfolding repeat_at
first_and_others {A} is_text f n bytes x rest xs after first others = rw first (by_test (is_text x) (list_all is_text xs) others)
  where
    by_test : (t u : Bool) → repeat_at (Judged is_text f) n rest ≡ (cond u (done FrameFault xs) (Err NotUtf8) >>= λ y. Ok (pair y after))
        → ((cond t (done FrameFault x) (Err NotUtf8) >>= λ y. Ok (pair y rest)) >>= λ first. repeat_at (Judged is_text f) n first.1 >>= λ others. Ok (pair (first.0 ∷ others.0) others.1))
        ≡ (cond (t && u) (done FrameFault (x ∷ xs)) (Err NotUtf8) >>= λ y. Ok (pair y after))
    by_test true true others = rw others refl
    by_test true false others = rw others refl
    by_test false u others = refl

pub until_repeats : {A : Type 0} (f : Reader A) (n : ℕ) (bytes : List ℕ) (xs : List A) (rest : List ℕ) → until_at tt f n bytes ≡ Ok (xs, rest) → repeat_at f (length xs) bytes ≡ Ok (xs, 0 ∷ rest)
unfolding until_at repeat_at
until_repeats f zero bytes xs rest e = absurd cc
until_repeats {A} f (suc n) bytes xs rest e =
    let a = bind_ok (next_at tt f bytes) (λ x. go_on x.0 x.1 (until_at tt f n x.1)) (xs, rest) e in
    by_next a.0.0 a.0.1 a.1 (λ ys after. until_repeats f n a.0.1 ys after) a.2
  where
    Again : List A × List ℕ → Type 0
    Again y = repeat_at f (length y.0) bytes ≡ Ok (y.0, 0 ∷ y.1)

    by_next : (o : Option A) (after : List ℕ) → next_at tt f bytes ≡ Ok (o, after)
        → ((ys : List A) (rest : List ℕ) → until_at tt f n after ≡ Ok (ys, rest) → repeat_at f (length ys) after ≡ Ok (ys, 0 ∷ rest))
        → go_on o after (until_at tt f n after) ≡ Ok (xs, rest) → Again (xs, rest)
    by_next None after next inner e =
        let read : List A × List ℕ = ([], after) in
        let here : repeat_at f 0 bytes ≡ Ok ([], 0 ∷ after) = ap (λ (l : List ℕ). Ok ([], l)) (next_none f bytes after next) in
        subst Again (ok_is (Unit {0}) read (xs, rest) e) here
    by_next (Some x) after next inner e =
        let b = bind_ok (until_at tt f n after) (λ y. Ok (x ∷ y.0, y.1)) (xs, rest) e in
        let made : List A × List ℕ = (x ∷ b.0.0, b.0.1) in
        let first = (next_some f bytes x after next).0 in
        let others = inner b.0.0 b.0.1 b.1 in
        subst Again (ok_is (Unit {0}) made (xs, rest) b.2) (rw (first, others) refl)

pub repeat_repeats : {A : Type 0} (is_text : A → Bool) (f : Reader A) (n : ℕ) (bytes : List ℕ) (xs : List A) (rest : List ℕ) → repeat_at f n bytes ≡ Ok (xs, rest)
    → repeat_at (Judged is_text f) n bytes ≡ checked_at (list_all is_text) (Ok (xs, rest))
unfolding repeat_at
repeat_repeats {A} is_text f zero bytes xs rest e =
    let read : List A × List ℕ = ([], bytes) in
    let P : List A × List ℕ → Type 0 = λ y. repeat_at (Judged is_text f) 0 bytes ≡ checked_at (list_all is_text) (Ok y) in
    subst P (ok_is (Unit {0}) read (xs, rest) e) refl
repeat_repeats {A} is_text f (suc n) bytes xs rest e =
    let a = bind_ok (f bytes) (λ first. repeat_at f n first.1 >>= λ others. Ok (first.0 ∷ others.0, others.1)) (xs, rest) e in
    let b = bind_ok (repeat_at f n a.0.1) (λ others. Ok (a.0.0 ∷ others.0, others.1)) (xs, rest) a.2 in
    let made : List A × List ℕ = (a.0.0 ∷ b.0.0, b.0.1) in
    let P : List A × List ℕ → Type 0 = λ y. repeat_at (Judged is_text f) (suc n) bytes ≡ checked_at (list_all is_text) (Ok y) in
    subst P (ok_is (Unit {0}) made (xs, rest) b.2) (first_and_others is_text f n bytes a.0.0 a.0.1 b.0.0 b.0.1 a.1 (repeat_repeats is_text f n a.0.1 b.0.0 b.0.1 b.1))

-- what a reader answers, without where it stands
pub forget_place : {X : Type 0} (is_text : X → Bool) (r : Result X FrameFault) (x : X) (place after : List ℕ) → GivesAt r place (checked_at is_text (Ok (x, after))) → Gives r (checked_text is_text x)
forget_place {X} is_text r x place after given = by_test (is_text x) r given
  where
    by_test : (t : Bool) (r : Result X FrameFault) → GivesAt r place (cond t (done FrameFault x) (Err NotUtf8) >>= λ y. Ok (y, after)) → Gives r (cond t (Ok x) (Err NotUtf8))
    by_test true (Ok y) is =
        let read : X × List ℕ = (x, after) in
        ap (λ (p : X × List ℕ). Ok p.0) (ok_is FrameFault read (y, place) is)
    by_test true (Err e) is = same_fault e (done FrameFault (pair x after)) (done FrameFault x) (λ is. absurd cc) is
    by_test false (Ok y) is = absurd cc
    by_test false (Err e) is = same_fault e (failed (X × List ℕ) NotUtf8) (failed X NotUtf8) (λ is. cc) is

-- ---- a loop over a count that ends at a fault

pub ends : {A : Type 0} (d : FrameFault) (f : List ℕ → Result (A × List ℕ) FrameFault) (front : List A) (count i : ℕ) (bytes : List ℕ) (total : Result (List A × List ℕ) FrameFault)
    → i < count → Fails d (f bytes) → with_front front (repeat_at f (count - i) bytes) ≡ total → Fails d total
ends d f front count i bytes total lt h so_far = same_fault d (f bytes) total (λ is. loop.ends d f front count i bytes total lt is so_far) h

-- ---- a list whose shape is right

-- it is there as so many items, with nothing left over
pub record IsListed {A : Type 0} (f : Reader A) (count : ℕ) (bytes : List ℕ) (read : Result (List A × List ℕ) (Unit {0})) : Type 0 where
  pub items : List A
  pub after : List ℕ
  pub all : read ≡ Ok (items, [])
  pub again : repeat_at f count bytes ≡ Ok (items, after)

at_end : (rest : List ℕ) → nothing_left rest ≡ Ok tt → rest ≡ []
at_end [] is = refl
at_end (b ∷ bytes) is = absurd cc

pub are_listed : {A : Type 0} (f : Reader A) (n count : ℕ) (bytes rest : List ℕ) → passed_part length (until_at tt f n bytes) ≡ Ok (count, rest) → nothing_left rest ≡ Ok tt → IsListed f count bytes (until_at tt f n bytes)
are_listed {A} f n count bytes rest counted end = by_read (until_at tt f n bytes) refl counted
  where
    by_read : (u : Result (List A × List ℕ) (Unit {0})) → until_at tt f n bytes ≡ u → passed_part length u ≡ Ok (count, rest) → IsListed f count bytes u
    by_read (Ok (xs, tail)) is counted =
        let same = same_pair (length xs) count tail rest counted in
        let no_more : tail ≡ [] = same.1 ∙ at_end rest end in
        record { items = xs; after = 0 ∷ tail; all = rw no_more refl; again = rw (← same.0) (until_repeats f n bytes xs tail is) }
    by_read (Err u) is counted = absurd cc

pub are_counted : {A B : Type 0} (told : List A → B) (f : Reader A) (n : ℕ) (bytes rest : List ℕ) (answer : B) → passed_part told (repeat_at f n bytes) ≡ Ok (answer, rest) → nothing_left rest ≡ Ok tt
    → IsListed f n bytes (repeat_at f n bytes)
are_counted {A} {B} told f n bytes rest answer over end = by_read (repeat_at f n bytes) refl over
  where
    by_read : (u : Result (List A × List ℕ) (Unit {0})) → repeat_at f n bytes ≡ u → passed_part told u ≡ Ok (answer, rest) → IsListed f n bytes u
    by_read (Ok (xs, tail)) is over =
        let no_more : tail ≡ [] = (same_pair (told xs) answer tail rest over).1 ∙ at_end rest end in
        record { items = xs; after = tail; all = rw no_more refl; again = is }
    by_read (Err u) is over = absurd cc

-- so passing over it doesn't fail
pub passes : {A B : Type 0} {f : Reader A} {count : ℕ} {bytes : List ℕ} {read : Result (List A × List ℕ) (Unit {0})} → IsListed f count bytes read → (told : List A → B) (e : FrameFault)
    → passed_part told (repeat_at f count bytes) ≡ Err e → ⊥
passes {A} {B} {f} {count} {bytes} {read} l told e failed =
    let read_again : passed_part told (repeat_at f count bytes) ≡ Ok (told l.items, l.after) = ap (λ (r : Result (List A × List ℕ) (Unit {0})). passed_part told r) l.again in
    absurd cc

-- and tells its texts
pub judges : {A : Type 0} (is_text : A → Bool) {f : Reader A} {count : ℕ} {bytes : List ℕ} {read : Result (List A × List ℕ) (Unit {0})} → (l : IsListed f count bytes read) → (t : Bool) (rest : List ℕ)
    → passed_part (list_all is_text) (repeat_at f count bytes) ≡ Ok (t, rest) → whole (list_all is_text) read ≡ cond t (Ok l.items) (Err NotUtf8)
judges {A} is_text {f} {count} {bytes} {read} l t rest over =
    let read_again : passed_part (list_all is_text) (repeat_at f count bytes) ≡ Ok (list_all is_text l.items, l.after) = ap (λ (r : Result (List A × List ℕ) (Unit {0})). passed_part (list_all is_text) r) l.again in
    let told : list_all is_text l.items ≡ t = (same_pair (list_all is_text l.items) t l.after rest (sym read_again ∙ over)).0 in
    rw (l.all, told) refl

pub are_items : {A : Type 0} (is_text : A → Bool) {f : Reader A} {count : ℕ} {bytes : List ℕ} {read : Result (List A × List ℕ) (Unit {0})} → (l : IsListed f count bytes read) → (place : List ℕ) (r : Result (List A) FrameFault)
    → GivesAt r place (repeat_at (Judged is_text f) count bytes) → Gives r (whole (list_all is_text) read)
are_items {A} is_text {f} {count} {bytes} {read} l place r given =
    let P : Result (List A × List ℕ) FrameFault → Type 0 = λ read. GivesAt r place read in
    let Q : Result (List A × List ℕ) (Unit {0}) → Type 0 = λ read. Gives r (whole (list_all is_text) read) in
    subst Q (sym l.all) (forget_place (list_all is_text) r l.items place l.after (subst P (repeat_repeats is_text f count bytes l.items l.after l.again) given))

-- what has no text is never refused for one
pub untested : {A : Type 0} (read : Result (List A × List ℕ) (Unit {0})) → whole (list_all always) read ≡ whole always read
untested {A} (Ok (xs, [])) = rw (all_pass xs) refl
  where
    all_pass : (ys : List A) → list_all always ys ≡ true
    all_pass [] = refl
    all_pass (y ∷ ys) = all_pass ys
untested (Ok (xs, b ∷ bytes)) = refl
untested (Err u) = refl
