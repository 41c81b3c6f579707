-- Over runs that were killed each transaction stands in the output once.
use Rattle.std.proofs.Common.{◌≡◌, ℕ, ℤ, ◌≤◌, ◌+◌, Bool, true, false, cond, List, [], ◌∷◌, ◌++◌, Option, refl, sym, ap, subst, ◌∙◌, append_assoc, arith}
use Rattle.std.proofs.lemmas.List.{append-nil}
use Rattle.std.specs.Prelude.{◌<◌, max}
use Rattle.std.specs.List.{AllByRecursion}
use Rattle.pgoutput.specs.declared.published.Published.{Published}
use Rattle.follower.specs.Once.{EachOnce}
use Rattle.follower.specs.Standing.{Standing, Deed, Tells, Does, Runs}
use Rattle.follower.specs.Promise.{begun_at, printed_in}
use Rattle.follower.specs.Lives.{place_after, place_after_all, EachBehind, IsForwardNote, Life, beginning, Lived, printed_after, Lives, printed_over}
use Rattle.follower.proofs.Deeds.{each_once}

within : (is_note : Bool) (from start end : ℕ) → from ≤ start → (is_note ≡ false → start < end) → (is_note ≡ true → start < end) → (start < cond is_note (start + 1) end) × (cond is_note (start + 1) end ≤ max from end)
within true from start end le of_one of_note = (omega arith, omega (arith, of_note refl))
within false from start end le of_one of_note = (of_one refl, omega arith)

stands_after : (place from to : ℕ) (ts us : List Published) → place ≤ from → EachOnce from (ts ++ us) to → AllByRecursion IsForwardNote ts → EachBehind place ts
stands_after place from to [] us le once forward = tt
stands_after place from to (t ∷ ts) us le once forward =
    let first : from ≤ t.start = once.0 in
    let here = within t.is_note from t.start t.end first once.1 forward.0 in
    (omega (arith, le, first), here.0, stands_after (place_after t) (max from t.end) to ts us here.1 once.2 forward.1)

after_then : (from : ℕ) (ts us : List Published) → EachBehind from ts → EachBehind (place_after_all from ts) us → EachBehind from (ts ++ us)
after_then from [] us p q = q
after_then from (t ∷ ts) us p q = (p.0, p.1, after_then (place_after t) ts us p.2 q)

lived_after : (start : ℕ) (printed : List Published) (life : Life) (lived : Lived start printed life) → EachBehind start printed → EachBehind start (printed_after start printed life lived)
lived_after start printed life lived p =
    let fresh = printed_in (beginning life) life.deeds life.now lived.run in
    let once = each_once life.from life.written life.kept life.sent life.deeds life.now lived.run in
    let parts : fresh ++ life.now.applier.subscriber.applied ≡ (fresh ++ life.whole) ++ life.rest = ap (λ (l : List Published). fresh ++ l) lived.waited ∙ sym (append_assoc fresh life.whole life.rest) in
    let all = subst (λ (l : List Published). EachOnce life.from l life.now.applier.subscriber.position) parts once in
    after_then start printed (fresh ++ life.whole) p (stands_after (place_after_all start printed) life.from life.now.applier.subscriber.position (fresh ++ life.whole) life.rest lived.behind all lived.forward)

pub over_lives : (start : ℕ) (printed : List Published) (lives : List Life) (lived : Lives start printed lives) → EachBehind start printed → EachBehind start (printed_over start printed lives lived)
over_lives start printed [] lived p = p
over_lives start printed (life ∷ lives) lived p = over_lives start (printed_after start printed life lived.0) lives lived.1 (lived_after start printed life lived.0 p)

pub none_ahead : (start : ℕ) (written kept sent : Option (List ℕ)) (deeds : List Deed) (old new : Standing) (run : Runs (begun_at start written kept sent) deeds old) (clock : ℤ) (ask : Bool) (count : ℕ) → Does (Tells clock ask count) old new
    → EachOnce start (printed_in (begun_at start written kept sent) deeds old run) old.applier.subscriber.position × (new.kept ≡ new.written)
none_ahead start written kept sent deeds old new run clock ask count does =
    let printed = printed_in (begun_at start written kept sent) deeds old run in
    let all : printed ++ old.applier.subscriber.applied ≡ printed = ap (λ (l : List Published). printed ++ l) does.printed ∙ append-nil printed in
    let same = does.same in
    (subst (λ (l : List Published). EachOnce start l old.applier.subscriber.position) all (each_once start written kept sent deeds old run), ap (λ (s : Standing). s.kept) same ∙ does.kept ∙ sym (ap (λ (s : Standing). s.written) same))
