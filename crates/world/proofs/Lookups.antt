-- What is found by a connection's name, where something was done to it or to another.
use Rattle.std.proofs.Common.{◌≡◌, ℕ, Bool, true, false, cond, List, [], ◌∷◌, ◌++◌, Option, Some, None, refl, sym, ap, subst, ◌∙◌}
use Rattle.std.specs.Prelude.{◌&&◌}
use Rattle.std.specs.List.{AllByRecursion}
use Rattle.std.specs.Str.{bytes_eq}
use Rattle.std.proofs.lemmas.Slice.Eq.{bytes_eq-Decides}
use Rattle.row_messages.proofs.Rows.{both_true}
use Rattle.world.specs.Start.{StartState, is_open_for}
use Rattle.world.specs.State.{SubscriberState, open_start, subscriber_of, with_open_start, with_subscriber}
use Rattle.world.proofs.Inside.{same_inside}

-- ---- Names.

pub same_name : (a b : List ℕ) → bytes_eq a b ≡ true → a ≡ b
same_name a b is = (bytes_eq-Decides a b).0 is

pub named_so : (a b : List ℕ) → a ≡ b → bytes_eq a b ≡ true
named_so a b is = (bytes_eq-Decides a b).1 is

pub other_name : (a b : List ℕ) → bytes_eq a b ≡ false → a ≡ b → ⊥
other_name a b other is = let never : true ≡ false = sym (named_so a b is) ∙ other in cc

-- ---- Subscribers.

pub known_by_name : (c : List ℕ) (ss : List SubscriberState) (s : SubscriberState) → subscriber_of c ss ≡ Some s → s.connection ≡ c
known_by_name c [] s is = absurd cc
known_by_name c (t ∷ ss) s is = by_test (bytes_eq t.connection c) refl is (known_by_name c ss s)
  where
    by_test : (b : Bool) → bytes_eq t.connection c ≡ b → cond b (Some t) (subscriber_of c ss) ≡ Some s → (subscriber_of c ss ≡ Some s → s.connection ≡ c) → s.connection ≡ c
    by_test true named is later = ap (λ (x : SubscriberState). x.connection) (sym (same_inside t s is)) ∙ same_name t.connection c named
    by_test false named is later = later is

pub one_of_all : (P : SubscriberState → Type 0) (c : List ℕ) (ss : List SubscriberState) (s : SubscriberState) → AllByRecursion P ss → subscriber_of c ss ≡ Some s → P s
one_of_all P c [] s all is = absurd cc
one_of_all P c (t ∷ ss) s all is = by_test (bytes_eq t.connection c) is (one_of_all P c ss s all.1)
  where
    by_test : (b : Bool) → cond b (Some t) (subscriber_of c ss) ≡ Some s → (subscriber_of c ss ≡ Some s → P s) → P s
    by_test true is later = subst P (same_inside t s is) all.0
    by_test false is later = later is

pub all_with : (P : SubscriberState → Type 0) (d : List ℕ) (ss : List SubscriberState) (new : SubscriberState) → AllByRecursion P ss → P new → AllByRecursion P (with_subscriber d new ss)
all_with P d [] new all is = tt
all_with P d (t ∷ ss) new all is = by_test (bytes_eq t.connection d) (all_with P d ss new all.1 is)
  where
    by_test : (b : Bool) → AllByRecursion P (with_subscriber d new ss) → AllByRecursion P (cond b (new ∷ ss) (t ∷ with_subscriber d new ss))
    by_test true later = (is, all.1)
    by_test false later = (all.0, later)

-- the one that was replaced
pub with_found : (c : List ℕ) (ss : List SubscriberState) (old new : SubscriberState) → subscriber_of c ss ≡ Some old → new.connection ≡ c → subscriber_of c (with_subscriber c new ss) ≡ Some new
with_found c [] old new is named = absurd cc
with_found c (t ∷ ss) old new is named = by_test (bytes_eq t.connection c) refl is (λ later. with_found c ss old new later named)
  where
    by_test : (b : Bool) → bytes_eq t.connection c ≡ b → cond b (Some t) (subscriber_of c ss) ≡ Some old → (subscriber_of c ss ≡ Some old → subscriber_of c (with_subscriber c new ss) ≡ Some new)
        → subscriber_of c (cond b (new ∷ ss) (t ∷ with_subscriber c new ss)) ≡ Some new
    by_test true here is later = rw (named_so new.connection c named) refl
    by_test false here is later = rw here (later is)

-- another
pub with_other : (c d : List ℕ) (ss : List SubscriberState) (new : SubscriberState) → bytes_eq d c ≡ false → new.connection ≡ d → subscriber_of c (with_subscriber d new ss) ≡ subscriber_of c ss
with_other c d [] new other named = refl
with_other c d (t ∷ ss) new other named = by_test (bytes_eq t.connection d) refl (with_other c d ss new other named)
  where
    by_test : (b : Bool) → bytes_eq t.connection d ≡ b → subscriber_of c (with_subscriber d new ss) ≡ subscriber_of c ss
        → subscriber_of c (cond b (new ∷ ss) (t ∷ with_subscriber d new ss)) ≡ cond (bytes_eq t.connection c) (Some t) (subscriber_of c ss)
    by_test true here later =
        let first : bytes_eq new.connection c ≡ false = ap (λ (n : List ℕ). bytes_eq n c) named ∙ other in
        let second : bytes_eq t.connection c ≡ false = ap (λ (n : List ℕ). bytes_eq n c) (same_name t.connection d here) ∙ other in
        rw (first, second) refl
    by_test false here later = ap (λ (o : Option SubscriberState). cond (bytes_eq t.connection c) (Some t) o) later

pub one_after : (c : List ℕ) (ss : List SubscriberState) (new : SubscriberState) → subscriber_of c ss ≡ None → new.connection ≡ c → subscriber_of c (ss ++ new ∷ []) ≡ Some new
one_after c [] new none named = rw (named_so new.connection c named) refl
one_after c (t ∷ ss) new none named = by_test (bytes_eq t.connection c) none (λ later. one_after c ss new later named)
  where
    by_test : (b : Bool) → cond b (Some t) (subscriber_of c ss) ≡ None → (subscriber_of c ss ≡ None → subscriber_of c (ss ++ new ∷ []) ≡ Some new) → cond b (Some t) (subscriber_of c (ss ++ new ∷ [])) ≡ Some new
    by_test true none later = absurd cc
    by_test false none later = later none

pub other_behind : (c : List ℕ) (ss : List SubscriberState) (new : SubscriberState) → bytes_eq new.connection c ≡ false → subscriber_of c (ss ++ new ∷ []) ≡ subscriber_of c ss
other_behind c [] new other = rw other refl
other_behind c (t ∷ ss) new other = ap (λ (o : Option SubscriberState). cond (bytes_eq t.connection c) (Some t) o) (other_behind c ss new other)

-- ---- Starts.

pub open_of_all : (P : StartState → Type 0) (c : List ℕ) (starts : List StartState) (l : StartState) → AllByRecursion P starts → open_start c starts ≡ Some l → P l
open_of_all P c [] l all is = absurd cc
open_of_all P c (t ∷ starts) l all is = by_test (is_open_for c t) is (open_of_all P c starts l all.1)
  where
    by_test : (b : Bool) → cond b (Some t) (open_start c starts) ≡ Some l → (open_start c starts ≡ Some l → P l) → P l
    by_test true is later = subst P (same_inside t l is) all.0
    by_test false is later = later is

pub is_open_there : (c : List ℕ) (starts : List StartState) (l : StartState) → open_start c starts ≡ Some l → is_open_for c l ≡ true
is_open_there c [] l is = absurd cc
is_open_there c (t ∷ starts) l is = by_test (is_open_for c t) refl is (is_open_there c starts l)
  where
    by_test : (b : Bool) → is_open_for c t ≡ b → cond b (Some t) (open_start c starts) ≡ Some l → (open_start c starts ≡ Some l → is_open_for c l ≡ true) → is_open_for c l ≡ true
    by_test true here is later = ap (is_open_for c) (sym (same_inside t l is)) ∙ here
    by_test false here is later = later is

pub start_named : (c : List ℕ) (starts : List StartState) (l : StartState) → open_start c starts ≡ Some l → l.connection ≡ c
start_named c starts l is = same_name l.connection c (both_true (bytes_eq l.connection c) l.is_open (is_open_there c starts l is)).0

pub start_open : (c : List ℕ) (starts : List StartState) (l : StartState) → open_start c starts ≡ Some l → l.is_open ≡ true
start_open c starts l is = (both_true (bytes_eq l.connection c) l.is_open (is_open_there c starts l is)).1

pub open_for : (c : List ℕ) (l : StartState) → l.connection ≡ c → l.is_open ≡ true → is_open_for c l ≡ true
open_for c l named opened = rw (named_so l.connection c named, opened) refl

pub not_open_for : (c d : List ℕ) (l : StartState) → bytes_eq d c ≡ false → l.connection ≡ d → is_open_for c l ≡ false
not_open_for c d l other named = let first : bytes_eq l.connection c ≡ false = ap (λ (n : List ℕ). bytes_eq n c) named ∙ other in rw first refl

shut : (b : Bool) → (b && false) ≡ false
shut true = refl
shut false = refl

pub not_open_shut : (c : List ℕ) (l : StartState) → l.is_open ≡ false → is_open_for c l ≡ false
not_open_shut c l closed = rw closed (shut (bytes_eq l.connection c))

pub start_found : (c : List ℕ) (starts : List StartState) (old new : StartState) → open_start c starts ≡ Some old → is_open_for c new ≡ true → open_start c (with_open_start c new starts) ≡ Some new
start_found c [] old new is opened = absurd cc
start_found c (t ∷ starts) old new is opened = by_test (is_open_for c t) refl is (λ later. start_found c starts old new later opened)
  where
    by_test : (b : Bool) → is_open_for c t ≡ b → cond b (Some t) (open_start c starts) ≡ Some old → (open_start c starts ≡ Some old → open_start c (with_open_start c new starts) ≡ Some new)
        → open_start c (cond b (new ∷ starts) (t ∷ with_open_start c new starts)) ≡ Some new
    by_test true here is later = rw opened refl
    by_test false here is later = rw here (later is)

pub start_other : (c d : List ℕ) (starts : List StartState) (new : StartState) → bytes_eq d c ≡ false → new.connection ≡ d → open_start c (with_open_start d new starts) ≡ open_start c starts
start_other c d [] new other named = refl
start_other c d (t ∷ starts) new other named = by_test (is_open_for d t) refl (start_other c d starts new other named)
  where
    by_test : (b : Bool) → is_open_for d t ≡ b → open_start c (with_open_start d new starts) ≡ open_start c starts
        → open_start c (cond b (new ∷ starts) (t ∷ with_open_start d new starts)) ≡ cond (is_open_for c t) (Some t) (open_start c starts)
    by_test true here later =
        let of : t.connection ≡ d = same_name t.connection d (both_true (bytes_eq t.connection d) t.is_open here).0 in
        rw (not_open_for c d new other named, not_open_for c d t other of) refl
    by_test false here later = ap (λ (o : Option StartState). cond (is_open_for c t) (Some t) o) later

pub start_after : (c : List ℕ) (starts : List StartState) (new : StartState) → open_start c starts ≡ None → is_open_for c new ≡ true → open_start c (starts ++ new ∷ []) ≡ Some new
start_after c [] new none opened = rw opened refl
start_after c (t ∷ starts) new none opened = by_test (is_open_for c t) none (λ later. start_after c starts new later opened)
  where
    by_test : (b : Bool) → cond b (Some t) (open_start c starts) ≡ None → (open_start c starts ≡ None → open_start c (starts ++ new ∷ []) ≡ Some new) → cond b (Some t) (open_start c (starts ++ new ∷ [])) ≡ Some new
    by_test true none later = absurd cc
    by_test false none later = later none

pub start_other_after : (c : List ℕ) (starts : List StartState) (new : StartState) → is_open_for c new ≡ false → open_start c (starts ++ new ∷ []) ≡ open_start c starts
start_other_after c [] new other = rw other refl
start_other_after c (t ∷ starts) new other = ap (λ (o : Option StartState). cond (is_open_for c t) (Some t) o) (start_other_after c starts new other)

-- ---- A connection has one open start at most.

abbrev pub IsAlone : List ℕ → List StartState → Type 0
IsAlone c [] = Unit {0}
IsAlone c (t ∷ starts) = (is_open_for c t ≡ true → open_start c starts ≡ None) × IsAlone c starts

pub none_alone : (c : List ℕ) (starts : List StartState) → open_start c starts ≡ None → IsAlone c starts
none_alone c [] none = tt
none_alone c (t ∷ starts) none = by_test (is_open_for c t) refl none (none_alone c starts)
  where
    by_test : (b : Bool) → is_open_for c t ≡ b → cond b (Some t) (open_start c starts) ≡ None → (open_start c starts ≡ None → IsAlone c starts) → IsAlone c (t ∷ starts)
    by_test true here none later = absurd cc
    by_test false here none later = (λ _. none, later none)

pub alone_closed : (c : List ℕ) (starts : List StartState) (new : StartState) → IsAlone c starts → is_open_for c new ≡ false → open_start c (with_open_start c new starts) ≡ None
alone_closed c [] new alone closed = refl
alone_closed c (t ∷ starts) new alone closed = by_test (is_open_for c t) refl (alone_closed c starts new alone.1 closed)
  where
    by_test : (b : Bool) → is_open_for c t ≡ b → open_start c (with_open_start c new starts) ≡ None → open_start c (cond b (new ∷ starts) (t ∷ with_open_start c new starts)) ≡ None
    by_test true here later = rw closed (alone.0 here)
    by_test false here later = rw here later

pub alone_with : (c : List ℕ) (starts : List StartState) (new : StartState) → IsAlone c starts → IsAlone c (with_open_start c new starts)
alone_with c [] new alone = tt
alone_with c (t ∷ starts) new alone = by_test (is_open_for c t) refl (alone_with c starts new alone.1)
  where
    by_test : (b : Bool) → is_open_for c t ≡ b → IsAlone c (with_open_start c new starts) → IsAlone c (cond b (new ∷ starts) (t ∷ with_open_start c new starts))
    by_test true here later = (λ _. alone.0 here, alone.1)
    by_test false here later = (λ opened. let never : true ≡ false = sym opened ∙ here in absurd cc, later)

pub alone_other : (c d : List ℕ) (starts : List StartState) (new : StartState) → bytes_eq d c ≡ false → new.connection ≡ d → IsAlone c starts → IsAlone c (with_open_start d new starts)
alone_other c d [] new other named alone = tt
alone_other c d (t ∷ starts) new other named alone = by_test (is_open_for d t) (alone_other c d starts new other named alone.1)
  where
    by_test : (b : Bool) → IsAlone c (with_open_start d new starts) → IsAlone c (cond b (new ∷ starts) (t ∷ with_open_start d new starts))
    by_test true later = (λ opened. let never : true ≡ false = sym opened ∙ not_open_for c d new other named in absurd cc, alone.1)
    by_test false later = (λ opened. start_other c d starts new other named ∙ alone.0 opened, later)

pub alone_after : (c : List ℕ) (starts : List StartState) (new : StartState) → open_start c starts ≡ None → IsAlone c (starts ++ new ∷ [])
alone_after c [] new none = (λ _. refl, tt)
alone_after c (t ∷ starts) new none = by_test (is_open_for c t) refl none (alone_after c starts new)
  where
    by_test : (b : Bool) → is_open_for c t ≡ b → cond b (Some t) (open_start c starts) ≡ None → (open_start c starts ≡ None → IsAlone c (starts ++ new ∷ [])) → IsAlone c (t ∷ (starts ++ new ∷ []))
    by_test true here none later = absurd cc
    by_test false here none later = (λ opened. let never : true ≡ false = sym opened ∙ here in absurd cc, later none)

pub alone_other_after : (c : List ℕ) (starts : List StartState) (new : StartState) → is_open_for c new ≡ false → IsAlone c starts → IsAlone c (starts ++ new ∷ [])
alone_other_after c [] new other alone = (λ _. refl, tt)
alone_other_after c (t ∷ starts) new other alone = (λ opened. start_other_after c starts new other ∙ alone.0 opened, alone_other_after c starts new other alone.1)
