-- The subscriber of a connection stands where it was found by its name, and every start's connection has one.
use Rattle.std.proofs.Common.{◌≡◌, ◌+◌, ◌≤◌, ◌<◌, ℕ, zero, suc, Bool, true, false, cond, List, [], ◌∷◌, ◌++◌, map, Option, Some, None, refl, sym, ap, subst, ◌∙◌, arith}
use Rattle.std.specs.Prelude.{is_some, slice_set, slice_index_or, take, drop, length}
use Rattle.std.specs.List.{AllByRecursion}
use Rattle.std.specs.Str.{bytes_eq}
use Rattle.std.proofs.lemmas.List.{map-set}
use Rattle.std.proofs.lemmas.Option.{slice_get_read, slice_get_within}
use Rattle.world.specs.declared.printed.answer.Answer.{Answer}
use Rattle.world.specs.declared.machine.Machine.{Machine}
use Rattle.world.specs.declared.stepping.start.Start.{Start}
use Rattle.world.specs.declared.subscriber.Subscriber.{Subscriber}
use Rattle.world.specs.Delivering.{Gets, Delivers}
use Rattle.world.specs.Start.{StartState, is_open_for}
use Rattle.world.specs.State.{SubscriberState, new_subscriber, subscriber_of, with_subscriber, if_there, with_one_for, subscriber_connected_again, if_known_again, subscribers_after_reconnect, slot_in, slot_of_connection, open_start, with_open_start}
use Rattle.world.specs.Machine.{world_of, subscriber_state, subscriber_place, IsOpenStartAt, IsSubscriberAt, IsSubscribed}
use Rattle.world.specs.Starts.{start_state}
use Rattle.std.proofs.lemmas.List.{append-nil}
use Rattle.tables.proofs.Names.{bytes_eq-after}
use Rattle.pgoutput.proofs.Lists.{all_of_both}
use Rattle.row_messages.proofs.Rows.{both_true}
use Rattle.std.proofs.lemmas.Slice.Eq.{bytes_eq-Decides}
use Rattle.world.proofs.Inside.{same_inside, place_is}

no_sooner : (name : List ℕ) (subscribers : List SubscriberState) (at p : ℕ) → subscriber_place at name subscribers ≡ Some p → at ≤ p
no_sooner name [] at p e = absurd cc
no_sooner name (s ∷ subscribers) at p e = by_test (bytes_eq s.connection name) e (no_sooner name subscribers (at + 1) p)
  where
    by_test : (b : Bool) → cond b (Some at) (subscriber_place (at + 1) name subscribers) ≡ Some p → (subscriber_place (at + 1) name subscribers ≡ Some p → at + 1 ≤ p) → at ≤ p
    by_test true e later = omega (arith, same_inside at p e)
    by_test false e later = omega (arith, later e)

found : (name : List ℕ) (ss : List Subscriber) (at k : ℕ) → subscriber_place at name (map subscriber_state ss) ≡ Some (at + k) → IsSubscriberAt name k ss
found name [] at k e = absurd cc
found name (s ∷ ss) at zero e = by_test (bytes_eq s.connection name) refl e
  where
    by_test : (b : Bool) → bytes_eq s.connection name ≡ b → cond b (Some at) (subscriber_place (at + 1) name (map subscriber_state ss)) ≡ Some (at + 0) → IsSubscriberAt name 0 (s ∷ ss)
    by_test true is e = record { subscriber = s; there = refl; of = rw is refl; changed = λ after. rw is refl }
    by_test false is e = absurd (omega (arith, no_sooner name (map subscriber_state ss) (at + 1) (at + 0) e))
found name (s ∷ ss) at (suc k) e = by_test (bytes_eq s.connection name) refl e (found name ss (at + 1) k)
  where
    next : at + suc k ≡ (at + 1) + k
    next = omega arith

    by_test : (b : Bool) → bytes_eq s.connection name ≡ b → cond b (Some at) (subscriber_place (at + 1) name (map subscriber_state ss)) ≡ Some (at + suc k)
        → (subscriber_place (at + 1) name (map subscriber_state ss) ≡ Some ((at + 1) + k) → IsSubscriberAt name k ss) → IsSubscriberAt name (suc k) (s ∷ ss)
    by_test true is e later = absurd (omega (arith, same_inside at (at + suc k) e))
    by_test false is e later =
        let inner = later (e ∙ ap place_is next) in
        record { subscriber = inner.subscriber; there = inner.there; of = rw is inner.of; changed = λ after. rw is (ap (λ l. subscriber_state s ∷ l) (inner.changed after)) }

pub subscriber_at : (name : List ℕ) (ss : List Subscriber) (k : ℕ) → subscriber_place 0 name (map subscriber_state ss) ≡ Some k → IsSubscriberAt name k ss
subscriber_at name ss k e = let plain : k ≡ 0 + k = omega arith in found name ss 0 k (e ∙ ap place_is plain)

pub is_found_alike : (name : List ℕ) (subscribers : List SubscriberState) (at : ℕ) → is_some (subscriber_place at name subscribers) ≡ is_some (subscriber_of name subscribers)
is_found_alike name [] at = refl
is_found_alike name (s ∷ subscribers) at = by_test (bytes_eq s.connection name) (is_found_alike name subscribers (at + 1))
  where
    by_test : (b : Bool) → is_some (subscriber_place (at + 1) name subscribers) ≡ is_some (subscriber_of name subscribers)
        → is_some (cond b (Some at) (subscriber_place (at + 1) name subscribers)) ≡ is_some (cond b (Some s) (subscriber_of name subscribers))
    by_test true later = refl
    by_test false later = later

none_by : {A B : Type 0} (o : Option A) (p : Option B) → is_some o ≡ is_some p → o ≡ None → p ≡ None
none_by o None same is = refl
none_by o (Some y) same is = let never : false ≡ true = sym (ap is_some is) ∙ same in absurd cc

pub no_subscriber : (name : List ℕ) (subscribers : List SubscriberState) → subscriber_place 0 name subscribers ≡ None → subscriber_of name subscribers ≡ None
no_subscriber name subscribers is = none_by (subscriber_place 0 name subscribers) (subscriber_of name subscribers) (is_found_alike name subscribers 0) is

-- ---- every start's connection goes on having one

bytes_eq_self : (xs : List ℕ) → bytes_eq xs xs ≡ true
bytes_eq_self xs = subst (λ (l : List ℕ). bytes_eq l l ≡ true) (append-nil xs) (bytes_eq-after xs [] [])

has_one_after : (name other : List ℕ) (ss : List SubscriberState) (s : SubscriberState) → is_some (subscriber_of name ss) ≡ true → is_some (subscriber_of name (ss ++ s ∷ [])) ≡ true
has_one_after name other [] s is = let never : false ≡ true = is in cc
has_one_after name other (t ∷ ss) s is = by_test (bytes_eq t.connection name) is (has_one_after name other ss s)
  where
    by_test : (b : Bool) → is_some (cond b (Some t) (subscriber_of name ss)) ≡ true → (is_some (subscriber_of name ss) ≡ true → is_some (subscriber_of name (ss ++ s ∷ [])) ≡ true)
        → is_some (cond b (Some t) (subscriber_of name (ss ++ s ∷ []))) ≡ true
    by_test true is later = refl
    by_test false is later = later is

-- a subscriber in its place, by the same name
has_one_with : (name other : List ℕ) (ss : List SubscriberState) (after : SubscriberState) → ((s : SubscriberState) → subscriber_of other ss ≡ Some s → after.connection ≡ s.connection)
    → is_some (subscriber_of name (with_subscriber other after ss)) ≡ is_some (subscriber_of name ss)
has_one_with name other [] after same = refl
has_one_with name other (t ∷ ss) after same = by_test (bytes_eq t.connection other) refl (λ next. has_one_with name other ss after next)
  where
    here : bytes_eq t.connection other ≡ true → after.connection ≡ t.connection
    here is = same t (ap (λ (b : Bool). cond b (Some t) (subscriber_of other ss)) is)

    next : bytes_eq t.connection other ≡ false → (s : SubscriberState) → subscriber_of other ss ≡ Some s → after.connection ≡ s.connection
    next is s known = same s (ap (λ (b : Bool). cond b (Some t) (subscriber_of other ss)) is ∙ known)

    either_way : (b : Bool) (o p : Option SubscriberState) → is_some o ≡ is_some p → is_some (cond b (Some t) o) ≡ is_some (cond b (Some t) p)
    either_way true o p eq = refl
    either_way false o p eq = eq

    renamed : (b : Bool) (o : Option SubscriberState) → is_some (cond b (Some after) o) ≡ is_some (cond b (Some t) o)
    renamed true o = refl
    renamed false o = refl

    by_test : (b : Bool) → bytes_eq t.connection other ≡ b
        → (((s : SubscriberState) → subscriber_of other ss ≡ Some s → after.connection ≡ s.connection) → is_some (subscriber_of name (with_subscriber other after ss)) ≡ is_some (subscriber_of name ss))
        → is_some (subscriber_of name (cond b (after ∷ ss) (t ∷ with_subscriber other after ss))) ≡ is_some (subscriber_of name (t ∷ ss))
    by_test true is later =
        let P : List ℕ → Type 0 = λ n. is_some (cond (bytes_eq n name) (Some after) (subscriber_of name ss)) ≡ is_some (subscriber_of name (t ∷ ss)) in
        subst P (sym (here is)) (renamed (bytes_eq t.connection name) (subscriber_of name ss))
    by_test false is later = either_way (bytes_eq t.connection name) (subscriber_of name (with_subscriber other after ss)) (subscriber_of name ss) (later (next is))

pub all_subscribed_with : (other : List ℕ) (ss : List SubscriberState) (after : SubscriberState) (starts : List StartState) → ((s : SubscriberState) → subscriber_of other ss ≡ Some s → after.connection ≡ s.connection)
    → AllByRecursion (IsSubscribed ss) starts → AllByRecursion (IsSubscribed (with_subscriber other after ss)) starts
all_subscribed_with other ss after [] same all = tt
all_subscribed_with other ss after (s ∷ starts) same all = (has_one_with s.connection other ss after same ∙ all.0, all_subscribed_with other ss after starts same all.1)

all_subscribed_behind : (ss : List SubscriberState) (s : SubscriberState) (starts : List StartState) → AllByRecursion (IsSubscribed ss) starts → AllByRecursion (IsSubscribed (ss ++ s ∷ [])) starts
all_subscribed_behind ss s [] all = tt
all_subscribed_behind ss s (t ∷ starts) all = (has_one_after t.connection t.connection ss s all.0, all_subscribed_behind ss s starts all.1)

-- the connection is cut, and its subscriber reconnects
pub all_reconnected : (name : List ℕ) (ss : List SubscriberState) (starts : List StartState) → AllByRecursion (IsSubscribed ss) starts → AllByRecursion (IsSubscribed (subscribers_after_reconnect name ss)) starts
all_reconnected name ss starts all = by_found (subscriber_of name ss) refl
  where
    by_found : (o : Option SubscriberState) → subscriber_of name ss ≡ o → AllByRecursion (IsSubscribed (if_known_again o name ss)) starts
    by_found None is = all
    by_found (Some s) is = all_subscribed_with name ss (subscriber_connected_again s) starts (λ t found. ap (λ (x : SubscriberState). x.connection) (same_inside s t (sym is ∙ found))) all

-- a connection starts
last_found : (ss : List SubscriberState) (s : SubscriberState) → bytes_eq s.connection s.connection ≡ true → is_some (subscriber_of s.connection (ss ++ s ∷ [])) ≡ true
last_found [] s same = rw same refl
last_found (t ∷ ss) s same = by_test (bytes_eq t.connection s.connection) (last_found ss s same)
  where
    by_test : (b : Bool) → is_some (subscriber_of s.connection (ss ++ s ∷ [])) ≡ true → is_some (cond b (Some t) (subscriber_of s.connection (ss ++ s ∷ []))) ≡ true
    by_test true later = refl
    by_test false later = later

pub all_joined : (slot : Option (List ℕ)) (ss : List SubscriberState) (starts : List StartState) (new : StartState) → AllByRecursion (IsSubscribed ss) starts
    → AllByRecursion (IsSubscribed (with_one_for new.connection slot ss)) (starts ++ new ∷ [])
all_joined slot ss starts new all = by_found (subscriber_of new.connection ss) refl
  where
    by_found : (o : Option SubscriberState) → subscriber_of new.connection ss ≡ o
        → AllByRecursion (IsSubscribed (if_there o new.connection slot ss)) (starts ++ new ∷ [])
    by_found (Some s) is =
        let after : SubscriberState = record s { slot = slot } in
        let same : (t : SubscriberState) → subscriber_of new.connection ss ≡ Some t → after.connection ≡ t.connection = λ t found. ap (λ (x : SubscriberState). x.connection) (same_inside s t (sym is ∙ found)) in
        all_of_both (IsSubscribed (with_subscriber new.connection after ss)) starts (new ∷ []) (all_subscribed_with new.connection ss after starts same all)
        (has_one_with new.connection new.connection ss after same ∙ ap is_some is, tt)
    by_found None is = all_of_both (IsSubscribed (ss ++ new_subscriber new.connection slot ∷ [])) starts (new ∷ []) (all_subscribed_behind ss (new_subscriber new.connection slot) starts all)
        (last_found ss (new_subscriber new.connection slot) (bytes_eq_self new.connection), tt)

-- what a start becomes has its connection
pub all_subscribed_after : (name : List ℕ) (ss : List SubscriberState) (after : StartState) (starts : List StartState) → ((s : StartState) → open_start name starts ≡ Some s → after.connection ≡ s.connection)
    → AllByRecursion (IsSubscribed ss) starts → AllByRecursion (IsSubscribed ss) (with_open_start name after starts)
all_subscribed_after name ss after [] same all = tt
all_subscribed_after name ss after (s ∷ starts) same all = by_test (is_open_for name s) refl (λ next. all_subscribed_after name ss after starts next all.1)
  where
    by_test : (b : Bool) → is_open_for name s ≡ b
        → (((t : StartState) → open_start name starts ≡ Some t → after.connection ≡ t.connection) → AllByRecursion (IsSubscribed ss) (with_open_start name after starts))
        → AllByRecursion (IsSubscribed ss) (cond b (after ∷ starts) (s ∷ with_open_start name after starts))
    by_test true is later =
        let named : after.connection ≡ s.connection = same s (ap (λ (b : Bool). cond b (Some s) (open_start name starts)) is) in
        (ap (λ (n : List ℕ). is_some (subscriber_of n ss)) named ∙ all.0, all.1)
    by_test false is later = (all.0, later (λ t found. same t (ap (λ (b : Bool). cond b (Some s) (open_start name starts)) is ∙ found)))

-- the open start of a connection has a subscriber by the connection's name
pub open_subscribed : (name : List ℕ) (ss : List SubscriberState) (starts : List StartState) (s : StartState) → AllByRecursion (IsSubscribed ss) starts → open_start name starts ≡ Some s → is_some (subscriber_of name ss) ≡ true
open_subscribed name ss [] s all found = absurd cc
open_subscribed name ss (t ∷ starts) s all found = by_test (is_open_for name t) refl found (open_subscribed name ss starts s all.1)
  where
    by_test : (b : Bool) → is_open_for name t ≡ b → cond b (Some t) (open_start name starts) ≡ Some s → (open_start name starts ≡ Some s → is_some (subscriber_of name ss) ≡ true) → is_some (subscriber_of name ss) ≡ true
    by_test true is found later =
        let same : t.connection ≡ name = (bytes_eq-Decides t.connection name).0 (both_true (bytes_eq t.connection name) t.is_open is).0 in
        ap (λ (n : List ℕ). is_some (subscriber_of n ss)) (sym same) ∙ all.0
    by_test false is found later = later found

pub has_place : (name : List ℕ) (ss : List SubscriberState) → is_some (subscriber_of name ss) ≡ true → subscriber_place 0 name ss ≡ None → ⊥
has_place name ss has none = let never : false ≡ true = sym (ap is_some none) ∙ is_found_alike name ss 0 ∙ has in cc

-- ---- what is done to the subscriber in its place

pub the_one : (name : List ℕ) (place : ℕ) (ss : List Subscriber) (s : Subscriber) (at : IsSubscriberAt name place ss) → s ≡ slice_index_or ss place s → at.subscriber ≡ s
the_one name place ss s at value = same_inside at.subscriber s (sym at.there ∙ slice_get_read ss (length ss) place s refl (slice_get_within ss place at.subscriber at.there) value)

pub placed : (name : List ℕ) (place : ℕ) (ss : List Subscriber) (new : Subscriber) → IsSubscriberAt name place ss → map subscriber_state (slice_set ss place new) ≡ with_subscriber name (subscriber_state new) (map subscriber_state ss)
placed name place ss new at = map-set subscriber_state ss place new ∙ sym (at.changed (subscriber_state new))

pub placed_again : (name : List ℕ) (place : ℕ) (ss : List Subscriber) (old new : Subscriber) → IsSubscriberAt name place ss → old ≡ slice_index_or ss place old → subscriber_state new ≡ subscriber_connected_again (subscriber_state old)
    → map subscriber_state (slice_set ss place new) ≡ subscribers_after_reconnect name (map subscriber_state ss)
placed_again name place ss old new at value is =
    let here : at.subscriber ≡ old = the_one name place ss old at value in
    placed name place ss new at
    ∙ ap (λ (s : SubscriberState). with_subscriber name s (map subscriber_state ss)) (is ∙ ap (λ (s : Subscriber). subscriber_connected_again (subscriber_state s)) (sym here))
    ∙ ap (λ (o : Option SubscriberState). if_known_again o name (map subscriber_state ss)) (sym at.of)

pub none_again : (name : List ℕ) (ss : List SubscriberState) → subscriber_place 0 name ss ≡ None → ss ≡ subscribers_after_reconnect name ss
none_again name ss none = ap (λ (o : Option SubscriberState). if_known_again o name ss) (sym (no_subscriber name ss none))

pub joined_new : (name : List ℕ) (slot : Option (List ℕ)) (ss : List SubscriberState) → subscriber_place 0 name ss ≡ None → ss ++ new_subscriber name slot ∷ [] ≡ with_one_for name slot ss
joined_new name slot ss none = ap (λ (o : Option SubscriberState). if_there o name slot ss) (sym (no_subscriber name ss none))

pub joined_known : (name : List ℕ) (place : ℕ) (slot : Option (List ℕ)) (ss : List Subscriber) (old new : Subscriber) → IsSubscriberAt name place ss → old ≡ slice_index_or ss place old
    → subscriber_state new ≡ record (subscriber_state old) { slot = slot } → map subscriber_state (slice_set ss place new) ≡ with_one_for name slot (map subscriber_state ss)
joined_known name place slot ss old new at value is =
    let here : at.subscriber ≡ old = the_one name place ss old at value in
    placed name place ss new at
    ∙ ap (λ (s : SubscriberState). with_subscriber name s (map subscriber_state ss)) (is ∙ ap (λ (s : Subscriber). record (subscriber_state s) { slot = slot }) (sym here))
    ∙ ap (λ (o : Option SubscriberState). if_there o name slot (map subscriber_state ss)) (sym at.of)

-- the slot of a connection is that of its subscriber
pub slot_there : (name : List ℕ) (place : ℕ) (ss : List Subscriber) (old : Subscriber) → IsSubscriberAt name place ss → old ≡ slice_index_or ss place old → old.slot ≡ slot_of_connection name (map subscriber_state ss)
slot_there name place ss old at value = ap (λ (s : Subscriber). s.slot) (sym (the_one name place ss old at value)) ∙ ap slot_in (sym at.of)

pub no_slot_there : (name : List ℕ) (ss : List SubscriberState) → subscriber_place 0 name ss ≡ None → None ≡ slot_of_connection name ss
no_slot_there name ss none = ap slot_in (sym (no_subscriber name ss none))

-- what a subscriber got
pub delivered : (name : List ℕ) (n at_start place : ℕ) {L : Type 0} (m : Machine L) (start : Start L) (old new : Subscriber) (produced : List ℕ) (a : Answer) → IsOpenStartAt name at_start m.starts.items → start ≡ slice_index_or m.starts.items at_start start
    → produced ≡ (start_state start).produced → IsSubscriberAt name place m.subscribers.items → old ≡ slice_index_or m.subscribers.items place old
    → Gets (take n (drop old.delivered produced)) (subscriber_state old) a (subscriber_state new)
    → Delivers name n (world_of m) a (record (world_of m) { subscribers = map subscriber_state (slice_set m.subscribers.items place new) })
delivered name n at_start place {L} m start old new produced a opened start_value is at value gets =
    let within : at_start < length m.starts.items = slice_get_within m.starts.items at_start opened.start opened.there in
    let found_start : opened.start ≡ start = same_inside opened.start start (sym opened.there ∙ slice_get_read m.starts.items (length m.starts.items) at_start start refl within start_value) in
    let here : at.subscriber ≡ old = the_one name place m.subscribers.items old at value in
    record {
      start = start_state start;
      there = opened.of ∙ ap (λ (s : Start L). Option.Some (start_state s)) found_start;
      before = subscriber_state old;
      known = at.of ∙ ap (λ (s : Subscriber). Option.Some (subscriber_state s)) here;
      after = subscriber_state new;
      gets = subst (λ (l : List ℕ). Gets (take n (drop old.delivered l)) (subscriber_state old) a (subscriber_state new)) is gets;
      is = ap (λ (l : List SubscriberState). record (world_of m) { subscribers = l }) (placed name place m.subscribers.items new at);
    }

-- the subscriber in its place has become another of the same connection
pub still_subscribed : (name : List ℕ) (place : ℕ) {L : Type 0} (m : Machine L) (old new : Subscriber) → IsSubscriberAt name place m.subscribers.items → old ≡ slice_index_or m.subscribers.items place old
    → new.connection ≡ old.connection → AllByRecursion (IsSubscribed (map subscriber_state m.subscribers.items)) (map start_state m.starts.items)
    → AllByRecursion (IsSubscribed (map subscriber_state (slice_set m.subscribers.items place new))) (map start_state m.starts.items)
still_subscribed name place m old new at value same all =
    let here : at.subscriber ≡ old = the_one name place m.subscribers.items old at value in
    let told : subscriber_of name (map subscriber_state m.subscribers.items) ≡ Some (subscriber_state old) = at.of ∙ ap (λ (s : Subscriber). Option.Some (subscriber_state s)) here in
    subst (λ (l : List SubscriberState). AllByRecursion (IsSubscribed l) (map start_state m.starts.items)) (sym (placed name place m.subscribers.items new at))
    (all_subscribed_with name (map subscriber_state m.subscribers.items) (subscriber_state new) (map start_state m.starts.items)
    (λ s found. same ∙ ap (λ (x : SubscriberState). x.connection) (same_inside (subscriber_state old) s (sym told ∙ found))) all)
