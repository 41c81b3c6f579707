-- A subscriber is found by the name of its connection, among the names of all.
use Rattle.std.proofs.Common.{◌≡◌, ℕ, ◌+◌, Bool, true, false, cond, List, [], ◌∷◌, ◌++◌, length, map, Option, Some, None, refl, sym, ap, ◌∙◌}
use Rattle.std.specs.Prelude.{◌||◌, ◌<◌, slice_set, slice_index_or, String, string_bytes}
use Rattle.std.specs.List.{list_any, position, position_from}
use Rattle.std.specs.Str.{bytes_eq}
use Rattle.std.proofs.lemmas.Iterator.Adapters.{position_from-zero}
use Rattle.std.proofs.lemmas.List.{map-append}
use Rattle.std.proofs.lemmas.Option.{slice_get_within}
use Rattle.std.proofs.lemmas.Slice.Eq.{bytes_eq-Decides}
use Rattle.std.proofs.Math.Seq.{map-set_same}
use Rattle.indexmap.specs.IndexSet.{IndexSet}
use Rattle.world.specs.declared.subscriber.Subscriber.{Subscriber}
use Rattle.world.specs.Machine.{AreNames, subscriber_place, subscriber_state}
use Rattle.world.proofs.Subscribing.{subscriber_at}

swapped : (a b : List ℕ) → bytes_eq a b ≡ bytes_eq b a
swapped a b = by_test (bytes_eq a b) refl (bytes_eq b a) refl
  where
    by_test : (x : Bool) → bytes_eq a b ≡ x → (y : Bool) → bytes_eq b a ≡ y → x ≡ y
    by_test true is true other = refl
    by_test false is false other = refl
    by_test true is false other = let there = (bytes_eq-Decides b a).1 (sym ((bytes_eq-Decides a b).0 is)) in absurd cc
    by_test false is true other = let there = (bytes_eq-Decides a b).1 (sym ((bytes_eq-Decides b a).0 other)) in absurd cc

abbrev connection_of : Subscriber → List ℕ
connection_of s = s.connection

-- ---- the first by this name

first_by : {Z : Type 0} (name : List ℕ) (at : ℕ) (keys : List (String Z)) (ss : List Subscriber) → map string_bytes keys ≡ map (λ (s : Subscriber). s.connection) ss
    → position_from (λ k. bytes_eq name (string_bytes k)) at keys ≡ subscriber_place at name (map subscriber_state ss)
first_by name at [] [] e = refl
first_by name at [] (s ∷ ss) e = absurd cc
first_by name at (k ∷ keys) [] e = absurd cc
first_by name at (k ∷ keys) (s ∷ ss) e =
    let same : string_bytes k ≡ s.connection = cc in
    let rest : map string_bytes keys ≡ map (λ (s : Subscriber). s.connection) ss = cc in
    let later = position_from (λ k. bytes_eq name (string_bytes k)) (at + 1) keys in
    ap (λ (b : Bool). cond b (Some at) later) (ap (bytes_eq name) same ∙ swapped name s.connection)
    ∙ ap (λ (o : Option ℕ). cond (bytes_eq s.connection name) (Some at) o) (first_by name (at + 1) keys ss rest)

pub place_is : {S Z : Type 0} (names : IndexSet (String Z) S) (name : List ℕ) (r : Option ℕ) (ss : List Subscriber) → r ≡ position (λ k. bytes_eq name (string_bytes k)) names.keys → AreNames names ss
    → r ≡ subscriber_place 0 name (map subscriber_state ss)
place_is names name r ss is named = is ∙ position_from-zero (λ k. bytes_eq name (string_bytes k)) names.keys ∙ first_by name 0 names.keys ss named

pub place_within : (name : List ℕ) (place : ℕ) (ss : List Subscriber) → subscriber_place 0 name (map subscriber_state ss) ≡ Some place → place < length ss
place_within name place ss found = let at = subscriber_at name ss place found in slice_get_within ss place at.subscriber at.there

-- ---- a new name

is_none : {Z : Type 0} (name : List ℕ) (at : ℕ) (keys : List (String Z)) (ss : List Subscriber) → map string_bytes keys ≡ map (λ (s : Subscriber). s.connection) ss
    → subscriber_place at name (map subscriber_state ss) ≡ None → list_any (λ k. bytes_eq name (string_bytes k)) keys ≡ false
is_none name at [] ss e none = refl
is_none name at (k ∷ keys) [] e none = absurd cc
is_none name at (k ∷ keys) (s ∷ ss) e none =
    let same : string_bytes k ≡ s.connection = cc in
    let rest : map string_bytes keys ≡ map (λ (s : Subscriber). s.connection) ss = cc in
    by_test (bytes_eq s.connection name) (ap (bytes_eq name) same ∙ swapped name s.connection) none (is_none name (at + 1) keys ss rest)
  where
    by_test : (b : Bool) → bytes_eq name (string_bytes k) ≡ b → cond b (Some at) (subscriber_place (at + 1) name (map subscriber_state ss)) ≡ None
        → (subscriber_place (at + 1) name (map subscriber_state ss) ≡ None → list_any (λ k. bytes_eq name (string_bytes k)) keys ≡ false) → bytes_eq name (string_bytes k) || list_any (λ k. bytes_eq name (string_bytes k)) keys ≡ false
    by_test true is none later = absurd cc
    by_test false is none later = ap (λ (b : Bool). b || list_any (λ k. bytes_eq name (string_bytes k)) keys) is ∙ later none

pub is_new : {S Z : Type 0} (names : IndexSet (String Z) S) (name connection : List ℕ) (ss : List Subscriber) → AreNames names ss → name ≡ connection → subscriber_place 0 connection (map subscriber_state ss) ≡ None
    → list_any (λ k. bytes_eq name (string_bytes k)) names.keys ≡ false
is_new names name connection ss named same none = is_none name 0 names.keys ss named (ap (λ (n : List ℕ). subscriber_place 0 n (map subscriber_state ss)) same ∙ none)

pub named_more : {Z : Type 0} (keys more : List (String Z)) (name : List ℕ) (old new : List Subscriber) (s : Subscriber) → map string_bytes keys ≡ map (λ (s : Subscriber). s.connection) old → name ≡ s.connection
    → map string_bytes more ≡ map string_bytes keys ++ name ∷ [] → new ≡ old ++ s ∷ [] → map string_bytes more ≡ map (λ (s : Subscriber). s.connection) new
named_more keys more name old new s named same names subscribers =
    names ∙ ap (λ (l : List (List ℕ)). l ++ name ∷ []) named ∙ ap (λ (n : List ℕ). map connection_of old ++ n ∷ []) same ∙ sym (map-append connection_of old (s ∷ [])) ∙ ap (map connection_of) (sym subscribers)

-- ---- a subscriber that has become another of the same connection

pub still_named : {S Z : Type 0} (names : IndexSet (String Z) S) (place : ℕ) (ss : List Subscriber) (old new : Subscriber) → old ≡ slice_index_or ss place old → new.connection ≡ old.connection → AreNames names ss
    → AreNames names (slice_set ss place new)
still_named names place ss old new value same named = named ∙ sym (map-set_same (λ (s : Subscriber). s.connection) ss place new old (same ∙ ap (λ (s : Subscriber). s.connection) value))
