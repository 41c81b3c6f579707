-- What leaves a regrouping tidy: only xids that have strands, or are held, have entries.
use Rattle.std.proofs.Common.{◌≡◌, ◌⊎◌, inl, inr, ℕ, ◌==◌, Bool, true, false, cond, ◌||◌, List, [], ◌∷◌, Option, Some, None, Result, Ok, Err, OnOk, length, refl, sym, ap, subst, ◌∙◌}
use Rattle.std.specs.Prelude.{IsSome}
use Rattle.std.specs.Map.{lookup}
use Rattle.std.proofs.lemmas.Bool.{eqb-true}
use Rattle.chgarena.specs.Strands.{Strands as Arena}
use Rattle.reorder.specs.Pool.{PoolState, entries_at, entries_by, map_with, strand_of, with_entries}
use Rattle.reorder.specs.Ready.{ReadyState}
use Rattle.reorder.proofs.Owning.{of, whole_lent}
use Rattle.reorder.specs.Strands.{Standing, StrandsState, is_in}
use Rattle.reorder.specs.Chunks.{IsTidy, IsWhole, StaysTidy, StaysWhole}
use Rattle.reorder.proofs.Keeping.{nothing_left}
use Rattle.reorder.proofs.Lookups.{either}
use Rattle.reorder.proofs.Opening.{no_some}

abbrev at : StrandsState → ℕ → Option Standing
at s x = lookup (λ k. x == k) s.strands

pub stays_whole : (p q r : PoolState) → StaysWhole p q → StaysWhole q r → StaysWhole p r
stays_whole p q r first then = record { chunks = then.chunks ∙ first.chunks; whole = λ held whole. then.whole held (first.whole held whole) }

tidy_by : (s s' : StrandsState) (count : ℕ) (held held' : List ReadyState) → length s'.pool.arena ≡ length s.pool.arena → (IsWhole held s.pool → IsWhole held' s'.pool) →
    ((x : ℕ) → at s' x ≡ None → (at s x ≡ None → entries_at s.pool x ≡ []) → entries_at s'.pool x ≡ []) → IsTidy count held s → IsTidy count held' s'
tidy_by s s' count held held' chunks whole each t = record {
  chunks = chunks ∙ t.chunks;
  owned = whole t.owned;
  only = λ x none. each x none (t.only x);
}

tidy_stays : (s s' : StrandsState) → StaysWhole s.pool s'.pool → ((x : ℕ) → at s' x ≡ None → (at s x ≡ None → entries_at s.pool x ≡ []) → entries_at s'.pool x ≡ []) → StaysTidy s s'
tidy_stays s s' whole each = λ count held. tidy_by s s' count held held whole.chunks (whole.whole held) each

-- the xid gets a strand, and its entries go
pub tidy_made : (s s' : StrandsState) (xid : ℕ) (w : Standing) → StaysWhole s.pool s'.pool → ((x : ℕ) → at s' x ≡ map_with xid (Some w) (at s) x) → ((x : ℕ) → entries_at s'.pool x ≡ with_entries s.pool xid [] x) → StaysTidy s s'
tidy_made s s' xid w whole puts has = tidy_stays s s' whole (λ x none old. by_test x old (xid == x) refl none)
  where
    by_test : (x : ℕ) → (at s x ≡ None → entries_at s.pool x ≡ []) → (b : Bool) → (xid == x) ≡ b → at s' x ≡ None → entries_at s'.pool x ≡ []
    by_test x old true same none = has x ∙ rw same refl
    by_test x old false other none = has x ∙ rw other (old (sym (puts x ∙ rw other refl) ∙ none))

-- the entries of an xid with a strand change
pub tidy_pushed : (s s' : StrandsState) (xid : ℕ) (entries : List (List ℕ)) → StaysWhole s.pool s'.pool → s'.strands ≡ s.strands → IsSome (at s xid) →
    ((x : ℕ) → entries_at s'.pool x ≡ with_entries s.pool xid entries x) → StaysTidy s s'
tidy_pushed s s' xid entries whole same there has = tidy_stays s s' whole (λ x none old. by_test x old (xid == x) refl (sym (ap (λ (ss : List (ℕ × Standing)). lookup (λ k. x == k) ss) same) ∙ none))
  where
    by_test : (x : ℕ) → (at s x ≡ None → entries_at s.pool x ≡ []) → (b : Bool) → (xid == x) ≡ b → at s x ≡ None → entries_at s'.pool x ≡ []
    by_test x old true is none = absurd (no_some (at s xid) (ap (at s) (eqb-true xid x is) ∙ none) there)
    by_test x old false other none = has x ∙ rw other (old none)

-- entries go, and strands stay
pub tidy_cleared : (s s' : StrandsState) (gone : ℕ → Bool) → StaysWhole s.pool s'.pool → ((x : ℕ) → at s' x ≡ None → at s x ≡ None) →
    ((x : ℕ) → entries_at s'.pool x ≡ cond (gone x) [] (entries_at s.pool x)) → StaysTidy s s'
tidy_cleared s s' gone whole same has = tidy_stays s s' whole (λ x none old. has x ∙ nothing_left (gone x) (entries_at s.pool x) (old (same x none)))

-- the entries of those under an xid go, and then its own
pub tidy_undone : (s : StrandsState) (strands : List (ℕ × Standing)) (members : List (ℕ × List ℕ)) (pool pool' : PoolState) (xid : ℕ) → strands ≡ s.strands → StaysWhole s.pool pool → StaysWhole pool pool' →
    (gone : ℕ → Bool) → ((x : ℕ) → entries_at pool x ≡ cond (gone x) [] (entries_at s.pool x)) → ((x : ℕ) → entries_at pool' x ≡ with_entries pool xid [] x) →
    StaysTidy s (record { strands = strands; members = members; pool = pool' })
tidy_undone s strands members pool pool' xid same first then gone under has =
    tidy_cleared s (record { strands = strands; members = members; pool = pool' }) (λ x. (xid == x) || gone x) (stays_whole s.pool pool pool' first then)
    (λ x none. sym (ap (λ (ss : List (ℕ × Standing)). lookup (λ k. x == k) ss) same) ∙ none)
    (λ x. has x ∙ ap (λ es. cond (xid == x) [] es) (under x) ∙ either (xid == x) (gone x) (entries_at s.pool x))

-- the strands of these xids go, with their entries
pub tidy_ended : (s s' : StrandsState) (xids : List ℕ) → StaysWhole s.pool s'.pool → ((x : ℕ) → at s' x ≡ cond (is_in x xids) None (at s x)) →
    ((x : ℕ) → entries_at s'.pool x ≡ cond (is_in x xids) [] (entries_at s.pool x)) → StaysTidy s s'
tidy_ended s s' xids whole puts has = tidy_stays s s' whole (λ x none old. by_test x old (is_in x xids) refl none)
  where
    by_test : (x : ℕ) → (at s x ≡ None → entries_at s.pool x ≡ []) → (b : Bool) → is_in x xids ≡ b → at s' x ≡ None → entries_at s'.pool x ≡ []
    by_test x old true inn none = has x ∙ rw inn refl
    by_test x old false apart none = has x ∙ rw apart (old (sym (puts x ∙ rw apart refl) ∙ none))

-- the strands of these xids go, and those in the arena are held
pub tidy_ready : (s s' : StrandsState) (ready : ReadyState) (xids : List ℕ) → s'.pool.arena ≡ s.pool.arena → ((x : ℕ) → strand_of s'.pool.strands x ≡ cond (is_in x xids) None (strand_of s.pool.strands x)) →
    ((x : ℕ) → strand_of ready.strands x ≡ cond (is_in x xids) (strand_of s.pool.strands x) None) → ((x : ℕ) → at s' x ≡ cond (is_in x xids) None (at s x)) →
    (count : ℕ) (held : List ReadyState) → IsTidy count held s → IsTidy count (ready ∷ held) s'
tidy_ready s s' ready xids arena left lent puts count held =
    tidy_by s s' count held (ready ∷ held) (ap length arena)
    (λ whole. subst (λ (a : Arena). IsWhole (ready ∷ held) (of a s'.pool.strands)) (sym arena) (whole_lent s.pool.arena s.pool.strands s'.pool.strands ready (λ x head is. by_owner x head is (is_in x xids) refl) held whole))
    (λ x none old. by_test x old (is_in x xids) refl none)
  where
    by_owner : (x head : ℕ) → strand_of s.pool.strands x ≡ Some (Some head) → (b : Bool) → is_in x xids ≡ b → (strand_of s'.pool.strands x ≡ Some (Some head)) ⊎ (strand_of ready.strands x ≡ Some (Some head))
    by_owner x head is true inn = inr (lent x ∙ rw inn is)
    by_owner x head is false apart = inl (left x ∙ rw apart is)

    by_test : (x : ℕ) → (at s x ≡ None → entries_at s.pool x ≡ []) → (b : Bool) → is_in x xids ≡ b → at s' x ≡ None → entries_at s'.pool x ≡ []
    by_test x old true inn none = let is : strand_of s'.pool.strands x ≡ None = left x ∙ rw inn refl in ap (entries_by s'.pool.arena) is
    by_test x old false apart none =
        let is : strand_of s'.pool.strands x ≡ strand_of s.pool.strands x = left x ∙ rw apart refl in
        ap (entries_by s'.pool.arena) is ∙ ap (λ (a : Arena). entries_by a (strand_of s.pool.strands x)) arena ∙ old (sym (puts x ∙ rw apart refl) ∙ none)

-- what was held goes
pub tidy_finished : (s s' : StrandsState) (ready : ReadyState) → length s'.pool.arena ≡ length s.pool.arena → ((held : List ReadyState) → IsWhole (ready ∷ held) s.pool → IsWhole held s'.pool) → s'.strands ≡ s.strands →
    ((x : ℕ) → entries_at s'.pool x ≡ entries_at s.pool x) → (count : ℕ) (held : List ReadyState) → IsTidy count (ready ∷ held) s → IsTidy count held s'
tidy_finished s s' ready chunks whole same has count held =
    tidy_by s s' count (ready ∷ held) held chunks (whole held) (λ x none old. has x ∙ old (sym (ap (λ (ss : List (ℕ × Standing)). lookup (λ k. x == k) ss) same) ∙ none))

on_both : {A E : Type 0} (r : Result A E) (P Q R : Type 0) → (P → Q → R) → OnOk r P → OnOk r Q → OnOk r R
on_both (Ok a) P Q R f p q = f p q
on_both (Err e) P Q R f p q = tt

pub pushed_tidy : {A E : Type 0} (result : Result A E) (strands : List (ℕ × Standing)) (members : List (ℕ × List ℕ)) (pool pool' : PoolState) (xid : ℕ) (entries : List (List ℕ)) →
    OnOk result ((x : ℕ) → entries_at pool' x ≡ with_entries pool xid entries x) → OnOk result (StaysWhole pool pool') →
    OnOk result (IsSome (lookup (λ k. xid == k) strands) → StaysTidy (record { strands = strands; members = members; pool = pool }) (record { strands = strands; members = members; pool = pool' }))
pushed_tidy result strands members pool pool' xid entries has whole =
    on_both result _ _ _
    (λ has whole. λ there. tidy_pushed (record { strands = strands; members = members; pool = pool }) (record { strands = strands; members = members; pool = pool' }) xid entries whole refl there has) has whole
