-- Whose the strands of the arena are, and how many chunks they fill.
use Rattle.std.proofs.Common.{◌≡◌, ◌≢◌, ◌⊎◌, inl, inr, ℕ, ◌<◌, true, false, List, [], ◌∷◌, ◌++◌, Option, Some, None, length, get_or, set, refl, sym, ap, subst, ◌∙◌, length-set, eq-eqb, ⊎_elim}
use Rattle.std.proofs.lemmas.Bool.{cases_eq}
use Rattle.std.proofs.lemmas.List.{get_or-set_same, get_or-set_other}
use Rattle.chgarena.specs.Strands.{Strands as Arena, IsHead, arena_without, entries_of}
use Rattle.reorder.specs.Pool.{PoolState, PushesAt, map_with, strand_of}
use Rattle.reorder.specs.Ready.{ReadyState}
use Rattle.reorder.specs.Chunks.{IsHeldBy, IsOwned, IsWhole, strands_alone}
use Rattle.reorder.proofs.Opening.{put_cases}
use Rattle.reorder.proofs.Pooling.{some_same}

abbrev pub of : Arena → List (ℕ × Option ℕ) → PoolState
of arena strands = record { arena = arena; strands = strands }

left_or : {A B C : Type 0} → A ⊎ C → (A → B) → B ⊎ C
left_or (inl a) f = inl (f a)
left_or (inr c) f = inr c

-- an xid that keeps its strand
kept_by : (arena arena' : Arena) (strands strands' : List (ℕ × Option ℕ)) (xid : ℕ) (new : Option (Option ℕ)) (head : ℕ) → ((x : ℕ) → strand_of strands' x ≡ map_with xid new (strand_of strands) x) →
    (o : IsOwned (of arena strands) head) → (xid ≡ o.xid → new ≡ Some (Some head)) → IsOwned (of arena' strands') head
kept_by arena arena' strands strands' xid new head puts o here = record {
  xid = o.xid;
  is = puts o.xid ∙ put_cases (λ w. w ≡ Some (Some head)) xid o.xid new (strand_of strands) here (λ other. o.is);
}

pub whole_opened : (arena : Arena) (strands strands' : List (ℕ × Option ℕ)) (xid : ℕ) → strand_of strands xid ≡ None → ((x : ℕ) → strand_of strands' x ≡ map_with xid (Some None) (strand_of strands) x) →
    (held : List ReadyState) → IsWhole held (of arena strands) → IsWhole held (of arena strands')
whole_opened arena strands strands' xid none puts held whole = λ head within entries is.
    left_or (whole head within entries is)
    (λ (o : IsOwned (of arena strands) head). kept_by arena arena strands strands' xid (Some None) head puts o
    (λ same. let never : None ≡ Some (Some head) = sym none ∙ ap (strand_of strands) same ∙ o.is in cc))

pub pushed_chunks : (xid : ℕ) (entry : List ℕ) (arena arena' : Arena) (strands strands' : List (ℕ × Option ℕ)) → PushesAt xid entry arena strands arena' strands' → length arena' ≡ length arena
pushed_chunks xid entry arena arena' strands strands' p = ap length p.pushed.strands ∙ length-set arena p.pushed.head _

pub whole_pushed : (xid : ℕ) (entry : List ℕ) (arena arena' : Arena) (strands strands' : List (ℕ × Option ℕ)) → PushesAt xid entry arena strands arena' strands' →
    (held : List ReadyState) → IsWhole held (of arena strands) → IsWhole held (of arena' strands')
whole_pushed xid entry arena arena' strands strands' p held whole = λ head within entries is.
    ⊎_elim
    (λ (here : head ≡ p.pushed.head). inl (record {
      xid = xid;
      is = p.others xid ∙ put_cases (λ w. w ≡ Some (Some head)) xid xid (Some p.head') (strand_of strands) (λ same. ap Some (p.pushed.begins ∙ ap Some (sym here)))
          (λ other. let never : true ≡ false = sym (eq-eqb xid xid refl) ∙ other in cc);
    }))
    (λ (apart : head ≢ p.pushed.head).
    left_or (whole head (subst (λ n. head < n) (pushed_chunks xid entry arena arena' strands strands' p) within) entries
    (sym (ap (λ (a : Arena). get_or a head None) p.pushed.strands ∙ get_or-set_other arena p.pushed.head head (Some (entries_of arena p.head ++ entry ∷ [])) None apart) ∙ is))
    (λ (o : IsOwned (of arena strands) head). kept_by arena arena' strands strands' xid (Some p.head') head p.others o
    (λ same. absurd (apart (by_head p.head head (some_same p.head (Some head) (sym p.was ∙ ap (strand_of strands) same ∙ o.is)) p.pushed.kept)))))
    (cases_eq head p.pushed.head)
  where
    by_head : (s : Option ℕ) (head : ℕ) → s ≡ Some head → IsHead arena s p.pushed.head → head ≡ p.pushed.head
    by_head None head is kept = let never : None ≡ Some head = is in cc
    by_head (Some first) head is kept = let same : first ≡ head = cc in sym same ∙ sym kept

pub back_chunks : (arena : Arena) (o : Option ℕ) → length (arena_without arena o) ≡ length arena
back_chunks arena None = refl
back_chunks arena (Some head) = length-set arena head None

pub whole_back : (xid : ℕ) (arena : Arena) (strands strands' : List (ℕ × Option ℕ)) (o : Option ℕ) → strand_of strands xid ≡ Some o →
    ((x : ℕ) → strand_of strands' x ≡ map_with xid None (strand_of strands) x) → (held : List ReadyState) → IsWhole held (of arena strands) → IsWhole held (of (arena_without arena o) strands')
whole_back xid arena strands strands' None was puts held whole = λ head within entries is.
    left_or (whole head within entries is)
    (λ (w : IsOwned (of arena strands) head). kept_by arena arena strands strands' xid None head puts w
    (λ same. let never : None ≡ Some head = some_same None (Some head) (sym was ∙ ap (strand_of strands) same ∙ w.is) in cc))
whole_back xid arena strands strands' (Some first) was puts held whole = λ head within entries is.
    ⊎_elim
    (λ (here : head ≡ first).
    let low : first < length arena = subst (λ n. n < length arena) here (subst (λ n. head < n) (length-set arena first None) within) in
    let never : None ≡ Some entries = sym (get_or-set_same arena first None None low) ∙ ap (λ n. get_or (set arena first None) n None) (sym here) ∙ is in cc)
    (λ (apart : head ≢ first).
    left_or (whole head (subst (λ n. head < n) (length-set arena first None) within) entries (sym (get_or-set_other arena first head None None apart) ∙ is))
    (λ (w : IsOwned (of arena strands) head). kept_by arena (set arena first None) strands strands' xid None head puts w
    (λ same. absurd (apart (same_head head (some_same (Some first) (Some head) (sym was ∙ ap (strand_of strands) same ∙ w.is)))))))
    (cases_eq head first)
  where
    same_head : (head : ℕ) → Some first ≡ Some head → head ≡ first
    same_head head is = let same : first ≡ head = cc in sym same

-- ---- strands that are lent, and taken back

-- the strands of these xids go to what is held
pub whole_lent : (arena : Arena) (strands strands' : List (ℕ × Option ℕ)) (ready : ReadyState) → ((x head : ℕ) → strand_of strands x ≡ Some (Some head) → (strand_of strands' x ≡ Some (Some head)) ⊎ (strand_of ready.strands x ≡ Some (Some head))) →
    (held : List ReadyState) → IsWhole held (of arena strands) → IsWhole (ready ∷ held) (of arena strands')
whole_lent arena strands strands' ready either held whole = λ head within entries is. by_owner head (whole head within entries is)
  where
    by_owner : (head : ℕ) → IsOwned (of arena strands) head ⊎ IsHeldBy held head → IsOwned (of arena strands') head ⊎ IsHeldBy (ready ∷ held) head
    by_owner head (inr other) = inr (inr other)
    by_owner head (inl o) = by_place o.xid (either o.xid head o.is)
      where
        by_place : (x : ℕ) → (strand_of strands' x ≡ Some (Some head)) ⊎ (strand_of ready.strands x ≡ Some (Some head)) → IsOwned (of arena strands') head ⊎ IsHeldBy (ready ∷ held) head
        by_place x (inl stays) = inl (record { xid = x; is = stays })
        by_place x (inr goes) = inr (inl (x, goes))

abbrev alone : List (ℕ × Option ℕ) → ReadyState
alone strands = strands_alone strands

swapped : (arena : Arena) (strands lent : List (ℕ × Option ℕ)) (held : List ReadyState) → IsWhole (alone lent ∷ held) (of arena strands) → IsWhole (alone strands ∷ held) (of arena lent)
swapped arena strands lent held whole = λ head within entries is. by_owner head (whole head within entries is)
  where
    by_owner : (head : ℕ) → IsOwned (of arena strands) head ⊎ IsHeldBy (alone lent ∷ held) head → IsOwned (of arena lent) head ⊎ IsHeldBy (alone strands ∷ held) head
    by_owner head (inl o) = inr (inl (o.xid, o.is))
    by_owner head (inr (inl (x, is))) = inl (record { xid = x; is = is })
    by_owner head (inr (inr other)) = inr (inr other)

-- one strand of those that are lent goes
pub whole_taken : (xid : ℕ) (arena : Arena) (strands lent lent' : List (ℕ × Option ℕ)) (o : Option ℕ) → strand_of lent xid ≡ Some o → ((x : ℕ) → strand_of lent' x ≡ map_with xid None (strand_of lent) x) →
    (held : List ReadyState) → IsWhole (alone lent ∷ held) (of arena strands) → IsWhole (alone lent' ∷ held) (of (arena_without arena o) strands)
whole_taken xid arena strands lent lent' o was puts held whole =
    swapped (arena_without arena o) lent' strands held (whole_back xid arena lent lent' o was puts (alone strands ∷ held) (swapped arena strands lent held whole))

-- where none is left, what is held is held by others
pub whole_finished : (p : PoolState) (lent : List (ℕ × Option ℕ)) → ((x : ℕ) → strand_of lent x ≡ None) → (held : List ReadyState) → IsWhole (alone lent ∷ held) p → IsWhole held p
whole_finished p lent none held whole = λ head within entries is. by_owner head (whole head within entries is)
  where
    by_owner : (head : ℕ) → IsOwned p head ⊎ IsHeldBy (alone lent ∷ held) head → IsOwned p head ⊎ IsHeldBy held head
    by_owner head (inl o) = inl o
    by_owner head (inr (inl (x, is))) = let never : None ≡ Some (Some head) = sym (none x) ∙ is in cc
    by_owner head (inr (inr other)) = inr other
