-- Each chunk is free, one of a live xid, or one of what is ready.
use Rattle.std.proofs.Common.{◌≡◌, ◌⊎◌, inl, inr, ℕ, ◌+◌, ◌<◌, ◌≤◌, ◌==◌, Bool, true, false, cond, ◌||◌, List, [], ◌∷◌, ◌++◌, Option, Some, None, get_or, length, map, set, refl, sym, ap, subst, ◌∙◌, arith, length-set}
use Rattle.std.specs.Prelude.{IsSome, nat_le}
use Rattle.std.specs.List.{AllByRecursion, fold, sum_by}
use Rattle.std.proofs.lemmas.Bool.{eqb-true, eqb-false, lt-leb}
use Rattle.std.proofs.lemmas.List.{get_or-set_same, get_or-set_other}
use Rattle.std.proofs.lemmas.List.Folds.{list_any-append}
use Rattle.std.proofs.lemmas.List.Sums.{sum_by-cons}
use Rattle.chgarena.specs.Fill.{fill, sizes, with_size}
use Rattle.chgarena.specs.Strands.{Strands as Arena, entries_of, fills}
use Rattle.tables.specs.declared.changes.change.Change.{Change}
use Rattle.tables.specs.Spelling.{body_length}
use Rattle.wal.specs.declared.record.Record.{Record}
use Rattle.wal.specs.declared.record.Body.TheVariants.{Change as Changed}
use Rattle.wal.specs.Log.{is_dropped}
use Rattle.reorder.specs.Pool.{AreApart, HoldEntries, IsLent, IsPool, Lasts, PoolState, StaysLent, entries_by, map_with, strand_of}
use Rattle.reorder.specs.Ready.{IsReadyIn, PlaceState, ReadyState}
use Rattle.reorder.specs.Strands.{by_xid, is_in}
use Rattle.reorder.specs.Bookkeeping.{AreStrandsOf}
use Rattle.reorder.specs.Chunks.{HasNoRoom, IsHeldBy, IsOwned, IsTidy, IsWhole, live_chunks}
use Rattle.reorder.specs.Taking.{ReorderState}
use Rattle.reorder.specs.Settled.{AreLentIn, LeavesNoRoomBeside, after_giving_all_back, after_giving_back, head_in, heads_of, lent_chunks, pool_without, ready_chunks, ready_heads, without_all}
use Rattle.reorder.proofs.Counting.{chunks_taken, fills_cleared, no_room_of, strand_fill, sum_same, place_fill}
use Rattle.reorder.proofs.Named.{or_true}
use Rattle.reorder.proofs.Opening.{one_in, put_cases, same_kept}
use Rattle.reorder.proofs.Owning.{of}
use Rattle.reorder.proofs.Settling.{entries_given_back, entries_without, heads_are, lasts_without, lent_left, same_settled}

-- ---- an arena without some strands

pub length_without : (arena : Arena) (heads : List ℕ) → length (without_all arena heads) ≡ length arena
length_without arena [] = refl
length_without arena (head ∷ heads) = length_without (set arena head None) heads ∙ length-set arena head None

at_without : (arena : Arena) (heads : List ℕ) (head : ℕ) → head < length arena → get_or (without_all arena heads) head None ≡ cond (is_in head heads) None (get_or arena head None)
at_without arena [] head low = refl
at_without arena (q ∷ heads) head low =
    at_without (set arena q None) heads head (subst (λ n. head < n) (sym (length-set arena q None)) low) ∙ by_test (head == q) refl (is_in head heads)
  where
    by_test : (here : Bool) → (head == q) ≡ here → (later : Bool) → cond later None (get_or (set arena q None) head None) ≡ cond (here || later) None (get_or arena head None)
    by_test here at true = by_both here
      where
        by_both : (here : Bool) → None ≡ cond (here || true) None (get_or arena head None)
        by_both true = refl
        by_both false = refl
    by_test true same false = ap (λ n. get_or (set arena q None) n None) (eqb-true head q same) ∙ get_or-set_same arena q None None (subst (λ n. n < length arena) (eqb-true head q same) low)
    by_test false other false = get_or-set_other arena q head None None (eqb-false head q other)

-- the first chunk of an xid's strand is among those of these xids
head_among : (strand : ℕ → Option (Option ℕ)) (xs : List ℕ) (x head : ℕ) → strand x ≡ Some (Some head) → is_in x xs ≡ true → is_in head (heads_of strand xs) ≡ true
head_among strand [] x head is inn = let never : false ≡ true = inn in cc
head_among strand (y ∷ xs) x head is inn = list_any-append (λ q. head == q) (head_in (strand y)) (heads_of (map_with y None strand) xs) ∙ by_test (λ left at. head_among (map_with y None strand) xs x head left at) (x == y) refl inn
  where
    either : (a b : Bool) → a ≡ true → (a || b) ≡ true
    either true b at = refl
    either false b at = let never : false ≡ true = at in cc

    by_test : (map_with y None strand x ≡ Some (Some head) → is_in x xs ≡ true → is_in head (heads_of (map_with y None strand) xs) ≡ true) → (b : Bool) → (x == y) ≡ b → (b || is_in x xs) ≡ true → (is_in head (head_in (strand y)) || is_in head (heads_of (map_with y None strand) xs)) ≡ true
    by_test later true same at = either _ _ (ap (λ (o : Option (Option ℕ)). is_in head (head_in o)) (ap strand (sym (eqb-true x y same)) ∙ is) ∙ one_in head [])
    by_test later false other at = or_true _ _ (later (put_cases (λ o. o ≡ Some (Some head)) y x None strand (λ same. absurd (eqb-false x y other (sym same))) (λ away. is)) at)

at_in : (P : ℕ → Type 0) (heads : List ℕ) (head : ℕ) → AllByRecursion P heads → is_in head heads ≡ true → P head
at_in P [] head all inn = let never : false ≡ true = inn in cc
at_in P (q ∷ heads) head all inn = by_test (at_in P heads head all.1) (head == q) refl inn
  where
    by_test : (is_in head heads ≡ true → P head) → (b : Bool) → (head == q) ≡ b → (b || is_in head heads) ≡ true → P head
    by_test later true same at = subst P (sym (eqb-true head q same)) all.0
    by_test later false other at = later at

-- a strand of what is ready
owner_of : (ready : ReadyState) (head : ℕ) → is_in head (ready_heads ready) ≡ true → (x : ℕ) × (strand_of ready.strands x ≡ Some (Some head))
owner_of ready head inn = at_in (λ q. (x : ℕ) × (strand_of ready.strands x ≡ Some (Some q))) (ready_heads ready) head (heads_are (λ q. (x : ℕ) × (strand_of ready.strands x ≡ Some (Some q))) (strand_of ready.strands) (λ x q is. (x, is)) ready.xids) inn

head_of : (pool : PoolState) (ready : ReadyState) → IsReadyIn pool ready → (x head : ℕ) → strand_of ready.strands x ≡ Some (Some head) → is_in head (ready_heads ready) ≡ true
head_of pool ready is x head at = head_among (strand_of ready.strands) ready.xids x head at (is.known x (subst (λ (o : Option (Option ℕ)). IsSome o) (sym at) refl))

-- ---- whose the strands are

whole_given_back : (pool : PoolState) (ready : ReadyState) (held : List ReadyState) → IsReadyIn pool ready → IsWhole (ready ∷ held) pool → IsWhole held (pool_without pool ready)
whole_given_back pool ready held is whole = λ head within entries at.
    let low : head < length pool.arena = subst (λ n. head < n) (length_without pool.arena (ready_heads ready)) within in
    by_test head low entries (is_in head (ready_heads ready)) refl (sym (at_without pool.arena (ready_heads ready) head low) ∙ at)
  where
    by_owner : (head : ℕ) → is_in head (ready_heads ready) ≡ false → IsOwned pool head ⊎ IsHeldBy (ready ∷ held) head → IsOwned (pool_without pool ready) head ⊎ IsHeldBy held head
    by_owner head out (inl o) = inl (record { xid = o.xid; is = o.is })
    by_owner head out (inr (inl (x, at))) = let never : true ≡ false = sym (head_of pool ready is x head at) ∙ out in cc
    by_owner head out (inr (inr other)) = inr other

    by_test : (head : ℕ) → head < length pool.arena → (entries : List (List ℕ)) → (b : Bool) → is_in head (ready_heads ready) ≡ b → cond b None (get_or pool.arena head None) ≡ Some entries →
        IsOwned (pool_without pool ready) head ⊎ IsHeldBy held head
    by_test head low entries true inn at = let never : None ≡ Some entries = at in cc
    by_test head low entries false out at = by_owner head out (whole head low entries at)

whole_before : (pool : PoolState) (ready : ReadyState) (held : List ReadyState) → IsWhole held (pool_without pool ready) → IsWhole (ready ∷ held) pool
whole_before pool ready held whole = λ head low entries at. by_test head low entries at (is_in head (ready_heads ready)) refl
  where
    by_owner : (head : ℕ) → IsOwned (pool_without pool ready) head ⊎ IsHeldBy held head → IsOwned pool head ⊎ IsHeldBy (ready ∷ held) head
    by_owner head (inl o) = inl (record { xid = o.xid; is = o.is })
    by_owner head (inr other) = inr (inr other)

    by_test : (head : ℕ) → head < length pool.arena → (entries : List (List ℕ)) → get_or pool.arena head None ≡ Some entries → (b : Bool) → is_in head (ready_heads ready) ≡ b → IsOwned pool head ⊎ IsHeldBy (ready ∷ held) head
    by_test head low entries at true inn = inr (inl (owner_of ready head inn))
    by_test head low entries at false out =
        by_owner head (whole head (subst (λ n. head < n) (sym (length_without pool.arena (ready_heads ready))) low) entries
        (at_without pool.arena (ready_heads ready) head low ∙ ap (λ b. cond b None (get_or pool.arena head None)) out ∙ at))

tidy_given_back : (s : ReorderState) (ready : ReadyState) (count : ℕ) (held : List ReadyState) → IsReadyIn s.strands.pool ready → IsTidy count (ready ∷ held) s.strands → IsTidy count held (after_giving_back s ready).strands
tidy_given_back s ready count held is tidy = record {
  chunks = length_without s.strands.pool.arena (ready_heads ready) ∙ tidy.chunks;
  owned = whole_given_back s.strands.pool ready held is tidy.owned;
  only = λ x none. entries_without s.strands.pool ready is.lent x ∙ tidy.only x none;
}

tidy_before : (s : ReorderState) (ready : ReadyState) (count : ℕ) (held : List ReadyState) → IsReadyIn s.strands.pool ready → IsTidy count held (after_giving_back s ready).strands → IsTidy count (ready ∷ held) s.strands
tidy_before s ready count held is tidy = record {
  chunks = sym (length_without s.strands.pool.arena (ready_heads ready)) ∙ tidy.chunks;
  owned = whole_before s.strands.pool ready held tidy.owned;
  only = λ x none. sym (entries_without s.strands.pool ready is.lent x) ∙ tidy.only x none;
}

later_lent : (s : ReorderState) (ready : ReadyState) (ws : List ReadyState) → AreLentIn s (ready ∷ ws) → AreLentIn (after_giving_back s ready) ws
later_lent s ready ws are = (entries_given_back s (after_giving_back s ready) ready ws are refl).0

-- what is tidy while these are ready is tidy once they are given back
pub settled_tidy : (s : ReorderState) (ws : List ReadyState) (count : ℕ) → AreLentIn s ws → IsTidy count ws s.strands → IsTidy count [] (after_giving_all_back s ws).strands
settled_tidy s [] count are tidy = tidy
settled_tidy s (w ∷ ws) count are tidy = settled_tidy (after_giving_back s w) ws count (later_lent s w ws are) (tidy_given_back s w count ws are.0 tidy)

-- and was so before
pub tidy_settled : (s : ReorderState) (ws : List ReadyState) (count : ℕ) → AreLentIn s ws → IsTidy count [] (after_giving_all_back s ws).strands → IsTidy count ws s.strands
tidy_settled s [] count are tidy = tidy
tidy_settled s (w ∷ ws) count are tidy = tidy_before s w count ws are.0 (tidy_settled (after_giving_back s w) ws count (later_lent s w ws are) tidy)

-- in another order
pub tidy_last : (s : ReorderState) (ws : List ReadyState) (ready : ReadyState) (count : ℕ) → IsTidy count (ready ∷ ws) s.strands → IsTidy count (ws ++ ready ∷ []) s.strands
tidy_last s ws ready count tidy = record { chunks = tidy.chunks; owned = λ head within entries at. by_owner head (tidy.owned head within entries at); only = tidy.only }
  where
    moved : (ws : List ReadyState) (head : ℕ) → IsHeldBy (ready ∷ ws) head → IsHeldBy (ws ++ ready ∷ []) head
    moved [] head held = held
    moved (w ∷ ws) head (inl here) = inr (moved ws head (inl here))
    moved (w ∷ ws) head (inr (inl first)) = inl first
    moved (w ∷ ws) head (inr (inr later)) = inr (moved ws head (inr later))

    by_owner : (head : ℕ) → IsOwned s.strands.pool head ⊎ IsHeldBy (ready ∷ ws) head → IsOwned s.strands.pool head ⊎ IsHeldBy (ws ++ ready ∷ []) head
    by_owner head (inl o) = inl o
    by_owner head (inr held) = inr (moved ws head held)

-- a record that makes nothing ready leaves it tidy once these are given back
pub tidy_quiet : (old new : ReorderState) (ws : List ReadyState) (count : ℕ) → AreLentIn old ws → AreLentIn new ws → ((n : ℕ) (held : List ReadyState) → IsTidy n held old.strands → IsTidy n held new.strands) →
    IsTidy count [] (after_giving_all_back old ws).strands → IsTidy count [] (after_giving_all_back new ws).strands
tidy_quiet old new ws count before after takes tidy = settled_tidy new ws count after (takes count ws (tidy_settled old ws count before tidy))

-- and so does one that makes one more ready, after these
pub tidy_more : (old new : ReorderState) (ws : List ReadyState) (ready : ReadyState) (count : ℕ) → AreLentIn old ws → AreLentIn new (ws ++ ready ∷ []) →
    ((n : ℕ) (held : List ReadyState) → IsTidy n held old.strands → IsTidy n (ready ∷ held) new.strands) → IsTidy count [] (after_giving_all_back old ws).strands → IsTidy count [] (after_giving_all_back new (ws ++ ready ∷ [])).strands
tidy_more old new ws ready count before after takes tidy = settled_tidy new (ws ++ ready ∷ []) count after (tidy_last new ws ready count (takes count ws (tidy_settled old ws count before tidy)))

-- ---- how many chunks they fill

-- no two of these are the same, and each is one of the arena's
abbrev AreHeads : Arena → List ℕ → Type 0
AreHeads arena [] = Unit {0}
AreHeads arena (head ∷ heads) = (head < length arena) × AllByRecursion (λ q. q ≡ head → ⊥) heads × AreHeads arena heads

heads_own : (arena : Arena) (strand : ℕ → Option (Option ℕ)) → ((x head : ℕ) → strand x ≡ Some (Some head) → head < length arena) →
    ((x y head : ℕ) → strand x ≡ Some (Some head) → strand y ≡ Some (Some head) → x ≡ y) → (xs : List ℕ) → AreHeads arena (heads_of strand xs)
heads_own arena strand made apart [] = tt
heads_own arena strand made apart (x ∷ xs) =
    by_option (strand x) refl (heads_own arena (map_with x None strand) (λ y head at. made y head (left y head at)) (λ y z head at_y at_z. apart y z head (left y head at_y) (left z head at_z)) xs)
  where
    left : (y head : ℕ) → map_with x None strand y ≡ Some (Some head) → strand y ≡ Some (Some head)
    left y head is = put_cases (λ o. o ≡ Some (Some head) → strand y ≡ Some (Some head)) x y None strand (λ same o. let never : None ≡ Some (Some head) = o in cc) (λ other o. o) is

    away : (y head : ℕ) → map_with x None strand y ≡ Some (Some head) → strand x ≡ Some (Some head) → ⊥
    away y head at is = put_cases (λ o. o ≡ Some (Some head) → ⊥) x y None strand (λ same o. let never : None ≡ Some (Some head) = o in cc) (λ other o. eqb-false x y other (apart x y head is o)) at

    by_option : (o : Option (Option ℕ)) → strand x ≡ o → AreHeads arena (heads_of (map_with x None strand) xs) → AreHeads arena (head_in o ++ heads_of (map_with x None strand) xs)
    by_option None is later = later
    by_option (Some None) is later = later
    by_option (Some (Some head)) is later =
        (made x head is, heads_are (λ q. q ≡ head → ⊥) (map_with x None strand) (λ y q at same. away y q at (is ∙ ap (λ n. Some (Some n)) (sym same))) xs, later)

heads_kept : (arena : Arena) (head : ℕ) (heads : List ℕ) → AreHeads arena heads → AreHeads (set arena head None) heads
heads_kept arena head [] own = tt
heads_kept arena head (q ∷ heads) own = (subst (λ n. q < n) (sym (length-set arena head None)) own.0, own.1, heads_kept arena head heads own.2)

abbrev fill_at : Arena → ℕ → ℕ
fill_at arena head = strand_fill arena (Some head)

fills_without : (arena : Arena) (heads : List ℕ) → AreHeads arena heads → fills (without_all arena heads) + sum_by (fill_at arena) heads ≡ fills arena
fills_without arena [] own = omega arith
fills_without arena (head ∷ heads) own =
    let later : fills (without_all (set arena head None) heads) + sum_by (fill_at (set arena head None)) heads ≡ fills (set arena head None) = fills_without (set arena head None) heads (heads_kept arena head heads own.2) in
    let same : sum_by (fill_at (set arena head None)) heads ≡ sum_by (fill_at arena) heads = sum_same (fill_at (set arena head None)) (fill_at arena) heads (others heads own.1) in
    let here : fills (set arena head None) + strand_fill arena (Some head) ≡ fills arena = fills_cleared arena head own.0 in
    omega (arith, sum_by-cons (fill_at arena) head heads)
  where
    others : (heads : List ℕ) → AllByRecursion (λ q. q ≡ head → ⊥) heads → AllByRecursion (λ q. fill_at (set arena head None) q ≡ fill_at arena q) heads
    others [] away = tt
    others (q ∷ heads) away = (ap place_fill (get_or-set_other arena head q None None away.0), others heads away.1)

-- what is ready fills as many chunks wherever its strands last
chunks_last : (pool pool' : PoolState) (ready : ReadyState) → Lasts pool pool' ready.strands → ready_chunks pool'.arena ready ≡ ready_chunks pool.arena ready
chunks_last pool pool' ready lasts =
    sum_same (fill_at pool'.arena) (fill_at pool.arena) (ready_heads ready)
    (heads_are (λ head. fill_at pool'.arena head ≡ fill_at pool.arena head) (strand_of ready.strands) each ready.xids)
  where
    each : (x head : ℕ) → strand_of ready.strands x ≡ Some (Some head) → fill_at pool'.arena head ≡ fill_at pool.arena head
    each x head is = ap (λ es. fill (sizes es)) (subst (λ (o : Option (Option ℕ)). entries_by pool'.arena o ≡ entries_by pool.arena o) is (lasts.same x))

-- one list of sums, whichever of two functions it is told by
sums_same : (f g : ReadyState → ℕ) (ws : List ReadyState) → map f ws ≡ map g ws → sum_by f ws ≡ sum_by g ws
sums_same f g [] same = refl
sums_same f g (w ∷ ws) same =
    let here : f w ≡ g w = cc in
    let later : sum_by f ws ≡ sum_by g ws = sums_same f g ws cc in
    omega (arith, here, later, sum_by-cons f w ws, sum_by-cons g w ws)

-- whatever leaves all that is lent leaves the chunks of each
pub chunks_each_lent : (old new : ReorderState) (ws : List ReadyState) → AreLentIn old ws → StaysLent old.strands.pool new.strands.pool
    → map (ready_chunks new.strands.pool.arena) ws ≡ map (ready_chunks old.strands.pool.arena) ws
chunks_each_lent old new [] are stays = refl
chunks_each_lent old new (w ∷ ws) are stays =
    ap (λ (n : ℕ). n ∷ map (ready_chunks new.strands.pool.arena) ws) (chunks_last old.strands.pool new.strands.pool w (stays.each w.strands are.0.lent))
    ∙ ap (λ (ns : List ℕ). ready_chunks old.strands.pool.arena w ∷ ns) (chunks_each_lent old new ws are.2 stays)

pub chunks_lent : (old new : ReorderState) (ws : List ReadyState) → AreLentIn old ws → StaysLent old.strands.pool new.strands.pool → lent_chunks new ws ≡ lent_chunks old ws
chunks_lent old new ws are stays = sums_same (ready_chunks new.strands.pool.arena) (ready_chunks old.strands.pool.arena) ws (chunks_each_lent old new ws are stays)

-- those of each of the others stay where one is given back
pub chunks_each_given_back : (old new : ReorderState) (ready : ReadyState) (ws : List ReadyState) → AreLentIn old (ready ∷ ws) → new ≡ after_giving_back old ready
    → map (ready_chunks new.strands.pool.arena) ws ≡ map (ready_chunks old.strands.pool.arena) ws
chunks_each_given_back old new ready ws are is = ap (λ (s : ReorderState). map (ready_chunks s.strands.pool.arena) ws) is ∙ later ws are.1 are.2
  where
    later : (ws : List ReadyState) → AllByRecursion (λ (other : ReadyState). AreApart ready.strands other.strands) ws → AreLentIn old ws
        → map (ready_chunks (after_giving_back old ready).strands.pool.arena) ws ≡ map (ready_chunks old.strands.pool.arena) ws
    later [] apart are = refl
    later (w ∷ ws) apart are =
        ap (λ (n : ℕ). n ∷ map (ready_chunks (after_giving_back old ready).strands.pool.arena) ws)
        (chunks_last old.strands.pool (after_giving_back old ready).strands.pool w (lasts_without old.strands.pool ready w.strands apart.0 are.0.lent))
        ∙ ap (λ (ns : List ℕ). ready_chunks old.strands.pool.arena w ∷ ns) (later ws apart.1 are.2)

chunks_given_back : (old new : ReorderState) (ready : ReadyState) (ws : List ReadyState) → AreLentIn old (ready ∷ ws) → new ≡ after_giving_back old ready → lent_chunks new ws ≡ lent_chunks old ws
chunks_given_back old new ready ws are is = sums_same (ready_chunks new.strands.pool.arena) (ready_chunks old.strands.pool.arena) ws (chunks_each_given_back old new ready ws are is)

-- giving them back frees their chunks
pub settled_fills : (s : ReorderState) (ws : List ReadyState) → AreLentIn s ws → fills (after_giving_all_back s ws).strands.pool.arena + lent_chunks s ws ≡ fills s.strands.pool.arena
settled_fills s [] are = omega arith
settled_fills s (w ∷ ws) are =
    let own : IsPool s.strands.pool.arena w.strands = are.0.lent.own in
    let here : fills (after_giving_back s w).strands.pool.arena + ready_chunks s.strands.pool.arena w ≡ fills s.strands.pool.arena =
    fills_without s.strands.pool.arena (ready_heads w) (heads_own s.strands.pool.arena (strand_of w.strands) (λ x head is. (own.made x (Some head) is).0) own.apart w.xids) in
    let later : fills (after_giving_all_back (after_giving_back s w) ws).strands.pool.arena + lent_chunks (after_giving_back s w) ws ≡ fills (after_giving_back s w).strands.pool.arena = settled_fills (after_giving_back s w) ws (later_lent s w ws are) in
    let same : lent_chunks (after_giving_back s w) ws ≡ lent_chunks s ws = chunks_given_back s (after_giving_back s w) w ws are refl in
    omega (arith, sum_by-cons (ready_chunks s.strands.pool.arena) w ws)

pub settled_length : (s : ReorderState) (ws : List ReadyState) → length (after_giving_all_back s ws).strands.pool.arena ≡ length s.strands.pool.arena
settled_length s [] = refl
settled_length s (w ∷ ws) = settled_length (after_giving_back s w) ws ∙ length_without s.strands.pool.arena (ready_heads w)

-- ---- beside what the records say

-- the strands of the pool are the arena's, with entries of changes
record IsGood (p : PoolState) : Type 0 where
  pool : IsPool p.arena p.strands
  hold : HoldEntries p.arena p.strands

good_without : (pool : PoolState) (ready : ReadyState) → IsLent pool ready.strands → IsGood pool → IsGood (pool_without pool ready)
good_without pool ready is good =
    let l : Lasts (of pool.arena ready.strands) (of (without_all pool.arena (ready_heads ready)) ready.strands) pool.strands =
    lent_left pool.arena ready.strands (ready_heads ready) pool.strands
    (heads_are (λ head. (x : ℕ) → strand_of pool.strands x ≡ Some (Some head) → ⊥) (strand_of ready.strands) (λ y head at_y x at_x. is.apart x y head at_x at_y) ready.xids)
    (record { own = good.pool; hold = good.hold; apart = λ x y head at_x at_y. is.apart y x head at_y at_x }) in
    record { pool = l.still.own; hold = l.still.hold }

settled_good : (s : ReorderState) (ws : List ReadyState) → AreLentIn s ws → IsGood s.strands.pool → IsGood (after_giving_all_back s ws).strands.pool
settled_good s [] are good = good
settled_good s (w ∷ ws) are good = settled_good (after_giving_back s w) ws (later_lent s w ws are) (good_without s.strands.pool w are.0.lent good)

-- the chunks that are taken are those of the live xids and those of what is ready
pub chunks_beside : (s : ReorderState) (rs : List Record) (ws : List ReadyState) (count : ℕ) → IsPool s.strands.pool.arena s.strands.pool.strands → HoldEntries s.strands.pool.arena s.strands.pool.strands →
    AreStrandsOf (by_xid s.strands) rs → AreLentIn s ws → IsTidy count [] (after_giving_all_back s ws).strands → live_chunks rs + lent_chunks s ws ≡ fills s.strands.pool.arena
chunks_beside s rs ws count pool hold book are tidy =
    let good : IsGood (after_giving_all_back s ws).strands.pool = settled_good s ws are (record { pool = pool; hold = hold }) in
    let taken : fills (after_giving_all_back s ws).strands.pool.arena ≡ live_chunks rs = chunks_taken (after_giving_all_back s ws).strands rs count good.pool good.hold
    (same_kept (by_xid (after_giving_all_back s ws).strands) (by_xid s.strands) rs (same_settled s ws are).strands book) tidy in
    ap (λ n. n + lent_chunks s ws) (sym taken) ∙ settled_fills s ws are

-- the chunks are full by the records and by what is ready, if the xid has a strand and isn't dropped
pub no_room_beside : (s : ReorderState) (rs : List Record) (ws : List ReadyState) (count size : ℕ) (r : Record) (xid : ℕ) (change : Change) → AreStrandsOf (by_xid s.strands) rs → AreLentIn s ws → IsTidy count ws s.strands →
    r.body ≡ Changed xid change → size ≡ 8 + body_length change → is_dropped rs xid ≡ false → IsSome ((by_xid s.strands).strand xid) → HasNoRoom s.strands.pool xid size → LeavesNoRoomBeside (lent_chunks s ws) count rs r
no_room_beside s rs ws count size r xid change book are tidy is long live some none = record {
  left = live_chunks rs;
  split = chunks_beside s rs ws count none.pool none.hold book are (settled_tidy s ws count are tidy) ∙ none.fills ∙ tidy.chunks;
  full = no_room_of s.strands rs (live_chunks rs) size r xid change book refl is long live some none;
}

-- ---- what is ready fills a chunk, if it has a change

more_filled : (at : ℕ × ℕ) (ns : List ℕ) → at.0 ≤ (fold with_size at ns).0
more_filled at [] = omega arith
more_filled at (n ∷ ns) = by_test (λ next. more_filled next ns) (nat_le (at.1 + (n + 4)) 16384)
  where
    by_test : ((next : ℕ × ℕ) → next.0 ≤ (fold with_size next ns).0) → (fits : Bool) → at.0 ≤ (fold with_size (cond fits (at.0, at.1 + (n + 4)) (at.0 + 1, n + 4)) ns).0
    by_test later true = later (at.0, at.1 + (n + 4))
    by_test later false = let low = later (at.0 + 1, n + 4) in omega (arith, low)

entries_fill : (es : List (List ℕ)) → 0 < length es → 0 < fill (sizes es)
entries_fill [] some = absurd (omega (arith, some))
entries_fill (e ∷ es) some =
    let first : with_size (0, 16384) (length e) ≡ (1, length e + 4) = ap (λ fits. cond fits (0, 16384 + (length e + 4)) (1, length e + 4)) (lt-leb (16384 + (length e + 4)) 16384 (omega arith)) in
    let low = more_filled (1, length e + 4) (sizes es) in
    let is : fill (sizes (e ∷ es)) ≡ (fold with_size (1, length e + 4) (sizes es)).0 = ap (λ at. (fold with_size at (sizes es)).0) first in
    omega (arith, low, is)

one_of_sum : (f : ℕ → ℕ) (heads : List ℕ) (head : ℕ) → is_in head heads ≡ true → f head ≤ sum_by f heads
one_of_sum f [] head inn = let never : false ≡ true = inn in cc
one_of_sum f (q ∷ heads) head inn = by_test (one_of_sum f heads head) (head == q) refl inn
  where
    by_test : (is_in head heads ≡ true → f head ≤ sum_by f heads) → (here : Bool) → (head == q) ≡ here → (here || is_in head heads) ≡ true → f head ≤ sum_by f (q ∷ heads)
    by_test later true same at = let is : f head ≡ f q = ap f (eqb-true head q same) in omega (arith, is, sum_by-cons f q heads)
    by_test later false other at = let low = later at in omega (arith, low, sum_by-cons f q heads)

ready_fills : (pool : PoolState) (ready : ReadyState) → IsReadyIn pool ready → 0 < length ready.places → 0 < ready_chunks pool.arena ready
ready_fills pool ready is some = by_strand (strand_of ready.strands at.xid) refl (let there = is.places 0 none some in omega (arith, there))
  where
    none : PlaceState
    none = record { xid = 0; place = 0 }

    at : PlaceState
    at = get_or ready.places 0 none

    by_strand : (o : Option (Option ℕ)) → strand_of ready.strands at.xid ≡ o → 0 < length (entries_by pool.arena o) → 0 < ready_chunks pool.arena ready
    by_strand None own long = absurd (omega (arith, long))
    by_strand (Some None) own long = absurd (omega (arith, long))
    by_strand (Some (Some head)) own long =
        let low = one_of_sum (λ q. fill (sizes (entries_of pool.arena (Some q)))) (ready_heads ready) head (head_of pool ready is at.xid head own) in
        let more = entries_fill (entries_of pool.arena (Some head)) long in
        omega (arith, low, more)

pub lent_fill : (s : ReorderState) (ws : List ReadyState) → AreLentIn s ws → AllByRecursion (λ (w : ReadyState). 0 < length w.places) ws → 0 < length ws → 0 < lent_chunks s ws
lent_fill s [] are each some = absurd (omega (arith, some))
lent_fill s (w ∷ ws) are each some = let first = ready_fills s.strands.pool w are.0 each.0 in omega (arith, first, sum_by-cons (ready_chunks s.strands.pool.arena) w ws)
