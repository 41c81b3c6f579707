-- A regrouping stands as if all that is lent had been given back: it has taken the same records, and what is lent besides stays.
use Rattle.std.proofs.Common.{◌≡◌, ℕ, Bool, ◌<◌, ◌==◌, cond, List, [], ◌∷◌, ◌++◌, Option, Some, None, get_or, length, map, refl, sym, ap, subst, ◌∙◌}
use Rattle.std.specs.List.{AllByRecursion}
use Rattle.std.specs.Map.{lookup}
use Rattle.std.specs.Option.{option_map}
use Rattle.std.proofs.lemmas.List.{get_or-set_other}
use Rattle.chgarena.specs.Strands.{Strands as Arena, arena_without, entries_at as entries_in_place}
use Rattle.wal.specs.declared.record.Record.{Record}
use Rattle.wal.proofs.Lists.{all_append}
use Rattle.reorder.specs.Entries.{entry_in}
use Rattle.reorder.specs.Pool.{AreApart, IsLent, Lasts, PoolState, StaysLent, entries_at, entries_by, map_with, strand_of}
use Rattle.reorder.specs.Ready.{IsReadyIn, PlaceState, ReadyState, entry_at, lent_from, ready_entries}
use Rattle.reorder.specs.Strands.{Standing, StrandState, StrandsState}
use Rattle.reorder.specs.Taking.{HasTaken, IsSameTaken, ReorderState}
use Rattle.reorder.specs.Settled.{AreLentIn, after_giving_all_back, after_giving_back, head_in, heads_of, pool_without, ready_heads, strands_without, without_all}
use Rattle.reorder.proofs.Lending.{lent_taken}
use Rattle.reorder.proofs.Opening.{put_cases}
use Rattle.reorder.proofs.Owning.{of}
use Rattle.reorder.proofs.Steps.{same_taken, state}

-- ---- the first chunks of strands

pub heads_alike : (strand strand' : ℕ → Option (Option ℕ)) → ((x : ℕ) → strand x ≡ strand' x) → (xs : List ℕ) → heads_of strand xs ≡ heads_of strand' xs
heads_alike strand strand' same [] = refl
heads_alike strand strand' same (x ∷ xs) =
    rw (same x, heads_alike (map_with x None strand) (map_with x None strand') (λ y. ap (λ (o : Option (Option ℕ)). cond (x == y) None o) (same y)) xs) refl

-- what holds of the first chunk of each strand holds of these
pub heads_are : (P : ℕ → Type 0) (strand : ℕ → Option (Option ℕ)) → ((x head : ℕ) → strand x ≡ Some (Some head) → P head) → (xs : List ℕ) → AllByRecursion P (heads_of strand xs)
heads_are P strand each [] = tt
heads_are P strand each (x ∷ xs) = all_append P (head_in (strand x)) (heads_of (map_with x None strand) xs) (here (strand x) refl) (heads_are P (map_with x None strand) (λ y head is. each y head (left y head is)) xs)
  where
    here : (o : Option (Option ℕ)) → strand x ≡ o → AllByRecursion P (head_in o)
    here None is = tt
    here (Some None) is = tt
    here (Some (Some head)) is = (each x head is, tt)

    left : (y head : ℕ) → map_with x None strand y ≡ Some (Some head) → strand y ≡ Some (Some head)
    left y head is = put_cases (λ o. o ≡ Some (Some head) → strand y ≡ Some (Some head)) x y None strand (λ same o. let never : None ≡ Some (Some head) = o in cc) (λ other o. o) is

-- ---- taking them back one by one

-- nothing was taken back for an xid without a strand
pub back_none : (arena : Arena) (strand strand' : ℕ → Option (Option ℕ)) (x : ℕ) (xs : List ℕ) → strand x ≡ None → ((y : ℕ) → strand' y ≡ map_with x None strand y) →
    without_all arena (heads_of strand (x ∷ xs)) ≡ without_all arena (heads_of strand' xs)
back_none arena strand strand' x xs none puts =
    ap (λ (o : Option (Option ℕ)). without_all arena (head_in o ++ heads_of (map_with x None strand) xs)) none ∙ ap (without_all arena) (sym (heads_alike strand' (map_with x None strand) puts xs))

-- one strand was taken back
pub back_some : (arena : Arena) (strand strand' : ℕ → Option (Option ℕ)) (x : ℕ) (xs : List ℕ) (o : Option ℕ) → strand x ≡ Some o → ((y : ℕ) → strand' y ≡ map_with x None strand y) →
    without_all arena (heads_of strand (x ∷ xs)) ≡ without_all (arena_without arena o) (heads_of strand' xs)
back_some arena strand strand' x xs o is puts =
    ap (λ (o : Option (Option ℕ)). without_all arena (head_in o ++ heads_of (map_with x None strand) xs)) is
    ∙ by_option o ∙ ap (without_all (arena_without arena o)) (sym (heads_alike strand' (map_with x None strand) puts xs))
  where
    by_option : (o : Option ℕ) → without_all arena (head_in (Some o) ++ heads_of (map_with x None strand) xs) ≡ without_all (arena_without arena o) (heads_of (map_with x None strand) xs)
    by_option None = refl
    by_option (Some head) = refl

-- ---- what is left

entries_left : (arena : Arena) (heads : List ℕ) (o : Option (Option ℕ)) → AllByRecursion (λ head. o ≡ Some (Some head) → ⊥) heads → entries_by (without_all arena heads) o ≡ entries_by arena o
entries_left arena [] o apart = refl
entries_left arena (head ∷ heads) o apart = entries_left (arena_without arena (Some head)) heads o apart.1 ∙ by_option o apart.0
  where
    by_option : (o : Option (Option ℕ)) → (o ≡ Some (Some head) → ⊥) → entries_by (arena_without arena (Some head)) o ≡ entries_by arena o
    by_option None away = refl
    by_option (Some None) away = refl
    by_option (Some (Some q)) away = ap entries_in_place (get_or-set_other arena head q None None (λ same. away (ap (λ n. Some (Some n)) same)))

pub lent_left : (arena : Arena) (strands : List (ℕ × Option ℕ)) (heads : List ℕ) (lent : List (ℕ × Option ℕ)) → AllByRecursion (λ head. (x : ℕ) → strand_of lent x ≡ Some (Some head) → ⊥) heads → IsLent (of arena strands) lent →
    Lasts (of arena strands) (of (without_all arena heads) strands) lent
lent_left arena strands [] lent apart is = record { still = is; same = λ x. refl }
lent_left arena strands (head ∷ heads) lent apart is =
    let one : Lasts (of arena strands) (of (arena_without arena (Some head)) strands) lent = lent_taken arena strands (Some head) lent (λ x q at_x at_q. apart.0 x (at_x ∙ ap Some (sym at_q))) is in
    let two : Lasts (of (arena_without arena (Some head)) strands) (of (without_all (arena_without arena (Some head)) heads) strands) lent = lent_left (arena_without arena (Some head)) strands heads lent apart.1 one.still in
    record { still = two.still; same = λ x. two.same x ∙ one.same x }

-- what is lent besides stays
pub lasts_without : (pool : PoolState) (ready : ReadyState) (lent : List (ℕ × Option ℕ)) → AreApart ready.strands lent → IsLent pool lent → Lasts pool (pool_without pool ready) lent
lasts_without pool ready lent apart is =
    lent_left pool.arena pool.strands (ready_heads ready) lent
    (heads_are (λ head. (x : ℕ) → strand_of lent x ≡ Some (Some head) → ⊥) (strand_of ready.strands) (λ y head at_y x at_x. apart y x head at_y at_x) ready.xids) is

-- and so do the entries of each xid
pub entries_without : (pool : PoolState) (ready : ReadyState) → IsLent pool ready.strands → (x : ℕ) → entries_at (pool_without pool ready) x ≡ entries_at pool x
entries_without pool ready is x =
    entries_left pool.arena (ready_heads ready) (strand_of pool.strands x)
    (heads_are (λ head. strand_of pool.strands x ≡ Some (Some head) → ⊥) (strand_of ready.strands) (λ y head at_y at_x. is.apart x y head at_x at_y) ready.xids)

-- ---- what is ready in a pool that changes

pub still_ready : (pool pool' : PoolState) (ready : ReadyState) → Lasts pool pool' ready.strands → IsReadyIn pool ready → IsReadyIn pool' ready
still_ready pool pool' ready lasts is = record {
  lent = lasts.still;
  places = λ k d lt. subst (λ (es : List (List ℕ)). (get_or ready.places k d).place < length es) (sym (lasts.same (get_or ready.places k d).xid)) (is.places k d lt);
  known = is.known;
}

pub same_ready : (pool pool' : PoolState) (ready : ReadyState) → Lasts pool pool' ready.strands → ready_entries pool' ready ≡ ready_entries pool ready
same_ready pool pool' ready lasts = shown ready.places
  where
    shown : (places : List PlaceState) → map (entry_at (lent_from pool' ready)) places ≡ map (entry_at (lent_from pool ready)) places
    shown [] = refl
    shown (at ∷ places) = rw (lasts.same at.xid, shown places) refl

-- ---- several that are ready

abbrev AllLast : ReorderState → ReorderState → List ReadyState → Type 0
AllLast old new ws = AllByRecursion (λ (w : ReadyState). Lasts old.strands.pool new.strands.pool w.strands) ws

all_lent : (old new : ReorderState) (ws : List ReadyState) → AllLast old new ws → AreLentIn old ws → AreLentIn new ws
all_lent old new [] last are = tt
all_lent old new (w ∷ ws) last are = (still_ready old.strands.pool new.strands.pool w last.0 are.0, are.1, all_lent old new ws last.1 are.2)

all_same : (old new : ReorderState) (ws : List ReadyState) → AllLast old new ws → map (ready_entries new.strands.pool) ws ≡ map (ready_entries old.strands.pool) ws
all_same old new [] last = refl
all_same old new (w ∷ ws) last = rw (same_ready old.strands.pool new.strands.pool w last.0, all_same old new ws last.1) refl

-- whatever leaves all that is lent leaves these, with their changes
pub entries_lent : (old new : ReorderState) (ws : List ReadyState) → AreLentIn old ws → StaysLent old.strands.pool new.strands.pool →
    AreLentIn new ws × (map (ready_entries new.strands.pool) ws ≡ map (ready_entries old.strands.pool) ws)
entries_lent old new ws are stays = (all_lent old new ws (last ws are) are, all_same old new ws (last ws are))
  where
    last : (ws : List ReadyState) → AreLentIn old ws → AllLast old new ws
    last [] are = tt
    last (w ∷ ws) are = (stays.each w.strands are.0.lent, last ws are.2)

-- the first is given back, and the others stay
pub entries_given_back : (old new : ReorderState) (ready : ReadyState) (ws : List ReadyState) → AreLentIn old (ready ∷ ws) → new ≡ after_giving_back old ready →
    AreLentIn new ws × (map (ready_entries new.strands.pool) ws ≡ map (ready_entries old.strands.pool) ws)
entries_given_back old new ready ws are is =
    subst (λ (s : ReorderState). AreLentIn s ws × (map (ready_entries s.strands.pool) ws ≡ map (ready_entries old.strands.pool) ws)) (sym is)
    (all_lent old (after_giving_back old ready) ws (last ws are.1 are.2) are.2, all_same old (after_giving_back old ready) ws (last ws are.1 are.2))
  where
    last : (ws : List ReadyState) → AllByRecursion (λ (other : ReadyState). AreApart ready.strands other.strands) ws → AreLentIn old ws → AllLast old (after_giving_back old ready) ws
    last [] apart are = tt
    last (w ∷ ws) apart are = (lasts_without old.strands.pool ready w.strands apart.0 are.0.lent, last ws apart.1 are.2)

-- one more is ready, after these
pub lent_more : (old new : ReorderState) (ws : List ReadyState) (ready : ReadyState) → AreLentIn old ws → AreLentIn new ws → IsReadyIn new.strands.pool ready →
    ((lent : List (ℕ × Option ℕ)) → IsLent old.strands.pool lent → AreApart ready.strands lent) → AreLentIn new (ws ++ ready ∷ [])
lent_more old new [] ready before after is apart = (is, tt, tt)
lent_more old new (w ∷ ws) ready before after is apart = (
  after.0,
  all_append (λ (other : ReadyState). AreApart w.strands other.strands) ws (ready ∷ []) after.1 ((λ x y head at_x at_y. apart w.strands before.0.lent y x head at_y at_x), tt),
  lent_more old new ws ready before.2 after.2 is apart,
)

-- ---- all given back

abbrev shown : ℕ → Standing → List (List ℕ) → StrandState
shown x st es = record { above = st.above; changes = map (entry_in x) es }

pub same_given_back : (s : ReorderState) (ready : ReadyState) → IsReadyIn s.strands.pool ready → IsSameTaken s (after_giving_back s ready)
same_given_back s ready is = record {
  strands = record {
    strand = λ x. ap (λ (es : List (List ℕ)). option_map (λ (st : Standing). shown x st es) (lookup (λ k. x == k) s.strands.strands)) (entries_without s.strands.pool ready is.lent x);
    members = λ t. refl;
  };
  failed = refl;
}

same_both : (a b c : ReorderState) → IsSameTaken a b → IsSameTaken b c → IsSameTaken a c
same_both a b c first then = record {
  strands = record { strand = λ x. then.strands.strand x ∙ first.strands.strand x; members = λ t. then.strands.members t ∙ first.strands.members t };
  failed = then.failed ∙ first.failed;
}

same_back : (a b : ReorderState) → IsSameTaken a b → IsSameTaken b a
same_back a b same = record { strands = record { strand = λ x. sym (same.strands.strand x); members = λ t. sym (same.strands.members t) }; failed = sym same.failed }

-- it stands the same with all of these given back
pub same_settled : (s : ReorderState) (ws : List ReadyState) → AreLentIn s ws → IsSameTaken s (after_giving_all_back s ws)
same_settled s [] are = record { strands = record { strand = λ x. refl; members = λ t. refl }; failed = refl }
same_settled s (w ∷ ws) are =
    same_both s (after_giving_back s w) (after_giving_all_back (after_giving_back s w) ws) (same_given_back s w are.0) (same_settled (after_giving_back s w) ws (entries_given_back s (after_giving_back s w) w ws are refl).0)

pub taken_settled : (s : ReorderState) (ws : List ReadyState) (rs : List Record) → AreLentIn s ws → HasTaken s rs → HasTaken (after_giving_all_back s ws) rs
taken_settled s ws rs are taken = same_taken s (after_giving_all_back s ws) rs (same_settled s ws are) taken

pub settled_taken : (s : ReorderState) (ws : List ReadyState) (rs : List Record) → AreLentIn s ws → HasTaken (after_giving_all_back s ws) rs → HasTaken s rs
settled_taken s ws rs are taken = same_taken (after_giving_all_back s ws) s rs (same_back s (after_giving_all_back s ws) (same_settled s ws are)) taken

pub failed_settled : (s : ReorderState) (ws : List ReadyState) → (after_giving_all_back s ws).failed ≡ s.failed
failed_settled s [] = refl
failed_settled s (w ∷ ws) = failed_settled (after_giving_back s w) ws

-- some given back, and then the others
pub settled_both : (s : ReorderState) (ws later : List ReadyState) → after_giving_all_back s (ws ++ later) ≡ after_giving_all_back (after_giving_all_back s ws) later
settled_both s [] later = refl
settled_both s (w ∷ ws) later = settled_both (after_giving_back s w) ws later

-- whether it failed makes no difference to what is lent
pub lent_as : (strands : StrandsState) (a b : Bool) (ws : List ReadyState) → AreLentIn (state strands a) ws → AreLentIn (state strands b) ws
lent_as strands a b [] are = tt
lent_as strands a b (w ∷ ws) are = (are.0, are.1, lent_as strands a b ws are.2)

pub settled_as : (strands : StrandsState) (a b : Bool) (ws : List ReadyState) → (after_giving_all_back (state strands a) ws).strands ≡ (after_giving_all_back (state strands b) ws).strands
settled_as strands a b [] = refl
settled_as strands a b (w ∷ ws) = settled_as (strands_without strands w) a b ws
