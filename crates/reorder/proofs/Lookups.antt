-- What is kept, seen as functions of an xid: its strand, with the changes that lie in the pool.
use Rattle.std.proofs.Common.{◌≡◌, ℕ, ◌==◌, Bool, true, false, cond, ◌&&◌, ◌||◌, List, [], ◌∷◌, ◌++◌, reverse, Option, Some, None, map, refl, sym, ap, subst, ◌∙◌, eq-eqb}
use Rattle.std.proofs.lemmas.Bool.{eqb-true}
use Rattle.std.proofs.lemmas.List.{map-append}
use Rattle.std.specs.List.{flat_map}
use Rattle.std.specs.Map.{lookup}
use Rattle.std.specs.Option.{option_map}
use Rattle.wal.specs.Log.{last_of}
use Rattle.reorder.specs.Entries.{entry_in}
use Rattle.reorder.specs.Pool.{PoolState, entries_at, map_with, with_entries}
use Rattle.reorder.specs.Strands.{StrandState, Standing, StrandsState, IsSame, all_in, by_xid, without_transaction, fresh, above_of, is_in, kept_spots, spots_of, strand_at, with_change, with_changes, with_member, above_in, above_standing, back_from_last, back_in, behind, strand_after_rollback, with_transaction, with_subtransaction, with_change_of, after_rollback_of}
use Rattle.reorder.specs.Spots.{SpotState}
use Rattle.reorder.proofs.Opening.{put_cases}

-- where the entries of an xid stay, so does its strand
pub shown_same : (pool pool' : PoolState) (x : ℕ) (o : Option Standing) → entries_at pool' x ≡ entries_at pool x → option_map (with_changes pool' x) o ≡ option_map (with_changes pool x) o
shown_same pool pool' x None same = refl
shown_same pool pool' x (Some s) same = rw same refl

abbrev at : List (ℕ × Standing) → ℕ → Option Standing
at strands x = lookup (λ k. x == k) strands

-- the strand of an xid, where that of one xid was put anew, and the entries of that xid too
put_shown : (pool pool' : PoolState) (strands strands' : List (ℕ × Standing)) (xid : ℕ) (entries : List (List ℕ)) (w : Option Standing) (to : Option StrandState) →
    ((x : ℕ) → entries_at pool' x ≡ with_entries pool xid entries x) → ((x : ℕ) → at strands' x ≡ map_with xid w (at strands) x) →
    (entries_at pool' xid ≡ entries → option_map (with_changes pool' xid) w ≡ to) → (x : ℕ) → strand_at strands' pool' x ≡ map_with xid to (strand_at strands pool) x
put_shown pool pool' strands strands' xid entries w to has puts here x = by_test (xid == x) refl
  where
    own : xid ≡ x → entries_at pool' xid ≡ entries
    own same = has xid ∙ rw (eq-eqb xid xid refl) refl

    by_test : (b : Bool) → (xid == x) ≡ b → strand_at strands' pool' x ≡ cond b to (strand_at strands pool x)
    by_test true is =
        let same : xid ≡ x = eqb-true xid x is in
        ap (option_map (with_changes pool' x)) (puts x ∙ rw is refl) ∙ ap (λ z. option_map (with_changes pool' z) w) (sym same) ∙ here (own same)
    by_test false is =
        ap (option_map (with_changes pool' x)) (puts x ∙ rw is refl) ∙ shown_same pool pool' x (at strands x) (has x ∙ rw is refl)

-- a change more
pub pushed_same : (strands : List (ℕ × Standing)) (members : List (ℕ × List ℕ)) (pool pool' : PoolState) (xid : ℕ) (entry : List ℕ) →
    ((x : ℕ) → entries_at pool' x ≡ with_entries pool xid (entries_at pool xid ++ entry ∷ []) x) →
    IsSame (by_xid (record { strands = strands; members = members; pool = pool' })) (with_change_of xid (entry_in xid entry) (by_xid (record { strands = strands; members = members; pool = pool })))
pushed_same strands members pool pool' xid entry has = record {
  strand = put_shown pool pool' strands strands xid (entries_at pool xid ++ entry ∷ []) (at strands xid) (option_map (with_change (entry_in xid entry)) (strand_at strands pool xid)) has
      (λ x. sym (put_cases (λ o. o ≡ at strands x) xid x (at strands xid) (at strands) (λ same. ap (at strands) same) (λ other. refl))) (grown (at strands xid));
  members = λ t. refl;
}
  where
    grown : (o : Option Standing) → entries_at pool' xid ≡ entries_at pool xid ++ entry ∷ [] →
        option_map (with_changes pool' xid) o ≡ option_map (with_change (entry_in xid entry)) (option_map (with_changes pool xid) o)
    grown None is = refl
    grown (Some s) is = ap (λ es. Some (record { above = s.above; changes = es })) (ap (map (entry_in xid)) is ∙ map-append (entry_in xid) (entries_at pool xid) (entry ∷ []))

pub started_same : (strands strands' : List (ℕ × Standing)) (members members' : List (ℕ × List ℕ)) (pool pool' : PoolState) (xid : ℕ) →
    ((x : ℕ) → entries_at pool' x ≡ with_entries pool xid [] x) → ((x : ℕ) → at strands' x ≡ map_with xid (Some (record { above = [] })) (at strands) x) →
    ((t : ℕ) → lookup (λ k. t == k) members' ≡ map_with xid (Some (xid ∷ [])) (λ t'. lookup (λ k. t' == k) members) t) →
    IsSame (by_xid (record { strands = strands'; members = members'; pool = pool' })) (with_transaction xid (by_xid (record { strands = strands; members = members; pool = pool })))
started_same strands strands' members members' pool pool' xid has puts all = record {
  strand = put_shown pool pool' strands strands' xid [] (Some (record { above = [] })) (Some (fresh [])) has puts (λ is. ap (λ es. Some (record { above = []; changes = map (entry_in xid) es })) is);
  members = all;
}

pub undone_same : (strands : List (ℕ × Standing)) (members : List (ℕ × List ℕ)) (pool pool' : PoolState) (xid : ℕ) →
    ((x : ℕ) → entries_at pool' x ≡ cond ((xid == x) || (is_in x (behind xid (back_in (record { strands = strands; members = members; pool = pool }) xid)) && is_in xid (above_standing (at strands x)))) [] (entries_at pool x)) →
    IsSame (by_xid (record { strands = strands; members = members; pool = pool' })) (after_rollback_of xid (by_xid (record { strands = strands; members = members; pool = pool })))
undone_same strands members pool pool' xid has = record {
  strand = λ x. by_option x (at strands x) (has x);
  members = λ t. refl;
}
  where
    back_is : back_from_last (by_xid (record { strands = strands; members = members; pool = pool })) xid ≡ back_in (record { strands = strands; members = members; pool = pool }) xid
    back_is = ap (λ above. reverse (all_in (lookup (λ k. last_of xid above == k) members))) (shown_above (at strands xid))
      where
        shown_above : (o : Option Standing) → above_in (option_map (with_changes pool xid) o) ≡ above_standing o
        shown_above None = refl
        shown_above (Some t) = refl

    -- of one xid, where `gone` tells whether its entries went
    shown : (x : ℕ) (gone : Bool) (t : Standing) → entries_at pool' x ≡ cond gone [] (entries_at pool x) →
        with_changes pool' x t ≡ record { above = t.above; changes = cond gone [] (map (entry_in x) (entries_at pool x)) }
    shown x true t same = rw same refl
    shown x false t same = rw same refl

    by_option : (x : ℕ) (o : Option Standing) → entries_at pool' x ≡ cond ((xid == x) || (is_in x (behind xid (back_in (record { strands = strands; members = members; pool = pool }) xid)) && is_in xid (above_standing o))) [] (entries_at pool x) →
        option_map (with_changes pool' x) o ≡ option_map (strand_after_rollback xid (back_from_last (by_xid (record { strands = strands; members = members; pool = pool })) xid) x) (option_map (with_changes pool x) o)
    by_option x None same = refl
    by_option x (Some t) same = rw back_is (ap Some (shown x ((xid == x) || (is_in x (behind xid (back_in (record { strands = strands; members = members; pool = pool }) xid)) && is_in xid t.above)) t same))

-- entries that go by either test
pub either : (a b : Bool) (es : List (List ℕ)) → cond a [] (cond b [] es) ≡ cond (a || b) [] es
either true b es = refl
either false b es = refl

-- the same where the entries of those under it went first
pub undone_after : (s : StrandsState) (strands : List (ℕ × Standing)) (members : List (ℕ × List ℕ)) (pool pool' : PoolState) (xid : ℕ) → strands ≡ s.strands → members ≡ s.members →
    ((x : ℕ) → entries_at pool x ≡ cond (is_in x (behind xid (back_in s xid)) && is_in xid (above_standing (at s.strands x))) [] (entries_at s.pool x)) →
    ((x : ℕ) → entries_at pool' x ≡ with_entries pool xid [] x) → IsSame (by_xid (record { strands = strands; members = members; pool = pool' })) (after_rollback_of xid (by_xid s))
undone_after s strands members pool pool' xid same_strands same_members under has =
    subst (λ (ss : List (ℕ × Standing)). IsSame (by_xid (record { strands = ss; members = members; pool = pool' })) (after_rollback_of xid (by_xid s))) (sym same_strands)
    (subst (λ (ms : List (ℕ × List ℕ)). IsSame (by_xid (record { strands = s.strands; members = ms; pool = pool' })) (after_rollback_of xid (by_xid s))) (sym same_members)
    (undone_same s.strands s.members s.pool pool' xid
    (λ x. has x ∙ ap (λ es. cond (xid == x) [] es) (under x) ∙ either (xid == x) (is_in x (behind xid (back_in s xid)) && is_in xid (above_standing (at s.strands x))) (entries_at s.pool x))))

-- where the entries go of what stands after an xid among those of its transaction
pub given_back : (strands : List (ℕ × Standing)) (members : List (ℕ × List ℕ)) (pool pool' : PoolState) (xid top : ℕ) (ms xs : List ℕ) →
    top ≡ last_of xid (above_standing (at strands xid)) → lookup (λ k. top == k) members ≡ Some ms → xs ≡ ms →
    ((x : ℕ) → entries_at pool' x ≡ cond (is_in x (behind xid (reverse xs)) && is_in xid (above_standing (at strands x))) [] (entries_at pool x)) →
    (x : ℕ) → entries_at pool' x ≡ cond (is_in x (behind xid (back_in (record { strands = strands; members = members; pool = pool }) xid)) && is_in xid (above_standing (at strands x))) [] (entries_at pool x)
given_back strands members pool pool' xid top ms xs top_is found is each x =
    each x ∙ ap (λ ys. cond (is_in x (behind xid (reverse ys)) && is_in xid (above_standing (at strands x))) [] (entries_at pool x))
    (is ∙ sym (ap all_in (ap (λ t. lookup (λ k. t == k) members) (sym top_is) ∙ found)))

-- a subtransaction comes under its parent
pub assigned_same : (strands strands' : List (ℕ × Standing)) (members members' : List (ℕ × List ℕ)) (pool pool' : PoolState) (sub parent top : ℕ) (above : List ℕ) →
    above ≡ parent ∷ above_of (by_xid (record { strands = strands; members = members; pool = pool })) parent → top ≡ last_of parent above →
    ((x : ℕ) → entries_at pool' x ≡ with_entries pool sub [] x) → ((x : ℕ) → at strands' x ≡ map_with sub (Some (record { above = above })) (at strands) x) →
    ((t : ℕ) → lookup (λ k. t == k) members' ≡ map_with top (option_map (with_member sub) (lookup (λ k. top == k) members)) (λ t'. lookup (λ k. t' == k) members) t) →
    IsSame (by_xid (record { strands = strands'; members = members'; pool = pool' })) (with_subtransaction sub parent (by_xid (record { strands = strands; members = members; pool = pool })))
assigned_same strands strands' members members' pool pool' sub parent top above is last has puts all = record {
  strand = λ x. put_shown pool pool' strands strands' sub [] (Some (record { above = above })) (Some (fresh above)) has puts
      (λ none. ap (λ es. Some (record { above = above; changes = map (entry_in sub) es })) none) x ∙ rw is refl;
  members = λ t. all t ∙ rw (last, is) refl;
}

-- where xids go, and their entries
pub ended_same : (strands strands' : List (ℕ × Standing)) (members members' : List (ℕ × List ℕ)) (pool pool' : PoolState) (top : ℕ) (xids : List ℕ) →
    lookup (λ k. top == k) members ≡ Some xids → ((x : ℕ) → entries_at pool' x ≡ cond (is_in x xids) [] (entries_at pool x)) →
    ((x : ℕ) → at strands' x ≡ cond (is_in x xids) None (at strands x)) → ((t : ℕ) → lookup (λ k. t == k) members' ≡ map_with top None (λ t'. lookup (λ k. t' == k) members) t) →
    IsSame (by_xid (record { strands = strands'; members = members'; pool = pool' })) (without_transaction top (by_xid (record { strands = strands; members = members; pool = pool })))
ended_same strands strands' members members' pool pool' top xids is has puts all = record {
  strand = λ x. rw is (by_test x (is_in x xids) (has x) (puts x));
  members = all;
}
  where
    by_test : (x : ℕ) (b : Bool) → entries_at pool' x ≡ cond b [] (entries_at pool x) → at strands' x ≡ cond b None (at strands x) → strand_at strands' pool' x ≡ cond b None (strand_at strands pool x)
    by_test x true same gone = ap (option_map (with_changes pool' x)) gone
    by_test x false same stays = ap (option_map (with_changes pool' x)) stays ∙ shown_same pool pool' x (at strands x) same

-- the same with their entries lent
pub ended_lent : (strands strands' : List (ℕ × Standing)) (members members' : List (ℕ × List ℕ)) (pool pool' : PoolState) (top : ℕ) (xids : List ℕ) →
    all_in (lookup (λ k. top == k) members) ≡ xids → ((x : ℕ) → is_in x xids ≡ false → entries_at pool' x ≡ entries_at pool x) → ((x : ℕ) → at strands' x ≡ cond (is_in x xids) None (at strands x)) →
    ((t : ℕ) → lookup (λ k. t == k) members' ≡ map_with top None (λ t'. lookup (λ k. t' == k) members) t) →
    IsSame (by_xid (record { strands = strands'; members = members'; pool = pool' })) (without_transaction top (by_xid (record { strands = strands; members = members; pool = pool })))
ended_lent strands strands' members members' pool pool' top xids is same puts all = record {
  strand = λ x. rw is (by_test x (is_in x xids) refl (puts x));
  members = all;
}
  where
    by_test : (x : ℕ) (b : Bool) → is_in x xids ≡ b → at strands' x ≡ cond b None (at strands x) → strand_at strands' pool' x ≡ cond b None (strand_at strands pool x)
    by_test x true inn gone = ap (option_map (with_changes pool' x)) gone
    by_test x false out stays = ap (option_map (with_changes pool' x)) stays ∙ shown_same pool pool' x (at strands x) (same x out)

pub spots_same : (strands : List (ℕ × Standing)) (members : List (ℕ × List ℕ)) (pool : PoolState) (top : ℕ) (xids : List ℕ) (spots : List SpotState) →
    lookup (λ k. top == k) members ≡ Some xids → spots ≡ flat_map (kept_spots pool (at strands)) xids → spots ≡ spots_of (record { strands = strands; members = members; pool = pool }) top
spots_same strands members pool top xids spots is all = all ∙ rw is refl

-- where all entries stay
pub back_same : (strands : List (ℕ × Standing)) (members : List (ℕ × List ℕ)) (pool pool' : PoolState) → ((x : ℕ) → entries_at pool' x ≡ entries_at pool x) →
    IsSame (by_xid (record { strands = strands; members = members; pool = pool' })) (by_xid (record { strands = strands; members = members; pool = pool }))
back_same strands members pool pool' same = record { strand = λ x. shown_same pool pool' x (at strands x) (same x); members = λ t. refl }
