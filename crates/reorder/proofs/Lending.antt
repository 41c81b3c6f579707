-- Strands that are lent stay as they are, whatever becomes of the pool's.
use Rattle.std.proofs.Common.{◌≡◌, ◌⊎◌, inl, inr, ℕ, ◌+◌, ◌<◌, ◌≤◌, ◌==◌, Bool, true, false, cond, ◌||◌, List, [], ◌∷◌, get_or, length, take, Option, Some, None, refl, sym, ap, subst, ◌∙◌}
use Rattle.std.specs.Prelude.{IsSome}
use Rattle.std.specs.List.{AllByRecursion}
use Rattle.std.proofs.lemmas.Bool.{eqb-true}
use Rattle.std.proofs.lemmas.List.{take_all, take_more}
use Rattle.std.proofs.lemmas.List.Folds.{list_any-append}
use Rattle.wal.proofs.Lists.{eqb_comm}
use Rattle.chgarena.specs.Strands.{Strands as Arena, IsOf, arena_without}
use Rattle.reorder.specs.Entries.{IsEntry}
use Rattle.reorder.specs.Pool.{AreApart, HoldEntries, IsLent, IsPool, IsSameAt, Lasts, PoolState, PushesAt, StaysLent, entries_by, map_with, strand_of}
use Rattle.reorder.proofs.Opening.{put_cases}
use Rattle.reorder.specs.Ready.{ReadyState}
use Rattle.reorder.specs.Strands.{is_in}
use Rattle.reorder.specs.Chunks.{IsHeldBy, IsOwned, IsWhole, strands_alone}
use Rattle.reorder.proofs.Owning.{back_chunks, of, whole_taken}
use Rattle.reorder.proofs.Pooling.{Stays, back_stays, hold_back, pool_back, pushed_elsewhere, pushed_stays, some_same}

pub stays_itself : (p : PoolState) → StaysLent p p
stays_itself p = record { each = λ lent is. record { still = is; same = λ x. refl } }

pub stays_lent : (p q r : PoolState) → StaysLent p q → StaysLent q r → StaysLent p r
stays_lent p q r first then = record {
  each = λ lent is.
      let one = first.each lent is in
      let two = then.each lent one.still in
      record { still = two.still; same = λ x. two.same x ∙ one.same x };
}

-- each strand of a list stays, so all that is said of the list does
module _ (arena arena' : Arena) (lent : List (ℕ × Option ℕ)) (stay : (x : ℕ) (r : Option ℕ) → strand_of lent x ≡ Some r → Stays arena arena' r) where
  pub same_entries : (x : ℕ) → entries_by arena' (strand_of lent x) ≡ entries_by arena (strand_of lent x)
  same_entries x = by_option (strand_of lent x) refl
    where
      by_option : (o : Option (Option ℕ)) → strand_of lent x ≡ o → entries_by arena' o ≡ entries_by arena o
      by_option None is = refl
      by_option (Some r) is = (stay x r is).entries

  pub pool_kept : IsPool arena lent → IsPool arena' lent
  pool_kept pool = record { made = λ x r is. (stay x r is).made; apart = pool.apart }

  pub hold_kept : HoldEntries arena lent → HoldEntries arena' lent
  hold_kept hold = λ x. subst (AllByRecursion IsEntry) (sym (same_entries x)) (hold x)

  pub lasts : (strands strands' : List (ℕ × Option ℕ)) → IsLent (of arena strands) lent → ((x y head : ℕ) → strand_of strands' x ≡ Some (Some head) → strand_of lent y ≡ Some (Some head) → ⊥)
      → Lasts (of arena strands) (of arena' strands') lent
  lasts strands strands' is apart = record { still = record { own = pool_kept is.own; hold = hold_kept is.hold; apart = apart }; same = same_entries }

itself : (arena : Arena) (r : Option ℕ) → IsOf arena r → Stays arena arena r
itself arena r made = record { made = made; entries = refl }

pub lent_pushed : (xid : ℕ) (entry : List ℕ) (arena : Arena) (strands : List (ℕ × Option ℕ)) (arena' : Arena) (strands' : List (ℕ × Option ℕ)) → PushesAt xid entry arena strands arena' strands' →
    StaysLent (of arena strands) (of arena' strands')
lent_pushed xid entry arena strands arena' strands' p = record {
  each = λ lent is. lasts arena arena' lent
      (λ x r at. pushed_stays arena arena' p.head p.head' entry p.pushed r (is.own.made x r at) (λ q at_r at_o. is.apart xid x q (p.was ∙ ap Some at_o) (at ∙ ap Some at_r)))
      strands strands' is
      (λ x y head at_x at_y. put_cases (λ o. o ≡ Some (Some head) → ⊥) xid x (Some p.head') (strand_of strands)
      (λ same o. pushed_elsewhere arena arena' p.head p.head' entry p.pushed head (is.own.made y (Some head) at_y) (λ here. is.apart xid y head (p.was ∙ ap Some here) at_y)
      (some_same p.pushed.head head (sym p.pushed.begins ∙ some_same p.head' (Some head) o)))
      (λ other o. is.apart x y head o at_y)
      (sym (p.others x) ∙ at_x));
}

-- the strand of one xid goes, or begins anew without entries
without_one : (xid : ℕ) (strands strands' : List (ℕ × Option ℕ)) (w : Option (Option ℕ)) → ((head : ℕ) → w ≡ Some (Some head) → ⊥) → ((x : ℕ) → strand_of strands' x ≡ map_with xid w (strand_of strands) x) →
    (x head : ℕ) → strand_of strands' x ≡ Some (Some head) → strand_of strands x ≡ Some (Some head)
without_one xid strands strands' w none puts x head at =
    put_cases (λ o. o ≡ Some (Some head) → strand_of strands x ≡ Some (Some head)) xid x w (strand_of strands) (λ same o. absurd (none head o)) (λ other o. o) (sym (puts x) ∙ at)

nothing_there : (head : ℕ) → ◌≡◌ {A = Option (Option ℕ)} None (Some (Some head)) → ⊥
nothing_there head is = cc

empty_there : (head : ℕ) → Some None ≡ Some (Some head) → ⊥
empty_there head is = cc

pub lent_back : (xid : ℕ) (arena : Arena) (strands strands' : List (ℕ × Option ℕ)) (o : Option ℕ) → strand_of strands xid ≡ Some o → ((x : ℕ) → strand_of strands' x ≡ map_with xid None (strand_of strands) x) →
    StaysLent (of arena strands) (of (arena_without arena o) strands')
lent_back xid arena strands strands' o was puts = record {
  each = λ lent is. lasts arena (arena_without arena o) lent
      (λ x r at. back_stays arena o r (is.own.made x r at) (λ q at_r at_o. is.apart xid x q (was ∙ ap Some at_o) (at ∙ ap Some at_r)))
      strands strands' is (λ x y head at_x at_y. is.apart x y head (without_one xid strands strands' None nothing_there puts x head at_x) at_y);
}

pub lent_away : (xid : ℕ) (arena : Arena) (strands strands' : List (ℕ × Option ℕ)) → ((x : ℕ) → strand_of strands' x ≡ map_with xid None (strand_of strands) x) → StaysLent (of arena strands) (of arena strands')
lent_away xid arena strands strands' puts = record {
  each = λ lent is. lasts arena arena lent (λ x r at. itself arena r (is.own.made x r at)) strands strands' is
      (λ x y head at_x at_y. is.apart x y head (without_one xid strands strands' None nothing_there puts x head at_x) at_y);
}

pub pool_away : (xid : ℕ) (arena : Arena) (strands strands' : List (ℕ × Option ℕ)) → IsPool arena strands → ((x : ℕ) → strand_of strands' x ≡ map_with xid None (strand_of strands) x) → IsPool arena strands'
pool_away xid arena strands strands' pool puts = record {
  made = λ x r is. pool.made x r (left x r is);
  apart = λ x y q is_x is_y. pool.apart x y q (left x (Some q) is_x) (left y (Some q) is_y);
}
  where
    left : (x : ℕ) (r : Option ℕ) → strand_of strands' x ≡ Some r → strand_of strands x ≡ Some r
    left x r is = put_cases (λ o. o ≡ Some r → strand_of strands x ≡ Some r) xid x None (strand_of strands) (λ same o. let never : None ≡ Some r = o in cc) (λ other o. o) (sym (puts x) ∙ is)

pub hold_away : (xid : ℕ) (arena : Arena) (strands strands' : List (ℕ × Option ℕ)) → HoldEntries arena strands → ((x : ℕ) → strand_of strands' x ≡ map_with xid None (strand_of strands) x) → HoldEntries arena strands'
hold_away xid arena strands strands' hold puts = λ x.
    put_cases (λ o. strand_of strands' x ≡ o → AllByRecursion IsEntry (entries_by arena (strand_of strands' x))) xid x None (strand_of strands)
    (λ same o. subst (λ s. AllByRecursion IsEntry (entries_by arena s)) (sym o) tt) (λ other o. subst (λ s. AllByRecursion IsEntry (entries_by arena s)) (sym o) (hold x)) (puts x)

pub lent_opened : (xid : ℕ) (arena : Arena) (strands strands' : List (ℕ × Option ℕ)) → ((x : ℕ) → strand_of strands' x ≡ map_with xid (Some None) (strand_of strands) x) → StaysLent (of arena strands) (of arena strands')
lent_opened xid arena strands strands' puts = record {
  each = λ lent is. lasts arena arena lent (λ x r at. itself arena r (is.own.made x r at)) strands strands' is
      (λ x y head at_x at_y. is.apart x y head (without_one xid strands strands' (Some None) empty_there puts x head at_x) at_y);
}

pub lent_same : (xid : ℕ) (arena : Arena) (strands strands' : List (ℕ × Option ℕ)) → IsSameAt xid strands strands' → StaysLent (of arena strands) (of arena strands')
lent_same xid arena strands strands' same = record {
  each = λ lent is. lasts arena arena lent (λ x r at. itself arena r (is.own.made x r at)) strands strands' is
      (λ x y head at_x at_y. put_cases (λ o. o ≡ Some (Some head) → ⊥) xid x (Some same.head) (strand_of strands) (λ here o. is.apart xid y head (same.was ∙ o) at_y) (λ other o. is.apart x y head o at_y) (sym (same.all x) ∙ at_x));
}

-- ---- a strand that is taken back

module _ (arena : Arena) (strands : List (ℕ × Option ℕ)) (o : Option ℕ) (apart : (x head : ℕ) → strand_of strands x ≡ Some (Some head) → o ≡ Some head → ⊥) where
  away : (x : ℕ) (r : Option ℕ) → IsOf arena r → strand_of strands x ≡ Some r → Stays arena (arena_without arena o) r
  away x r made is = back_stays arena o r made (λ q at_r at_o. apart x q (is ∙ ap Some at_r) at_o)

  pub pool_taken : IsPool arena strands → IsPool (arena_without arena o) strands
  pool_taken pool = pool_kept arena (arena_without arena o) strands (λ x r is. away x r (pool.made x r is) is) pool

  pub hold_taken : IsPool arena strands → HoldEntries arena strands → HoldEntries (arena_without arena o) strands
  hold_taken pool hold = hold_kept arena (arena_without arena o) strands (λ x r is. away x r (pool.made x r is) is) hold

  pub entries_taken : IsPool arena strands → (x : ℕ) → entries_by (arena_without arena o) (strand_of strands x) ≡ entries_by arena (strand_of strands x)
  entries_taken pool = same_entries arena (arena_without arena o) strands (λ x r is. away x r (pool.made x r is) is)

-- what is lent besides stays
pub lent_taken : (arena : Arena) (strands : List (ℕ × Option ℕ)) (o : Option ℕ) (lent : List (ℕ × Option ℕ)) → ((x head : ℕ) → strand_of lent x ≡ Some (Some head) → o ≡ Some head → ⊥) → IsLent (of arena strands) lent →
    Lasts (of arena strands) (of (arena_without arena o) strands) lent
lent_taken arena strands o lent apart is =
    lasts arena (arena_without arena o) lent (λ x r at. back_stays arena o r (is.own.made x r at) (λ q at_r at_o. apart x q (at ∙ ap Some at_r) at_o)) strands strands is is.apart

-- ---- the strands of some xids are lent

module _ (arena : Arena) (strands left lent : List (ℕ × Option ℕ)) (xids : List ℕ) (stay : (x : ℕ) → strand_of left x ≡ cond (is_in x xids) None (strand_of strands x)) (go : (x : ℕ) → strand_of lent x ≡ cond (is_in x xids) (strand_of strands x) None) where
  went : (x : ℕ) (o : Option ℕ) → strand_of lent x ≡ Some o → (is_in x xids ≡ true) × (strand_of strands x ≡ Some o)
  went x o is = by_test (is_in x xids) refl (sym (go x) ∙ is)
    where
      by_test : (b : Bool) → is_in x xids ≡ b → cond b (strand_of strands x) None ≡ Some o → (is_in x xids ≡ true) × (strand_of strands x ≡ Some o)
      by_test true inn at = (inn, at)
      by_test false out at = let never : None ≡ Some o = at in cc

  stayed : (x : ℕ) (o : Option ℕ) → strand_of left x ≡ Some o → (is_in x xids ≡ false) × (strand_of strands x ≡ Some o)
  stayed x o is = by_test (is_in x xids) refl (sym (stay x) ∙ is)
    where
      by_test : (b : Bool) → is_in x xids ≡ b → cond b None (strand_of strands x) ≡ Some o → (is_in x xids ≡ false) × (strand_of strands x ≡ Some o)
      by_test false out at = (out, at)
      by_test true inn at = let never : None ≡ Some o = at in cc

  pub ready_lent : IsPool arena strands → HoldEntries arena strands → IsLent (of arena left) lent
  ready_lent pool hold = record {
    own = record {
      made = λ x o is. pool.made x o (went x o is).1;
      apart = λ x y head at_x at_y. pool.apart x y head (went x (Some head) at_x).1 (went y (Some head) at_y).1;
    };
    hold = λ x. by_test x (is_in x xids) refl (hold x);
    apart = λ x y head at_x at_y.
        let one = stayed x (Some head) at_x in
        let two = went y (Some head) at_y in
        let same : x ≡ y = pool.apart x y head one.1 two.1 in
        let never : true ≡ false = sym two.0 ∙ ap (λ z. is_in z xids) (sym same) ∙ one.0 in cc;
  }
    where
      by_test : (x : ℕ) (b : Bool) → is_in x xids ≡ b → AllByRecursion IsEntry (entries_by arena (strand_of strands x)) → AllByRecursion IsEntry (entries_by arena (strand_of lent x))
      by_test x true inn all =
          let is : strand_of lent x ≡ strand_of strands x = go x ∙ rw inn refl in
          subst (λ (o : Option (Option ℕ)). AllByRecursion IsEntry (entries_by arena o)) (sym is) all
      by_test x false out all =
          let is : strand_of lent x ≡ None = go x ∙ rw out refl in
          subst (λ (o : Option (Option ℕ)). AllByRecursion IsEntry (entries_by arena o)) (sym is) tt

  pub ready_known : (x : ℕ) → IsSome (strand_of lent x) → is_in x xids ≡ true
  ready_known x some = by_option (strand_of lent x) refl some
    where
      by_option : (o : Option (Option ℕ)) → strand_of lent x ≡ o → IsSome o → is_in x xids ≡ true
      by_option None is some = let never : false ≡ true = some in cc
      by_option (Some o) is some = (went x o is).0

  pub ready_apart : (others : List (ℕ × Option ℕ)) → IsLent (of arena strands) others → AreApart lent others
  ready_apart others is x y head at_x at_y = is.apart x y head (went x (Some head) at_x).1 at_y

  pub left_entries_are : (x : ℕ) → is_in x xids ≡ false → entries_by arena (strand_of left x) ≡ entries_by arena (strand_of strands x)
  left_entries_are x out = let is : strand_of left x ≡ strand_of strands x = stay x ∙ rw out refl in ap (entries_by arena) is

  pub ready_entries_are : (x : ℕ) → is_in x xids ≡ true → entries_by arena (strand_of lent x) ≡ entries_by arena (strand_of strands x)
  ready_entries_are x inn = let is : strand_of lent x ≡ strand_of strands x = go x ∙ rw inn refl in ap (entries_by arena) is

-- ---- taking them back one by one

pub record Taken (pool pool' : PoolState) (lent lent' : List (ℕ × Option ℕ)) : Type 0 where
  pub still : IsLent pool' lent'
  pub strands : pool'.strands ≡ pool.strands
  pub entries : (x : ℕ) → entries_by pool'.arena (strand_of pool'.strands x) ≡ entries_by pool.arena (strand_of pool.strands x)
  pub others : (others : List (ℕ × Option ℕ)) → IsLent pool others → AreApart lent others → Lasts pool pool' others
  pub chunks : length pool'.arena ≡ length pool.arena
  pub whole : (held : List ReadyState) → IsWhole (strands_alone lent ∷ held) pool → IsWhole (strands_alone lent' ∷ held) pool'
  pub fewer : (x head : ℕ) → strand_of lent' x ≡ Some (Some head) → strand_of lent x ≡ Some (Some head)

pub taken_itself : (pool : PoolState) (lent : List (ℕ × Option ℕ)) → IsLent pool lent → Taken pool pool lent lent
taken_itself pool lent is = record {
  still = is;
  strands = refl;
  entries = λ x. refl;
  others = λ others is apart. record { still = is; same = λ x. refl };
  chunks = refl;
  whole = λ held whole. whole;
  fewer = λ x head at. at;
}

pub taken_none : (pool : PoolState) (lent lent' : List (ℕ × Option ℕ)) (xid : ℕ) → IsLent pool lent → strand_of lent xid ≡ None → ((x : ℕ) → strand_of lent' x ≡ map_with xid None (strand_of lent) x) → Taken pool pool lent lent'
taken_none pool lent lent' xid is none puts = record {
  still = record {
    own = record { made = λ x o at. is.own.made x o (sym (same x) ∙ at); apart = λ x y head at_x at_y. is.own.apart x y head (sym (same x) ∙ at_x) (sym (same y) ∙ at_y) };
    hold = λ x. subst (λ o. AllByRecursion IsEntry (entries_by pool.arena o)) (sym (same x)) (is.hold x);
    apart = λ x y head at_x at_y. is.apart x y head at_x (sym (same y) ∙ at_y);
  };
  strands = refl;
  entries = λ x. refl;
  others = λ others is apart. record { still = is; same = λ x. refl };
  chunks = refl;
  whole = λ held whole head within entries at. by_owner held head (whole head within entries at);
  fewer = λ x head at. sym (same x) ∙ at;
}
  where
    same : (x : ℕ) → strand_of lent' x ≡ strand_of lent x
    same x = puts x ∙ put_cases (λ o. o ≡ strand_of lent x) xid x None (strand_of lent) (λ here. sym (ap (strand_of lent) (sym here) ∙ none)) (λ other. refl)

    by_owner : (held : List ReadyState) (head : ℕ) → IsOwned pool head ⊎ IsHeldBy (strands_alone lent ∷ held) head → IsOwned pool head ⊎ IsHeldBy (strands_alone lent' ∷ held) head
    by_owner held head (inl o) = inl o
    by_owner held head (inr (inl (x, at))) = inr (inl (x, same x ∙ at))
    by_owner held head (inr (inr other)) = inr (inr other)

pub taken_some : (pool pool' : PoolState) (lent lent' : List (ℕ × Option ℕ)) (xid : ℕ) (o : Option ℕ) → IsPool pool.arena pool.strands → IsLent pool lent → strand_of lent xid ≡ Some o →
    ((x : ℕ) → strand_of lent' x ≡ map_with xid None (strand_of lent) x) → pool'.arena ≡ arena_without pool.arena o → pool'.strands ≡ pool.strands → Taken pool pool' lent lent'
taken_some pool pool' lent lent' xid o good is was puts arena strands = subst (λ (p : PoolState). Taken pool p lent lent') (sym at) (record {
  still = record {
    own = pool_back xid pool.arena lent lent' o is.own was puts;
    hold = hold_back xid pool.arena lent lent' o is.own is.hold was puts;
    apart = λ x y head at_x at_y. is.apart x y head at_x (fewer y head at_y);
  };
  strands = refl;
  entries = entries_taken pool.arena pool.strands o apart good;
  others = λ others held away. lent_taken pool.arena pool.strands o others (λ x head at_x at_o. away xid x head (was ∙ ap Some at_o) at_x) held;
  chunks = back_chunks pool.arena o;
  whole = whole_taken xid pool.arena pool.strands lent lent' o was puts;
  fewer = fewer;
})
  where
    at : pool' ≡ of (arena_without pool.arena o) pool.strands
    at = ap (λ (a : Arena). of a pool'.strands) arena ∙ ap (of (arena_without pool.arena o)) strands

    fewer : (x head : ℕ) → strand_of lent' x ≡ Some (Some head) → strand_of lent x ≡ Some (Some head)
    fewer x head at = without_one xid lent lent' None nothing_there puts x head at

    apart : (x head : ℕ) → strand_of pool.strands x ≡ Some (Some head) → o ≡ Some head → ⊥
    apart x head at_x at_o = is.apart x xid head at_x (was ∙ ap Some at_o)

pub taken_both : (p q r : PoolState) (l m n : List (ℕ × Option ℕ)) → Taken p q l m → Taken q r m n → Taken p r l n
taken_both p q r l m n first then = record {
  still = then.still;
  strands = then.strands ∙ first.strands;
  entries = λ x. then.entries x ∙ first.entries x;
  others = λ others is apart.
      let one = first.others others is apart in
      let two = then.others others one.still (λ x y head at_x at_y. apart x y head (first.fewer x head at_x) at_y) in
      record { still = two.still; same = λ x. two.same x ∙ one.same x };
  chunks = then.chunks ∙ first.chunks;
  whole = λ held whole. then.whole held (first.whole held whole);
  fewer = λ x head at. first.fewer x head (then.fewer x head at);
}

-- ---- xid by xid

module _ (xids : List ℕ) (i : ℕ) (low : i < length xids) (old strands strands' : ℕ → Option (Option ℕ)) (left : (x : ℕ) → strands x ≡ cond (is_in x (take i xids)) None (old x))
    (puts : (x : ℕ) → strands' x ≡ map_with (get_or xids i 0) None strands x) where
  abbrev xid : ℕ
  xid = get_or xids i 0

  more : (x : ℕ) → is_in x (take (i + 1) xids) ≡ (is_in x (take i xids) || (xid == x))
  more x =
      ap (is_in x) (take_more xids i 0 low) ∙ list_any-append (λ y. x == y) (take i xids) (xid ∷ []) ∙ ap (λ b. is_in x (take i xids) || b) (or_false (x == xid) ∙ eqb_comm x xid)
    where
      or_false : (a : Bool) → (a || false) ≡ a
      or_false true = refl
      or_false false = refl

  pub left_more : (x : ℕ) → strands' x ≡ cond (is_in x (take (i + 1) xids)) None (old x)
  left_more x = by_both (is_in x (take i xids)) (xid == x) (left x) (puts x) ∙ ap (λ b. cond b None (old x)) (sym (more x))
    where
      by_both : (done here : Bool) → strands x ≡ cond done None (old x) → strands' x ≡ cond here None (strands x) → strands' x ≡ cond (done || here) None (old x)
      by_both true true is now = now
      by_both true false is now = now ∙ is
      by_both false true is now = now
      by_both false false is now = now ∙ is

  module _ (lent lent' : ℕ → Option (Option ℕ)) (so_far : (x : ℕ) → lent x ≡ cond (is_in x (take i xids)) (old x) None) where
    pub lent_some : (o : Option ℕ) → strands xid ≡ Some o → ((x : ℕ) → lent' x ≡ map_with xid (Some o) lent x) → (x : ℕ) → lent' x ≡ cond (is_in x (take (i + 1) xids)) (old x) None
    lent_some o is adds x = by_both (is_in x (take i xids)) refl (xid == x) refl (adds x) ∙ ap (λ b. cond b (old x) None) (sym (more x))
      where
        found : (done : Bool) → is_in x (take i xids) ≡ done → xid ≡ x → lent' x ≡ Some o → lent' x ≡ old x
        found true inn same now = let never : None ≡ Some o = sym (left x ∙ rw inn refl) ∙ ap strands (sym same) ∙ is in cc
        found false out same now = now ∙ sym is ∙ ap strands same ∙ left x ∙ rw out refl

        by_both : (done : Bool) → is_in x (take i xids) ≡ done → (here : Bool) → (xid == x) ≡ here → lent' x ≡ cond here (Some o) (lent x) → lent' x ≡ cond (done || here) (old x) None
        by_both true inn true same now = found true inn (eqb-true xid x same) now
        by_both false out true same now = found false out (eqb-true xid x same) now
        by_both true inn false other now = now ∙ so_far x ∙ rw inn refl
        by_both false out false other now = now ∙ so_far x ∙ rw out refl

    pub lent_none : strands xid ≡ None → ((x : ℕ) → lent' x ≡ lent x) → (x : ℕ) → lent' x ≡ cond (is_in x (take (i + 1) xids)) (old x) None
    lent_none is same x = same x ∙ by_both (is_in x (take i xids)) refl (xid == x) refl ∙ ap (λ b. cond b (old x) None) (sym (more x))
      where
        by_both : (done : Bool) → is_in x (take i xids) ≡ done → (here : Bool) → (xid == x) ≡ here → lent x ≡ cond (done || here) (old x) None
        by_both true inn here at = so_far x ∙ rw inn refl
        by_both false out false other = so_far x ∙ rw out refl
        by_both false out true at = so_far x ∙ rw out (sym is ∙ ap strands (eqb-true xid x at) ∙ left x ∙ rw out refl)

-- all are gone
pub gone_all : (xids : List ℕ) (i : ℕ) → length xids ≤ i → (old lent : ℕ → Option (Option ℕ)) → ((x : ℕ) → lent x ≡ cond (is_in x (take i xids)) None (old x)) → ((x : ℕ) → IsSome (old x) → is_in x xids ≡ true) → (x : ℕ) → lent x ≡ None
gone_all xids i high old lent left known x = left x ∙ ap (λ ys. cond (is_in x ys) None (old x)) (take_all i xids high) ∙ by_option (old x) (is_in x xids) (known x)
  where
    by_option : (o : Option (Option ℕ)) (b : Bool) → (IsSome o → b ≡ true) → cond b None o ≡ None
    by_option None true known = refl
    by_option None false known = refl
    by_option (Some o) true known = refl
    by_option (Some o) false known = let never : false ≡ true = known refl in cc
