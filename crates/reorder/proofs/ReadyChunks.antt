-- What a Commit makes ready takes the chunks that its changes fill, xid by xid.
use Rattle.std.proofs.Common.{◌≡◌, ℕ, ◌+◌, ◌==◌, Bool, true, false, cond, ◌&&◌, ◌||◌, not, List, [], ◌∷◌, Option, Some, None, refl, sym, ap, subst, ◌∙◌, arith}
use Rattle.std.specs.Prelude.{IsSome}
use Rattle.std.specs.List.{AllByRecursion, filter, sum_by}
use Rattle.std.specs.Map.{lookup}
use Rattle.std.specs.Option.{option_map}
use Rattle.std.proofs.lemmas.Bool.{eqb-true}
use Rattle.std.proofs.lemmas.List.Sums.{sum_by-append, sum_by-cons}
use Rattle.chgarena.specs.Fill.{fill, sizes}
use Rattle.chgarena.specs.Strands.{Strands as Arena}
use Rattle.wal.specs.declared.record.Record.{Record}
use Rattle.wal.specs.Log.{Entry, IsOpen, entries, has_ended, is_assigned, is_dropped, kept_changes, last_of}
use Rattle.wal.proofs.Laws.{all_when, chain-unassigned}
use Rattle.wal.proofs.Lists.{all_agree, each, eqb_comm, filter_agrees, filter_none, filter_twice}
use Rattle.reorder.specs.Pool.{HoldEntries, entries_by, map_with, strand_of}
use Rattle.reorder.specs.Ready.{PlaceState}
use Rattle.reorder.specs.Strands.{AreDistinct, AreMerged, Standing, StrandsState, all_in, by_xid, changes_at, changes_in, is_in, with_changes}
use Rattle.reorder.specs.Bookkeeping.{AreStrandsOf, IsTransaction}
use Rattle.reorder.specs.Chunks.{chunks_for, transaction_chunks, xids_of}
use Rattle.reorder.specs.Settled.{head_in, heads_of, ready_chunks}
use Rattle.reorder.proofs.Committing.{each_in, kept_in_order, kept_members, kept_xid}
use Rattle.reorder.proofs.Counting.{none_else, once, others, sizes_are, strand_fill, sum_same}
use Rattle.reorder.proofs.Owning.{of}

-- ---- sums over xids

sum_none : (f : ℕ → ℕ) (xs : List ℕ) → ((x : ℕ) → f x ≡ 0) → sum_by f xs ≡ 0
sum_none f [] none = refl
sum_none f (x ∷ xs) none =
    let first : f x ≡ 0 = none x in
    let rest : sum_by f xs ≡ 0 = sum_none f xs none in
    omega (arith, sum_by-cons f x xs)

-- 0 at one xid, and elsewhere the same
abbrev without : ℕ → (ℕ → ℕ) → ℕ → ℕ
without x f y = cond (y == x) 0 (f y)

sum_elsewhere : (x : ℕ) (f : ℕ → ℕ) (xs : List ℕ) → is_in x xs ≡ false → sum_by (without x f) xs ≡ sum_by f xs
sum_elsewhere x f xs out =
    sum_same (without x f) f xs (all_when (λ y. (y == x) ≡ false) (λ y. without x f y ≡ f y) (λ y other. ap (λ b. cond b 0 (f y)) other) xs (others x xs out))

sum_with : (x : ℕ) (f : ℕ → ℕ) (xs : List ℕ) → AreDistinct xs → is_in x xs ≡ true → f x + sum_by (without x f) xs ≡ sum_by f xs
sum_with x f [] distinct inn = let never : false ≡ true = inn in cc
sum_with x f (y ∷ xs) distinct inn = by_test (sum_with x f xs distinct.1) (x == y) refl inn
  where
    by_test : (is_in x xs ≡ true → f x + sum_by (without x f) xs ≡ sum_by f xs) → (b : Bool) → (x == y) ≡ b → (b || is_in x xs) ≡ true → f x + sum_by (without x f) (y ∷ xs) ≡ sum_by f (y ∷ xs)
    by_test later true same at =
        let value : f x ≡ f y = ap f (eqb-true x y same) in
        let first : without x f y ≡ 0 = ap (λ b. cond b 0 (f y)) (eqb_comm y x ∙ same) in
        let rest : sum_by (without x f) xs ≡ sum_by f xs = sum_elsewhere x f xs (ap (λ z. is_in z xs) (eqb-true x y same) ∙ distinct.0) in
        omega (arith, sum_by-cons (without x f) y xs, sum_by-cons f y xs)
    by_test later false other at =
        let first : without x f y ≡ f y = ap (λ b. cond b 0 (f y)) (eqb_comm y x ∙ other) in
        let rest : f x + sum_by (without x f) xs ≡ sum_by f xs = later at in
        omega (arith, sum_by-cons (without x f) y xs, sum_by-cons f y xs)

-- lists of xids that have each at which it isn't 0, and none twice, give the same
sum_alike : (xs : List ℕ) (f : ℕ → ℕ) (ys : List ℕ) → AreDistinct xs → AreDistinct ys → ((x : ℕ) → is_in x xs ≡ false → f x ≡ 0) → ((x : ℕ) → is_in x ys ≡ false → f x ≡ 0) → sum_by f xs ≡ sum_by f ys
sum_alike [] f ys distinct distinct' none none' = sym (sum_none f ys (λ x. none x refl))
sum_alike (x ∷ xs) f ys distinct distinct' none none' =
    by_test (sum_alike xs (without x f) ys distinct.1 distinct' (λ y out. first y out (y == x) refl) (λ y out. second y out (y == x) refl)) (is_in x ys) refl
  where
    first : (y : ℕ) → is_in y xs ≡ false → (b : Bool) → (y == x) ≡ b → cond b 0 (f y) ≡ 0
    first y out true same = refl
    first y out false other = none y (rw (other, out) refl)

    second : (y : ℕ) → is_in y ys ≡ false → (b : Bool) → (y == x) ≡ b → cond b 0 (f y) ≡ 0
    second y out true same = refl
    second y out false other = none' y out

    by_test : sum_by (without x f) xs ≡ sum_by (without x f) ys → (b : Bool) → is_in x ys ≡ b → sum_by f (x ∷ xs) ≡ sum_by f ys
    by_test later true inn =
        let rest : sum_by (without x f) xs ≡ sum_by f xs = sum_elsewhere x f xs distinct.0 in
        let own : f x + sum_by (without x f) ys ≡ sum_by f ys = sum_with x f ys distinct' inn in
        omega (arith, sum_by-cons f x xs)
    by_test later false out =
        let rest : sum_by (without x f) xs ≡ sum_by f xs = sum_elsewhere x f xs distinct.0 in
        let own : sum_by (without x f) ys ≡ sum_by f ys = sum_elsewhere x f ys out in
        let nothing : f x ≡ 0 = none' x out in
        omega (arith, sum_by-cons f x xs)

-- ---- the chunks of the strands of some xids

abbrev fill_at : Arena → ℕ → ℕ
fill_at arena head = strand_fill arena (Some head)

by_head : (arena : Arena) (o : Option (Option ℕ)) → sum_by (fill_at arena) (head_in o) ≡ fill (sizes (entries_by arena o))
by_head arena None = refl
by_head arena (Some None) = refl
by_head arena (Some (Some head)) = omega (arith, sum_by-cons (fill_at arena) head [])

by_heads : (arena : Arena) (strand : ℕ → Option (Option ℕ)) (xs : List ℕ) → AreDistinct xs → sum_by (fill_at arena) (heads_of strand xs) ≡ sum_by (λ x. fill (sizes (entries_by arena (strand x)))) xs
by_heads arena strand [] distinct = refl
by_heads arena strand (x ∷ xs) distinct =
    let first : sum_by (fill_at arena) (head_in (strand x)) ≡ fill (sizes (entries_by arena (strand x))) = by_head arena (strand x) in
    let later : sum_by (fill_at arena) (heads_of (map_with x None strand) xs) ≡ sum_by (λ y. fill (sizes (entries_by arena (map_with x None strand y)))) xs = by_heads arena (map_with x None strand) xs distinct.1 in
    let same : sum_by (λ y. fill (sizes (entries_by arena (map_with x None strand y)))) xs ≡ sum_by (λ y. fill (sizes (entries_by arena (strand y)))) xs =
    sum_same _ _ xs (all_when (λ y. (y == x) ≡ false) (λ y. fill (sizes (entries_by arena (map_with x None strand y))) ≡ fill (sizes (entries_by arena (strand y))))
    (λ y other. ap (λ b. fill (sizes (entries_by arena (cond b None (strand y))))) (eqb_comm x y ∙ other)) xs (others x xs distinct.0)) in
    omega (arith, sum_by-append (fill_at arena) (head_in (strand x)) (heads_of (map_with x None strand) xs), sum_by-cons (λ y. fill (sizes (entries_by arena (strand y)))) x xs)

-- those of strands that are lent are those that the changes of their xids fill
pub chunks_of_lent : (arena : Arena) (strands lent : List (ℕ × Option ℕ)) (xids : List ℕ) (places : List PlaceState) → HoldEntries arena strands → ((x : ℕ) → strand_of lent x ≡ cond (is_in x xids) (strand_of strands x) None) → AreDistinct xids →
    ready_chunks arena (record { xids = xids; strands = lent; places = places }) ≡ sum_by (λ x. chunks_for (changes_at (of arena strands) x)) xids
chunks_of_lent arena strands lent xids places hold go distinct =
    by_heads arena (strand_of lent) xids distinct
    ∙ sum_same _ _ xids (each_in (λ x. fill (sizes (entries_by arena (strand_of lent x))) ≡ chunks_for (changes_at (of arena strands) x)) xids (λ x inn.
    ap (λ o. fill (sizes (entries_by arena o))) (go x ∙ ap (λ b. cond b (strand_of strands x) None) inn) ∙ ap fill (sizes_are x (entries_by arena (strand_of strands x)) (hold x))))

-- ---- those of a transaction

and_false : (a : Bool) → (a && false) ≡ false
and_false true = refl
and_false false = refl

-- of the changes of some xids, those of one of them
of_one : (es : List Entry) (xs : List ℕ) (x : ℕ) → is_in x xs ≡ true → filter (λ e. e.xid == x) (filter (λ e. is_in e.xid xs) es) ≡ filter (λ e. e.xid == x) es
of_one es xs x inn = filter_twice (λ e. e.xid == x) (λ e. is_in e.xid xs) es ∙ filter_agrees _ _ es (all_agree _ _ (λ (e : Entry). by_test e (e.xid == x) refl) es)
  where
    by_test : (e : Entry) (b : Bool) → (e.xid == x) ≡ b → (is_in e.xid xs && b) ≡ b
    by_test e true same = rw (ap (λ y. is_in y xs) (eqb-true e.xid x same) ∙ inn) refl
    by_test e false other = and_false (is_in e.xid xs)

-- and of another xid none
of_none : (es : List Entry) (xs : List ℕ) (x : ℕ) → is_in x xs ≡ false → filter (λ e. e.xid == x) (filter (λ e. is_in e.xid xs) es) ≡ []
of_none es xs x out =
    filter_twice (λ e. e.xid == x) (λ e. is_in e.xid xs) es ∙ filter_none _ es (each (λ (e : Entry). (is_in e.xid xs && (e.xid == x)) ≡ false) (λ e. by_test e (e.xid == x) refl) es)
  where
    by_test : (e : Entry) (b : Bool) → (e.xid == x) ≡ b → (is_in e.xid xs && b) ≡ false
    by_test e true same = rw (ap (λ y. is_in y xs) (eqb-true e.xid x same) ∙ out) refl
    by_test e false other = and_false (is_in e.xid xs)

-- the changes of an xid that has a strand
changes_there : (s : StrandsState) (x : ℕ) → IsSome ((by_xid s).strand x) → changes_at s.pool x ≡ changes_in ((by_xid s).strand x)
changes_there s x some = by_option (lookup (λ k. x == k) s.strands) some
  where
    by_option : (o : Option Standing) → IsSome (option_map (with_changes s.pool x) o) → changes_at s.pool x ≡ changes_in (option_map (with_changes s.pool x) o)
    by_option None has = let never : false ≡ true = has in cc
    by_option (Some st) has = refl

-- the changes of the xids of a transaction, each in order, fill as many chunks as what it keeps
by_members : (s : StrandsState) (rs : List Record) (t : ℕ) → AreStrandsOf (by_xid s) rs → has_ended rs t ≡ false → AreDistinct (all_in ((by_xid s).members t)) → AllByRecursion (λ x. IsSome ((by_xid s).strand x)) (all_in ((by_xid s).members t)) →
    sum_by (λ x. chunks_for (changes_at s.pool x)) (all_in ((by_xid s).members t)) ≡ transaction_chunks (kept_changes rs t)
by_members s rs t book running distinct some =
    sum_same _ _ xs (each_both xs (each_in (λ x. is_in x xs ≡ true) xs (λ x inn. inn)) some)
    ∙ sum_alike xs (λ x. chunks_for (filter (λ e. e.xid == x) kept)) (xids_of kept) distinct (once kept) (λ x out. ap chunks_for (of_none live xs x out)) (λ x out. ap chunks_for (none_else x kept out))
    ∙ ap transaction_chunks (kept_members (by_xid s) rs t book running)
  where
    xs : List ℕ
    xs = all_in ((by_xid s).members t)

    live : List Entry
    live = filter (λ e. not (is_dropped rs e.xid)) (entries rs)

    kept : List Entry
    kept = filter (λ e. is_in e.xid xs) live

    each_both : (ys : List ℕ) → AllByRecursion (λ y. is_in y xs ≡ true) ys → AllByRecursion (λ y. IsSome ((by_xid s).strand y)) ys →
        AllByRecursion (λ y. chunks_for (changes_at s.pool y) ≡ chunks_for (filter (λ e. e.xid == y) kept)) ys
    each_both [] inn has = tt
    each_both (y ∷ ys) inn has = (ap chunks_for (changes_there s y has.0 ∙ kept_xid (by_xid s) rs y book has.0 ∙ sym (of_one live xs y inn.0)), each_both ys inn.1 has.1)

-- what is ready of a transaction that may commit fills them
pub commit_filled : (s : StrandsState) (rs : List Record) (t : ℕ) (es : List Entry) (chunks : ℕ) → AreStrandsOf (by_xid s) rs → is_assigned rs t ≡ false → IsOpen rs t → AreMerged (by_xid s) t es →
    (AreDistinct (all_in ((by_xid s).members t)) → chunks ≡ sum_by (λ x. chunks_for (changes_at s.pool x)) (all_in ((by_xid s).members t))) → chunks ≡ transaction_chunks es
commit_filled s rs t es chunks book own alive merged are = by_option ((by_xid s).members t) refl
  where
    running : has_ended rs t ≡ false
    running = ap (has_ended rs) (sym (ap (last_of t) (chain-unassigned rs t own))) ∙ alive.running

    of_these : (xs : List ℕ) → all_in ((by_xid s).members t) ≡ xs → AreDistinct xs → AllByRecursion (λ x. IsSome ((by_xid s).strand x)) xs → chunks ≡ transaction_chunks es
    of_these xs is distinct some =
        let distinct' : AreDistinct (all_in ((by_xid s).members t)) = subst AreDistinct (sym is) distinct in
        are distinct'
        ∙ by_members s rs t book running distinct' (subst (AllByRecursion (λ x. IsSome ((by_xid s).strand x))) (sym is) some)
        ∙ ap transaction_chunks (sym (kept_in_order (by_xid s) rs t es book running merged))

    by_option : (o : Option (List ℕ)) → (by_xid s).members t ≡ o → chunks ≡ transaction_chunks es
    by_option None is = of_these [] (ap all_in is) tt tt
    by_option (Some xs) is = let w : IsTransaction (by_xid s) rs t xs = book.transactions t xs is in of_these xs (ap all_in is) w.distinct (each_in (λ x. IsSome ((by_xid s).strand x)) xs w.strands)
