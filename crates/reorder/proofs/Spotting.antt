-- Where the changes of a transaction lie, told as the changes that lie there.
use Rattle.std.proofs.Common.{◌≡◌, ℕ, zero, suc, ◌+◌, ◌<◌, ◌≤◌, ◌==◌, Bool, true, false, cond, List, [], ◌∷◌, Option, Some, None, drop, get_or, length, map, nat_cmp, is_lt, refl, sym, ap, subst, ◌∙◌, arith, eq-eqb, inl, inr}
use Rattle.std.specs.Prelude.{slice_get}
use Rattle.std.specs.List.{All, AllByRecursion, filter, flat_map, range_with_len}
use Rattle.std.specs.List.Sorted.{IsNonDecreasingBy, IsPermutation, IsStableByKey, ties}
use Rattle.std.specs.Map.{lookup}
use Rattle.std.specs.Option.{option_map}
use Rattle.std.proofs.lemmas.List.{append-nil, drop-drop, ext_get_or, get_or_default, get_or-drop, get_or-map, length-drop, length-map, map-append}
use Rattle.std.proofs.lemmas.List.FromFn.{get_or-range_with_len, length-range_with_len}
use Rattle.std.proofs.lemmas.List.Sorted.{All-permutation}
use Rattle.std.proofs.lemmas.Option.{slice_get-map, slice_get_read}
use Rattle.wal.proofs.Lists.{all_append}
use Rattle.reorder.proofs.Coding.{body_spells}
use Rattle.wal.specs.Log.{Entry}
use Rattle.tables.specs.Reading.{SpellsBody, body_at}
use Rattle.reorder.specs.Entries.{IsEntry, body_in, decoded_change, entry_in, position_in}
use Rattle.reorder.specs.Pool.{PoolState, entries_at}
use Rattle.reorder.specs.Ready.{IsPlace, PlaceState, bytes_at, entry_at}
use Rattle.reorder.specs.Orders.{place_at}
use Rattle.reorder.specs.Spots.{IsSpot, SpotState, place_of, spots_from}
use Rattle.reorder.proofs.Named.{or_true}
use Rattle.reorder.specs.Strands.{AreMerged, Standing, StrandsState, all_in, by_xid, changes_by_xid, changes_in, is_in, kept_spots, spots_in, spots_of, strand_at, with_changes}

-- THE SPOTS OF AN XID

-- the change at a spot, with the position that the spot has
abbrev spot_entry : PoolState → SpotState → Entry
spot_entry pool spot = record { position = spot.position; xid = spot.xid; change = decoded_change (body_at (body_in (bytes_at pool (place_of spot)))) }

-- what a list has from a place on, and the first of it
first_of : (all : List (List ℕ)) (place : ℕ) (entry : List ℕ) (rest : List (List ℕ)) → drop place all ≡ entry ∷ rest → get_or all place [] ≡ entry
first_of all place entry rest is = ap (λ i. get_or all i []) (omega arith) ∙ sym (get_or-drop place all 0 []) ∙ ap (λ es. get_or es 0 []) is

rest_of : (all : List (List ℕ)) (place : ℕ) (entry : List ℕ) (rest : List (List ℕ)) → drop place all ≡ entry ∷ rest → drop (place + 1) all ≡ rest
rest_of all place entry rest is = sym (drop-drop 1 place all) ∙ ap (drop 1) is

within : (all : List (List ℕ)) (place : ℕ) (entry : List ℕ) (rest : List (List ℕ)) → drop place all ≡ entry ∷ rest → place < length all
within all place entry rest is = omega (arith, ap length is, length-drop place all)

pub spots_shown : (pool : PoolState) (xid place : ℕ) (entries : List (List ℕ)) → drop place (entries_at pool xid) ≡ entries → map (spot_entry pool) (spots_from xid place entries) ≡ map (entry_in xid) entries
spots_shown pool xid place [] is = refl
spots_shown pool xid place (entry ∷ entries) is =
    rw (first_of (entries_at pool xid) place entry entries is, spots_shown pool xid (place + 1) entries (rest_of (entries_at pool xid) place entry entries is)) refl

pub spots_there : (pool : PoolState) (xid place : ℕ) (entries : List (List ℕ)) → drop place (entries_at pool xid) ≡ entries → AllByRecursion (IsSpot pool) (spots_from xid place entries)
spots_there pool xid place [] is = tt
spots_there pool xid place (entry ∷ entries) is = (
  (within (entries_at pool xid) place entry entries is, ap position_in (sym (first_of (entries_at pool xid) place entry entries is))),
  spots_there pool xid (place + 1) entries (rest_of (entries_at pool xid) place entry entries is),
)

-- THOSE OF A TRANSACTION

kept_shown : (pool : PoolState) (x : ℕ) (o : Option Standing) → map (spot_entry pool) (spots_in pool x o) ≡ changes_in (option_map (with_changes pool x) o)
kept_shown pool x None = refl
kept_shown pool x (Some s) = spots_shown pool x 0 (entries_at pool x) refl

all_shown : (pool : PoolState) (strands : List (ℕ × Standing)) (xs : List ℕ) →
    map (spot_entry pool) (flat_map (kept_spots pool (λ y. lookup (λ k. y == k) strands)) xs) ≡ flat_map (λ x. changes_in (strand_at strands pool x)) xs
all_shown pool strands [] = refl
all_shown pool strands (x ∷ xs) =
    map-append (spot_entry pool) (kept_spots pool (λ y. lookup (λ k. y == k) strands) x) (flat_map (kept_spots pool (λ y. lookup (λ k. y == k) strands)) xs)
    ∙ rw (kept_shown pool x (lookup (λ k. x == k) strands), all_shown pool strands xs) refl

-- the changes at the spots of a transaction are those that it keeps
joined_shown : (s : StrandsState) (t : ℕ) → map (spot_entry s.pool) (spots_of s t) ≡ changes_by_xid (by_xid s) t
joined_shown s t = all_shown s.pool s.strands (all_in (lookup (λ k. t == k) s.members))

kept_there : (pool : PoolState) (x : ℕ) (o : Option Standing) → AllByRecursion (IsSpot pool) (spots_in pool x o)
kept_there pool x None = tt
kept_there pool x (Some s) = spots_there pool x 0 (entries_at pool x) refl

all_there : (pool : PoolState) (strand : ℕ → Option Standing) (xs : List ℕ) → AllByRecursion (IsSpot pool) (flat_map (kept_spots pool strand) xs)
all_there pool strand [] = tt
all_there pool strand (x ∷ xs) = all_append (IsSpot pool) (kept_spots pool strand x) (flat_map (kept_spots pool strand) xs) (kept_there pool x (strand x)) (all_there pool strand xs)

each_of : {A : Type 0} (P : A → Type 0) (xs : List A) → AllByRecursion P xs → All P xs
each_of P [] all k d lt = absurd (omega (arith, lt))
each_of P (x ∷ xs) all zero d lt = all.0
each_of P (x ∷ xs) all (suc k) d lt = each_of P xs all.1 k d (omega (arith, lt))

pub sorted_there : (s : StrandsState) (t : ℕ) (sorted : List SpotState) → IsPermutation (spots_of s t) sorted → All (IsSpot s.pool) sorted
sorted_there s t sorted shuffled =
    All-permutation (IsSpot s.pool) (spots_of s t) sorted shuffled
    (each_of (IsSpot s.pool) (spots_of s t) (all_there s.pool (λ x. lookup (λ k. x == k) s.strands) (all_in (lookup (λ k. t == k) s.members))))

-- each is one of an xid of the transaction
spots_own : (xid place : ℕ) (entries : List (List ℕ)) (xs : List ℕ) → is_in xid xs ≡ true → AllByRecursion (λ (spot : SpotState). is_in spot.xid xs ≡ true) (spots_from xid place entries)
spots_own xid place [] xs inn = tt
spots_own xid place (entry ∷ entries) xs inn = (inn, spots_own xid (place + 1) entries xs inn)

kept_own : (pool : PoolState) (x : ℕ) (o : Option Standing) (xs : List ℕ) → is_in x xs ≡ true → AllByRecursion (λ (spot : SpotState). is_in spot.xid xs ≡ true) (spots_in pool x o)
kept_own pool x None xs inn = tt
kept_own pool x (Some s) xs inn = spots_own x 0 (entries_at pool x) xs inn

all_own : (pool : PoolState) (strand : ℕ → Option Standing) (all xs : List ℕ) → ((x : ℕ) → is_in x xs ≡ true → is_in x all ≡ true) → AllByRecursion (λ (spot : SpotState). is_in spot.xid all ≡ true) (flat_map (kept_spots pool strand) xs)
all_own pool strand all [] within = tt
all_own pool strand all (x ∷ xs) within =
    all_append (λ (spot : SpotState). is_in spot.xid all ≡ true) (kept_spots pool strand x) (flat_map (kept_spots pool strand) xs)
    (kept_own pool x (strand x) all (within x (rw (eq-eqb x x refl) refl)))
    (all_own pool strand all xs (λ y inn. within y (or_true (y == x) (is_in y xs) inn)))

pub sorted_own : (s : StrandsState) (t : ℕ) (sorted : List SpotState) → IsPermutation (spots_of s t) sorted → All (λ (spot : SpotState). is_in spot.xid (all_in (lookup (λ k. t == k) s.members)) ≡ true) sorted
sorted_own s t sorted shuffled =
    let own : SpotState → Type 0 = λ spot. is_in spot.xid (all_in (lookup (λ k. t == k) s.members)) ≡ true in
    All-permutation own (spots_of s t) sorted shuffled
    (each_of own (spots_of s t) (all_own s.pool (λ x. lookup (λ k. x == k) s.strands) (all_in (lookup (λ k. t == k) s.members)) (all_in (lookup (λ k. t == k) s.members)) (λ x inn. inn)))

-- places show the same changes in another pool that has the same entries of their xids
pub shown_alike : (pool pool' : PoolState) (xs : List ℕ) → ((x : ℕ) → is_in x xs ≡ true → entries_at pool' x ≡ entries_at pool x) → (places : List PlaceState) → All (λ (at : PlaceState). is_in at.xid xs ≡ true) places →
    map (entry_at pool) places ≡ map (entry_at pool') places
shown_alike pool pool' xs same [] own = refl
shown_alike pool pool' xs same (at ∷ places) own =
    let here : entries_at pool' at.xid ≡ entries_at pool at.xid = same at.xid (own 0 at (omega arith)) in
    rw (here, shown_alike pool pool' xs same places (λ k d lt. own (suc k) d (omega arith))) refl

pub there_alike : (pool pool' : PoolState) (xs : List ℕ) → ((x : ℕ) → is_in x xs ≡ true → entries_at pool' x ≡ entries_at pool x) → (places : List PlaceState) → All (λ (at : PlaceState). is_in at.xid xs ≡ true) places →
    All (IsPlace pool) places → All (IsPlace pool') places
there_alike pool pool' xs same places own all = λ k d lt.
    let here : entries_at pool' (get_or places k d).xid ≡ entries_at pool (get_or places k d).xid = same (get_or places k d).xid (own k d lt) in
    subst (λ es. (get_or places k d).place < length es) (sym here) (all k d lt)

-- SORTED

none : SpotState
none = record { position = 0; xid = 0; place = 0 }

rising_shown : (pool : PoolState) (spots : List SpotState) → IsNonDecreasingBy (λ (s : SpotState). s.position) spots → IsNonDecreasingBy (λ (e : Entry). e.position) (map (spot_entry pool) spots)
rising_shown pool spots up i j d le lt =
    let short : j < length spots = omega (arith, lt, length-map spots (spot_entry pool)) in
    rw (get_or-map (spot_entry pool) spots i none d (omega (arith, le, short)), get_or-map (spot_entry pool) spots j none d short) (up i j none le short)

abbrev tied_at : ℕ → SpotState → Bool
tied_at p s = ties (λ (a b : ℕ). is_lt (nat_cmp a b)) p s.position

filter_shown : (pool : PoolState) (e : Entry) (spots : List SpotState) →
    filter (ties (λ (a b : Entry). is_lt (nat_cmp a.position b.position)) e) (map (spot_entry pool) spots) ≡ map (spot_entry pool) (filter (tied_at e.position) spots)
filter_shown pool e [] = refl
filter_shown pool e (s ∷ spots) = by_test (tied_at e.position s) (filter_shown pool e spots)
  where
    by_test : (b : Bool) → filter (ties (λ (a b : Entry). is_lt (nat_cmp a.position b.position)) e) (map (spot_entry pool) spots) ≡ map (spot_entry pool) (filter (tied_at e.position) spots) →
        cond b (spot_entry pool s ∷ filter (ties (λ (a b : Entry). is_lt (nat_cmp a.position b.position)) e) (map (spot_entry pool) spots)) (filter (ties (λ (a b : Entry). is_lt (nat_cmp a.position b.position)) e) (map (spot_entry pool) spots))
        ≡ map (spot_entry pool) (cond b (s ∷ filter (tied_at e.position) spots) (filter (tied_at e.position) spots))
    by_test true is = ap (λ es. spot_entry pool s ∷ es) is
    by_test false is = is

stable_shown : (pool : PoolState) (spots sorted : List SpotState) → IsStableByKey (λ (s : SpotState). s.position) nat_cmp spots sorted →
    IsStableByKey (λ (e : Entry). e.position) nat_cmp (map (spot_entry pool) spots) (map (spot_entry pool) sorted)
stable_shown pool spots sorted stable e =
    filter_shown pool e sorted ∙ ap (map (spot_entry pool)) (stable (record { position = e.position; xid = 0; place = 0 })) ∙ sym (filter_shown pool e spots)

-- the changes at spots are those at their places
pub places_shown : (pool : PoolState) (spots : List SpotState) → All (IsSpot pool) spots → map (spot_entry pool) spots ≡ map (entry_at pool) (map place_of spots)
places_shown pool [] all = refl
places_shown pool (spot ∷ spots) all =
    rw ((all 0 spot (omega arith)).1, places_shown pool spots (λ k d lt. all (suc k) d (omega (arith, lt)))) refl

pub places_there : (pool : PoolState) (spots : List SpotState) → All (IsSpot pool) spots → All (IsPlace pool) (map place_of spots)
places_there pool spots all k d lt =
    let short : k < length spots = omega (arith, lt, length-map spots place_of) in
    subst (λ (at : PlaceState). IsPlace pool at) (sym (get_or-map place_of spots k none d short)) (all k none short).0

pub places_own : (xs : List ℕ) (spots : List SpotState) → All (λ (spot : SpotState). is_in spot.xid xs ≡ true) spots → All (λ (at : PlaceState). is_in at.xid xs ≡ true) (map place_of spots)
places_own xs spots all k d lt =
    let short : k < length spots = omega (arith, lt, length-map spots place_of) in
    subst (λ (at : PlaceState). is_in at.xid xs ≡ true) (sym (get_or-map place_of spots k none d short)) (all k none short)

-- THE CHANGES OF ONE XID

pub count_places : (xid count : ℕ) → length (map (place_at xid) (range_with_len 0 count)) ≡ count
count_places xid count = length-map (range_with_len 0 count) (place_at xid) ∙ length-range_with_len 0 count

pub place_is : (xid count k : ℕ) (d : PlaceState) → k < count → get_or (map (place_at xid) (range_with_len 0 count)) k d ≡ place_at xid k
place_is xid count k d lt =
    let short : k < length (range_with_len 0 count) = omega (arith, lt, length-range_with_len 0 count) in
    let number : get_or (range_with_len 0 count) k 0 ≡ k = omega (arith, get_or-range_with_len 0 count k 0 lt) in
    get_or-map (place_at xid) (range_with_len 0 count) k 0 d short ∙ ap (place_at xid) number

-- they show its entries
pub whole_shown : (pool : PoolState) (xid count : ℕ) → count ≡ length (entries_at pool xid) → map (entry_at pool) (map (place_at xid) (range_with_len 0 count)) ≡ map (entry_in xid) (entries_at pool xid)
whole_shown pool xid count is =
    ext_get_or (entry_in xid []) (map (entry_at pool) (map (place_at xid) (range_with_len 0 count))) (map (entry_in xid) (entries_at pool xid)) longs (λ k lt. each k (entry_in xid []) lt)
  where
    longs : length (map (entry_at pool) (map (place_at xid) (range_with_len 0 count))) ≡ length (map (entry_in xid) (entries_at pool xid))
    longs = length-map (map (place_at xid) (range_with_len 0 count)) (entry_at pool) ∙ (count_places xid count ∙ (is ∙ sym (length-map (entries_at pool xid) (entry_in xid))))

    each : (k : ℕ) (d : Entry) → k < length (map (entry_at pool) (map (place_at xid) (range_with_len 0 count))) →
        get_or (map (entry_at pool) (map (place_at xid) (range_with_len 0 count))) k d ≡ get_or (map (entry_in xid) (entries_at pool xid)) k d
    each k d lt =
        let size : length (map (entry_at pool) (map (place_at xid) (range_with_len 0 count))) ≡ count = length-map (map (place_at xid) (range_with_len 0 count)) (entry_at pool) ∙ count_places xid count in
        let low : k < count = omega (arith, lt, size) in
        get_or-map (entry_at pool) (map (place_at xid) (range_with_len 0 count)) k (place_at xid k) d (omega (arith, low, count_places xid count))
        ∙ (ap (entry_at pool) (place_is xid count k (place_at xid k) low)
        ∙ sym (get_or-map (entry_in xid) (entries_at pool xid) k [] d (omega (arith, low, is))))

pub whole_there : (pool : PoolState) (xid count : ℕ) → count ≤ length (entries_at pool xid) → All (IsPlace pool) (map (place_at xid) (range_with_len 0 count))
whole_there pool xid count is k d lt =
    let low : k < count = omega (arith, lt, count_places xid count) in
    subst (λ (at : PlaceState). IsPlace pool at) (sym (place_is xid count k d low)) (let short : k < length (entries_at pool xid) = omega (arith, low, is) in short)

pub whole_own : (xs : List ℕ) (xid count : ℕ) → is_in xid xs ≡ true → All (λ (at : PlaceState). is_in at.xid xs ≡ true) (map (place_at xid) (range_with_len 0 count))
whole_own xs xid count inn k d lt =
    let low : k < count = omega (arith, lt, count_places xid count) in
    subst (λ (at : PlaceState). is_in at.xid xs ≡ true) (sym (place_is xid count k d low)) inn

pub whole_place : (xid count k : ℕ) → k < length (map (place_at xid) (range_with_len 0 count)) → slice_get (map (place_at xid) (range_with_len 0 count)) k ≡ Some (place_at xid k)
whole_place xid count k lt =
    let low : k < count = omega (arith, lt, count_places xid count) in
    slice_get_read (map (place_at xid) (range_with_len 0 count)) (length (map (place_at xid) (range_with_len 0 count))) k (place_at xid k) refl lt (sym (place_is xid count k (place_at xid k) low))

-- of a transaction that has no other xid
pub few_kept : (s : StrandsState) (x count : ℕ) → count ≡ length (changes_in (strand_at s.strands s.pool x)) → count ≤ length (entries_at s.pool x)
few_kept s x count is = by_option (lookup (λ k. x == k) s.strands) is
  where
    by_option : (o : Option Standing) → count ≡ length (changes_in (option_map (with_changes s.pool x) o)) → count ≤ length (entries_at s.pool x)
    by_option None none = omega (arith, none)
    by_option (Some strand) all = omega (arith, all, length-map (entries_at s.pool x) (entry_in x))

lone_shown : (s : StrandsState) (x count : ℕ) → count ≡ length (changes_in (strand_at s.strands s.pool x)) →
    map (entry_at s.pool) (map (place_at x) (range_with_len 0 count)) ≡ changes_in (strand_at s.strands s.pool x)
lone_shown s x count is = by_option (lookup (λ k. x == k) s.strands) is
  where
    by_option : (o : Option Standing) → count ≡ length (changes_in (option_map (with_changes s.pool x) o)) →
        map (entry_at s.pool) (map (place_at x) (range_with_len 0 count)) ≡ changes_in (option_map (with_changes s.pool x) o)
    by_option None none = ap (λ n. map (entry_at s.pool) (map (place_at x) (range_with_len 0 n))) none
    by_option (Some strand) all = whole_shown s.pool x count (all ∙ length-map (entries_at s.pool x) (entry_in x))

pub one_there : (o : Option (List ℕ)) (x : ℕ) (xs : List ℕ) → o ≡ Some xs → o ≡ Some (x ∷ []) → xs ≡ x ∷ []
one_there o x xs is lone = cc

pub lone_own : (x : ℕ) (o : Option (List ℕ)) → o ≡ Some (x ∷ []) → is_in x (all_in o) ≡ true
lone_own x o is = rw (is, eq-eqb x x refl) refl

pub merged_lone : (s : StrandsState) (t x count : ℕ) → lookup (λ k. t == k) s.members ≡ Some (x ∷ []) → count ≡ length (changes_in (strand_at s.strands s.pool x)) →
    AreMerged (by_xid s) t (map (entry_at s.pool) (map (place_at x) (range_with_len 0 count)))
merged_lone s t x count lone is =
    let joined_is : changes_by_xid (by_xid s) t ≡ changes_in (strand_at s.strands s.pool x) =
    ap (λ o. flat_map (λ y. changes_in (strand_at s.strands s.pool y)) (all_in o)) lone ∙ append-nil (changes_in (strand_at s.strands s.pool x)) in
    inr (x, lone, lone_shown s x count is ∙ sym joined_is)

-- of one that has several
pub merged_listed : (s : StrandsState) (t : ℕ) (spots : List SpotState) → IsNonDecreasingBy (λ (spot : SpotState). spot.position) spots → IsStableByKey (λ (spot : SpotState). spot.position) nat_cmp (spots_of s t) spots →
    All (IsSpot s.pool) spots → AreMerged (by_xid s) t (map (entry_at s.pool) (map place_of spots))
merged_listed s t spots up stable there =
    subst (λ (es : List Entry). AreMerged (by_xid s) t es) (places_shown s.pool spots there)
    (inl (
      rising_shown s.pool spots up,
      subst (λ (es : List Entry). IsStableByKey (λ (e : Entry). e.position) nat_cmp es (map (spot_entry s.pool) spots)) (joined_shown s t) (stable_shown s.pool (spots_of s t) spots stable),
    ))

pub listed_place : (spots : List SpotState) (k : ℕ) (spot : SpotState) → slice_get spots k ≡ Some spot → slice_get (map place_of spots) k ≡ Some (place_of spot)
listed_place spots k spot is = slice_get-map place_of spots k ∙ ap (option_map place_of) is

-- what is lent of a place is the change that lies there
pub lent : (pool : PoolState) (places : List PlaceState) (k : ℕ) (bytes body : List ℕ) → ((at : PlaceState) → slice_get places k ≡ Some at → bytes ≡ bytes_at pool at) → k < length places → IsEntry bytes → body ≡ body_in bytes →
    (e : Entry) → slice_get (map (entry_at pool) places) k ≡ Some e → (position_in bytes ≡ e.position) × SpellsBody body e.change
lent pool places k bytes body shows low entry is e at =
    let place : PlaceState = get_or places k (place_at 0 0) in
    let found : slice_get places k ≡ Some place = slice_get_read places (length places) k place refl low (sym (get_or_default places k place (place_at 0 0) low)) in
    let here : bytes ≡ bytes_at pool place = shows place found in
    let same : entry_at pool place ≡ e = some_same (sym (ap (option_map (entry_at pool)) found) ∙ sym (slice_get-map (entry_at pool) places k) ∙ at) in
    subst (λ (f : Entry). (position_in bytes ≡ f.position) × SpellsBody body f.change) same (ap position_in here, rw is (subst (λ (bs : List ℕ). SpellsBody (body_in bytes) (decoded_change (body_at (body_in bs)))) here (body_spells bytes entry)))
  where
    some_same : {A : Type 0} {x y : A} → Some x ≡ Some y → x ≡ y
    some_same is = cc
