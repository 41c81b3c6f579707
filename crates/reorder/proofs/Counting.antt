-- The chunks that a regrouping has taken are those that its live changes fill.
use Rattle.std.proofs.Common.{◌≡◌, ◌⊎◌, inl, inr, ℕ, suc, ◌+◌, ◌<◌, ◌==◌, Bool, true, false, cond, ◌&&◌, not, List, [], ◌∷◌, Option, Some, None, length, map, get_or, set, refl, sym, ap, ◌∙◌, arith, length-set, eq-eqb}
use Rattle.std.specs.Prelude.{IsSome}
use Rattle.std.specs.List.{AllByRecursion, filter, sum_by}
use Rattle.std.specs.Map.{lookup}
use Rattle.std.specs.Option.{option_map}
use Rattle.std.proofs.lemmas.Bool.{eqb-true, eqb-false}
use Rattle.std.proofs.lemmas.List.{get_or-set_same, get_or-set_other}
use Rattle.std.proofs.lemmas.List.Sums.{sum_by-cons, sum_by-set}
use Rattle.chgarena.specs.Fill.{fill, sizes}
use Rattle.chgarena.specs.Strands.{Strands as Arena, entries_at as entries_in_place, entries_of, fills}
use Rattle.tables.specs.declared.changes.change.Change.{Change}
use Rattle.tables.specs.Spelling.{body_length}
use Rattle.wal.specs.declared.record.Record.{Record}
use Rattle.wal.specs.declared.record.Body.TheVariants.{Change as Changed}
use Rattle.wal.specs.Log.{Entry, is_named, is_dropped, has_ended, last_of, top_of, entries}
use Rattle.wal.proofs.Laws.{all_when}
use Rattle.wal.proofs.Lists.{each, eqb_comm}
use Rattle.reorder.specs.Entries.{IsEntry, entry_in}
use Rattle.reorder.specs.Pool.{HoldEntries, IsPool, entries_at, entries_by, strand_of}
use Rattle.reorder.specs.Strands.{StrandState, Standing, StrandsState, AreDistinct, by_xid, changes_at, is_in, with_changes}
use Rattle.reorder.specs.Bookkeeping.{AreStrandsOf, IsStrand, IsTransaction, changes_of}
use Rattle.reorder.specs.Chunks.{HasNoRoom, IsHeldBy, IsOwned, IsTidy, LeavesNoRoom, chunks_for, entry_length, is_live, live_chunks, xids_of}
use Rattle.reorder.proofs.Coding.{entry_again, entry_length as length_coded}
use Rattle.reorder.proofs.Named.{no_changes, or_left, or_right, undropped}
use Rattle.reorder.proofs.Opening.{no_some}

-- SUMS

pub sum_same : {X : Type 0} (f g : X → ℕ) (xs : List X) → AllByRecursion (λ x. f x ≡ g x) xs → sum_by f xs ≡ sum_by g xs
sum_same f g [] same = refl
sum_same f g (x ∷ xs) same =
    let first : f x ≡ g x = same.0 in
    let rest : sum_by f xs ≡ sum_by g xs = sum_same f g xs same.1 in
    omega (arith, sum_by-cons f x xs, sum_by-cons g x xs)

sum_none : {X : Type 0} (f : X → ℕ) (xs : List X) (d : X) → ((i : ℕ) → i < length xs → f (get_or xs i d) ≡ 0) → sum_by f xs ≡ 0
sum_none f [] d none = refl
sum_none f (x ∷ xs) d none =
    let first : f x ≡ 0 = none 0 (omega arith) in
    let rest : sum_by f xs ≡ 0 = sum_none f xs d (λ i low. none (suc i) (omega arith)) in
    omega (arith, sum_by-cons f x xs)

-- THE CHUNKS OF EACH STRAND

abbrev pub place_fill : Option (List (List ℕ)) → ℕ
place_fill strand = fill (sizes (entries_in_place strand))

abbrev pub strand_fill : Arena → Option ℕ → ℕ
strand_fill arena head = fill (sizes (entries_of arena head))

pub fills_cleared : (arena : Arena) (head : ℕ) → head < length arena → fills (set arena head None) + strand_fill arena (Some head) ≡ fills arena
fills_cleared arena head low =
    let moved : sum_by place_fill (set arena head None) + place_fill (get_or arena head None) ≡ sum_by place_fill arena + place_fill None = sum_by-set place_fill arena head None None low in
    omega arith

-- each strand of an arena is one of these
record AreAll (heads : ℕ → Option ℕ) (arena : Arena) : Type 0 where
  within : (x head : ℕ) → heads x ≡ Some head → head < length arena
  owned : (head : ℕ) → head < length arena → (entries : List (List ℕ)) → get_or arena head None ≡ Some entries → (x : ℕ) × (heads x ≡ Some head)

-- no two have one
abbrev AreApart : (ℕ → Option ℕ) → Type 0
AreApart heads = (x y head : ℕ) → heads x ≡ Some head → heads y ≡ Some head → x ≡ y

gone_elsewhere : (arena : Arena) (head : ℕ) (o : Option ℕ) → (o ≡ Some head → ⊥) → strand_fill (set arena head None) o ≡ strand_fill arena o
gone_elsewhere arena head None apart = refl
gone_elsewhere arena head (Some q) apart = ap place_fill (get_or-set_other arena head q None None (λ same. apart (ap Some same)))

-- what is left of the strand of an xid, where that of one xid is gone
left_of : (heads : ℕ → Option ℕ) (arena : Arena) (x head : ℕ) → AreApart heads → head < length arena → heads x ≡ Some head → (y : ℕ) →
    strand_fill (set arena head None) (heads y) ≡ cond (y == x) 0 (strand_fill arena (heads y))
left_of heads arena x head apart low is y = by_test (y == x) refl
  where
    by_test : (b : Bool) → (y == x) ≡ b → strand_fill (set arena head None) (heads y) ≡ cond b 0 (strand_fill arena (heads y))
    by_test true same = ap (strand_fill (set arena head None)) (ap heads (eqb-true y x same) ∙ is) ∙ ap place_fill (get_or-set_same arena head None None low)
    by_test false other = gone_elsewhere arena head (heads y) (λ at. eqb-false y x other (apart y x head at is))

all_left : (heads : ℕ → Option ℕ) (arena : Arena) (head : ℕ) → AreAll heads arena → head < length arena → AreAll heads (set arena head None)
all_left heads arena head all low = record {
  within = λ y q at. let lt : q < length arena = all.within y q at in omega (arith, length-set arena head None);
  owned = λ q lt entries at. all.owned q (omega (arith, length-set arena head None)) entries (sym (get_or-set_other arena head q None None (elsewhere q entries at)) ∙ at);
}
  where
    elsewhere : (q : ℕ) (entries : List (List ℕ)) → get_or (set arena head None) q None ≡ Some entries → q ≡ head → ⊥
    elsewhere q entries at same =
        let never : None ≡ Some entries = sym (get_or-set_same arena head None None low) ∙ ap (λ n. get_or (set arena head None) n None) (sym same) ∙ at in cc

pub others : (x : ℕ) (xs : List ℕ) → is_in x xs ≡ false → AllByRecursion (λ y. (y == x) ≡ false) xs
others x [] out = tt
others x (y ∷ xs) out = (eqb_comm y x ∙ or_left (x == y) (is_in x xs) out, others x xs (or_right (x == y) (is_in x xs) out))

-- with one xid more
sum_of_more : (heads : ℕ → Option ℕ) → AreApart heads → (x : ℕ) (xs : List ℕ) → is_in x xs ≡ false → (arena : Arena) → AreAll heads arena →
    ((y : ℕ) → is_in y (x ∷ xs) ≡ false → strand_fill arena (heads y) ≡ 0) →
    ((a : Arena) → AreAll heads a → ((y : ℕ) → is_in y xs ≡ false → strand_fill a (heads y) ≡ 0) → fills a ≡ sum_by (λ y. strand_fill a (heads y)) xs) →
    fills arena ≡ sum_by (λ y. strand_fill arena (heads y)) (x ∷ xs)
sum_of_more heads apart x xs out arena all covers rest = by_option (heads x) refl
  where
    by_test : (a : Arena) (y : ℕ) → is_in y xs ≡ false → (y ≡ x → strand_fill a (heads y) ≡ 0) → ((y == x) ≡ false → strand_fill a (heads y) ≡ strand_fill arena (heads y)) → (b : Bool) → (y == x) ≡ b → strand_fill a (heads y) ≡ 0
    by_test a y away here there true same = here (eqb-true y x same)
    by_test a y away here there false other = there other ∙ covers y (rw (other, away) refl)

    by_option : (o : Option ℕ) → heads x ≡ o → fills arena ≡ sum_by (λ y. strand_fill arena (heads y)) (x ∷ xs)
    by_option None is =
        let first : strand_fill arena (heads x) ≡ 0 = ap (strand_fill arena) is in
        let later : fills arena ≡ sum_by (λ y. strand_fill arena (heads y)) xs = rest arena all
        (λ y away. by_test arena y away (λ same. ap (strand_fill arena) (ap heads same ∙ is)) (λ other. refl) (y == x) refl) in
        omega (arith, sum_by-cons (λ y. strand_fill arena (heads y)) x xs)
    by_option (Some head) is =
        let low : head < length arena = all.within x head is in
        let left : (y : ℕ) (b : Bool) → (y == x) ≡ b → strand_fill (set arena head None) (heads y) ≡ cond b 0 (strand_fill arena (heads y)) =
        λ y b at. left_of heads arena x head apart low is y ∙ ap (λ c. cond c 0 (strand_fill arena (heads y))) at in
        let first : fills (set arena head None) + strand_fill arena (heads x) ≡ fills arena = ap (λ o. fills (set arena head None) + strand_fill arena o) is ∙ fills_cleared arena head low in
        let later : fills (set arena head None) ≡ sum_by (λ y. strand_fill (set arena head None) (heads y)) xs = rest (set arena head None) (all_left heads arena head all low)
        (λ y away. by_test (set arena head None) y away (λ same. left y true (eq-eqb y x same)) (λ other. left y false other) (y == x) refl) in
        let same : sum_by (λ y. strand_fill (set arena head None) (heads y)) xs ≡ sum_by (λ y. strand_fill arena (heads y)) xs =
        sum_same _ _ xs (all_when _ _ (λ y other. left y false other) xs (others x xs out)) in
        omega (arith, sum_by-cons (λ y. strand_fill arena (heads y)) x xs)

-- the chunks of all strands are those of these xids, where no other xid has any
sum_of_strands : (heads : ℕ → Option ℕ) → AreApart heads → (xs : List ℕ) → AreDistinct xs → (arena : Arena) → AreAll heads arena →
    ((x : ℕ) → is_in x xs ≡ false → strand_fill arena (heads x) ≡ 0) → fills arena ≡ sum_by (λ x. strand_fill arena (heads x)) xs
sum_of_strands heads apart [] distinct arena all covers = sum_none place_fill arena None (λ i low. at_place i low (get_or arena i None) refl)
  where
    at_place : (i : ℕ) → i < length arena → (o : Option (List (List ℕ))) → get_or arena i None ≡ o → place_fill (get_or arena i None) ≡ 0
    at_place i low None is = ap place_fill is
    at_place i low (Some entries) is = let owner = all.owned i low entries is in ap (strand_fill arena) (sym owner.1) ∙ covers owner.0 refl
sum_of_strands heads apart (x ∷ xs) distinct arena all covers =
    sum_of_more heads apart x xs distinct.0 arena all covers (λ a all' covers'. sum_of_strands heads apart xs distinct.1 a all' covers')

-- THE XIDS OF CHANGES

-- none twice
pub once : (es : List Entry) → AreDistinct (xids_of es)
once [] = tt
once (e ∷ es) = by_test (is_in e.xid (xids_of es)) refl (once es)
  where
    by_test : (b : Bool) → is_in e.xid (xids_of es) ≡ b → AreDistinct (xids_of es) → AreDistinct (cond b (xids_of es) (e.xid ∷ xids_of es))
    by_test true inn distinct = distinct
    by_test false out distinct = (out, distinct)

-- an xid that isn't among them has no changes
pub none_else : (x : ℕ) (es : List Entry) → is_in x (xids_of es) ≡ false → filter (λ e. e.xid == x) es ≡ []
none_else x [] out = refl
none_else x (e ∷ es) out = by_test (is_in e.xid (xids_of es)) refl out (none_else x es)
  where
    first_away : (e.xid == x) ≡ false → filter (λ f. f.xid == x) es ≡ [] → filter (λ f. f.xid == x) (e ∷ es) ≡ []
    first_away other none = rw other none

    apart : is_in e.xid (xids_of es) ≡ true → is_in x (xids_of es) ≡ false → (b : Bool) → (e.xid == x) ≡ b → b ≡ false
    apart inn away true same = let never : true ≡ false = sym inn ∙ ap (λ y. is_in y (xids_of es)) (eqb-true e.xid x same) ∙ away in cc
    apart inn away false other = refl

    by_test : (b : Bool) → is_in e.xid (xids_of es) ≡ b → is_in x (cond b (xids_of es) (e.xid ∷ xids_of es)) ≡ false → (is_in x (xids_of es) ≡ false → filter (λ f. f.xid == x) es ≡ []) → filter (λ f. f.xid == x) (e ∷ es) ≡ []
    by_test true inn away none = first_away (apart inn away (e.xid == x) refl) (none away)
    by_test false out' away none = first_away (eqb_comm e.xid x ∙ or_left (x == e.xid) (is_in x (xids_of es)) away) (none (or_right (x == e.xid) (is_in x (xids_of es)) away))

-- THE CHANGES OF AN XID

pub sizes_are : (x : ℕ) (bytes : List (List ℕ)) → AllByRecursion IsEntry bytes → sizes bytes ≡ map entry_length (map (entry_in x) bytes)
sizes_are x [] all = refl
sizes_are x (b ∷ bytes) all = rw (here b all.0, sizes_are x bytes all.1) refl
  where
    here : (b : List ℕ) → IsEntry b → length b ≡ entry_length (entry_in x b)
    here b e = ap length e.is ∙ length_coded e.position e.change ∙ sym (ap entry_length (ap (entry_in x) e.is ∙ entry_again x e.position e.change e.in_range e.coded))

-- its entries fill as many chunks as its changes do, if it is live, and else none
xid_fill : (s : StrandsState) (rs : List Record) (count x : ℕ) → HoldEntries s.pool.arena s.pool.strands → AreStrandsOf (by_xid s) rs → IsTidy count [] s →
    fill (sizes (entries_at s.pool x)) ≡ cond (is_live rs x) (chunks_for (changes_of rs x)) 0
xid_fill s rs count x hold book tidy = by_option (lookup (λ k. x == k) s.strands) refl
  where
    -- one without a strand
    lives : (by_xid s).strand x ≡ None → (n d e : Bool) → is_named rs x ≡ n → is_dropped rs x ≡ d → has_ended rs (top_of rs x) ≡ e → 0 ≡ cond (not d && not e) (chunks_for (changes_of rs x)) 0
    lives none n true e named dropped ended = refl
    lives none n false true named dropped ended = refl
    lives none false false false named dropped ended = ap chunks_for (sym (no_changes rs x named))
    lives none true false false named dropped ended = absurd (no_some ((by_xid s).strand x) none (book.complete x named (undropped rs x dropped) ended))

    kept : (t : StrandState) → IsStrand (by_xid s) rs x t → (d e : Bool) → is_dropped rs x ≡ d → has_ended rs (top_of rs x) ≡ e → chunks_for t.changes ≡ cond (not d && not e) (chunks_for (changes_of rs x)) 0
    kept t o true e dropped ended = ap chunks_for (o.freed dropped)
    kept t o false false dropped ended = ap chunks_for (o.changes dropped)
    kept t o false true dropped ended =
        let w : IsTransaction (by_xid s) rs (last_of x t.above) o.members = book.transactions (last_of x t.above) o.members o.members_are in
        let never : true ≡ false = sym ended ∙ ap (λ ys. has_ended rs (last_of x ys)) o.chain ∙ w.running in cc

    by_option : (o : Option Standing) → lookup (λ k. x == k) s.strands ≡ o → fill (sizes (entries_at s.pool x)) ≡ cond (is_live rs x) (chunks_for (changes_of rs x)) 0
    by_option None is =
        ap (λ es. fill (sizes es)) (tidy.only x is)
        ∙ lives (ap (option_map (with_changes s.pool x)) is) (is_named rs x) (is_dropped rs x) (has_ended rs (top_of rs x)) refl refl refl
    by_option (Some st) is =
        ap fill (sizes_are x (entries_at s.pool x) (hold x))
        ∙ kept (with_changes s.pool x st) (book.strands x (with_changes s.pool x st) (ap (option_map (with_changes s.pool x)) is)) (is_dropped rs x) (has_ended rs (top_of rs x)) refl refl

-- ALL OF THEM

abbrev head_in : Option (Option ℕ) → Option ℕ
head_in None = None
head_in (Some head) = head

abbrev head_of : List (ℕ × Option ℕ) → ℕ → Option ℕ
head_of strands x = head_in (strand_of strands x)

found : (o : Option (Option ℕ)) (head : ℕ) → head_in o ≡ Some head → o ≡ Some (Some head)
found None head is = let never : None ≡ Some head = is in cc
found (Some h) head is = ap Some is

by_head : (arena : Arena) (o : Option (Option ℕ)) → strand_fill arena (head_in o) ≡ fill (sizes (entries_by arena o))
by_head arena None = refl
by_head arena (Some h) = refl

-- the chunks that are taken are those of the live xids
pub chunks_taken : (s : StrandsState) (rs : List Record) (count : ℕ) → IsPool s.pool.arena s.pool.strands → HoldEntries s.pool.arena s.pool.strands → AreStrandsOf (by_xid s) rs → IsTidy count [] s →
    fills s.pool.arena ≡ live_chunks rs
chunks_taken s rs count pool hold book tidy =
    sum_of_strands (head_of s.pool.strands) (λ x y head at_x at_y. pool.apart x y head (found (strand_of s.pool.strands x) head at_x) (found (strand_of s.pool.strands y) head at_y))
    (xids_of (entries rs)) (once (entries rs)) s.pool.arena all (λ x out. one x ∙ nothing (is_live rs x) (changes_of rs x) (none_else x (entries rs) out))
    ∙ sum_same _ _ (xids_of (entries rs)) (each _ one (xids_of (entries rs)))
  where
    one : (x : ℕ) → strand_fill s.pool.arena (head_of s.pool.strands x) ≡ cond (is_live rs x) (chunks_for (changes_of rs x)) 0
    one x = by_head s.pool.arena (strand_of s.pool.strands x) ∙ xid_fill s rs count x hold book tidy

    nothing : (b : Bool) (es : List Entry) → es ≡ [] → cond b (chunks_for es) 0 ≡ 0
    nothing true es none = ap chunks_for none
    nothing false es none = refl

    by_owner : (head : ℕ) → IsOwned s.pool head ⊎ IsHeldBy [] head → (x : ℕ) × (head_of s.pool.strands x ≡ Some head)
    by_owner head (inl o) = (o.xid, ap head_in o.is)
    by_owner head (inr other) = absurd other

    all : AreAll (head_of s.pool.strands) s.pool.arena
    all = record {
      within = λ x head at. (pool.made x (Some head) (found (strand_of s.pool.strands x) head at)).0;
      owned = λ head lt entries at. by_owner head (tidy.owned head lt entries at);
    }

-- the chunks are full by the records too, where those of the live xids are so many, if the xid has a strand and isn't dropped
pub no_room_of : (s : StrandsState) (rs : List Record) (count size : ℕ) (r : Record) (xid : ℕ) (change : Change) → AreStrandsOf (by_xid s) rs → live_chunks rs ≡ count → r.body ≡ Changed xid change → size ≡ 8 + body_length change →
    is_dropped rs xid ≡ false → IsSome ((by_xid s).strand xid) → HasNoRoom s.pool xid size → LeavesNoRoom count rs r
no_room_of s rs count size r xid change book all is long live some none = record {
  xid = xid;
  change = change;
  is = is;
  all = all;
  room = rw (← by_option ((by_xid s).strand xid) refl some, ← sizes_are xid (entries_at s.pool xid) (none.hold xid), ← long) none.room;
}
  where
    by_option : (o : Option StrandState) → (by_xid s).strand xid ≡ o → IsSome o → changes_at s.pool xid ≡ changes_of rs xid
    by_option None at has = let never : false ≡ true = has in cc
    by_option (Some t) at has = shown (lookup (λ k. xid == k) s.strands) refl t at (book.strands xid t at)
      where
        shown : (o : Option Standing) → lookup (λ k. xid == k) s.strands ≡ o → (t : StrandState) → (by_xid s).strand xid ≡ Some t → IsStrand (by_xid s) rs xid t → changes_at s.pool xid ≡ changes_of rs xid
        shown None found t at o = let never : None ≡ Some t = sym (ap (option_map (with_changes s.pool xid)) found) ∙ at in cc
        shown (Some st) found t at o =
            let both : Some (with_changes s.pool xid st) ≡ Some t = sym (ap (option_map (with_changes s.pool xid)) found) ∙ at in
            let same : with_changes s.pool xid st ≡ t = cc in
            ap (λ (v : StrandState). v.changes) same ∙ o.changes live

-- the same where nothing is ready
pub no_room_left : (s : StrandsState) (rs : List Record) (count size : ℕ) (r : Record) (xid : ℕ) (change : Change) → AreStrandsOf (by_xid s) rs → IsTidy count [] s → r.body ≡ Changed xid change → size ≡ 8 + body_length change →
    is_dropped rs xid ≡ false → IsSome ((by_xid s).strand xid) → HasNoRoom s.pool xid size → LeavesNoRoom count rs r
no_room_left s rs count size r xid change book tidy is long live some none =
    no_room_of s rs count size r xid change book (sym (chunks_taken s rs count none.pool none.hold book tidy) ∙ none.fills ∙ tidy.chunks) is long live some none
