-- What the strands of a transaction keep, joined and sorted by position, is what it keeps by the definition.
use Rattle.std.proofs.Common.{◌≡◌, ℕ, ◌<◌, ◌==◌, Bool, true, false, cond, ◌&&◌, ◌||◌, not, List, [], ◌∷◌, ◌++◌, Option, Some, None, refl, sym, ap, subst, ◌∙◌, eq-eqb, nat_cmp, ⊎_elim}
use Rattle.std.specs.Prelude.{IsSome}
use Rattle.std.specs.List.{filter, flat_map, AllByRecursion}
use Rattle.std.specs.List.Sorted.{IsNonDecreasingBy, IsStableByKey, IsPermutation}
use Rattle.std.proofs.lemmas.Bool.{eqb-true}
use Rattle.std.proofs.lemmas.List.{append-nil}
use Rattle.wal.specs.declared.record.Record.{Record}
use Rattle.wal.specs.Log.{Entry, is_named, is_undone, is_dropped, is_kept, has_ended, last_of, top_of, entries, kept_changes}
use Rattle.wal.proofs.Lists.{filter_agrees, all_agree, filter_twice}
use Rattle.wal.proofs.Laws.{all_when}
use Rattle.reorder.specs.Rising.{IsRising}
use Rattle.reorder.specs.Strands.{AreMerged, StrandState, ByXid, is_in, all_in, changes_in, changes_by_xid, AreDistinct}
use Rattle.reorder.specs.Bookkeeping.{IsStrand, IsTransaction, AreStrandsOf}
use Rattle.reorder.proofs.Named.{undropped, entries_named}
use Rattle.reorder.proofs.Keeping.{top_of_member}
use Rattle.reorder.proofs.Merging.{merged, permuted}

-- a member's strand is what the records say
pub record Held (l : ByXid) (rs : List Record) (x : ℕ) : Type 0 where
  pub strand : StrandState
  pub strand_is : l.strand x ≡ Some strand
  pub is : IsStrand l rs x strand

held : (l : ByXid) (rs : List Record) (x : ℕ) → AreStrandsOf l rs → IsSome (l.strand x) → Held l rs x
held l rs x h some = by_option (l.strand x) refl some
  where
    by_option : (o : Option StrandState) → l.strand x ≡ o → IsSome o → Held l rs x
    by_option None at has = let never : false ≡ true = has in cc
    by_option (Some s) at has = record { strand = s; strand_is = at; is = h.strands x s at }

none_in : (es : List Entry) → filter (λ e. false) es ≡ []
none_in [] = refl
none_in (e ∷ es) = none_in es

-- of one xid
pub kept_xid : (l : ByXid) (rs : List Record) (x : ℕ) → AreStrandsOf l rs → IsSome (l.strand x) →
    changes_in (l.strand x) ≡ filter (λ e. e.xid == x) (filter (λ e. not (is_dropped rs e.xid)) (entries rs))
kept_xid l rs x h some =
    ap changes_in m.strand_is ∙ by_test (is_dropped rs x) refl ∙ sym (filter_twice (λ e. e.xid == x) (λ e. not (is_dropped rs e.xid)) (entries rs))
  where
    m : Held l rs x
    m = held l rs x h some

    by_xid : (e : Entry) (d : Bool) → is_dropped rs x ≡ d → (b : Bool) → (e.xid == x) ≡ b → cond d false b ≡ (not (is_dropped rs e.xid) && b)
    by_xid e d is true same = rw (ap (is_dropped rs) (eqb-true e.xid x same) ∙ is) (flip d)
      where
        flip : (c : Bool) → cond c false true ≡ (not c && true)
        flip true = refl
        flip false = refl
    by_xid e d is false same = never_both d (is_dropped rs e.xid)
      where
        never_both : (c a : Bool) → cond c false false ≡ (not a && false)
        never_both true true = refl
        never_both true false = refl
        never_both false true = refl
        never_both false false = refl

    by_test : (d : Bool) → is_dropped rs x ≡ d → m.strand.changes ≡ filter (λ e. not (is_dropped rs e.xid) && (e.xid == x)) (entries rs)
    by_test true is = m.is.freed is ∙ sym (sym (filter_agrees _ _ (entries rs) (all_agree _ _ (λ (e : Entry). by_xid e true is (e.xid == x) refl) (entries rs))) ∙ none_in (entries rs))
    by_test false is = m.is.changes is ∙ filter_agrees _ _ (entries rs) (all_agree _ _ (λ (e : Entry). by_xid e false is (e.xid == x) refl) (entries rs))

-- of all xids of a transaction
kept_xids : (l : ByXid) (rs : List Record) → AreStrandsOf l rs → (ys : List ℕ) → AllByRecursion (λ y. IsSome (l.strand y)) ys →
    flat_map (λ x. changes_in (l.strand x)) ys ≡ flat_map (λ x. filter (λ e. e.xid == x) (filter (λ e. not (is_dropped rs e.xid)) (entries rs))) ys
kept_xids l rs h [] all = refl
kept_xids l rs h (y ∷ ys) all = rw (kept_xid l rs y h all.0, kept_xids l rs h ys all.1) refl

pub each_in : (P : ℕ → Type 0) (xs : List ℕ) → ((x : ℕ) → is_in x xs ≡ true → P x) → AllByRecursion P xs
each_in P [] all = tt
each_in P (x ∷ xs) all = (all x (rw (eq-eqb x x refl) refl), each_in P xs (λ y inn. all y (or_last (y == x) (is_in y xs) inn)))
  where
    or_last : (a b : Bool) → b ≡ true → (a || b) ≡ true
    or_last true b is = refl
    or_last false b is = is

rising_kept : (p : Entry → Bool) (es : List Entry) → IsRising es → IsRising (filter p es)
rising_kept p [] up = tt
rising_kept p (e ∷ es) up = by_test (p e) (some_all es up.0) (rising_kept p es up.1)
  where
    some_all : (fs : List Entry) → AllByRecursion (λ f. e.position < f.position) fs → AllByRecursion (λ f. e.position < f.position) (filter p fs)
    some_all [] all = tt
    some_all (f ∷ fs) all = each (p f) (some_all fs all.1)
      where
        each : (b : Bool) → AllByRecursion (λ g. e.position < g.position) (filter p fs) → AllByRecursion (λ g. e.position < g.position) (cond b (f ∷ filter p fs) (filter p fs))
        each true rest = (all.0, rest)
        each false rest = rest

    by_test : (b : Bool) → AllByRecursion (λ f. e.position < f.position) (filter p es) → IsRising (filter p es) → IsRising (cond b (e ∷ filter p es) (filter p es))
    by_test true all rest = (all, rest)
    by_test false all rest = rest

-- an xid that is named and not rolled back is of a transaction in progress exactly if it is among its xids
member_is : (l : ByXid) (rs : List Record) (t x : ℕ) → AreStrandsOf l rs → has_ended rs t ≡ false → is_named rs x ≡ true → is_undone rs x ≡ false → (top_of rs x == t) ≡ is_in x (all_in (l.members t))
member_is l rs t x h running named live = by_tests (top_of rs x == t) (is_in x (all_in (l.members t))) refl refl
  where
    inside : top_of rs x ≡ t → is_in x (all_in (l.members t)) ≡ true
    inside same =
        let m : Held l rs x = held l rs x h (h.complete x named live (ap (has_ended rs) same ∙ running)) in
        let top : last_of x m.strand.above ≡ t = ap (last_of x) (sym m.is.chain) ∙ same in
        ap (λ y. is_in x (all_in (l.members y))) (sym top) ∙ ap (λ o. is_in x (all_in o)) m.is.members_are ∙ m.is.within.0

    by_tests : (a b : Bool) → (top_of rs x == t) ≡ a → is_in x (all_in (l.members t)) ≡ b → a ≡ b
    by_tests true b same inn = sym (inside (eqb-true (top_of rs x) t same)) ∙ inn
    by_tests false true other inn = sym other ∙ eq-eqb (top_of rs x) t (top_of_member l rs t x h inn)
    by_tests false false other out = refl

-- the undropped changes of a transaction's xids are what it keeps
pub kept_members : (l : ByXid) (rs : List Record) (t : ℕ) → AreStrandsOf l rs → has_ended rs t ≡ false →
    filter (λ e. is_in e.xid (all_in (l.members t))) (filter (λ e. not (is_dropped rs e.xid)) (entries rs)) ≡ kept_changes rs t
kept_members l rs t h running =
    filter_twice (λ e. is_in e.xid (all_in (l.members t))) (λ e. not (is_dropped rs e.xid)) (entries rs)
    ∙ filter_agrees _ _ (entries rs) (all_when _ _ (λ (e : Entry) (named : is_named rs e.xid ≡ true). swapped e named (is_dropped rs e.xid) refl) (entries rs) (entries_named rs))
  where
    and_false : (a : Bool) → false ≡ (a && false)
    and_false true = refl
    and_false false = refl

    and_true : (a : Bool) → a ≡ (a && true)
    and_true true = refl
    and_true false = refl

    swapped : (e : Entry) → is_named rs e.xid ≡ true → (d : Bool) → is_dropped rs e.xid ≡ d → (not (is_dropped rs e.xid) && is_in e.xid (all_in (l.members t))) ≡ is_kept rs t e
    swapped e named true is = rw is (and_false (top_of rs e.xid == t))
    swapped e named false is = rw is (sym (member_is l rs t e.xid h running named (undropped rs e.xid is)) ∙ and_true (top_of rs e.xid == t))

-- what holds of the strands of a transaction's xids, joined
of_members : (l : ByXid) (rs : List Record) (t : ℕ) (P : List Entry → Type 0) → AreStrandsOf l rs →
    ((xs : List ℕ) → AreDistinct xs → all_in (l.members t) ≡ xs → P (flat_map (λ x. filter (λ e. e.xid == x) (filter (λ e. not (is_dropped rs e.xid)) (entries rs))) xs)) → P (changes_by_xid l t)
of_members l rs t P h each = by_option (l.members t) refl
  where
    of_these : (xs : List ℕ) → AreDistinct xs → AllByRecursion (λ x. IsSome (l.strand x)) xs → all_in (l.members t) ≡ xs → P (changes_by_xid l t)
    of_these xs distinct some is = subst P (sym (ap (flat_map (λ x. changes_in (l.strand x))) is ∙ kept_xids l rs h xs some)) (each xs distinct is)

    by_option : (o : Option (List ℕ)) → l.members t ≡ o → P (changes_by_xid l t)
    by_option None is = of_these [] tt tt (ap all_in is)
    by_option (Some xs) is =
        let w : IsTransaction l rs t xs = h.transactions t xs is in
        of_these xs w.distinct (each_in (λ x. IsSome (l.strand x)) xs w.strands) (ap all_in is)

-- sorted by position they are what the transaction keeps
kept_merged : (l : ByXid) (rs : List Record) (t : ℕ) (sorted : List Entry) → AreStrandsOf l rs → has_ended rs t ≡ false →
    IsNonDecreasingBy (λ (e : Entry). e.position) sorted → IsStableByKey (λ (e : Entry). e.position) nat_cmp (changes_by_xid l t) sorted → sorted ≡ kept_changes rs t
kept_merged l rs t sorted h running up stable =
    of_members l rs t (λ (es : List Entry). IsStableByKey (λ (e : Entry). e.position) nat_cmp es sorted → sorted ≡ kept_changes rs t) h
    (λ xs distinct is stable'.
    merged (filter (λ e. not (is_dropped rs e.xid)) (entries rs)) (rising_kept _ (entries rs) h.rising) xs distinct sorted up stable'
    ∙ ap (λ ys. filter (λ e. is_in e.xid ys) (filter (λ e. not (is_dropped rs e.xid)) (entries rs))) (sym is) ∙ kept_members l rs t h running)
    stable

-- where it has no other xid than one they are what it keeps as they are
kept_lone : (l : ByXid) (rs : List Record) (t x : ℕ) → AreStrandsOf l rs → has_ended rs t ≡ false → l.members t ≡ Some (x ∷ []) → changes_by_xid l t ≡ kept_changes rs t
kept_lone l rs t x h running lone =
    of_members l rs t (λ (es : List Entry). es ≡ kept_changes rs t) h (λ xs distinct is. by_one xs (sym is ∙ ap all_in lone))
  where
    live : List Entry
    live = filter (λ e. not (is_dropped rs e.xid)) (entries rs)

    or_false : (b : Bool) → b ≡ (b || false)
    or_false true = refl
    or_false false = refl

    agrees : (es : List Entry) → filter (λ e. e.xid == x) es ++ [] ≡ filter (λ e. is_in e.xid (x ∷ [])) es
    agrees es = append-nil (filter (λ e. e.xid == x) es) ∙ filter_same es
      where
        filter_same : (es : List Entry) → filter (λ e. e.xid == x) es ≡ filter (λ e. is_in e.xid (x ∷ [])) es
        filter_same [] = refl
        filter_same (e ∷ es) = rw (← or_false (e.xid == x), filter_same es) refl

    by_one : (xs : List ℕ) → xs ≡ x ∷ [] → flat_map (λ y. filter (λ e. e.xid == y) live) xs ≡ kept_changes rs t
    by_one xs is =
        ap (flat_map (λ y. filter (λ e. e.xid == y) live)) is ∙ agrees live
        ∙ ap (λ ys. filter (λ e. is_in e.xid ys) live) (sym (ap all_in lone)) ∙ kept_members l rs t h running

-- in the order of their positions they are what it keeps
pub kept_in_order : (l : ByXid) (rs : List Record) (t : ℕ) (es : List Entry) → AreStrandsOf l rs → has_ended rs t ≡ false → AreMerged l t es → es ≡ kept_changes rs t
kept_in_order l rs t es h running merged =
    ⊎_elim
    (λ (both : IsNonDecreasingBy (λ (e : Entry). e.position) es × IsStableByKey (λ (e : Entry). e.position) nat_cmp (changes_by_xid l t) es). kept_merged l rs t es h running both.0 both.1)
    (λ (lone : (x : ℕ) × (l.members t ≡ Some (x ∷ [])) × (es ≡ changes_by_xid l t)). lone.2 ∙ kept_lone l rs t lone.0 h running lone.1)
    merged

-- in some order they are what it keeps
pub kept_permuted : (l : ByXid) (rs : List Record) (t : ℕ) → AreStrandsOf l rs → has_ended rs t ≡ false → IsPermutation (changes_by_xid l t) (kept_changes rs t)
kept_permuted l rs t h running =
    of_members l rs t (λ (es : List Entry). IsPermutation es (kept_changes rs t)) h
    (λ xs distinct is.
    subst (λ (es : List Entry). IsPermutation (flat_map (λ x. filter (λ e. e.xid == x) (filter (λ e. not (is_dropped rs e.xid)) (entries rs))) xs) es)
    (ap (λ ys. filter (λ e. is_in e.xid ys) (filter (λ e. not (is_dropped rs e.xid)) (entries rs))) (sym is) ∙ kept_members l rs t h running)
    (permuted (filter (λ e. not (is_dropped rs e.xid)) (entries rs)) xs distinct))

-- nothing is kept of a transaction that has ended
pub none_kept : (l : ByXid) (rs : List Record) (t : ℕ) → AreStrandsOf l rs → has_ended rs t ≡ true → changes_by_xid l t ≡ []
none_kept l rs t h over = by_option (l.members t) refl
  where
    by_option : (o : Option (List ℕ)) → l.members t ≡ o → changes_by_xid l t ≡ []
    by_option None is = rw is refl
    by_option (Some xs) is = let w : IsTransaction l rs t xs = h.transactions t xs is in let never : true ≡ false = sym over ∙ w.running in cc
