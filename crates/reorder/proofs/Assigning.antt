-- A subtransaction comes under its parent.
use Rattle.std.proofs.Common.{◌≡◌, ℕ, ◌==◌, Bool, true, false, ◌||◌, List, [], ◌∷◌, ◌++◌, Option, Some, None, is_some, refl, sym, ap, subst, ◌∙◌, eq-eqb}
use Rattle.std.specs.Prelude.{IsSome}
use Rattle.std.specs.List.{list_any, AllByRecursion}
use Rattle.std.proofs.lemmas.Bool.{eqb-true, ne_eqb}
use Rattle.std.proofs.lemmas.List.{append-nil}
use Rattle.wal.specs.declared.record.Record.{Record}
use Rattle.wal.specs.declared.record.Body.TheVariants.{Assign}
use Rattle.wal.specs.Log.{Entry, is_named, is_undone, is_dropped, has_ended, chain, last_of, top_of, entries}
use Rattle.wal.proofs.Lists.{or_false, eqb_comm, list_any_agrees}
use Rattle.wal.proofs.Laws.{all_when, chain-append, is_named-one, is_undone-one, has_ended-one}
use Rattle.reorder.specs.Rising.{IsRising}
use Rattle.reorder.specs.Pool.{map_with}
use Rattle.reorder.specs.Strands.{StrandState, ByXid, above_in, above_of, fresh, is_in, with_subtransaction, AreDistinct}
use Rattle.reorder.specs.Bookkeeping.{IsStrand, IsTransaction, AreStrandsOf, changes_of}
use Rattle.reorder.proofs.Named.{or_left, or_right, no_changes}
use Rattle.reorder.proofs.Opening.{put_cases, put_here, no_some}
use Rattle.reorder.proofs.Keeping.{entries_push, changes_push}
use Rattle.reorder.proofs.Ordering.{ordered_back, ordered_push}

in_push : (y x : ℕ) (xs : List ℕ) → is_in y (xs ++ x ∷ []) ≡ (is_in y xs || (y == x))
in_push y x [] = or_false (y == x)
in_push y x (z ∷ xs) = ap (λ b. (y == z) || b) (in_push y x xs) ∙ or_assoc (y == z) (is_in y xs) (y == x)
  where
    or_assoc : (a b c : Bool) → (a || (b || c)) ≡ ((a || b) || c)
    or_assoc true b c = refl
    or_assoc false b c = refl

still_in : (y x : ℕ) (xs : List ℕ) → is_in y xs ≡ true → is_in y (xs ++ x ∷ []) ≡ true
still_in y x xs inn = in_push y x xs ∙ ap (λ b. b || (y == x)) inn

last_in : (x : ℕ) (xs : List ℕ) → is_in x (xs ++ x ∷ []) ≡ true
last_in x xs = in_push x x xs ∙ rw (eq-eqb x x refl) (or_last (is_in x xs))
  where
    or_last : (a : Bool) → (a || true) ≡ true
    or_last true = refl
    or_last false = refl

distinct_push : (x : ℕ) (xs : List ℕ) → is_in x xs ≡ false → AreDistinct xs → AreDistinct (xs ++ x ∷ [])
distinct_push x [] out distinct = (refl, tt)
distinct_push x (y ∷ xs) out distinct =
    (in_push y x xs ∙ rw (distinct.0, eqb_comm y x, or_left (x == y) (is_in x xs) out) refl, distinct_push x xs (or_right (x == y) (is_in x xs) out) distinct.1)

-- the parent's strand, and its transaction's xids
abbrev pub placed : ℕ → ℕ → StrandState → List ℕ → ByXid → ByXid
placed sub parent p xs l = record {
  strand = map_with sub (Some (fresh (parent ∷ p.above))) l.strand;
  members = map_with (last_of parent p.above) (Some (xs ++ sub ∷ [])) l.members;
}

placed_kept : (l : ByXid) (rs : List Record) (r : Record) (sub parent : ℕ) (p : StrandState) → AreStrandsOf l rs → (o : IsStrand l rs parent p) → IsSome (l.strand parent) → l.strand sub ≡ None →
    is_named rs sub ≡ false → r.body ≡ Assign sub parent → AreStrandsOf (placed sub parent p o.members l) (rs ++ r ∷ [])
placed_kept l rs r sub parent p h o some none unheard body =
    record {
      strands = λ q s. put_cases (λ w. w ≡ Some s → IsStrand (placed sub parent p o.members l) (rs ++ r ∷ []) q s) sub q (Some (fresh (parent ∷ p.above))) l.strand
          (λ same is. let e : fresh (parent ∷ p.above) ≡ s = cc in
          subst (λ (v : StrandState). IsStrand (placed sub parent p o.members l) (rs ++ r ∷ []) q v) e
          (subst (λ (y : ℕ). IsStrand (placed sub parent p o.members l) (rs ++ r ∷ []) y (fresh (parent ∷ p.above))) same new_strand))
          (λ other is. as_it_was q s other (h.strands q s is));
      transactions = λ t ys. put_cases (λ w. w ≡ Some ys → IsTransaction (placed sub parent p o.members l) (rs ++ r ∷ []) t ys) (last_of parent p.above) t (Some (o.members ++ sub ∷ [])) l.members
          (λ same is. let e : o.members ++ sub ∷ [] ≡ ys = cc in
          subst (λ (v : List ℕ). IsTransaction (placed sub parent p o.members l) (rs ++ r ∷ []) t v) e
          (subst (λ (y : ℕ). IsTransaction (placed sub parent p o.members l) (rs ++ r ∷ []) y (o.members ++ sub ∷ [])) same new_transaction))
          (λ other is. old_transaction t ys (h.transactions t ys is));
      complete = λ q named kept running. put_cases IsSome sub q (Some (fresh (parent ∷ p.above))) l.strand (λ same. refl)
          (λ other. named_before q other (q == parent) refl (sym (named_is q other) ∙ named) (sym (undone_same q) ∙ kept) (sym (ended_same (top_of (rs ++ r ∷ []) q) ∙ ap (has_ended rs) (top_same q other)) ∙ running));
      rising = subst (λ (es : List Entry). IsRising es) (sym (entries_push rs r ∙ rw body (append-nil (entries rs)))) h.rising;
    }
  where
    chain_same : (q : ℕ) → (sub == q) ≡ false → chain (rs ++ r ∷ []) q ≡ chain rs q
    chain_same q other = chain-append rs r q ∙ rw (body, other) refl

    chain_sub : chain (rs ++ r ∷ []) sub ≡ sub ∷ (parent ∷ p.above)
    chain_sub = chain-append rs r sub ∙ rw (body, eq-eqb sub sub refl) (ap (λ ys. sub ∷ ys) o.chain)

    top_same : (q : ℕ) → (sub == q) ≡ false → top_of (rs ++ r ∷ []) q ≡ top_of rs q
    top_same q other = ap (last_of q) (chain_same q other)

    undone_same : (q : ℕ) → is_undone (rs ++ r ∷ []) q ≡ is_undone rs q
    undone_same q = is_undone-one rs r q ∙ rw body (or_false (is_undone rs q))

    dropped_same : (q : ℕ) → (sub == q) ≡ false → is_dropped (rs ++ r ∷ []) q ≡ is_dropped rs q
    dropped_same q other = ap (list_any (is_undone (rs ++ r ∷ []))) (chain_same q other) ∙ list_any_agrees (is_undone (rs ++ r ∷ [])) (is_undone rs) undone_same (chain rs q)

    ended_same : (q : ℕ) → has_ended (rs ++ r ∷ []) q ≡ has_ended rs q
    ended_same q = has_ended-one rs r q ∙ rw body (or_false (has_ended rs q))

    changes_same : (q : ℕ) → changes_of (rs ++ r ∷ []) q ≡ changes_of rs q
    changes_same q = changes_push rs r q ∙ rw body (append-nil (changes_of rs q))

    named_is : (q : ℕ) → (sub == q) ≡ false → is_named (rs ++ r ∷ []) q ≡ (is_named rs q || (q == parent))
    named_is q other = is_named-one rs r q ∙ rw (body, eqb_comm q sub, other) refl

    named_before : (q : ℕ) → (sub == q) ≡ false → (b : Bool) → (q == parent) ≡ b → (is_named rs q || (q == parent)) ≡ true → is_undone rs q ≡ false → has_ended rs (top_of rs q) ≡ false → IsSome (l.strand q)
    named_before q other true is named kept running = subst (λ (y : ℕ). IsSome (l.strand y)) (sym (eqb-true q parent is)) some
    named_before q other false is named kept running = h.complete q (sym (or_false (is_named rs q)) ∙ ap (λ b. is_named rs q || b) (sym is) ∙ named) kept running

    not_sub : (q : ℕ) → IsSome (l.strand q) → (sub == q) ≡ false
    not_sub q has = ne_eqb sub q (λ is. no_some (l.strand q) (ap l.strand (sym is) ∙ none) has)

    home : IsTransaction l rs (last_of parent p.above) o.members
    home = h.transactions (last_of parent p.above) o.members o.members_are

    new_strand : IsStrand (placed sub parent p o.members l) (rs ++ r ∷ []) sub (fresh (parent ∷ p.above))
    new_strand = record {
      chain = chain_sub;
      changes = λ live. sym (changes_same sub ∙ no_changes rs sub unheard);
      freed = λ undone. refl;
      members = o.members ++ sub ∷ [];
      members_are = put_here (last_of parent p.above) (Some (o.members ++ sub ∷ [])) l.members;
      within = (last_in sub o.members, all_when _ _ (λ (y : ℕ) (inn : is_in y o.members ≡ true). still_in y sub o.members inn) (parent ∷ p.above) o.within);
    }

    as_it_was : (q : ℕ) (s : StrandState) → (sub == q) ≡ false → IsStrand l rs q s → IsStrand (placed sub parent p o.members l) (rs ++ r ∷ []) q s
    as_it_was q s other w =
        by_test (last_of parent p.above == last_of q s.above) refl
      where
        by_test : (b : Bool) → (last_of parent p.above == last_of q s.above) ≡ b → IsStrand (placed sub parent p o.members l) (rs ++ r ∷ []) q s
        by_test true same =
            let at : last_of parent p.above ≡ last_of q s.above = eqb-true (last_of parent p.above) (last_of q s.above) same in
            let both : Some w.members ≡ Some o.members = sym w.members_are ∙ ap l.members (sym at) ∙ o.members_are in
            let equal : w.members ≡ o.members = cc in
            record {
              chain = chain_same q other ∙ w.chain;
              changes = λ live. w.changes (sym (dropped_same q other) ∙ live) ∙ sym (changes_same q);
              freed = λ dropped. w.freed (sym (dropped_same q other) ∙ dropped);
              members = o.members ++ sub ∷ [];
              members_are = rw same refl;
              within = all_when _ _ (λ (y : ℕ) (inn : is_in y w.members ≡ true). still_in y sub o.members (subst (λ (ys : List ℕ). is_in y ys ≡ true) equal inn)) (q ∷ s.above) w.within;
            }
        by_test false apart =
            record {
              chain = chain_same q other ∙ w.chain;
              changes = λ live. w.changes (sym (dropped_same q other) ∙ live) ∙ sym (changes_same q);
              freed = λ dropped. w.freed (sym (dropped_same q other) ∙ dropped);
              members = w.members;
              members_are = rw apart w.members_are;
              within = w.within;
            }

    stays : (q : ℕ) → IsSome (l.strand q) → IsSome ((placed sub parent p o.members l).strand q)
    stays q has = put_cases IsSome sub q (Some (fresh (parent ∷ p.above))) l.strand (λ same. refl) (λ other. has)

    above_same : (q : ℕ) → IsSome (l.strand q) → above_of (placed sub parent p o.members l) q ≡ above_of l q
    above_same q has = rw (not_sub q has) refl

    -- an xid of the new list is an old one, or the new one
    member_cases : (P : ℕ → Type 0) (q : ℕ) → ((y : ℕ) → is_in y o.members ≡ true → P y) → P sub → is_in q (o.members ++ sub ∷ []) ≡ true → P q
    member_cases P q old new inn = by_test (q == sub) refl (sym (in_push q sub o.members) ∙ inn)
      where
        by_test : (b : Bool) → (q == sub) ≡ b → (is_in q o.members || (q == sub)) ≡ true → P q
        by_test true is both = subst P (sym (eqb-true q sub is)) new
        by_test false is both = old q (sym (or_false (is_in q o.members)) ∙ ap (λ b. is_in q o.members || b) (sym is) ∙ both)

    new_transaction : IsTransaction (placed sub parent p o.members l) (rs ++ r ∷ []) (last_of parent p.above) (o.members ++ sub ∷ [])
    new_transaction = record {
      running = ended_same (last_of parent p.above) ∙ home.running;
      own = still_in (last_of parent p.above) sub o.members home.own;
      distinct = distinct_push sub o.members (out (is_in sub o.members) refl) home.distinct;
      strands = λ q inn. member_cases (λ y. IsSome ((placed sub parent p o.members l).strand y)) q (λ y old. stays y (home.strands y old)) (ap is_some (put_here sub (Some (fresh (parent ∷ p.above))) l.strand)) inn;
      tops = λ q inn. member_cases (λ y. top_of (rs ++ r ∷ []) y ≡ last_of parent p.above) q (λ y old. top_same y (not_sub y (home.strands y old)) ∙ home.tops y old) (ap (last_of sub) chain_sub) inn;
      ordered = ordered_push (placed sub parent p o.members l) sub o.members
          (ordered_back l (placed sub parent p o.members l) o.members (λ y old. above_same y (home.strands y old)) home.ordered) (out (is_in sub o.members) refl)
          (subst (λ (ys : List ℕ). AllByRecursion (λ y. is_in y o.members ≡ true) ys) (sym (ap above_in (put_here sub (Some (fresh (parent ∷ p.above))) l.strand))) o.within);
    }
      where
        out : (b : Bool) → is_in sub o.members ≡ b → b ≡ false
        out true inn = absurd (no_some (l.strand sub) none (home.strands sub inn))
        out false is = refl

    old_transaction : (t : ℕ) (ys : List ℕ) → IsTransaction l rs t ys → IsTransaction (placed sub parent p o.members l) (rs ++ r ∷ []) t ys
    old_transaction t ys w = record {
      running = ended_same t ∙ w.running;
      own = w.own;
      distinct = w.distinct;
      strands = λ q inn. stays q (w.strands q inn);
      tops = λ q inn. top_same q (not_sub q (w.strands q inn)) ∙ w.tops q inn;
      ordered = ordered_back l (placed sub parent p o.members l) ys (λ q inn. above_same q (w.strands q inn)) w.ordered;
    }

pub assign_kept : (l : ByXid) (rs : List Record) (r : Record) (sub parent : ℕ) → AreStrandsOf l rs → IsSome (l.strand parent) → l.strand sub ≡ None → is_named rs sub ≡ false →
    r.body ≡ Assign sub parent → AreStrandsOf (with_subtransaction sub parent l) (rs ++ r ∷ [])
assign_kept l rs r sub parent h some none unheard body = by_option (l.strand parent) refl some
  where
    by_option : (w : Option StrandState) → l.strand parent ≡ w → IsSome w → AreStrandsOf (with_subtransaction sub parent l) (rs ++ r ∷ [])
    by_option None is has = let never : false ≡ true = has in cc
    by_option (Some p) is has =
        let o : IsStrand l rs parent p = h.strands parent p is in
        let same : with_subtransaction sub parent l ≡ placed sub parent p o.members l = rw (is, o.members_are) refl in
        subst (λ (a : ByXid). AreStrandsOf a (rs ++ r ∷ [])) (sym same) (placed_kept l rs r sub parent p h o some none unheard body)
