-- What a record does to what is kept is what it does to the log: a change, a rollback, and the end of a transaction.
use Rattle.std.proofs.Common.{◌≡◌, ℕ, ◌<◌, ◌==◌, Bool, true, false, cond, ◌&&◌, ◌||◌, List, [], ◌∷◌, ◌++◌, reverse, Option, Some, None, refl, sym, ap, subst, ◌∙◌, eq-eqb}
use Rattle.std.specs.Prelude.{IsSome}
use Rattle.std.specs.List.{filter, list_any, AllByRecursion}
use Rattle.std.specs.Option.{option_map}
use Rattle.std.proofs.lemmas.Bool.{ne_eqb}
use Rattle.std.proofs.lemmas.List.{append-nil}
use Rattle.std.proofs.lemmas.List.Elements.{filter-append}
use Rattle.wal.specs.declared.record.Record.{Record}
use Rattle.wal.specs.Log.{Entry, IsOpen, names, is_named, is_assigned, undoes, is_undone, is_dropped, ends, has_ended, chain, last_of, top_of, entry_at, entries}
use Rattle.wal.proofs.Lists.{or_false, eqb_comm, all_append, list_any_agrees}
use Rattle.wal.proofs.Laws.{chain-append, chain-unassigned, is_named-one, is_undone-one, has_ended-one, dropped-kept, entries-append, KeepsChains}
use Rattle.reorder.specs.Rising.{IsRising}
use Rattle.reorder.specs.Strands.{StrandState, ByXid, above_in, above_of, all_in, back_from_last, behind, is_in, strand_after_rollback, with_change, with_change_of, after_rollback_of, without_transaction}
use Rattle.reorder.specs.Bookkeeping.{IsStrand, IsTransaction, AreStrandsOf, changes_of}
use Rattle.reorder.specs.Taking.{StartsBehind}
use Rattle.reorder.proofs.Named.{or_left, or_right, or_true, entries_before}
use Rattle.reorder.proofs.Opening.{put_cases}
use Rattle.reorder.proofs.Ordering.{in_reversed, one_of, ordered_back, stands_after}

pub some_of : {A B : Type 0} (f : A → B) (o : Option A) → IsSome o → IsSome (option_map f o)
some_of f None some = some
some_of f (Some a) some = refl

-- what an entry was before it was changed
pub record Mapped {A B : Type 0} (f : A → B) (o : Option A) (b : B) : Type 0 where
  pub was : A
  pub was_is : o ≡ Some was
  pub now_is : f was ≡ b

pub mapped : {A B : Type 0} (f : A → B) (o : Option A) (b : B) → option_map f o ≡ Some b → Mapped f o b
mapped f None b is = let never : None ≡ Some b = is in cc
mapped f (Some a) b is = let e : f a ≡ b = cc in record { was = a; was_is = refl; now_is = e }

pub entries_push : (rs : List Record) (r : Record) → entries (rs ++ r ∷ []) ≡ entries rs ++ entry_at r.start r.body
entries_push rs r = entries-append rs (r ∷ []) ∙ ap (λ es. entries rs ++ es) (append-nil (entry_at r.start r.body))

pub changes_push : (rs : List Record) (r : Record) (x : ℕ) → changes_of (rs ++ r ∷ []) x ≡ changes_of rs x ++ filter (λ e. e.xid == x) (entry_at r.start r.body)
changes_push rs r x = ap (filter (λ e. e.xid == x)) (entries_push rs r) ∙ filter-append (λ e. e.xid == x) (entries rs) (entry_at r.start r.body)

rising_push : (es : List Entry) (e : Entry) → IsRising es → AllByRecursion (λ f. f.position < e.position) es → IsRising (es ++ e ∷ [])
rising_push [] e up all = (tt, tt)
rising_push (f ∷ es) e up all = (all_append _ es (e ∷ []) up.0 (all.0, tt), rising_push es e up.1 all.1)

top_same : (rs : List Record) (r : Record) → KeepsChains r.body → (x : ℕ) → top_of (rs ++ r ∷ []) x ≡ top_of rs x
top_same rs r keeps x = ap (last_of x) (chain-append rs r x ∙ keeps (chain rs) x)

ended_same : (rs : List Record) (r : Record) → KeepsChains r.body → ((y : ℕ) → ends y r.body ≡ false) → (x : ℕ) →
    has_ended (rs ++ r ∷ []) (top_of (rs ++ r ∷ []) x) ≡ has_ended rs (top_of rs x)
ended_same rs r keeps ending x =
    ap (has_ended (rs ++ r ∷ [])) (top_same rs r keeps x) ∙ has_ended-one rs r (top_of rs x) ∙ ap (λ b. has_ended rs (top_of rs x) || b) (ending (top_of rs x)) ∙ or_false (has_ended rs (top_of rs x))

-- an xid that a record other than an Assign names is the record's, or was named before
was_named : (rs : List Record) (r : Record) (x q : ℕ) → names q r.body ≡ (q == x) → (x == q) ≡ false → is_named (rs ++ r ∷ []) q ≡ true → is_named rs q ≡ true
was_named rs r x q naming other named =
    sym (or_false (is_named rs q)) ∙ ap (λ b. is_named rs q || b) (sym (naming ∙ eqb_comm q x ∙ other)) ∙ sym (is_named-one rs r q) ∙ named

none_any : (xs : List ℕ) → list_any (λ y. false) xs ≡ false
none_any [] = refl
none_any (x ∷ xs) = none_any xs

-- a record that rolls nothing back drops nothing
dropped_same : (rs : List Record) (r : Record) → KeepsChains r.body → ((y : ℕ) → undoes y r.body ≡ false) → (q : ℕ) → is_dropped (rs ++ r ∷ []) q ≡ is_dropped rs q
dropped_same rs r keeps undoing q =
    dropped-kept rs r keeps q ∙ ap (λ b. is_dropped rs q || b) (list_any_agrees (λ y. undoes y r.body) (λ y. false) undoing (chain rs q) ∙ none_any (chain rs q)) ∙ or_false (is_dropped rs q)

-- what is kept of a transaction's xids, where only the strands change, and none goes
strands_changed : (l a : ByXid) (rs : List Record) (r : Record) → KeepsChains r.body → ((y : ℕ) → ends y r.body ≡ false) → ((x : ℕ) → IsSome (l.strand x) → IsSome (a.strand x)) →
    ((x : ℕ) → above_of a x ≡ above_of l x) → (t : ℕ) (xs : List ℕ) → IsTransaction l rs t xs → IsTransaction a (rs ++ r ∷ []) t xs
strands_changed l a rs r keeps ending stay above t xs o = record {
  running = has_ended-one rs r t ∙ ap (λ b. has_ended rs t || b) (ending t) ∙ or_false (has_ended rs t) ∙ o.running;
  own = o.own;
  distinct = o.distinct;
  strands = λ q inn. stay q (o.strands q inn);
  tops = λ q inn. top_same rs r keeps q ∙ o.tops q inn;
  ordered = ordered_back l a xs (λ q inn. above q) o.ordered;
}

-- A CHANGE

above_mapped : (f : StrandState → StrandState) (o : Option StrandState) → ((s : StrandState) → (f s).above ≡ s.above) → above_in (option_map f o) ≡ above_in o
above_mapped f None same = refl
above_mapped f (Some s) same = same s

pub push_kept : (l : ByXid) (rs : List Record) (r : Record) (x : ℕ) (e : Entry) → AreStrandsOf l rs → IsOpen rs x → IsSome (l.strand x) → StartsBehind rs r →
    KeepsChains r.body → ((y : ℕ) → undoes y r.body ≡ false) → ((y : ℕ) → ends y r.body ≡ false) → ((y : ℕ) → names y r.body ≡ (y == x)) →
    entry_at r.start r.body ≡ e ∷ [] → e.xid ≡ x → e.position ≡ r.start → AreStrandsOf (with_change_of x e l) (rs ++ r ∷ [])
push_kept l rs r x e h alive has behind keeps undoing ending naming made xid position =
    record {
      strands = λ q s. put_cases (λ o. o ≡ Some s → IsStrand (with_change_of x e l) (rs ++ r ∷ []) q s) x q (option_map (with_change e) (l.strand x)) l.strand
          (λ same is. let m : Mapped (with_change e) (l.strand x) s = mapped (with_change e) (l.strand x) s is in
          subst (λ (v : StrandState). IsStrand (with_change_of x e l) (rs ++ r ∷ []) q v) m.now_is
          (subst (λ (y : ℕ). IsStrand (with_change_of x e l) (rs ++ r ∷ []) y (with_change e m.was)) same (grown m.was (h.strands x m.was m.was_is))))
          (λ other is. as_it_was q s other (h.strands q s is));
      transactions = λ t xs is. strands_changed l (with_change_of x e l) rs r keeps ending
          (λ q some. put_cases IsSome x q (option_map (with_change e) (l.strand x)) l.strand (λ same. some_of (with_change e) (l.strand x) has) (λ other. some))
          (λ q. put_cases (λ o. above_in o ≡ above_of l q) x q (option_map (with_change e) (l.strand x)) l.strand
          (λ same. above_mapped (with_change e) (l.strand x) (λ s. refl) ∙ ap (above_of l) same) (λ other. refl))
          t xs (h.transactions t xs is);
      complete = λ q named kept running. put_cases IsSome x q (option_map (with_change e) (l.strand x)) l.strand (λ same. some_of (with_change e) (l.strand x) has)
          (λ other. h.complete q (was_named rs r x q (naming q) other named) (sym (undone_same q) ∙ kept) (sym (ended_same rs r keeps ending q) ∙ running));
      rising = subst (λ (es : List Entry). IsRising es) (sym (entries_push rs r ∙ ap (λ es. entries rs ++ es) made))
          (rising_push (entries rs) e h.rising (subst (λ (n : ℕ). AllByRecursion (λ f. f.position < n) (entries rs)) (sym position) (entries_before rs r behind)));
    }
  where
    chain_same : (q : ℕ) → chain (rs ++ r ∷ []) q ≡ chain rs q
    chain_same q = chain-append rs r q ∙ keeps (chain rs) q

    undone_same : (q : ℕ) → is_undone (rs ++ r ∷ []) q ≡ is_undone rs q
    undone_same q = is_undone-one rs r q ∙ ap (λ b. is_undone rs q || b) (undoing q) ∙ or_false (is_undone rs q)

    grown : (s : StrandState) → IsStrand l rs x s → IsStrand (with_change_of x e l) (rs ++ r ∷ []) x (with_change e s)
    grown s o = record {
      chain = chain_same x ∙ o.chain;
      freed = λ dropped. let never : true ≡ false = sym dropped ∙ dropped_same rs r keeps undoing x ∙ alive.undropped in cc;
      changes = λ live. ap (λ es. es ++ e ∷ []) (o.changes alive.undropped) ∙ sym (changes_push rs r x ∙ ap (λ es. changes_of rs x ++ es) (ap (filter (λ f. f.xid == x)) made ∙ rw (eq-eqb e.xid x xid) refl));
      members = o.members;
      members_are = o.members_are;
      within = o.within;
    }

    as_it_was : (q : ℕ) (s : StrandState) → (x == q) ≡ false → IsStrand l rs q s → IsStrand (with_change_of x e l) (rs ++ r ∷ []) q s
    as_it_was q s other o = record {
      chain = chain_same q ∙ o.chain;
      freed = λ dropped. o.freed (sym (dropped_same rs r keeps undoing q) ∙ dropped);
      changes = λ live. o.changes (sym (dropped_same rs r keeps undoing q) ∙ live)
          ∙ sym (changes_push rs r q ∙ ap (λ es. changes_of rs q ++ es) (ap (filter (λ f. f.xid == q)) made ∙ rw (xid, other) refl) ∙ append-nil (changes_of rs q));
      members = o.members;
      members_are = o.members_are;
      within = o.within;
    }

-- A ROLLBACK

-- the transaction of an xid that has a strand
top_above : (l : ByXid) (rs : List Record) (x : ℕ) → AreStrandsOf l rs → IsSome (l.strand x) → last_of x (above_of l x) ≡ top_of rs x
top_above l rs x h some = by_option (l.strand x) refl some
  where
    by_option : (o : Option StrandState) → l.strand x ≡ o → IsSome o → last_of x (above_in (l.strand x)) ≡ top_of rs x
    by_option None is has = let never : false ≡ true = has in cc
    by_option (Some s) is has = let o : IsStrand l rs x s = h.strands x s is in ap (λ w. last_of x (above_in w)) is ∙ ap (last_of x) (sym o.chain)

-- an xid under another stands after it
below_is : (l : ByXid) (rs : List Record) (x q : ℕ) (s : StrandState) → AreStrandsOf l rs → l.strand q ≡ Some s → is_in x s.above ≡ true → is_in q (behind x (back_from_last l x)) ≡ true
below_is l rs x q s h is above =
    let o : IsStrand l rs q s = h.strands q s is in
    let w : IsTransaction l rs (last_of q s.above) o.members = h.transactions (last_of q s.above) o.members o.members_are in
    let inn : is_in x o.members ≡ true = one_of (λ y. is_in y o.members ≡ true) x s.above o.within.1 above in
    let top : last_of x (above_of l x) ≡ last_of q s.above = top_above l rs x h (w.strands x inn) ∙ w.tops x inn in
    let back : back_from_last l x ≡ reverse o.members = ap (λ t. reverse (all_in (l.members t))) top ∙ ap (λ m. reverse (all_in m)) o.members_are in
    ap (λ ys. is_in q (behind x ys)) back
    ∙ stands_after l x q (reverse o.members) w.ordered (in_reversed q o.members ∙ o.within.0) (ap (λ v. is_in x (above_in v)) is ∙ above)

pub nothing_left : {A : Type 0} (b : Bool) (es : List A) → es ≡ [] → cond b [] es ≡ []
nothing_left true es none = refl
nothing_left false es none = none

and_false : (a : Bool) → (a && false) ≡ false
and_false true = refl
and_false false = refl

pub undo_kept : (l : ByXid) (rs : List Record) (r : Record) (x : ℕ) → AreStrandsOf l rs →
    KeepsChains r.body → ((y : ℕ) → undoes y r.body ≡ (x == y)) → ((y : ℕ) → ends y r.body ≡ false) → ((y : ℕ) → names y r.body ≡ (y == x)) →
    entry_at r.start r.body ≡ [] → AreStrandsOf (after_rollback_of x l) (rs ++ r ∷ [])
undo_kept l rs r x h keeps undoing ending naming none =
    record {
      strands = λ q s is. let m : Mapped (strand_after_rollback x (back_from_last l x) q) (l.strand q) s = mapped (strand_after_rollback x (back_from_last l x) q) (l.strand q) s is in
          subst (λ (v : StrandState). IsStrand (after_rollback_of x l) (rs ++ r ∷ []) q v) m.now_is (rolled q m.was m.was_is (h.strands q m.was m.was_is));
      transactions = λ t xs is. strands_changed l (after_rollback_of x l) rs r keeps ending (λ q some. some_of (strand_after_rollback x (back_from_last l x) q) (l.strand q) some)
          (λ q. above_mapped (strand_after_rollback x (back_from_last l x) q) (l.strand q) (λ s. refl)) t xs (h.transactions t xs is);
      complete = λ q named kept running. still q (x == q) refl named kept running;
      rising = subst (λ (es : List Entry). IsRising es) (sym (entries_push rs r ∙ ap (λ es. entries rs ++ es) none ∙ append-nil (entries rs))) h.rising;
    }
  where
    undone_more : (q : ℕ) → is_undone (rs ++ r ∷ []) q ≡ (is_undone rs q || (x == q))
    undone_more q = is_undone-one rs r q ∙ ap (λ b. is_undone rs q || b) (undoing q)

    dropped_more : (q : ℕ) → is_dropped (rs ++ r ∷ []) q ≡ (is_dropped rs q || is_in x (chain rs q))
    dropped_more q = dropped-kept rs r keeps q ∙ ap (λ b. is_dropped rs q || b) (list_any_agrees (λ y. undoes y r.body) (λ y. x == y) undoing (chain rs q))

    still : (q : ℕ) (b : Bool) → (x == q) ≡ b → is_named (rs ++ r ∷ []) q ≡ true → is_undone (rs ++ r ∷ []) q ≡ false → has_ended (rs ++ r ∷ []) (top_of (rs ++ r ∷ []) q) ≡ false → IsSome (option_map (strand_after_rollback x (back_from_last l x) q) (l.strand q))
    still q true same named kept running = let never : true ≡ false = sym (or_true (is_undone rs q) (x == q) same) ∙ sym (undone_more q) ∙ kept in cc
    still q false other named kept running =
        some_of (strand_after_rollback x (back_from_last l x) q) (l.strand q)
        (h.complete q (was_named rs r x q (naming q) other named) (or_left (is_undone rs q) (x == q) (sym (undone_more q) ∙ kept)) (sym (ended_same rs r keeps ending q) ∙ running))

    rolled : (q : ℕ) (s : StrandState) → l.strand q ≡ Some s → IsStrand l rs q s → IsStrand (after_rollback_of x l) (rs ++ r ∷ []) q (strand_after_rollback x (back_from_last l x) q s)
    rolled q s is o = record {
      chain = chain-append rs r q ∙ keeps (chain rs) q ∙ o.chain;
      changes = λ live. kept_on (sym (dropped_more q) ∙ live);
      freed = λ dropped. given_up (is_dropped rs q) refl (sym (dropped_more q) ∙ dropped);
      members = o.members;
      members_are = o.members_are;
      within = o.within;
    }
      where
        kept_on : (is_dropped rs q || is_in x (chain rs q)) ≡ false → (strand_after_rollback x (back_from_last l x) q s).changes ≡ changes_of (rs ++ r ∷ []) q
        kept_on both =
            let apart : is_in x (q ∷ s.above) ≡ false = ap (is_in x) (sym o.chain) ∙ or_right (is_dropped rs q) (is_in x (chain rs q)) both in
            rw (or_left (x == q) (is_in x s.above) apart, or_right (x == q) (is_in x s.above) apart, and_false (is_in q (behind x (back_from_last l x))))
            (o.changes (or_left (is_dropped rs q) (is_in x (chain rs q)) both)
            ∙ sym (changes_push rs r q ∙ ap (λ es. changes_of rs q ++ filter (λ f. f.xid == q) es) none ∙ append-nil (changes_of rs q)))

        under_it : (a b : Bool) → (x == q) ≡ a → is_in x s.above ≡ b → (a || b) ≡ true → (strand_after_rollback x (back_from_last l x) q s).changes ≡ []
        under_it true b same above both = rw same refl
        under_it false true other above both = rw (other, below_is l rs x q s h is above, above) refl
        under_it false false other above both = let never : false ≡ true = both in cc

        given_up : (d : Bool) → is_dropped rs q ≡ d → (d || is_in x (chain rs q)) ≡ true → (strand_after_rollback x (back_from_last l x) q s).changes ≡ []
        given_up true dropped both = nothing_left ((x == q) || (is_in q (behind x (back_from_last l x)) && is_in x s.above)) s.changes (o.freed dropped)
        given_up false live both = under_it (x == q) (is_in x s.above) refl refl (ap (is_in x) (sym o.chain) ∙ both)

-- A RECORD OF NO TRANSACTION

pub quiet_kept : (l : ByXid) (rs : List Record) (r : Record) → AreStrandsOf l rs → KeepsChains r.body → ((y : ℕ) → undoes y r.body ≡ false) → ((y : ℕ) → ends y r.body ≡ false) →
    ((y : ℕ) → names y r.body ≡ false) → entry_at r.start r.body ≡ [] → AreStrandsOf l (rs ++ r ∷ [])
quiet_kept l rs r h keeps undoing ending naming none = record {
  strands = λ q s is. strand q s (h.strands q s is);
  transactions = λ t xs is. strands_changed l l rs r keeps ending (λ q some. some) (λ q. refl) t xs (h.transactions t xs is);
  complete = λ q named kept running. h.complete q (sym (named_same q) ∙ named) (sym (undone_same q) ∙ kept) (sym (ended_same rs r keeps ending q) ∙ running);
  rising = subst (λ (es : List Entry). IsRising es) (sym (entries_push rs r ∙ ap (λ es. entries rs ++ es) none ∙ append-nil (entries rs))) h.rising;
}
  where
    named_same : (q : ℕ) → is_named (rs ++ r ∷ []) q ≡ is_named rs q
    named_same q = is_named-one rs r q ∙ ap (λ b. is_named rs q || b) (naming q) ∙ or_false (is_named rs q)

    undone_same : (q : ℕ) → is_undone (rs ++ r ∷ []) q ≡ is_undone rs q
    undone_same q = is_undone-one rs r q ∙ ap (λ b. is_undone rs q || b) (undoing q) ∙ or_false (is_undone rs q)

    strand : (q : ℕ) (s : StrandState) → IsStrand l rs q s → IsStrand l (rs ++ r ∷ []) q s
    strand q s o = record {
      chain = chain-append rs r q ∙ keeps (chain rs) q ∙ o.chain;
      changes = λ live. o.changes (sym (dropped_same rs r keeps undoing q) ∙ live)
          ∙ sym (changes_push rs r q ∙ ap (λ es. changes_of rs q ++ filter (λ f. f.xid == q) es) none ∙ append-nil (changes_of rs q));
      freed = λ dropped. o.freed (sym (dropped_same rs r keeps undoing q) ∙ dropped);
      members = o.members;
      members_are = o.members_are;
      within = o.within;
    }

-- AN END

pub top_of_member : (l : ByXid) (rs : List Record) (t q : ℕ) → AreStrandsOf l rs → is_in q (all_in (l.members t)) ≡ true → top_of rs q ≡ t
top_of_member l rs t q h inn = by_option (l.members t) refl inn
  where
    by_option : (o : Option (List ℕ)) → l.members t ≡ o → is_in q (all_in o) ≡ true → top_of rs q ≡ t
    by_option None is inn' = let never : false ≡ true = inn' in cc
    by_option (Some xs) is inn' = let o : IsTransaction l rs t xs = h.transactions t xs is in o.tops q inn'

not_member : (l : ByXid) (rs : List Record) (t q : ℕ) → AreStrandsOf l rs → (t == top_of rs q) ≡ false → is_in q (all_in (l.members t)) ≡ false
not_member l rs t q h other = by_test (is_in q (all_in (l.members t))) refl
  where
    by_test : (b : Bool) → is_in q (all_in (l.members t)) ≡ b → b ≡ false
    by_test true inn = let never : true ≡ false = sym (eq-eqb t (top_of rs q) (sym (top_of_member l rs t q h inn))) ∙ other in cc
    by_test false out = refl

pub end_kept : (l : ByXid) (rs : List Record) (r : Record) (t : ℕ) → AreStrandsOf l rs → is_assigned rs t ≡ false →
    KeepsChains r.body → ((y : ℕ) → undoes y r.body ≡ false) → ((y : ℕ) → ends y r.body ≡ (t == y)) → ((y : ℕ) → names y r.body ≡ (y == t)) →
    entry_at r.start r.body ≡ [] → AreStrandsOf (without_transaction t l) (rs ++ r ∷ [])
end_kept l rs r t h alone keeps undoing ending naming none =
    record {
      strands = λ q s is. strand q s (is_in q (all_in (l.members t))) refl is;
      transactions = λ t' xs. put_cases (λ o. o ≡ Some xs → IsTransaction (without_transaction t l) (rs ++ r ∷ []) t' xs) t t' None l.members
          (λ same is. let never : None ≡ Some xs = is in cc) (λ other is. transaction t' xs other (h.transactions t' xs is));
      complete = λ q named kept running.
          let both : (has_ended rs (top_of rs q) || (t == top_of rs q)) ≡ false = sym (ap (has_ended (rs ++ r ∷ [])) (top_same rs r keeps q) ∙ has_ended-one rs r (top_of rs q)
          ∙ ap (λ b. has_ended rs (top_of rs q) || b) (ending (top_of rs q))) ∙ running in
          let apart : (t == top_of rs q) ≡ false = or_right (has_ended rs (top_of rs q)) (t == top_of rs q) both in
          stays q (not_member l rs t q h apart) (h.complete q (was_named rs r t q (naming q) (not_top q apart) named) (sym (undone_same q) ∙ kept) (or_left (has_ended rs (top_of rs q)) (t == top_of rs q) both));
      rising = subst (λ (es : List Entry). IsRising es) (sym (entries_push rs r ∙ ap (λ es. entries rs ++ es) none ∙ append-nil (entries rs))) h.rising;
    }
  where
    undone_same : (q : ℕ) → is_undone (rs ++ r ∷ []) q ≡ is_undone rs q
    undone_same q = is_undone-one rs r q ∙ ap (λ b. is_undone rs q || b) (undoing q) ∙ or_false (is_undone rs q)

    stays : (q : ℕ) → is_in q (all_in (l.members t)) ≡ false → IsSome (l.strand q) → IsSome ((without_transaction t l).strand q)
    stays q out some = rw out some

    not_top : (q : ℕ) → (t == top_of rs q) ≡ false → (t == q) ≡ false
    not_top q apart = ne_eqb t q (λ is. let never : true ≡ false = sym (eq-eqb t (top_of rs t) (sym (ap (last_of t) (chain-unassigned rs t alone)))) ∙ ap (λ y. t == top_of rs y) is ∙ apart in cc)

    strand : (q : ℕ) (s : StrandState) (b : Bool) → is_in q (all_in (l.members t)) ≡ b → cond b None (l.strand q) ≡ Some s → IsStrand (without_transaction t l) (rs ++ r ∷ []) q s
    strand q s true inn is = let never : None ≡ Some s = is in cc
    strand q s false out is =
        let o : IsStrand l rs q s = h.strands q s is in
        record {
          chain = chain-append rs r q ∙ keeps (chain rs) q ∙ o.chain;
          freed = λ dropped. o.freed (sym (dropped_same rs r keeps undoing q) ∙ dropped);
          changes = λ live. o.changes (sym (dropped_same rs r keeps undoing q) ∙ live) ∙ sym (changes_push rs r q ∙ ap (λ es. changes_of rs q ++ filter (λ f. f.xid == q) es) none ∙ append-nil (changes_of rs q));
          members = o.members;
          members_are = put_cases (λ m. m ≡ Some o.members) t (last_of q s.above) None l.members
              (λ same. let never : true ≡ false = sym (ap (λ m. is_in q (all_in m)) (ap l.members same ∙ o.members_are) ∙ o.within.0) ∙ out in cc) (λ other. o.members_are);
          within = o.within;
        }

    transaction : (t' : ℕ) (xs : List ℕ) → (t == t') ≡ false → IsTransaction l rs t' xs → IsTransaction (without_transaction t l) (rs ++ r ∷ []) t' xs
    transaction t' xs other o = record {
      running = has_ended-one rs r t' ∙ ap (λ b. has_ended rs t' || b) (ending t' ∙ other) ∙ or_false (has_ended rs t') ∙ o.running;
      own = o.own;
      distinct = o.distinct;
      strands = λ q inn. stays q (apart q inn) (o.strands q inn);
      tops = λ q inn. top_same rs r keeps q ∙ o.tops q inn;
      ordered = ordered_back l (without_transaction t l) xs (λ q inn. rw (apart q inn) refl) o.ordered;
    }
      where
        apart : (q : ℕ) → is_in q xs ≡ true → is_in q (all_in (l.members t)) ≡ false
        apart q inn = not_member l rs t q h (ap (λ y. t == y) (o.tops q inn) ∙ other)
