-- What is kept, with an xid more.
use Rattle.std.proofs.Common.{◌≡◌, ℕ, ◌==◌, Bool, true, false, cond, ◌||◌, List, [], ◌∷◌, Option, Some, None, is_some, refl, sym, ap, subst, ◌∙◌, eq-eqb}
use Rattle.std.specs.Prelude.{IsSome}
use Rattle.std.specs.List.{AllByRecursion}
use Rattle.std.proofs.lemmas.Bool.{eqb-true}
use Rattle.wal.specs.declared.record.Record.{Record}
use Rattle.wal.specs.Log.{IsOpen, is_named, has_ended, chain, last_of, top_of}
use Rattle.wal.proofs.Laws.{chain-unassigned}
use Rattle.reorder.specs.Pool.{map_with}
use Rattle.reorder.specs.Strands.{StrandState, StrandsState, ByXid, above_in, above_of, by_xid, IsSame, fresh, is_in, with_transaction}
use Rattle.reorder.specs.Bookkeeping.{IsStrand, IsTransaction, AreStrandsOf}
use Rattle.reorder.proofs.Named.{unassigned, undropped, no_changes}
use Rattle.reorder.proofs.Ordering.{ordered_back}

pub put_cases : {A : Type 0} (P : Option A → Type 0) (k x : ℕ) (w : Option A) (f : ℕ → Option A) → (k ≡ x → P w) → ((k == x) ≡ false → P (f x)) → P (map_with k w f x)
put_cases P k x w f here other = by_test (k == x) refl
  where
    by_test : (b : Bool) → (k == x) ≡ b → P (cond b w (f x))
    by_test true is = here (eqb-true k x is)
    by_test false is = other is

pub put_here : {A : Type 0} (k : ℕ) (w : Option A) (f : ℕ → Option A) → map_with k w f k ≡ w
put_here k w f = rw (eq-eqb k k refl) refl

pub no_some : {A : Type 0} (o : Option A) → o ≡ None → IsSome o → ⊥
no_some o none some = let never : false ≡ true = sym (ap is_some none) ∙ some in cc

pub in_one : (y x : ℕ) → is_in y (x ∷ []) ≡ true → x ≡ y
in_one y x is = by_test (y == x) refl is
  where
    by_test : (b : Bool) → (y == x) ≡ b → (b || false) ≡ true → x ≡ y
    by_test true same one = sym (eqb-true y x same)
    by_test false other one = let never : false ≡ true = one in cc

pub one_in : (x : ℕ) (xs : List ℕ) → is_in x (x ∷ xs) ≡ true
one_in x xs = rw (eq-eqb x x refl) refl

-- an xid without a strand that is open is named nowhere
pub strandless : (l : ByXid) (rs : List Record) (x : ℕ) → AreStrandsOf l rs → IsOpen rs x → l.strand x ≡ None → is_named rs x ≡ false
strandless l rs x h alive none = by_test (is_named rs x) refl
  where
    by_test : (b : Bool) → is_named rs x ≡ b → b ≡ false
    by_test true named = absurd (no_some (l.strand x) none (h.complete x named (undropped rs x alive.undropped) alive.running))
    by_test false named = refl

no_members : (l : ByXid) (rs : List Record) (x : ℕ) → AreStrandsOf l rs → l.strand x ≡ None → l.members x ≡ None
no_members l rs x h none = by_option (l.members x) refl
  where
    by_option : (o : Option (List ℕ)) → l.members x ≡ o → o ≡ None
    by_option None is = refl
    by_option (Some xs) is = let t : IsTransaction l rs x xs = h.transactions x xs is in absurd (no_some (l.strand x) none (t.strands x t.own))

start_kept : (l : ByXid) (rs : List Record) (x : ℕ) → AreStrandsOf l rs → IsOpen rs x → l.strand x ≡ None → AreStrandsOf (with_transaction x l) rs
start_kept l rs x h alive none =
    record {
      strands = λ q s. put_cases (λ o. o ≡ Some s → IsStrand (with_transaction x l) rs q s) x q (Some (fresh [])) l.strand
          (λ same is. let e : fresh [] ≡ s = cc in subst (λ (v : StrandState). IsStrand (with_transaction x l) rs q v) e (subst (λ (y : ℕ). IsStrand (with_transaction x l) rs y (fresh [])) same new_strand))
          (λ other is. old_strand q s (h.strands q s is));
      transactions = λ t xs. put_cases (λ o. o ≡ Some xs → IsTransaction (with_transaction x l) rs t xs) x t (Some (x ∷ [])) l.members
          (λ same is. let e : x ∷ [] ≡ xs = cc in subst (λ (v : List ℕ). IsTransaction (with_transaction x l) rs t v) e (subst (λ (y : ℕ). IsTransaction (with_transaction x l) rs y (x ∷ [])) same new_transaction))
          (λ other is. old_transaction t xs (h.transactions t xs is));
      complete = λ q named kept running. put_cases IsSome x q (Some (fresh [])) l.strand (λ same. refl) (λ other. h.complete q named kept running);
      rising = h.rising;
    }
  where
    unheard : is_named rs x ≡ false
    unheard = strandless l rs x h alive none

    alone : chain rs x ≡ x ∷ []
    alone = chain-unassigned rs x (unassigned rs x unheard)

    new_strand : IsStrand (with_transaction x l) rs x (fresh [])
    new_strand = record {
      chain = alone;
      changes = λ live. sym (no_changes rs x unheard);
      freed = λ undone. refl;
      members = x ∷ [];
      members_are = put_here x (Some (x ∷ [])) l.members;
      within = (one_in x [], tt);
    }

    old_strand : (q : ℕ) (s : StrandState) → IsStrand l rs q s → IsStrand (with_transaction x l) rs q s
    old_strand q s o = record {
      chain = o.chain;
      changes = o.changes;
      freed = o.freed;
      members = o.members;
      members_are = put_cases (λ m. m ≡ Some o.members) x (last_of q s.above) (Some (x ∷ [])) l.members
          (λ same. let never : None ≡ Some o.members = sym (no_members l rs x h none) ∙ ap l.members same ∙ o.members_are in cc) (λ other. o.members_are);
      within = o.within;
    }

    new_transaction : IsTransaction (with_transaction x l) rs x (x ∷ [])
    new_transaction = record {
      running = ap (has_ended rs) (sym (ap (last_of x) alone)) ∙ alive.running;
      own = one_in x [];
      distinct = (refl, tt);
      strands = λ q inn. subst (λ (y : ℕ). IsSome ((with_transaction x l).strand y)) (in_one q x inn) (ap is_some (put_here x (Some (fresh [])) l.strand));
      tops = λ q inn. subst (λ (y : ℕ). top_of rs y ≡ x) (in_one q x inn) (ap (last_of x) alone);
      ordered = (refl, subst (λ (ys : List ℕ). AllByRecursion (λ y. is_in y [] ≡ true) ys) (sym (ap above_in (put_here x (Some (fresh [])) l.strand))) tt, tt);
    }

    old_transaction : (t : ℕ) (xs : List ℕ) → IsTransaction l rs t xs → IsTransaction (with_transaction x l) rs t xs
    old_transaction t xs o = record {
      running = o.running;
      own = o.own;
      distinct = o.distinct;
      strands = λ q inn. put_cases IsSome x q (Some (fresh [])) l.strand (λ same. refl) (λ other. o.strands q inn);
      tops = o.tops;
      ordered = ordered_back l (with_transaction x l) xs
          (λ q inn. put_cases (λ w. above_in w ≡ above_of l q) x q (Some (fresh [])) l.strand (λ same. absurd (no_some (l.strand q) (ap l.strand (sym same) ∙ none) (o.strands q inn))) (λ other. refl)) o.ordered;
    }

pub same_kept : (a b : ByXid) (rs : List Record) → IsSame a b → AreStrandsOf b rs → AreStrandsOf a rs
same_kept a b rs same h =
    record {
      strands = λ q s is. let o : IsStrand b rs q s = h.strands q s (sym (same.strand q) ∙ is) in
          record { chain = o.chain; changes = o.changes; freed = o.freed; members = o.members; members_are = same.members (last_of q s.above) ∙ o.members_are; within = o.within };
      transactions = λ t xs is. let o : IsTransaction b rs t xs = h.transactions t xs (sym (same.members t) ∙ is) in
          record {
            running = o.running;
            own = o.own;
            distinct = o.distinct;
            strands = λ q inn. ap is_some (same.strand q) ∙ o.strands q inn;
            tops = o.tops;
            ordered = ordered_back b a xs (λ q inn. ap above_in (same.strand q)) o.ordered;
          };
      complete = λ q named kept running. ap is_some (same.strand q) ∙ h.complete q named kept running;
      rising = h.rising;
    }

-- after `open` the xid has a strand, the rest is as it was, and what is kept is what these records say
pub record Opened (a l : ByXid) (rs : List Record) (x : ℕ) : Type 0 where
  pub kept : AreStrandsOf a rs
  pub some : IsSome (a.strand x)
  pub others : (q : ℕ) → (x == q) ≡ false → a.strand q ≡ l.strand q

pub opened : (s now : StrandsState) (rs : List Record) (x : ℕ) → AreStrandsOf (by_xid s) rs → IsOpen rs x → (IsSome ((by_xid s).strand x) → now ≡ s) →
    ((by_xid s).strand x ≡ None → IsSame (by_xid now) (with_transaction x (by_xid s))) → Opened (by_xid now) (by_xid s) rs x
opened s now rs x h alive known new = by_option ((by_xid s).strand x) refl
  where
    by_option : (o : Option StrandState) → (by_xid s).strand x ≡ o → Opened (by_xid now) (by_xid s) rs x
    by_option None is =
        let same : IsSame (by_xid now) (with_transaction x (by_xid s)) = new is in
        record {
          kept = same_kept (by_xid now) (with_transaction x (by_xid s)) rs same (start_kept (by_xid s) rs x h alive is);
          some = ap is_some (same.strand x ∙ put_here x (Some (fresh [])) (by_xid s).strand);
          others = λ q other. same.strand q ∙ rw other refl;
        }
    by_option (Some v) is =
        let some : IsSome ((by_xid s).strand x) = ap is_some is in
        subst (λ (t : StrandsState). Opened (by_xid t) (by_xid s) rs x) (sym (known some)) (record { kept = h; some = some; others = λ q other. refl })
