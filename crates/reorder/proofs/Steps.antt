-- Each record leaves what is kept as the log with it has it, and a Commit gives what its transaction keeps.
use Rattle.std.proofs.Common.{◌≡◌, ℕ, ℤ, ◌==◌, Bool, true, false, cond, ◌||◌, List, [], ◌∷◌, ◌++◌, Option, Some, None, refl, sym, ap, subst, ◌∙◌}
use Rattle.std.specs.Prelude.{IsSome}
use Rattle.std.specs.Map.{lookup}
use Rattle.std.specs.Option.{option_map}
use Rattle.tables.specs.declared.changes.change.Change.{Change}
use Rattle.wal.specs.declared.record.Record.{Record}
use Rattle.wal.specs.declared.record.Body.{Body}
use Rattle.wal.specs.declared.record.Body.TheVariants.{Assign, Change as Changed, AbortSub, Abort, Commit, Note}
use Rattle.wal.specs.Log.{Entry, names, is_named, has_ended, last_of, top_of, kept_changes}
use Rattle.wal.proofs.Lists.{eqb_comm}
use Rattle.wal.proofs.Laws.{chain-unassigned, is_named-one}
use Rattle.reorder.specs.Kept.{kept_entry}
use Rattle.reorder.specs.Pool.{map_with}
use Rattle.reorder.specs.Strands.{AreMerged, StrandsState, ByXid, IsSame, by_xid, strand_at, fresh, above_of, is_in, all_in, back_from_last, strand_after_rollback, with_change, with_transaction, with_subtransaction, with_change_of, after_rollback_of, without_transaction}
use Rattle.reorder.specs.Bookkeeping.{IsBookkeeping}
use Rattle.reorder.specs.Taking.{ReorderState, HasTaken, IsSameTaken, MayCome, StartsBehind, Takes, promised_changes}
use Rattle.reorder.proofs.Named.{or_left, or_right}
use Rattle.reorder.proofs.Opening.{Opened, opened, same_kept}
use Rattle.reorder.proofs.Assigning.{assign_kept}
use Rattle.reorder.proofs.Keeping.{push_kept, undo_kept, end_kept, quiet_kept}
use Rattle.reorder.proofs.Committing.{kept_in_order, kept_permuted, none_kept}

abbrev pub state : StrandsState → Bool → ReorderState
state s failed = record { strands = s; failed = failed }

pub has_taken : (s : StrandsState) (failed : Bool) (rs : List Record) → IsBookkeeping (by_xid s) rs → HasTaken (state s failed) rs
has_taken s failed rs h = record {
  running = λ t running. kept_permuted (by_xid s) rs t h.strands running;
  ended = λ t over. none_kept (by_xid s) rs t h.strands over;
  ready = h;
}

pub nothing_taken : (s : StrandsState) (failed : Bool) → s.strands ≡ [] → s.members ≡ [] → HasTaken (state s failed) []
nothing_taken s failed no_strands no_members = has_taken s failed [] (record {
  strands = record {
    strands = λ x t is. let never : None ≡ Some t = sym (none x) ∙ is in cc;
    transactions = λ t xs is. let never : None ≡ Some xs = sym (ap (λ ms. lookup (λ k. t == k) ms) no_members) ∙ is in cc;
    complete = λ x named kept running. let never : false ≡ true = named in cc;
    rising = tt;
  };
  unnamed = λ x unnamed. none x;
})
  where
    none : (x : ℕ) → (by_xid s).strand x ≡ None
    none x = ap (λ ss. strand_at ss s.pool x) no_strands

-- what the bookkeeping does with a record of this body that may come next is what `Takes` asks
takes : (s now : StrandsState) (b d : Bool) (r : Record) (body : Body) (ready : Option (List Entry)) → r.body ≡ body →
    ((before : List Record) → IsBookkeeping (by_xid s) before → MayCome before body → StartsBehind before r → IsBookkeeping (by_xid now) (before ++ r ∷ []) × (ready ≡ promised_changes before body)) →
    Takes (state s b) (state now d) r ready
takes s now b d r body ready is each = record {
  after = λ before h next behind.
      let both = each before h.ready (subst (λ (c : Body). MayCome before c) is next) behind in
      (has_taken now d (before ++ r ∷ []) both.0, both.1 ∙ ap (promised_changes before) (sym is));
}

-- an xid that is not named with the record is not named without it, nor by it
before_too : (before : List Record) (r : Record) (q : ℕ) → is_named (before ++ r ∷ []) q ≡ false → is_named before q ≡ false
before_too before r q unheard = or_left (is_named before q) (names q r.body) (sym (is_named-one before r q) ∙ unheard)

not_here : (before : List Record) (r : Record) (body : Body) (q : ℕ) → r.body ≡ body → is_named (before ++ r ∷ []) q ≡ false → names q body ≡ false
not_here before r body q is unheard = ap (names q) (sym is) ∙ or_right (is_named before q) (names q r.body) (sym (is_named-one before r q) ∙ unheard)

put_apart : {A : Type 0} (k q : ℕ) (w : Option A) (f : ℕ → Option A) → (q == k) ≡ false → map_with k w f q ≡ f q
put_apart k q w f apart = rw (eqb_comm k q, apart) refl

pub taken_assign : (s mid now : StrandsState) (b d : Bool) (r : Record) (sub parent : ℕ) → r.body ≡ Assign sub parent →
    (IsSome ((by_xid s).strand parent) → mid ≡ s) → ((by_xid s).strand parent ≡ None → IsSame (by_xid mid) (with_transaction parent (by_xid s))) →
    IsSame (by_xid now) (with_subtransaction sub parent (by_xid mid)) → Takes (state s b) (state now d) r None
taken_assign s mid now b d r sub parent body known new same = takes s now b d r (Assign sub parent) None body (λ before h next behind. (after before h next, refl))
  where
    after : (before : List Record) → IsBookkeeping (by_xid s) before → MayCome before (Assign sub parent) → IsBookkeeping (by_xid now) (before ++ r ∷ [])
    after before h next =
        let o : Opened (by_xid mid) (by_xid s) before parent = opened s mid before parent h.strands next.2 known new in
        let none : (by_xid mid).strand sub ≡ None = o.others sub (eqb_comm parent sub ∙ next.1) ∙ h.unnamed sub next.0 in
        record {
          strands = same_kept (by_xid now) (with_subtransaction sub parent (by_xid mid)) (before ++ r ∷ []) same (assign_kept (by_xid mid) before r sub parent o.kept o.some none next.0 body);
          unnamed = λ q unheard.
              let here : ((q == sub) || (q == parent)) ≡ false = not_here before r (Assign sub parent) q body unheard in
              same.strand q ∙ put_apart sub q (Some (fresh (parent ∷ above_of (by_xid mid) parent))) (by_xid mid).strand (or_left (q == sub) (q == parent) here)
              ∙ o.others q (eqb_comm parent q ∙ or_right (q == sub) (q == parent) here) ∙ h.unnamed q (before_too before r q unheard);
        }

pub taken_change : (s mid now : StrandsState) (b d : Bool) (r : Record) (x : ℕ) (c : Change) → r.body ≡ Changed x c →
    (IsSome ((by_xid s).strand x) → mid ≡ s) → ((by_xid s).strand x ≡ None → IsSame (by_xid mid) (with_transaction x (by_xid s))) →
    IsSame (by_xid now) (with_change_of x (kept_entry r) (by_xid mid)) → Takes (state s b) (state now d) r None
taken_change s mid now b d r x c body known new same = takes s now b d r (Changed x c) None body (λ before h next behind. (after before h next behind, refl))
  where
    after : (before : List Record) → IsBookkeeping (by_xid s) before → MayCome before (Changed x c) → StartsBehind before r → IsBookkeeping (by_xid now) (before ++ r ∷ [])
    after before h next behind =
        let o : Opened (by_xid mid) (by_xid s) before x = opened s mid before x h.strands next known new in
        record {
          strands = same_kept (by_xid now) (with_change_of x (kept_entry r) (by_xid mid)) (before ++ r ∷ []) same
              (push_kept (by_xid mid) before r x (kept_entry r) o.kept next o.some behind (rw body (λ above y. refl)) (rw body (λ y. refl)) (rw body (λ y. refl)) (rw body (λ y. refl)) (rw body refl) (rw body refl) refl);
          unnamed = λ q unheard.
              let here : (q == x) ≡ false = not_here before r (Changed x c) q body unheard in
              same.strand q ∙ put_apart x q (option_map (with_change (kept_entry r)) ((by_xid mid).strand x)) (by_xid mid).strand here
              ∙ o.others q (eqb_comm x q ∙ here) ∙ h.unnamed q (before_too before r q unheard);
        }

pub taken_rollback : (s now : StrandsState) (b d : Bool) (r : Record) (x : ℕ) → r.body ≡ AbortSub x → IsSame (by_xid now) (after_rollback_of x (by_xid s)) → Takes (state s b) (state now d) r None
taken_rollback s now b d r x body same = takes s now b d r (AbortSub x) None body (λ before h next behind. (after before h, refl))
  where
    after : (before : List Record) → IsBookkeeping (by_xid s) before → IsBookkeeping (by_xid now) (before ++ r ∷ [])
    after before h =
        record {
          strands = same_kept (by_xid now) (after_rollback_of x (by_xid s)) (before ++ r ∷ []) same
              (undo_kept (by_xid s) before r x h.strands (rw body (λ above y. refl)) (rw body (λ y. refl)) (rw body (λ y. refl)) (rw body (λ y. refl)) (rw body refl));
          unnamed = λ q unheard.
              same.strand q ∙ ap (option_map (strand_after_rollback x (back_from_last (by_xid s) x) q)) (h.unnamed q (before_too before r q unheard));
        }

-- an xid that has no strand has none after an end either
gone : (l : ByXid) (t q : ℕ) → l.strand q ≡ None → (without_transaction t l).strand q ≡ None
gone l t q none = by_test (is_in q (all_in (l.members t)))
  where
    by_test : (b : Bool) → cond b None (l.strand q) ≡ None
    by_test true = refl
    by_test false = none

pub taken_abort : (s now : StrandsState) (b d : Bool) (r : Record) (t : ℕ) → r.body ≡ Abort t → IsSame (by_xid now) (without_transaction t (by_xid s)) → Takes (state s b) (state now d) r None
taken_abort s now b d r t body same = takes s now b d r (Abort t) None body (λ before h next behind. (after before h next, refl))
  where
    after : (before : List Record) → IsBookkeeping (by_xid s) before → MayCome before (Abort t) → IsBookkeeping (by_xid now) (before ++ r ∷ [])
    after before h next =
        record {
          strands = same_kept (by_xid now) (without_transaction t (by_xid s)) (before ++ r ∷ []) same
              (end_kept (by_xid s) before r t h.strands next.0 (rw body (λ above y. refl)) (rw body (λ y. refl)) (rw body (λ y. refl)) (rw body (λ y. refl)) (rw body refl));
          unnamed = λ q unheard. same.strand q ∙ gone (by_xid s) t q (h.unnamed q (before_too before r q unheard));
        }

pub taken_note : (s : StrandsState) (b d : Bool) (r : Record) (c : Change) → r.body ≡ Note c → Takes (state s b) (state s d) r None
taken_note s b d r c body = takes s s b d r (Note c) None body (λ before h next behind. (after before h, refl))
  where
    after : (before : List Record) → IsBookkeeping (by_xid s) before → IsBookkeeping (by_xid s) (before ++ r ∷ [])
    after before h = record {
      strands = quiet_kept (by_xid s) before r h.strands (rw body (λ above y. refl)) (rw body (λ y. refl)) (rw body (λ y. refl)) (rw body (λ y. refl)) (rw body refl);
      unnamed = λ q unheard. h.unnamed q (before_too before r q unheard);
    }

pub taken_commit : (s now : StrandsState) (b d : Bool) (r : Record) (t : ℕ) (time : ℤ) (sorted : List Entry) → r.body ≡ Commit t time →
    AreMerged (by_xid s) t sorted → IsSame (by_xid now) (without_transaction t (by_xid s)) → Takes (state s b) (state now d) r (Some sorted)
taken_commit s now b d r t time sorted body merged same =
    takes s now b d r (Commit t time) (Some sorted) body (λ before h next behind. (after before h next, brings before h next))
  where
    after : (before : List Record) → IsBookkeeping (by_xid s) before → MayCome before (Commit t time) → IsBookkeeping (by_xid now) (before ++ r ∷ [])
    after before h next =
        record {
          strands = same_kept (by_xid now) (without_transaction t (by_xid s)) (before ++ r ∷ []) same
              (end_kept (by_xid s) before r t h.strands next.0 (rw body (λ above y. refl)) (rw body (λ y. refl)) (rw body (λ y. refl)) (rw body (λ y. refl)) (rw body refl));
          unnamed = λ q unheard. same.strand q ∙ gone (by_xid s) t q (h.unnamed q (before_too before r q unheard));
        }

    brings : (before : List Record) → IsBookkeeping (by_xid s) before → MayCome before (Commit t time) → Some sorted ≡ Some (kept_changes before t)
    brings before h next =
        let top : top_of before t ≡ t = ap (last_of t) (chain-unassigned before t next.0) in
        ap Some (kept_in_order (by_xid s) before t sorted h.strands (ap (has_ended before) (sym top) ∙ next.1.running) merged)

-- what stands as before has taken the same records
pub same_taken : (s now : ReorderState) (rs : List Record) → IsSameTaken s now → HasTaken s rs → HasTaken now rs
same_taken s now rs same h = has_taken now.strands now.failed rs (record {
  strands = same_kept (by_xid now.strands) (by_xid s.strands) rs same.strands h.ready.strands;
  unnamed = λ x unnamed. same.strands.strand x ∙ h.ready.unnamed x unnamed;
})

pub takes_same : (old mid now : ReorderState) (r : Record) (ready : Option (List Entry)) → Takes old mid r ready → IsSameTaken mid now → Takes old now r ready
takes_same old mid now r ready takes same = record {
  after = λ before h next behind. let both = takes.after before h next behind in (same_taken mid now (before ++ r ∷ []) same both.0, both.1);
}
