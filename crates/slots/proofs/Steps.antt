-- Each kind of step keeps the rule, and tells its seat what it says.
use Rattle.std.proofs.Common.{◌≡◌, ℕ, zero, suc, ◌+◌, ◌*◌, ◌/◌, ◌%◌, ◌<◌, ◌≤◌, ◌≢◌, ◌⊎◌, inl, inr, Bool, true, false, cond, eqb, max, List, [], ◌∷◌, ◌++◌, length, set, sym, refl, ap, ◌∙◌, subst, arith, ⊎_elim, length-set, get_or-set_same, get_or-set_other}
use Rattle.std.specs.Prelude.{slice_index}
use mathlib.Core.Option.{some, none, some-ne-none}
use lib.ListN.{get_elem?}
use prog.Atomic.{either}
use Rattle.atomic_table.specs.Table.{keeps, stepped, step, Allows}
use Rattle.std.proofs.lemmas.Bool.{eqb-true}
use Rattle.slots.specs.declared.words_kept.step.SlotKind.{SlotKind}
use Rattle.slots.specs.declared.words_kept.step.SlotKind.TheVariants.{Create, Claim, Read, Raise, Release, Retire}
use Rattle.slots.specs.declared.words_kept.step.SlotStep.{SlotStep}
use Rattle.slots.specs.declared.words_kept.step.SeatView.{SeatView}
use Rattle.slots.specs.Standings.{held_by}
use Rattle.slots.specs.Facts.{Facts, facts, facts_after}
use Rattle.slots.specs.Rule.{Agrees, HeldAt, Leaves, Kept, StandsAs, FollowsOn, generation_of, line_of, slot_step, state_at, steps_on, with_step, state_word, position_word, place_at, word_at, creates, claims, retires, releases, raises, reads}
use Rattle.slots.proofs.Facts.{facts_here}
use Rattle.slots.proofs.Lines.{Comes, Follows, by_turn, changed, dropped_by, goes_on, no_more, not_yet, now, one_line, place_back, same_test, stands_by, turn_here}
use Rattle.slots.proofs.Places.{create_own, claim_own, retire_own, release_own, raise_own, read_own, create_other, claim_other, retire_other, release_other, raise_other}
use Rattle.slots.proofs.Moves.{Owed, St, moves}

either_cond : (b : Bool) (x y : ℕ) → either b x y ≡ cond b x y
either_cond true x y = refl
either_cond false x y = refl

pub within : (l : List SeatView) (i : ℕ) (v : SeatView) → get_elem? l i ≡ some v → i < length l
within [] i v e = absurd (some-ne-none v (sym e))
within (x ∷ xs) zero v e = omega arith
within (x ∷ xs) (suc i) v e = let n = within xs i v e in omega arith

-- a place that isn't a line's turn names no seat
absent : (p w k n : ℕ) → k < n → n ≤ 2048 → w / 4096 ≢ generation_of p → state_at p w ≡ held_by k → ⊥
absent p w k n low few not is = by_turn p w
    (λ less. let e = sym (not_yet p w less) ∙ is in omega (arith, e, low, few))
    (λ more. let e = sym (no_more p w more) ∙ is in omega (arith, e))
    not

module _ (s : St) (kept : Kept s) (id : ℕ) (v : SeatView) (at : get_elem? s.views id ≡ some v) (p : ℕ) where
  abbrev word : ℕ
  word = slice_index s.words (state_word p)

  abbrev x : ℕ
  x = state_at p word

  abbrev y : ℕ
  y = slice_index s.words (position_word p)

  abbrev f : Facts
  f = facts p v.steps

  agrees : Agrees x y id f
  agrees = kept.places p id v at

  numbered : v.number ≡ id
  numbered = (kept.numbered id v at).0

  member : id < length s.views
  member = within s.views id v at

  only : v.seats ≡ 1 → p < 1024 → Leaves s.words p v
  only one low = kept.alone ((kept.numbered id v at).1 (omega (arith, one)) ∙ one) p id v low at

  stands : StandsAs v p x
  stands = record {
    named = λ h. agrees.named h ∙ ap held_by (sym numbered);
    held = λ h. agrees.held (h ∙ ap held_by numbered);
    stays = agrees.stays;
    alone = λ one low. (only one low).0;
  }

  -- another place of the line stands as it did, or its turn comes
  may_come : (q k : ℕ) (u : SeatView) → get_elem? s.views k ≡ some u → (new : ℕ) (g : Facts) → Agrees (state_at q word) y k g → Comes q word new → Agrees (state_at q new) y k g
  may_come q k u found new g old how = ⊎_elim
      (λ same. subst (λ (n : ℕ). Agrees n y k g) (sym same) old)
      (λ comes. record {
        named = λ h. let n = old.named h in let e = comes.1 in let low = within s.views k u found in let few = kept.few in absurd (omega (arith, n, e, low, few));
        held = λ h. let e = comes.0 in absurd (omega (arith, h, e));
        above = old.above;
        last = old.last;
        stays = λ h. let n = old.stays h in let e = comes.1 in absurd (omega (arith, n, e));
        rises = old.rises;
      })
      how

  -- a place of the first generation doesn't wait for its turn
  first_turn : (q : ℕ) → q < 1024 → state_at q word ≡ 4095 → ⊥
  first_turn q low e = by_turn q word
      (λ less. omega (arith, low, less))
      (λ more. let n = sym (no_more q word more) ∙ e in omega (arith, n))
      (λ turn. let n = sym (now q word turn) ∙ e in let m = kept.names p in let few = kept.few in omega (arith, n, m, few))

  module _ (st : SlotStep) (here : st.place ≡ p) (c : List (ℕ × Unit {0})) where
    state_step : (new left : ℕ) → state_at p new ≡ left → new % 4096 < 3 + length s.views → Agrees left y id (facts_after st f) → ((k : ℕ) (u : SeatView) → k ≢ id → get_elem? s.views k ≡ some u → Agrees left y k (facts p u.steps))
        → (facts_after st f).state ≡ left → (facts_after st f).position ≡ f.position
        → ((q : ℕ) → line_of q ≡ line_of p → q ≢ p → Comes q word new) → word / 4096 ≤ new / 4096
        → Kept (stepped s (state_word p) new id c (with_step v st) keeps)
    state_step new left is small own others state position beside on = let wide = kept.wide in let g = facts_here p v.steps st here in
        moves s kept id v at p st here (set s.words (state_word p) new) (length-set s.words (state_word p) new ∙ kept.wide) new y
        (get_or-set_same s.words (state_word p) new 0 (omega (arith, wide)))
        (get_or-set_other s.words (state_word p) (position_word p) new 0 (λ e. omega (arith, e)))
        (λ q off. (get_or-set_other s.words (state_word p) (state_word q) new 0 (λ e. off (omega (arith, e))), get_or-set_other s.words (state_word p) (position_word q) new 0 (λ e. omega (arith, e))))
        (record {
          small = small;
          own = subst (λ (n : ℕ). Agrees n y id (facts p (v.steps ++ st ∷ []))) (sym is) (subst (λ (h : Facts). Agrees left y id h) (sym g) own);
          others = λ k u ne found. subst (λ (n : ℕ). Agrees n y k (facts p u.steps)) (sym is) (others k u ne found);
          beside = λ q k u line ne found old. may_come q k u found new (facts q u.steps) old (beside q line ne);
          leaves = λ low l. (is ∙ sym state ∙ ap (λ (h : Facts). h.state) (sym g), λ first. l.1 (omega (arith, first, on)) ∙ sym position ∙ ap (λ (h : Facts). h.position) (sym g));
          leaves_beside = λ q low line ne l. (⊎_elim (λ same. same ∙ l.0) (λ comes. absurd (first_turn q low comes.1)) (beside q line ne), λ first. l.1 (omega (arith, first, on)));
        })

    -- where the place stands so it becomes that, and its line stays there or goes on
    takes_step : (n : ℕ) → n < 2 → (new left : ℕ) → state_at p new ≡ left → new % 4096 < 3 + length s.views → Follows p new
        → Agrees (cond (eqb x n) left x) y id (facts_after st f) → ((k : ℕ) (u : SeatView) → k ≢ id → get_elem? s.views k ≡ some u → Agrees (cond (eqb x n) left x) y k (facts p u.steps))
        → (facts_after st f).state ≡ cond (eqb x n) left x → (facts_after st f).position ≡ f.position
        → Kept (stepped s (state_word p) (either (eqb word (word_at p n)) new word) id c (with_step v st) keeps)
    takes_step n low new left is small follows own others state position =
        subst (λ (z : ℕ). Kept (stepped s (state_word p) z id c (with_step v st) keeps)) (sym (either_cond (eqb word (word_at p n)) new word))
        (state_step (cond (eqb word (word_at p n)) new word) (cond (eqb x n) left x) (changed p word n new left (eqb word (word_at p n)) (same_test p word n low) is)
        (small_if (eqb word (word_at p n))) own others state position
        (λ q line ne. by_test_on q line ne (eqb word (word_at p n)) refl)
        (on_if (eqb word (word_at p n)) refl))
      where
        small_if : (b : Bool) → cond b new word % 4096 < 3 + length s.views
        small_if true = small
        small_if false = kept.names p

        turn : eqb word (word_at p n) ≡ true → word / 4096 ≡ generation_of p
        turn e = let w = eqb-true word (word_at p n) e in omega (arith, w, low)

        by_test_on : (q : ℕ) → line_of q ≡ line_of p → q ≢ p → (b : Bool) → eqb word (word_at p n) ≡ b → Comes q word (cond b new word)
        by_test_on q line ne true e = goes_on p q word new (turn e) line ne follows
        by_test_on q line ne false e = inl refl

        on_if : (b : Bool) → eqb word (word_at p n) ≡ b → word / 4096 ≤ cond b new word / 4096
        on_if true e = let t = turn e in ⊎_elim (λ h. omega (arith, t, h)) (λ h. omega (arith, t, h)) follows
        on_if false e = omega arith

  module _ (c : List (ℕ × Unit {0})) where
    held_small : held_by id < 4096
    held_small = let m = member in let few = kept.few in omega (arith, m, few)

    created : Kept (stepped s (state_word p) (either (eqb word (word_at p 0)) (word_at p (held_by id)) word) id c (with_step v (slot_step Create p x (cond (eqb x 0) (held_by id) x))) keeps)
    created = let m = member in let h = held_small in takes_step (slot_step Create p x (cond (eqb x 0) (held_by id) x)) refl c 0 (omega arith) (word_at p (held_by id)) (held_by id)
        (stands_by p (held_by id) h) (omega (arith, m, h)) (inl (omega (arith, h))) (create_own f x y id agrees p)
        (λ k u ne found. create_other (facts p u.steps) x y k (kept.places p k u found) id ne) refl refl

    claimed : Kept (stepped s (state_word p) (either (eqb word (word_at p 1)) (word_at p (held_by id)) word) id c (with_step v (slot_step Claim p x (cond (eqb x 1) (held_by id) x))) keeps)
    claimed = let m = member in let h = held_small in takes_step (slot_step Claim p x (cond (eqb x 1) (held_by id) x)) refl c 1 (omega arith) (word_at p (held_by id)) (held_by id)
        (stands_by p (held_by id) h) (omega (arith, m, h)) (inl (omega (arith, h))) (claim_own f x y id agrees p)
        (λ k u ne found. claim_other (facts p u.steps) x y k (kept.places p k u found) id ne) refl refl

    retired : Kept (stepped s (state_word p) (either (eqb word (word_at p 1)) ((generation_of p + 1) * 4096) word) id c (with_step v (slot_step Retire p x (cond (eqb x 1) 2 x))) keeps)
    retired = let m = member in takes_step (slot_step Retire p x (cond (eqb x 1) 2 x)) refl c 1 (omega arith) ((generation_of p + 1) * 4096) 2
        (dropped_by p) (omega (arith, m)) (inr refl) (retire_own f x y id agrees p)
        (λ k u ne found. retire_other (facts p u.steps) x y k (kept.places p k u found) id ne) refl refl

    module _ (mine : f.held ≡ true) where
      its_turn : word ≡ word_at p (held_by id)
      its_turn = let m = member in let few = kept.few in turn_here p word (held_by id) (agrees.named mine) (λ e. omega (arith, e)) (λ e. omega (arith, e, m, few))

      turn : word / 4096 ≡ generation_of p
      turn = let w = its_turn in let h = held_small in omega (arith, w, h)

      follows : FollowsOn v p y
      follows = record { above = agrees.above; last = agrees.last; alone = λ one low. (only one low).1 (let t = turn in omega (arith, t, low)) }

      -- the seat holds no other place of the line
      only_held : (q : ℕ) → HeldAt (position_word p) (v, c) q → p ≡ q
      only_held q there =
          let line : line_of q ≡ line_of p = let e = there.0 in omega (arith, e) in
          let named = subst (λ (l : ℕ). state_at q (slice_index s.words (l * 8)) ≡ held_by id) line ((kept.places q id v at).named there.1) in
          let m = member in let few = kept.few in
          let w = turn_here q word (held_by id) named (λ e. omega (arith, e)) (λ e. omega (arith, e, m, few)) in
          let t = turn in let h = held_small in
          sym (one_line p q line (omega (arith, w, t, h)))

      released : Kept (stepped s (state_word p) (word_at p 1) id c (with_step v (slot_step Release p (held_by id) 1)) keeps)
      released = let m = member in let t = turn in let one : state_at p (word_at p 1) ≡ 1 = stands_by p 1 (omega arith) in
          state_step (slot_step Release p (held_by id) 1) refl c (word_at p 1) 1 one (omega (arith, m)) (release_own f x y id agrees p mine)
          (λ k u ne found. release_other (facts p u.steps) x y k (kept.places p k u found) id ne (agrees.named mine)) refl refl
          (λ q line ne. goes_on p q word (word_at p 1) turn line ne (inl (omega arith))) (omega (arith, t))

      -- a position that is no lower keeps what the other places of the line say
      still_above : (new : ℕ) → y ≤ new → (q k : ℕ) (u : SeatView) → line_of q ≡ line_of p → q ≢ p → get_elem? s.views k ≡ some u → Agrees (state_at q word) y k (facts q u.steps) → Agrees (state_at q word) new k (facts q u.steps)
      still_above new more q k u line ne found old = record {
        named = old.named;
        held = old.held;
        above = let a = old.above in omega (arith, a, more);
        last = λ h. absurd (absent q word k (length s.views) (within s.views k u found) kept.few (λ e. ne (one_line p q line (sym e ∙ turn))) (old.named h));
        stays = old.stays;
        rises = old.rises;
      }

      position_step : (st : SlotStep) → st.place ≡ p → (new : ℕ) → y ≤ new → Agrees x new id (facts_after st f) → ((k : ℕ) (u : SeatView) → k ≢ id → get_elem? s.views k ≡ some u → Agrees x new k (facts p u.steps))
          → (facts_after st f).state ≡ f.state → (facts_after st f).position ≡ new → Kept (stepped s (position_word p) new id c (with_step v st) keeps)
      position_step st here new more own others state position = let wide = kept.wide in let g = facts_here p v.steps st here in
          moves s kept id v at p st here (set s.words (position_word p) new) (length-set s.words (position_word p) new ∙ kept.wide) word new
          (get_or-set_other s.words (position_word p) (state_word p) new 0 (λ e. omega (arith, e)))
          (get_or-set_same s.words (position_word p) new 0 (omega (arith, wide)))
          (λ q off. (get_or-set_other s.words (position_word p) (state_word q) new 0 (λ e. omega (arith, e)), get_or-set_other s.words (position_word p) (position_word q) new 0 (λ e. off (omega (arith, e)))))
          (record {
            small = kept.names p;
            own = subst (λ (h : Facts). Agrees x new id h) (sym g) own;
            others = others;
            beside = still_above new more;
            leaves = λ low l. (l.0 ∙ sym state ∙ ap (λ (h : Facts). h.state) (sym g), λ _. sym position ∙ ap (λ (h : Facts). h.position) (sym g));
            leaves_beside = λ q low line ne l. (l.0, λ first. let t = turn in absurd (ne (one_line p q line (omega (arith, first, t, low)))));
          })

      raised : (by : ℕ) → Kept (stepped s (position_word p) (max y by) id c (with_step v (slot_step Raise p y (max y by))) keeps)
      raised by = position_step (slot_step Raise p y (max y by)) refl (max y by) (omega arith) (raise_own f x y id agrees p by)
          (λ k u ne found. raise_other (facts p u.steps) x y k (kept.places p k u found) id ne (agrees.named mine) (max y by) (omega arith)) refl refl

      read : Kept (stepped s (position_word p) y id c (with_step v (slot_step Read p y y)) keeps)
      read = position_step (slot_step Read p y y) refl y (omega arith) (read_own f x y id agrees p) (λ k u ne found. kept.places p k u found) refl refl

module _ (slots p id number : ℕ) (v : SeatView) (c : List (ℕ × Unit {0})) (is : v.number ≡ number) where
  -- the place of the step is that of the word, and it leaves what the word says
  told : (s : St) → Kept s → get_elem? s.views id ≡ some v → (kind : SlotKind) (want left : ℕ) → (q l : ℕ) → q ≡ p → l ≡ left
      → steps_on kind want l q (slice_index s.words (state_word p)) (v, c) (with_step v (slot_step kind p (state_at p (slice_index s.words (state_word p))) (cond (eqb (state_at p (slice_index s.words (state_word p))) want) left (state_at p (slice_index s.words (state_word p))))), c)
  told s kept at kind want left q l here leaves = subst (λ (z : ℕ × ℕ). steps_on kind want z.1 z.0 (slice_index s.words (state_word p)) (v, c) (with_step v (slot_step kind p (state_at p (slice_index s.words (state_word p))) (cond (eqb (state_at p (slice_index s.words (state_word p))) want) left (state_at p (slice_index s.words (state_word p))))), c)) (λ i. (sym here i, sym leaves i))
      (refl, stands s kept id v at p)

  creates_allowed : Allows Kept slots id (v, c) (state_word p) (λ n. either (eqb n (word_at p 0)) (word_at p (held_by number)) n) (creates (step slots (state_word p) (word_at p 0) (word_at p (held_by number)) none) (v, c))
  creates_allowed s kept _ at _ = let e = sym (kept.numbered id v at).0 ∙ is in let w = slice_index s.words (state_word p) in let h = held_small s kept id v at p c in
      let h' : held_by number < 4096 = omega (arith, h, e) in (
        with_step v (slot_step Create p (state_at p w) (cond (eqb (state_at p w) 0) (held_by number) (state_at p w))),
        keeps,
        tt,
        subst (λ (m : ℕ). Kept (stepped s (state_word p) (either (eqb w (word_at p 0)) (word_at p (held_by m)) w) id c (with_step v (slot_step Create p (state_at p w) (cond (eqb (state_at p w) 0) (held_by m) (state_at p w)))) keeps)) e (created s kept id v at p c),
        told s kept at Create 0 (held_by number) _ _ (place_back p (held_by number) h') (omega (arith, h')),
      )

  claims_allowed : Allows Kept slots id (v, c) (state_word p) (λ n. either (eqb n (word_at p 1)) (word_at p (held_by number)) n) (claims (step slots (state_word p) (word_at p 1) (word_at p (held_by number)) none) (v, c))
  claims_allowed s kept _ at _ = let e = sym (kept.numbered id v at).0 ∙ is in let w = slice_index s.words (state_word p) in let h = held_small s kept id v at p c in
      let h' : held_by number < 4096 = omega (arith, h, e) in (
        with_step v (slot_step Claim p (state_at p w) (cond (eqb (state_at p w) 1) (held_by number) (state_at p w))),
        keeps,
        tt,
        subst (λ (m : ℕ). Kept (stepped s (state_word p) (either (eqb w (word_at p 1)) (word_at p (held_by m)) w) id c (with_step v (slot_step Claim p (state_at p w) (cond (eqb (state_at p w) 1) (held_by m) (state_at p w)))) keeps)) e (claimed s kept id v at p c),
        told s kept at Claim 1 (held_by number) _ _ (place_back p (held_by number) h') (omega (arith, h')),
      )

  retires_allowed : Allows Kept slots id (v, c) (state_word p) (λ n. either (eqb n (word_at p 1)) ((generation_of p + 1) * 4096) n) (retires (step slots (state_word p) (word_at p 1) ((generation_of p + 1) * 4096) none) (v, c))
  retires_allowed s kept _ at _ = let w = slice_index s.words (state_word p) in (
    with_step v (slot_step Retire p (state_at p w) (cond (eqb (state_at p w) 1) 2 (state_at p w))),
    keeps,
    tt,
    retired s kept id v at p c,
    told s kept at Retire 1 2 _ _ (place_back p 1 (omega arith)) refl,
  )

  -- the same, where the words come from calls
  module _ (w old new : ℕ) (here : w ≡ state_word p) where
    pub may_create : old ≡ word_at p 0 → new ≡ word_at p (held_by number) → Allows Kept slots id (v, c) w (λ n. either (eqb n old) new n) (creates (step slots w old new none) (v, c))
    may_create e h = subst (λ (z : ℕ × ℕ × ℕ). Allows Kept slots id (v, c) z.0 (λ n. either (eqb n z.1) z.2 n) (creates (step slots z.0 z.1 z.2 none) (v, c))) (λ i. (sym here i, sym e i, sym h i)) creates_allowed

    pub may_claim : old ≡ word_at p 1 → new ≡ word_at p (held_by number) → Allows Kept slots id (v, c) w (λ n. either (eqb n old) new n) (claims (step slots w old new none) (v, c))
    may_claim e h = subst (λ (z : ℕ × ℕ × ℕ). Allows Kept slots id (v, c) z.0 (λ n. either (eqb n z.1) z.2 n) (claims (step slots z.0 z.1 z.2 none) (v, c))) (λ i. (sym here i, sym e i, sym h i)) claims_allowed

    pub may_retire : old ≡ word_at p 1 → new ≡ (generation_of p + 1) * 4096 → Allows Kept slots id (v, c) w (λ n. either (eqb n old) new n) (retires (step slots w old new none) (v, c))
    may_retire e h = subst (λ (z : ℕ × ℕ × ℕ). Allows Kept slots id (v, c) z.0 (λ n. either (eqb n z.1) z.2 n) (retires (step slots z.0 z.1 z.2 none) (v, c))) (λ i. (sym here i, sym e i, sym h i)) retires_allowed

  module _ (mine : (facts p v.steps).held ≡ true) where
    releases_allowed : Allows Kept slots id (v, c) (state_word p) (λ _. word_at p 1) (λ _. releases (step slots (state_word p) (word_at p 1) 0 none) (v, c) (word_at p 1))
    releases_allowed s kept _ at _ = let e = sym (kept.numbered id v at).0 in (
      with_step v (slot_step Release p (held_by v.number) 1),
      keeps,
      tt,
      subst (λ (n : ℕ). Kept (stepped s (state_word p) (word_at p 1) id c (with_step v (slot_step Release p (held_by n) 1)) keeps)) e (released s kept id v at p c mine),
      ap (λ (q : ℕ). (with_step v (slot_step Release q (held_by v.number) 1), c)) (sym (place_back p 1 (omega arith))),
    )

    raises_allowed : (by : ℕ) → Allows Kept slots id (v, c) (position_word p) (λ n. max n by) (raises (step slots (position_word p) by 0 none) (v, c))
    raises_allowed by s kept _ at _ = let y = slice_index s.words (position_word p) in (
      with_step v (slot_step Raise p y (max y by)),
      keeps,
      tt,
      raised s kept id v at p c mine by,
      λ q there. let e = only_held s kept id v at p c mine q there in (ap (λ (r : ℕ). (with_step v (slot_step Raise r y (max y by)), c)) e, subst (λ (r : ℕ). FollowsOn v r y) e (follows s kept id v at p c mine)),
    )

    reads_allowed : Allows Kept slots id (v, c) (position_word p) (λ n. n) (reads (step slots (position_word p) 0 0 none) (v, c))
    reads_allowed s kept _ at _ = let y = slice_index s.words (position_word p) in (
      with_step v (slot_step Read p y y),
      keeps,
      tt,
      read s kept id v at p c mine,
      λ q there. let e = only_held s kept id v at p c mine q there in (ap (λ (r : ℕ). (with_step v (slot_step Read r y y), c)) e, subst (λ (r : ℕ). FollowsOn v r y) e (follows s kept id v at p c mine)),
    )

    pub may_release : (w new : ℕ) → w ≡ state_word p → new ≡ word_at p 1 → Allows Kept slots id (v, c) w (λ _. new) (λ _. releases (step slots w new 0 none) (v, c) new)
    may_release w new here e = subst (λ (z : ℕ × ℕ). Allows Kept slots id (v, c) z.0 (λ _. z.1) (λ _. releases (step slots z.0 z.1 0 none) (v, c) z.1)) (λ i. (sym here i, sym e i)) releases_allowed

    pub may_raise : (w by : ℕ) → w ≡ position_word p → Allows Kept slots id (v, c) w (λ n. max n by) (raises (step slots w by 0 none) (v, c))
    may_raise w by here = subst (λ (z : ℕ). Allows Kept slots id (v, c) z (λ n. max n by) (raises (step slots z by 0 none) (v, c))) (sym here) (raises_allowed by)

    pub may_read : (w : ℕ) → w ≡ position_word p → Allows Kept slots id (v, c) w (λ n. n) (reads (step slots w 0 0 none) (v, c))
    may_read w here = subst (λ (z : ℕ). Allows Kept slots id (v, c) z (λ n. n) (reads (step slots z 0 0 none) (v, c))) (sym here) reads_allowed
