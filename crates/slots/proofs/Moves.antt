-- A step of one seat on one word keeps the rule, where it keeps what the rule says of the places of its line.
use Rattle.std.proofs.Common.{◌≡◌, ℕ, zero, suc, ◌+◌, ◌*◌, ◌/◌, ◌%◌, ◌<◌, ◌≢◌, List, [], ◌∷◌, ◌++◌, length, set, sym, refl, ap, ◌∙◌, subst, arith, ⊎_elim, length-set}
use Rattle.std.specs.Prelude.{slice_index}
use Rattle.std.proofs.lemmas.Bool.{cases_eq}
use mathlib.Core.Option.{some, some-ne-none}
use lib.ListN.{get_elem?}
use Rattle.atomic_table.specs.Table.{State}
use Rattle.atomic_table.proofs.Lists.{at_set}
use Rattle.slots.specs.declared.words_kept.step.SlotStep.{SlotStep}
use Rattle.slots.specs.declared.words_kept.step.SeatView.{SeatView}
use Rattle.slots.specs.Facts.{Facts, facts}
use Rattle.slots.specs.Rule.{Agrees, Leaves, Kept, line_of, with_step, state_at, state_word, position_word}
use Rattle.slots.proofs.Facts.{facts_there}

abbrev pub St : Type 0
St = State (Unit {0}) SeatView

-- a list of one value has it at 0
pub at_one : (l : List SeatView) (j : ℕ) (w : SeatView) → get_elem? l j ≡ some w → length l ≡ 1 → j ≡ 0
at_one [] j w e one = absurd (omega arith)
at_one (x ∷ xs) zero w e one = refl
at_one (x ∷ []) (suc j) w e one = absurd (some-ne-none w (sym e))
at_one (x ∷ y ∷ ys) (suc j) w e one = absurd (omega arith)

module _ (s : St) (kept : Kept s) (id : ℕ) (v : SeatView) (at : get_elem? s.views id ≡ some v) (p : ℕ) (st : SlotStep) (here : st.place ≡ p) where
  abbrev after : List ℕ → St
  after ws = record { words = ws; homes = s.homes; views = set s.views id (with_step v st) }

  abbrev old_word : ℕ
  old_word = slice_index s.words (state_word p)

  abbrev old_position : ℕ
  old_position = slice_index s.words (position_word p)

  -- what a step that leaves these two words owes
  pub record Owed (word position : ℕ) : Type 0 where
    pub small : word % 4096 < 3 + length s.views
    pub own : Agrees (state_at p word) position id (facts p (v.steps ++ st ∷ []))
    pub others : (k : ℕ) (u : SeatView) → k ≢ id → get_elem? s.views k ≡ some u → Agrees (state_at p word) position k (facts p u.steps)
    -- of the other places of the line
    pub beside : (q k : ℕ) (u : SeatView) → line_of q ≡ line_of p → q ≢ p → get_elem? s.views k ≡ some u → Agrees (state_at q old_word) old_position k (facts q u.steps) → Agrees (state_at q word) position k (facts q u.steps)
    -- where there is one seat
    pub leaves : p < 1024 → (state_at p old_word ≡ (facts p v.steps).state) × (old_word / 4096 ≡ 0 → old_position ≡ (facts p v.steps).position)
        → (state_at p word ≡ (facts p (v.steps ++ st ∷ [])).state) × (word / 4096 ≡ 0 → position ≡ (facts p (v.steps ++ st ∷ [])).position)
    pub leaves_beside : (q : ℕ) → q < 1024 → line_of q ≡ line_of p → q ≢ p → (state_at q old_word ≡ (facts q v.steps).state) × (old_word / 4096 ≡ 0 → old_position ≡ (facts q v.steps).position)
        → (state_at q word ≡ (facts q v.steps).state) × (word / 4096 ≡ 0 → position ≡ (facts q v.steps).position)

  module _ (ws : List ℕ) (wide : length ws ≡ 8192) (word position : ℕ) (is_word : slice_index ws (state_word p) ≡ word) (is_position : slice_index ws (position_word p) ≡ position)
      (same : (q : ℕ) → line_of q ≢ line_of p → (slice_index ws (state_word q) ≡ slice_index s.words (state_word q)) × (slice_index ws (position_word q) ≡ slice_index s.words (position_word q)))
      (owed : Owed word position) where
    -- the words of a place of the same line
    words_on : (q : ℕ) → line_of q ≡ line_of p → (slice_index ws (state_word q) ≡ word) × (slice_index ws (position_word q) ≡ position)
    words_on q line = (ap (λ (l : ℕ). slice_index ws (l * 8)) line ∙ is_word, ap (λ (l : ℕ). slice_index ws (l * 8 + 1)) line ∙ is_position)

    agrees_on : (q : ℕ) → line_of q ≡ line_of p → (k : ℕ) (g : Facts) → Agrees (state_at q word) position k g → Agrees (state_at q (slice_index ws (state_word q))) (slice_index ws (position_word q)) k g
    agrees_on q line k g a = let e = words_on q line in subst (λ (z : ℕ × ℕ). Agrees (state_at q z.0) z.1 k g) (λ i. (sym e.0 i, sym e.1 i)) a

    -- what was before, of a place of the line
    before_on : (q : ℕ) → line_of q ≡ line_of p → (k : ℕ) (u : SeatView) → get_elem? s.views k ≡ some u → Agrees (state_at q old_word) old_position k (facts q u.steps)
    before_on q line k u found = subst (λ (l : ℕ). Agrees (state_at q (slice_index s.words (l * 8))) (slice_index s.words (l * 8 + 1)) k (facts q u.steps)) line (kept.places q k u found)

    left_before : (q : ℕ) → line_of q ≡ line_of p → length s.views ≡ 1 → q < 1024 → (state_at q old_word ≡ (facts q v.steps).state) × (old_word / 4096 ≡ 0 → old_position ≡ (facts q v.steps).position)
    left_before q line one low = subst (λ (l : ℕ). (state_at q (slice_index s.words (l * 8)) ≡ (facts q v.steps).state) × (slice_index s.words (l * 8) / 4096 ≡ 0 → slice_index s.words (l * 8 + 1) ≡ (facts q v.steps).position)) line (kept.alone one q id v low at)

    agrees_else : (q : ℕ) → line_of q ≢ line_of p → (k : ℕ) (g : Facts) → Agrees (state_at q (slice_index s.words (state_word q))) (slice_index s.words (position_word q)) k g → Agrees (state_at q (slice_index ws (state_word q))) (slice_index ws (position_word q)) k g
    agrees_else q not k g a = let e = same q not in subst (λ (z : ℕ × ℕ). Agrees (state_at q z.0) z.1 k g) (λ i. (sym e.0 i, sym e.1 i)) a

    there : (q : ℕ) → q ≢ p → facts q v.steps ≡ facts q (v.steps ++ st ∷ [])
    there q not = sym (facts_there q v.steps st (λ h. not (sym h ∙ here)))

    own_place : (q : ℕ) → Agrees (state_at q (slice_index ws (state_word q))) (slice_index ws (position_word q)) id (facts q (v.steps ++ st ∷ []))
    own_place q = ⊎_elim
        (λ e. subst (λ (r : ℕ). Agrees (state_at r (slice_index ws (state_word r))) (slice_index ws (position_word r)) id (facts r (v.steps ++ st ∷ []))) (sym e) (agrees_on p refl id _ owed.own))
        (λ ne. subst (λ (g : Facts). Agrees (state_at q (slice_index ws (state_word q))) (slice_index ws (position_word q)) id g) (there q ne) (⊎_elim
        (λ line. agrees_on q line id _ (owed.beside q id v line ne at (before_on q line id v at)))
        (λ off. agrees_else q off id _ (kept.places q id v at))
        (cases_eq (line_of q) (line_of p))))
        (cases_eq q p)

    other_place : (q k : ℕ) (u : SeatView) → k ≢ id → get_elem? s.views k ≡ some u → Agrees (state_at q (slice_index ws (state_word q))) (slice_index ws (position_word q)) k (facts q u.steps)
    other_place q k u ne found = ⊎_elim
        (λ line. agrees_on q line k _ (⊎_elim
        (λ e. subst (λ (r : ℕ). Agrees (state_at r word) position k (facts r u.steps)) (sym e) (owed.others k u ne found))
        (λ nq. owed.beside q k u line nq found (before_on q line k u found))
        (cases_eq q p)))
        (λ off. agrees_else q off k _ (kept.places q k u found))
        (cases_eq (line_of q) (line_of p))

    leaves_on : (q : ℕ) → line_of q ≡ line_of p → (g : Facts) → (state_at q word ≡ g.state) × (word / 4096 ≡ 0 → position ≡ g.position)
        → (state_at q (slice_index ws (state_word q)) ≡ g.state) × (slice_index ws (state_word q) / 4096 ≡ 0 → slice_index ws (position_word q) ≡ g.position)
    leaves_on q line g l = let e = words_on q line in subst (λ (z : ℕ × ℕ). (state_at q z.0 ≡ g.state) × (z.0 / 4096 ≡ 0 → z.1 ≡ g.position)) (λ i. (sym e.0 i, sym e.1 i)) l

    leaves_else : (q : ℕ) → line_of q ≢ line_of p → (g : Facts) → (state_at q (slice_index s.words (state_word q)) ≡ g.state) × (slice_index s.words (state_word q) / 4096 ≡ 0 → slice_index s.words (position_word q) ≡ g.position)
        → (state_at q (slice_index ws (state_word q)) ≡ g.state) × (slice_index ws (state_word q) / 4096 ≡ 0 → slice_index ws (position_word q) ≡ g.position)
    leaves_else q off g l = let e = same q off in subst (λ (z : ℕ × ℕ). (state_at q z.0 ≡ g.state) × (z.0 / 4096 ≡ 0 → z.1 ≡ g.position)) (λ i. (sym e.0 i, sym e.1 i)) l

    own_leaves : length s.views ≡ 1 → (q : ℕ) → q < 1024 → Leaves ws q (with_step v st)
    own_leaves one q lower = ⊎_elim
        (λ e. subst (λ (r : ℕ). Leaves ws r (with_step v st)) (sym e) (let low : p < 1024 = omega (arith, e, lower) in leaves_on p refl (facts p (v.steps ++ st ∷ [])) (owed.leaves low (left_before p refl one low))))
        (λ ne. subst (λ (g : Facts). (state_at q (slice_index ws (state_word q)) ≡ g.state) × (slice_index ws (state_word q) / 4096 ≡ 0 → slice_index ws (position_word q) ≡ g.position)) (there q ne) (⊎_elim
        (λ line. leaves_on q line (facts q v.steps) (owed.leaves_beside q lower line ne (left_before q line one lower)))
        (λ off. leaves_else q off (facts q v.steps) (kept.alone one q id v lower at))
        (cases_eq (line_of q) (line_of p))))
        (cases_eq q p)

    other_leaves : length s.views ≡ 1 → (q k : ℕ) (u : SeatView) → k ≢ id → get_elem? s.views k ≡ some u → Leaves ws q u
    other_leaves one q k u ne found = absurd (ne (only k u found ∙ sym (only id v at)))
      where
        only : (j : ℕ) (w : SeatView) → get_elem? s.views j ≡ some w → j ≡ 0
        only j w is = at_one s.views j w is one

    pub moves : Kept (after ws)
    moves = let long = length-set s.views id (with_step v st) in record {
      wide = wide;
      numbered = λ k u is. ⊎_elim
          (λ t. let n = kept.numbered id v at in let e = t.1 in (ap (λ (w : SeatView). w.number) (sym e) ∙ n.0 ∙ sym t.0, λ more. long ∙ n.1 (subst (λ (w : SeatView). 0 < w.seats) (sym e) more) ∙ ap (λ (w : SeatView). w.seats) e))
          (λ t. let n = kept.numbered k u t.1 in (n.0, λ more. long ∙ n.1 more))
          (at_set s.views id k (with_step v st) u is);
      first = λ k u is more. ⊎_elim
          (λ t. t.0 ∙ kept.first id v at (subst (λ (w : SeatView). 0 < w.seats) (sym t.1) more))
          (λ t. kept.first k u t.1 more)
          (at_set s.views id k (with_step v st) u is);
      few = let f = kept.few in omega (arith, long, f);
      names = λ q. ⊎_elim
          (λ line. subst (λ (x : ℕ). x % 4096 < 3 + length (after ws).views) (sym (words_on q line).0) (let m = owed.small in omega (arith, m, long)))
          (λ off. subst (λ (x : ℕ). x % 4096 < 3 + length (after ws).views) (sym (same q off).0) (let old = kept.names q in omega (arith, old, long)))
          (cases_eq (line_of q) (line_of p));
      places = λ q k u is. ⊎_elim
          (λ t. subst (λ (w : SeatView). Agrees (state_at q (slice_index ws (state_word q))) (slice_index ws (position_word q)) k (facts q w.steps)) t.1 (subst (λ (j : ℕ). Agrees (state_at q (slice_index ws (state_word q))) (slice_index ws (position_word q)) j (facts q (v.steps ++ st ∷ []))) (sym t.0) (own_place q)))
          (λ t. other_place q k u t.0 t.1)
          (at_set s.views id k (with_step v st) u is);
      alone = λ one q k u lower is. let one' = sym long ∙ one in ⊎_elim
          (λ t. subst (λ (w : SeatView). Leaves ws q w) t.1 (own_leaves one' q lower))
          (λ t. other_leaves one' q k u t.0 t.1)
          (at_set s.views id k (with_step v st) u is);
    }
