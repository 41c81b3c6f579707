-- How a place stands by its line's word, and what a change of that word is to the places of the line.
use Rattle.std.proofs.Common.{◌≡◌, ℕ, ◌+◌, ◌*◌, ◌/◌, ◌%◌, ◌<◌, ◌≤◌, ◌≢◌, ◌⊎◌, inl, inr, Bool, true, false, cond, eqb, ltb, refl, sym, ap, ◌∙◌, arith, ⊎_elim, eq-eqb, ne_eqb}
use Rattle.std.proofs.lemmas.Bool.{cases_eq, cases_lt, lt-ltb, le-ltb, eqb-true}
use Rattle.slots.specs.Rule.{generation_of, line_of, place_at, position_word, state_at, state_word, word_at}

-- ---- The place of a word.

pub place_back : (p n : ℕ) → n < 4096 → place_at (state_word p) (word_at p n) ≡ p
place_back p n low = omega (arith, low)

pub place_next : (p : ℕ) → word_at p 0 + 4096 ≡ (generation_of p + 1) * 4096
place_next p = omega arith

pub one_line : (p q : ℕ) → line_of q ≡ line_of p → generation_of q ≡ generation_of p → q ≡ p
one_line p q line generation = omega (arith, line, generation)

-- ---- How a place stands.

pub not_yet : (p w : ℕ) → w / 4096 < generation_of p → state_at p w ≡ 4095
not_yet p w less = ap (λ (b : Bool). cond b 4095 (cond (ltb (generation_of p) (w / 4096)) 2 (w % 4096))) (lt-ltb (w / 4096) (generation_of p) less)

pub no_more : (p w : ℕ) → generation_of p < w / 4096 → state_at p w ≡ 2
no_more p w more = ap (λ (b : Bool). cond b 4095 (cond (ltb (generation_of p) (w / 4096)) 2 (w % 4096))) (le-ltb (w / 4096) (generation_of p) (omega (arith, more)))
    ∙ ap (λ (b : Bool). cond b 2 (w % 4096)) (lt-ltb (generation_of p) (w / 4096) more)

pub now : (p w : ℕ) → w / 4096 ≡ generation_of p → state_at p w ≡ w % 4096
now p w is = ap (λ (b : Bool). cond b 4095 (cond (ltb (generation_of p) (w / 4096)) 2 (w % 4096))) (le-ltb (w / 4096) (generation_of p) (omega (arith, is)))
    ∙ ap (λ (b : Bool). cond b 2 (w % 4096)) (le-ltb (generation_of p) (w / 4096) (omega (arith, is)))

-- the three cases
pub by_turn : (p w : ℕ) {P : Type 0} → (w / 4096 < generation_of p → P) → (generation_of p < w / 4096 → P) → (w / 4096 ≡ generation_of p → P) → P
by_turn p w before after here = ⊎_elim before (λ ge. ⊎_elim after (λ le. here (omega (arith, ge, le))) (cases_lt (generation_of p) (w / 4096))) (cases_lt (w / 4096) (generation_of p))

pub stands_by : (p n : ℕ) → n < 4096 → state_at p (word_at p n) ≡ n
stands_by p n low = now p (word_at p n) (omega (arith, low)) ∙ omega (arith, low)

pub dropped_by : (p : ℕ) → state_at p ((generation_of p + 1) * 4096) ≡ 2
dropped_by p = no_more p ((generation_of p + 1) * 4096) (omega arith)

-- a place that stands in one of these ways has its line at it
pub turn_here : (p w n : ℕ) → state_at p w ≡ n → n ≢ 2 → n ≢ 4095 → w ≡ word_at p n
turn_here p w n is not_dropped not_early = by_turn p w
    (λ less. absurd (not_early (sym is ∙ not_yet p w less)))
    (λ more. absurd (not_dropped (sym is ∙ no_more p w more)))
    (λ here. let m = sym (now p w here) ∙ is in omega (arith, here, m))

-- the word is looked for, exactly where the place stands so
pub same_test : (p w n : ℕ) → n < 2 → eqb w (word_at p n) ≡ eqb (state_at p w) n
same_test p w n low = ⊎_elim
    (λ is. eq-eqb w (word_at p n) is ∙ sym (eq-eqb (state_at p w) n (ap (state_at p) is ∙ stands_by p n (omega (arith, low)))))
    (λ not. ne_eqb w (word_at p n) not ∙ sym (ne_eqb (state_at p w) n (λ e. not (turn_here p w n e (λ h. omega (arith, low, h)) (λ h. omega (arith, low, h))))))
    (cases_eq w (word_at p n))

pub changed : (p w n new left : ℕ) (b : Bool) → b ≡ eqb (state_at p w) n → state_at p new ≡ left → state_at p (cond b new w) ≡ cond (eqb (state_at p w) n) left (state_at p w)
changed p w n new left true is to = to ∙ ap (λ (b : Bool). cond b left (state_at p w)) is
changed p w n new left false is to = ap (λ (b : Bool). cond b left (state_at p w)) is

-- ---- Another place of the line.

-- it stands as it did where the line stays at its place
pub same_turn : (q w w' : ℕ) → w / 4096 ≡ w' / 4096 → generation_of q ≢ w / 4096 → state_at q w' ≡ state_at q w
same_turn q w w' same not = by_turn q w
    (λ less. not_yet q w' (omega (arith, less, same)) ∙ sym (not_yet q w less))
    (λ more. no_more q w' (omega (arith, more, same)) ∙ sym (no_more q w more))
    (λ here. absurd (not (sym here)))

-- the line stays at its place, or goes on to the next one
abbrev pub Follows : (p new : ℕ) → Type 0
Follows p new = (new / 4096 ≡ generation_of p) ⊎ (new ≡ (generation_of p + 1) * 4096)

-- then another place of the line stands as it did, or its turn comes
abbrev pub Comes : (q w new : ℕ) → Type 0
Comes q w new = (state_at q new ≡ state_at q w) ⊎ ((state_at q new ≡ 0) × (state_at q w ≡ 4095))

pub goes_on : (p q w new : ℕ) → w / 4096 ≡ generation_of p → line_of q ≡ line_of p → q ≢ p → Follows p new → Comes q w new
goes_on p q w new here line not how = ⊎_elim
    (λ stays. inl (same_turn q w new (here ∙ sym stays) (λ e. not (one_line p q line (e ∙ here)))))
    (λ next. by_turn q new
    (λ less. inl (not_yet q new less ∙ sym (not_yet q w (omega (arith, less, next, here)))))
    (λ more. inl (no_more q new more ∙ sym (no_more q w (ahead more next))))
    (λ turn. inr (now q new turn ∙ omega (arith, next), not_yet q w (omega (arith, turn, next, here)))))
    how
  where
    ahead : generation_of q < new / 4096 → new ≡ (generation_of p + 1) * 4096 → generation_of q < w / 4096
    ahead more next = let ne : generation_of q ≢ generation_of p = λ e. not (one_line p q line e) in omega (arith, more, next, here, ne)
