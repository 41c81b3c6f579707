-- What each kind of step does to one place: its seat's facts still agree with the two words, and so do those of any other seat.
use Rattle.std.proofs.Common.{◌≡◌, ℕ, ◌<◌, ◌≤◌, ◌≢◌, Bool, true, false, not, ◌&&◌, ◌||◌, cond, eqb, max, Option, Some, None, refl, ap, ◌∙◌, arith, ⊎_elim}
use Rattle.std.specs.Prelude.{nat_lt}
use Rattle.std.proofs.lemmas.Bool.{or_cases, eqb-true, le-ltb, false≢true}
use Rattle.slots.specs.declared.words_kept.step.SlotKind.TheVariants.{Create, Claim, Read, Raise, Release, Retire}
use Rattle.slots.specs.Standings.{held_by}
use Rattle.slots.specs.Facts.{Facts, facts_after}
use Rattle.slots.specs.Rule.{Agrees, slot_step}

abbrev is_there : Option ℕ → Bool
is_there None = false
is_there (Some y) = true

abbrev value_of : Option ℕ → ℕ
value_of None = 0
value_of (Some y) = y

none_is_no_some : (x : ℕ) → None ≡ Some x → ⊥
none_is_no_some x e = false≢true (ap is_there e)

same_value : (x y : ℕ) → Some x ≡ Some y → x ≡ y
same_value x y e = ap value_of e

two : (x : ℕ) → eqb x 2 ≡ true → x ≡ 2
two x e = eqb-true x 2 e

-- "dropped" was seen after a step that found x and left y: it had been before, or x or y is 2
gone_cases : (g : Bool) (x y : ℕ) → (g || (eqb x 2 || eqb y 2)) ≡ true → {P : Type 0} → (g ≡ true → P) → (x ≡ 2 → P) → (y ≡ 2 → P) → P
gone_cases g x y e before found left = ⊎_elim before (λ h. ⊎_elim (λ a. found (two x a)) (λ b. left (two y b)) (or_cases (eqb x 2) (eqb y 2) h)) (or_cases g (eqb x 2 || eqb y 2) e)

module _ (f : Facts) (x at id : ℕ) (a : Agrees x at id f) where
  -- a step that takes the place where it finds `want`, which is 0 or 1
  abbrev taken : ℕ → Bool → Facts
  taken y b = record { state = y; position = f.position; held = b || f.held; known = cond b None f.known; top = f.top; gone = f.gone || (eqb x 2 || eqb y 2); rising = f.rising }

  takes : (want : ℕ) → want < 2 → (b : Bool) → eqb x want ≡ b → Agrees (cond b (held_by id) x) at id (taken (cond b (held_by id) x) b)
  takes want low true is = let e = eqb-true x want is in record {
    named = λ _. refl;
    held = λ _. refl;
    above = a.above;
    last = λ _ y none. absurd (none_is_no_some y none);
    stays = λ g. gone_cases f.gone x (held_by id) g (λ h. let two = a.stays h in absurd (omega arith)) (λ h. absurd (omega arith)) (λ h. absurd (omega arith));
    rises = a.rises;
  }
  takes want low false is = record {
    named = a.named;
    held = a.held;
    above = a.above;
    last = a.last;
    stays = λ g. gone_cases f.gone x x g a.stays (λ h. h) (λ h. h);
    rises = a.rises;
  }

  pub create_own : (p : ℕ) → Agrees (cond (eqb x 0) (held_by id) x) at id (facts_after (slot_step Create p x (cond (eqb x 0) (held_by id) x)) f)
  create_own p = takes 0 (omega arith) (eqb x 0) refl

  pub claim_own : (p : ℕ) → Agrees (cond (eqb x 1) (held_by id) x) at id (facts_after (slot_step Claim p x (cond (eqb x 1) (held_by id) x)) f)
  claim_own p = takes 1 (omega arith) (eqb x 1) refl

  abbrev retired : ℕ → Facts
  retired y = record { state = y; position = f.position; held = f.held; known = f.known; top = f.top; gone = f.gone || (eqb x 2 || eqb y 2); rising = f.rising }

  retires : (b : Bool) → eqb x 1 ≡ b → Agrees (cond b 2 x) at id (retired (cond b 2 x))
  retires true is = let e = eqb-true x 1 is in record {
    named = λ h. let n = a.named h in absurd (omega arith);
    held = λ h. absurd (omega arith);
    above = a.above;
    last = a.last;
    stays = λ _. refl;
    rises = a.rises;
  }
  retires false is = record {
    named = a.named;
    held = a.held;
    above = a.above;
    last = a.last;
    stays = λ g. gone_cases f.gone x x g a.stays (λ h. h) (λ h. h);
    rises = a.rises;
  }

  pub retire_own : (p : ℕ) → Agrees (cond (eqb x 1) 2 x) at id (facts_after (slot_step Retire p x (cond (eqb x 1) 2 x)) f)
  retire_own p = retires (eqb x 1) refl

  pub release_own : (p : ℕ) → f.held ≡ true → Agrees 1 at id (facts_after (slot_step Release p (held_by id) 1) f)
  release_own p mine = let n = a.named mine in record {
    named = λ h. absurd (false≢true h);
    held = λ h. absurd (omega arith);
    above = a.above;
    last = λ h. absurd (false≢true h);
    stays = λ g. gone_cases f.gone (held_by id) 1 g (λ h. let two = a.stays h in absurd (omega arith)) (λ h. absurd (omega arith)) (λ h. absurd (omega arith));
    rises = a.rises;
  }

  not_below : (r : Bool) → r ≡ true → (r && not (nat_lt at f.top)) ≡ true
  not_below r is = ap (λ (b : Bool). b && not (nat_lt at f.top)) is ∙ ap not (le-ltb at f.top a.above)

  pub raise_own : (p by : ℕ) → Agrees x (max at by) id (facts_after (slot_step Raise p at (max at by)) f)
  raise_own p by = let low = a.above in record {
    named = a.named;
    held = a.held;
    above = omega arith;
    last = λ _ y is. same_value _ y is;
    stays = a.stays;
    rises = not_below f.rising a.rises;
  }

  pub read_own : (p : ℕ) → Agrees x at id (facts_after (slot_step Read p at at) f)
  read_own p = let low = a.above in record {
    named = a.named;
    held = a.held;
    above = omega arith;
    last = λ _ y is. same_value _ y is;
    stays = a.stays;
    rises = not_below f.rising a.rises;
  }

  -- the seat `id` is another than the one that steps, which is `by`
  module _ (by : ℕ) (other : id ≢ by) where
    taken_by_other : (want : ℕ) → want < 2 → (b : Bool) → eqb x want ≡ b → Agrees (cond b (held_by by) x) at id f
    taken_by_other want low true is = let e = eqb-true x want is in record {
      named = λ h. let n = a.named h in absurd (omega arith);
      held = λ h. absurd (other (omega arith));
      above = a.above;
      last = a.last;
      stays = λ g. let two = a.stays g in absurd (omega arith);
      rises = a.rises;
    }
    taken_by_other want low false is = a

    pub create_other : Agrees (cond (eqb x 0) (held_by by) x) at id f
    create_other = taken_by_other 0 (omega arith) (eqb x 0) refl

    pub claim_other : Agrees (cond (eqb x 1) (held_by by) x) at id f
    claim_other = taken_by_other 1 (omega arith) (eqb x 1) refl

    retired_by_other : (b : Bool) → eqb x 1 ≡ b → Agrees (cond b 2 x) at id f
    retired_by_other true is = let e = eqb-true x 1 is in record {
      named = λ h. let n = a.named h in absurd (omega arith);
      held = λ h. absurd (omega arith);
      above = a.above;
      last = a.last;
      stays = λ _. refl;
      rises = a.rises;
    }
    retired_by_other false is = a

    pub retire_other : Agrees (cond (eqb x 1) 2 x) at id f
    retire_other = retired_by_other (eqb x 1) refl

    pub release_other : x ≡ held_by by → Agrees 1 at id f
    release_other its = record {
      named = λ h. let n = a.named h in absurd (other (omega arith));
      held = λ h. absurd (omega arith);
      above = a.above;
      last = a.last;
      stays = λ g. let two = a.stays g in absurd (omega arith);
      rises = a.rises;
    }

    pub raise_other : x ≡ held_by by → (to : ℕ) → at ≤ to → Agrees x to id f
    raise_other its to more = let low = a.above in record {
      named = a.named;
      held = a.held;
      above = omega arith;
      last = λ h. let n = a.named h in absurd (other (omega arith));
      stays = a.stays;
      rises = a.rises;
    }
