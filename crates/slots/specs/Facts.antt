-- What the steps of one seat say of one place. The words of a place: 0 was never made, 1 is free, 2 was dropped, n + 3 is held by seat n.
use Rattle.std.specs.Prelude.{ℕ, ◌==◌, Bool, true, false, ◌&&◌, ◌||◌, not, cond, List, [], ◌∷◌, Option, Some, None, max, nat_lt}
use Rattle.slots.specs.declared.words_kept.step.SlotKind.{SlotKind}
use Rattle.slots.specs.declared.words_kept.step.SlotKind.TheVariants.{Create, Claim, Release, Retire}
use Rattle.slots.specs.declared.words_kept.step.SlotStep.{SlotStep}

pub record Facts : Type 0 where
  pub state : ℕ  -- what its last step on the state word left
  pub position : ℕ  -- what its last step on the position left
  pub held : Bool  -- it took the place, and didn't release it since
  pub known : Option ℕ  -- the position that its last read or raise left, since it took the place
  pub top : ℕ  -- the greatest position that was found or left
  pub gone : Bool  -- "dropped" was found or left
  pub rising : Bool  -- no position was found below an earlier one

-- before any step: never made, at position 0
abbrev pub no_facts : Facts
no_facts = record { state = 0; position = 0; held = false; known = None; top = 0; gone = false; rising = true }

-- "dropped" is one of these words
abbrev pub says_dropped : (found left : ℕ) → Bool
says_dropped found left = (found == 2) || (left == 2)

-- What a step adds, by the word that it found and the one that it left. A create takes a place that was never made, a claim a free one;
-- either knows nothing of its position yet. A release lets go of it, and a retire says "dropped" of a free one. These are steps on the
-- state word; a read and a raise are on the position, and know what they left there.
abbrev pub facts_by : SlotKind → (found left : ℕ) → Facts → Facts
facts_by Create found left f =
    record f { state = left; held = (found == 0) || f.held; known = cond (found == 0) None f.known; gone = f.gone || says_dropped found left }
facts_by Claim found left f =
    record f { state = left; held = (found == 1) || f.held; known = cond (found == 1) None f.known; gone = f.gone || says_dropped found left }
facts_by Release found left f = record f { state = left; held = false; gone = f.gone || says_dropped found left }
facts_by Retire found left f = record f { state = left; gone = f.gone || says_dropped found left }
facts_by _ found left f = record f { position = left; known = Some left; top = max f.top (max found left); rising = f.rising && not (nat_lt found f.top) }

abbrev pub facts_after : SlotStep → Facts → Facts
facts_after s f = facts_by s.kind s.found s.left f

abbrev pub facts_from : ℕ → Facts → List SlotStep → Facts
facts_from place f [] = f
facts_from place f (s ∷ ss) = facts_from place (cond (s.place == place) (facts_after s f) f) ss

-- what these steps say of the place
abbrev pub facts : ℕ → List SlotStep → Facts
facts place steps = facts_from place no_facts steps
