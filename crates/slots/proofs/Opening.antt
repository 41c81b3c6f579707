-- A new table has no slots.
use Rattle.std.proofs.Common.{◌≡◌, ℕ, List, [], ◌∷◌, ◌++◌, Some, None, refl, sym, subst, ◌∙◌, arith}
use Rattle.std.proofs.lemmas.List.{same_from_push}
use Rattle.slots.specs.declared.by_name.directory.Directory.{Directory}
use Rattle.slots.specs.declared.words_kept.step.SeatView.{SeatView}
use Rattle.slots.specs.Directories as names
use Rattle.slots.specs.Seats.{first_of}
use Rattle.slots.specs.Keeping.{IsNamed, StandsIn}

-- a directory of no names, beside no slots
module _ (d : Directory) (none : (name : List ℕ) → names.place_of d name ≡ None) where
  no_place : (name : List ℕ) (p : ℕ) → names.place_of d name ≡ Some p → ⊥
  no_place name p found = none_is_no (sym (none name) ∙ found)
    where
      none_is_no : None ≡ Some p → ⊥
      none_is_no e = absurd cc

  pub none_named : IsNamed d [] 0
  none_named = record {
    same = none;
    listed = tt;
    one = λ name other p found also. absurd (no_place name p found);
    below = λ name p found. absurd (no_place name p found);
  }

-- the only seat of a new table left nothing
first_stands : StandsIn (first_of 1) [] 0
first_stands = record {
  alone = refl;
  few = omega arith;
  used = λ p low. absurd (omega (arith, low));
  unused = λ p high. (refl, refl);
  each = tt;
}

pub none_stand : (v : SeatView) (vs rest others : List SeatView) → vs ≡ rest ++ v ∷ [] → vs ≡ others ++ first_of 1 ∷ [] → StandsIn v [] 0
none_stand v vs rest others last first = subst (λ (w : SeatView). StandsIn w [] 0) (sym (same_from_push rest others v (first_of 1) (sym last ∙ first)).1) first_stands
