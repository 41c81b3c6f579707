-- The mark in front of the digits of bytes.
use Rattle.std.proofs.Common.{◌≡◌, ℕ, Bool, true, false, cond, eqb, List, [], ◌∷◌, refl, sym, ap}
use Rattle.std.specs.Prelude.{◌&&◌}
use Rattle.std.proofs.lemmas.Bool.{and_parts, eqb-true}
use Rattle.message_lines.specs.Values.{without_mark}

pub behind_mark : (text rest : List ℕ) → text ≡ 92 ∷ 120 ∷ rest → rest ≡ without_mark text
behind_mark text rest is = sym (ap without_mark is)

pub no_mark : (text : List ℕ) → ((rest : List ℕ) → text ≡ 92 ∷ 120 ∷ rest → ⊥) → text ≡ without_mark text
no_mark [] none = refl
no_mark (a ∷ []) none = refl
no_mark (a ∷ b ∷ text) none = by_test (eqb a 92 && eqb b 120) refl
  where
    by_test : (t : Bool) → (eqb a 92 && eqb b 120) ≡ t → a ∷ b ∷ text ≡ cond t text (a ∷ b ∷ text)
    by_test true is =
        let parts = and_parts (eqb a 92) (eqb b 120) is in
        absurd (none text (rw (eqb-true a 92 parts.0, eqb-true b 120 parts.1) refl))
    by_test false is = refl
