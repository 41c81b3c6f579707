-- A place is taken out of a row of places, and put back. Assumes `Logic`.
use Rattle.std.proofs.Common.{◌≡◌, ℕ, zero, suc, ◌+◌, ◌<◌, List, [], ◌∷◌, Option, Some, None, length, get_or, set, w8, refl, arith}
use seplogic.Ra.Ura.{Ura}
use mir.Syntax.{ty_int}
use mir.Val.{vint}
use base.Fraction.{full_share}
use base.Logic.{ent, sep, id⊢}
use base.Fml.{Fml, ftrue, fsep, fat, froom}
use types.Logic.{Logic, sem}
use types.Kit.{‵, ◌⊛◌, ◌$◌, ◌∵◌, !, qed, by, done, move, use1, use2, split, fjoin, rewrite}
use denote.Plain.{uint_out}
use Rattle.chgarena.specs.Places.{place, places}

-- all places but the one that i others stand before
abbrev pub besides : ℕ → ℕ → List (Option ℕ) → ℕ → Fml
besides b o [] i = ftrue
besides b o (p ∷ ps) zero = places b (suc o) ps
besides b o (p ∷ ps) (suc i) = fsep (place b o p) (besides b (suc o) ps i)

module _ {M : Type 1} {𝓤 : Ura M} (𝓛 : Logic 𝓤) (b : ℕ) where
  pub place_out : (o : ℕ) (ps : List (Option ℕ)) (i at : ℕ) → i < length ps → at ≡ i + o →
      ent 𝓤 (sem 𝓛 (places b o ps)) (sep 𝓤 (sem 𝓛 (place b at (get_or ps i None))) (sem 𝓛 (besides b o ps i)))
  place_out o [] i at low e = absurd (omega arith)
  place_out o (p ∷ ps) zero at low e = qed 𝓛 (‵ (place b o p) ∷ ‵ (places b (suc o) ps) ∷ []) ∵
      rewrite ! 0 (λ (k : ℕ). ‵ (place b k p)) (let same : o ≡ at = omega arith in same) refl $ done !
  place_out o (p ∷ ps) (suc i) at low e = qed 𝓛 (‵ (place b o p) ∷ ‵ (places b (suc o) ps) ∷ []) ∵
      move ! (1 ∷ []) $ use1 𝓛 (‵ (place b at (get_or ps i None)) ⊛ ‵ (besides b (suc o) ps i)) (place_out (suc o) ps i at (omega arith) (omega arith)) $
      split ! $ move ! (2 ∷ 1 ∷ []) $ fjoin ! $ move ! (1 ∷ []) $ done !

  pub place_in : (o : ℕ) (ps : List (Option ℕ)) (i at : ℕ) (new : Option ℕ) → i < length ps → at ≡ i + o →
      ent 𝓤 (sep 𝓤 (sem 𝓛 (place b at new)) (sem 𝓛 (besides b o ps i))) (sem 𝓛 (places b o (set ps i new)))
  place_in o [] i at new low e = absurd (omega arith)
  place_in o (p ∷ ps) zero at new low e = qed 𝓛 (‵ (place b at new) ∷ ‵ (places b (suc o) ps) ∷ []) ∵
      rewrite ! 0 (λ (k : ℕ). ‵ (place b k new)) (let same : at ≡ o = omega arith in same) refl $ fjoin ! $ done !
  place_in o (p ∷ ps) (suc i) at new low e = qed 𝓛 (‵ (place b at new) ∷ ‵ (place b o p) ∷ ‵ (besides b (suc o) ps i) ∷ []) ∵
      move ! (0 ∷ 2 ∷ []) $ use2 𝓛 (‵ (places b (suc o) (set ps i new))) (place_in (suc o) ps i at new (omega arith) (omega arith)) $
      move ! (1 ∷ []) $ fjoin ! $ done !

  -- whatever a place holds, it is room for a byte
  pub place_room : (at : ℕ) (p : Option ℕ) → ent 𝓤 (sem 𝓛 (place b at p)) (sem 𝓛 (froom (ty_int w8) b at))
  place_room at (Some byte) = qed 𝓛 (‵ (place b at (Some byte)) ∷ []) ∵
      use1 𝓛 (‵ (fat full_share (ty_int w8) b at (vint w8 byte))) (uint_out 𝓛 full_share w8 byte b at) $ by ! (𝓛.laws.at_room _ _ _ _)
  place_room at None = id⊢ 𝓤 _
