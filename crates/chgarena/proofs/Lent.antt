-- What the holder of a `&` to a row of places has of a run of them that is written. Assumes `Logic`.
use Rattle.std.proofs.Common.{◌≡◌, ℕ, zero, suc, ◌+◌, List, [], ◌∷◌, Option, Some, map, take, drop, refl, arith}
use seplogic.Ra.Ura.{Ura}
use base.Logic.{ent}
use base.Fml.{Lft, ftrue}
use types.Logic.{Logic, sem}
use types.Kit.{‵, ◌$◌, ◌∵◌, !, qed, by, done, move, drop as forget, use1, fjoin, rewrite}
use denote.Builtin.{u8}
use denote.Slice.{elements_shared}
use denote.Steps.{nothing}
use Rattle.chgarena.specs.Places.{place_lent, places_lent_at}

module _ {M : Type 1} {𝓤 : Ura M} (𝓛 : Logic 𝓤) (κ : Lft) (b : ℕ) where
  -- the places from the i-th on
  from_on : (o : ℕ) (ps : List (Option ℕ)) (i at : ℕ) → at ≡ i + o → ent 𝓤 (sem 𝓛 (places_lent_at b o ps κ)) (sem 𝓛 (places_lent_at b at (drop i ps) κ))
  from_on o ps zero at e = qed 𝓛 (‵ (places_lent_at b o ps κ) ∷ []) ∵
      rewrite ! 0 (λ (k : ℕ). ‵ (places_lent_at b k ps κ)) (let same : o ≡ at = omega arith in same) refl $ done !
  from_on o [] (suc i) at e = qed 𝓛 (‵ ftrue ∷ []) ∵ done !
  from_on o (p ∷ ps) (suc i) at e = qed 𝓛 (‵ (place_lent b o p κ) ∷ ‵ (places_lent_at b (suc o) ps κ) ∷ []) ∵
      forget ! $ by ! (from_on (suc o) ps i at (omega arith))

  -- the first of them, which are written
  up_to : (o : ℕ) (ps : List (Option ℕ)) (n : ℕ) (bytes : List ℕ) → take n ps ≡ map Some bytes → ent 𝓤 (sem 𝓛 (places_lent_at b o ps κ)) (sem 𝓛 (elements_shared u8 bytes b o κ))
  up_to o ps n [] e = qed 𝓛 (‵ (places_lent_at b o ps κ) ∷ []) ∵ forget ! $ nothing ! $ done !
  up_to o ps zero (x ∷ xs) e = absurd cc
  up_to o [] (suc n) (x ∷ xs) e = absurd cc
  up_to o (p ∷ ps) (suc n) (x ∷ xs) e =
      let first : p ≡ Some x = cc in
      let rest : take n ps ≡ map Some xs = cc in
      qed 𝓛 (‵ (place_lent b o p κ) ∷ ‵ (places_lent_at b (suc o) ps κ) ∷ []) ∵
      rewrite ! 0 (λ (q : Option ℕ). ‵ (place_lent b o q κ)) first refl $ move ! (1 ∷ []) $
      use1 𝓛 (‵ (elements_shared u8 xs b (suc o) κ)) (up_to (suc o) ps n xs rest) $
      rewrite ! 0 (λ (k : ℕ). ‵ (elements_shared u8 xs b k κ)) (let same : suc o ≡ o + 1 = omega arith in same) refl $
      move ! (1 ∷ 0 ∷ []) $ fjoin ! $ done !

  pub run_seen : (o : ℕ) (ps : List (Option ℕ)) (from len : ℕ) (bytes : List ℕ) → take len (drop from ps) ≡ map Some bytes →
      ent 𝓤 (sem 𝓛 (places_lent_at b o ps κ)) (sem 𝓛 (elements_shared u8 bytes b (from + o) κ))
  run_seen o ps from len bytes e = qed 𝓛 (‵ (places_lent_at b o ps κ) ∷ []) ∵
      use1 𝓛 (‵ (places_lent_at b (from + o) (drop from ps) κ)) (from_on o ps from (from + o) refl) $ by ! (up_to (from + o) (drop from ps) len bytes e)
