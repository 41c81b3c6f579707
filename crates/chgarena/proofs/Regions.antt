-- A region that was just allocated is a row of places none of which is written, and a row of places is a region again. Assumes `Logic`.
-- Below that: the machine values of the two structs that stand for a region and for the right to give it back.
use Rattle.std.proofs.Common.{◌≡◌, ℕ, zero, suc, ◌+◌, List, [], ◌∷◌, ◌++◌, Option, None, length, replicate, refl, ◌∙◌, lit<, w8, arith}
use seplogic.Ra.Ura.{Ura}
use mir.Syntax.{Body, ty_int, ty_ptr, ty_struct, tcons, tnil}
use mir.Val.{Val, vstruct, vcons, vnil, of_list}
use base.Logic.{ent, emp}
use base.Fml.{Fml, ftrue, froom}
use prog.Wp.{Calls, Env, Loops, Wp, after_block, after_seq}
use types.Logic.{Logic, sem}
use types.Kit.{‵, ◌⊛◌, ◌$◌, ◌∵◌, !, qed, done, move, drop as forget, use0, use1, use2, split, fjoin, rewrite, Post, any_q, post}
use denote.Builtin.{unit}
use denote.RattleType.{RattleType}
use denote.RawPtr.{Ptr, RawPtr, block_ptr, null_ptr, ptr_val}
use denote.Shadow.{shadow, makes_shadow}
use denote.Signature.{Slot, plain}
use denote.Steps.{nothing}
use denote.Struct.Struct.{Struct}
use Rattle.core.proofs.cell.Inside.{Good}
use Rattle.chgarena.specs.Places.{bytes, place, places}
use Rattle.chgarena.proofs.Places.{place_room}

module _ {M : Type 1} {𝓤 : Ura M} (𝓛 : Logic 𝓤) (b : ℕ) where
  pub unwritten : (o n : ℕ) → ent 𝓤 (sem 𝓛 (froom (bytes n) b o)) (sem 𝓛 (places b o (replicate n None)))
  unwritten o zero = qed 𝓛 (‵ (froom (bytes 0) b o) ∷ []) ∵ forget ! $ nothing ! $ done !
  unwritten o (suc n) = qed 𝓛 (‵ (froom (bytes (suc n)) b o) ∷ []) ∵
      use1 𝓛 (‵ (froom (ty_int w8) b o) ⊛ ‵ (froom (bytes n) b (o + 1))) (𝓛.laws.room_uncons (ty_int w8) n b o) $ split ! $ move ! (1 ∷ []) $
      rewrite ! 0 (λ (k : ℕ). ‵ (froom (bytes n) b k)) (let same : o + 1 ≡ suc o = omega arith in same) refl $
      use1 𝓛 (‵ (places b (suc o) (replicate n None))) (unwritten (suc o) n) $ move ! (1 ∷ []) $ fjoin ! $ done !

  pub given_up : (o : ℕ) (ps : List (Option ℕ)) → ent 𝓤 (sem 𝓛 (places b o ps)) (sem 𝓛 (froom (bytes (length ps)) b o))
  given_up o [] = qed 𝓛 (‵ ftrue ∷ []) ∵ forget ! $ use0 𝓛 (‵ (froom (bytes 0) b o)) (𝓛.laws.room_nil (ty_int w8) b o) $ done !
  given_up o (p ∷ ps) = qed 𝓛 (‵ (place b o p) ∷ ‵ (places b (suc o) ps) ∷ []) ∵
      use1 𝓛 (‵ (froom (ty_int w8) b o)) (place_room 𝓛 b o p) $ move ! (1 ∷ []) $
      use1 𝓛 (‵ (froom (bytes (length ps)) b (suc o))) (given_up (suc o) ps) $
      rewrite ! 0 (λ (k : ℕ). ‵ (froom (bytes (length ps)) b k)) (let same : suc o ≡ o + 1 = omega arith in same) refl $ move ! (1 ∷ 0 ∷ []) $
      use2 𝓛 (‵ (froom (bytes (suc (length ps))) b o)) (𝓛.laws.room_cons (ty_int w8) (length ps) b o) $ done !

-- a struct of these fields; what it owns does not depend on its name
abbrev fields_of : List RattleType → RattleType
fields_of Rs = Struct (record { name = []; args = []; types = []; fields = Rs })

abbrev pub memory_val : Ptr → Val
memory_val p = vstruct (vcons (ptr_val p) vnil)

abbrev pub memory_own : Ptr → List Val → Fml
memory_own p = (fields_of (RawPtr ∷ [])).own_val (p, tt)

pub memory_told : (p : Ptr) (vs : List Val) → shadow (memory_own p vs) → vs ≡ memory_val p ∷ []
memory_told p vs s = s.1.0 ∙ (λ i. vstruct (of_list (s.1.1.0 i ++ [])) ∷ [])

pub memory_made : {M : Type 1} {𝓤 : Ura M} (𝓛 : Logic 𝓤) (p : Ptr) → ent 𝓤 (emp 𝓤) (sem 𝓛 (memory_own p (memory_val p ∷ [])))
memory_made 𝓛 p = makes_shadow 𝓛 (memory_own p (memory_val p ∷ [])) (λ _. (tt, (tt, tt))) ((ptr_val p ∷ [], tt), (refl, (refl, tt)))

pub memory_typed : (p : Ptr) → Good (ty_struct [] (tcons ty_ptr tnil)) (memory_val p)
memory_typed (block_ptr b o) = (tt, (tt, tt))
memory_typed null_ptr = (tt, (record { fits = lit< tt }, tt))

abbrev pub lease_val : Val
lease_val = vstruct (vcons (vstruct vnil) vnil)

abbrev pub lease_own : List Val → Fml
lease_own = (fields_of (fields_of [] ∷ [])).own_val (tt, tt)

pub lease_told : (vs : List Val) → shadow (lease_own vs) → vs ≡ lease_val ∷ []
lease_told vs s = s.1.0 ∙ (λ i. vstruct (of_list (s.1.1.0.1.0 i ++ [])) ∷ [])

pub lease_made : {M : Type 1} {𝓤 : Ura M} (𝓛 : Logic 𝓤) → ent 𝓤 (emp 𝓤) (sem 𝓛 (lease_own (lease_val ∷ [])))
lease_made 𝓛 = makes_shadow 𝓛 (lease_own (lease_val ∷ [])) (λ _. (tt, ((λ _. (tt, tt)), tt))) ((vstruct vnil ∷ [], tt), (refl, ((tt, (refl, tt)), tt)))

-- a parameter's slot, by its number
abbrev pub slot : {n : ℕ} → List (Slot n) → ℕ → Slot n
slot [] k = plain (λ _. unit)
slot (s ∷ ss) zero = s
slot (s ∷ ss) (suc k) = slot ss k

module _ {M : Type 1} {𝓤 : Ura M} (𝓛 : Logic 𝓤) where
  open 𝓛 use {H}

  -- what stands after a statement of a sequence, and after a block
  abbrev pub goes_on : Calls 𝓤 H → Loops 𝓤 H → Env 𝓤 H → Body → Post 𝓤 H → Post 𝓤 H
  goes_on C Λ E rest q = any_q (after_seq 𝓤 H (Wp 𝓤 H C Λ E rest (post 𝓤 H q)) (post 𝓤 H q))

  abbrev pub leaves_block : Post 𝓤 H → Post 𝓤 H
  leaves_block q = any_q (after_block 𝓤 H (post 𝓤 H q))
