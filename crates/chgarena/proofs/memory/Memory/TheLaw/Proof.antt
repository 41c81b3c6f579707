-- A `&` to the memory is made of a borrow of it, and lends each byte that is written. Assumes `Logic`.
use Rattle.std.proofs.Common.{ℕ, suc, List, [], ◌∷◌, Option, Some, None, refl}
use seplogic.Ra.Ura.{Ura}
use base.Fml.{Lft, ffalse, ftrue}
use types.Logic.{Logic}
use contract.BorrowLft.{⊑_static}
use denote.Builtin.{u8}
use denote.Sharing.{ShrLaws, said}
use denote.SharingLaws.{nothing_shr_laws, said_shr_laws, beside_shr_laws}
use denote.RawPtr.{Ptr, block_ptr, null_ptr}
use denote.Shares.{Shares-less}
use denote.Param.Laws.{Laws, of_field}
use denote.Param.Shared.{copy_shared}
use denote.Struct.Field.{RawPtr-field, u8-field}
use denote.Struct.Laws.{RawPtr-copy, u8-copy, u8-laws}
use denote.Struct.Lending.{Lends, Lends-false, Lends-nothing, Lends-both, of_Lends}
use Rattle.chgarena.specs.Places.{place, places, place_lent, places_lent_at, places_own, places_lent}
use Rattle.chgarena.specs.contracts.memory.Memory as C
use Rattle.chgarena.proofs.memory.Memory.TheLaw.Statement.{statement}

byte_laws : Laws u8
byte_laws = of_field u8-field u8-laws refl (copy_shared u8-field u8-copy)

place_laws : (b o : ℕ) (p : Option ℕ) → ShrLaws (place_lent b o p)
place_laws b o (Some byte) = byte_laws.shr_laws byte b o
place_laws b o None = nothing_shr_laws

places_laws : (b o : ℕ) (ps : List (Option ℕ)) → ShrLaws (places_lent_at b o ps)
places_laws b o [] = nothing_shr_laws
places_laws b o (p ∷ ps) = beside_shr_laws (place_lent b o p) (places_lent_at b (suc o) ps) (place_laws b o p) (places_laws b (suc o) ps)

own_laws : (p : Ptr) (ps : List (Option ℕ)) → ShrLaws (places_lent p ps)
own_laws (block_ptr b o) ps = places_laws b o ps
own_laws null_ptr ps = said_shr_laws ffalse tt

module _ {M : Type 1} {𝓤 : Ura M} (𝓛 : Logic 𝓤) (l : Lft) where
  Lends-place : (b o : ℕ) (p : Option ℕ) → Lends 𝓛 (place b o p) (place_lent b o p) l
  Lends-place b o (Some byte) = λ κ ts. Shares-less 𝓛 u8 [] l (⊑_static l) (byte_laws.shares 𝓛) byte κ ts b o
  Lends-place b o None = Lends-nothing 𝓛 (place b o None) l

  Lends-places : (b o : ℕ) (ps : List (Option ℕ)) → Lends 𝓛 (places b o ps) (places_lent_at b o ps) l
  Lends-places b o [] = Lends-nothing 𝓛 ftrue l
  Lends-places b o (p ∷ ps) = Lends-both 𝓛 (place b o p) (places b (suc o) ps) (place_lent b o p) (places_lent_at b (suc o) ps) l (Lends-place b o p) (Lends-places b (suc o) ps)

  Lends-own : (p : Ptr) (ps : List (Option ℕ)) → Lends 𝓛 (places_own p ps) (places_lent p ps) l
  Lends-own (block_ptr b o) ps = Lends-places b o ps
  Lends-own null_ptr ps = Lends-false 𝓛 (said ffalse) l

pub shares : statement
shares = of_Lends C.struct C.the_codes C.the_heap C.the_lent (λ d p. own_laws d.ptr d.places) (copy_shared RawPtr-field RawPtr-copy, tt)
    (λ M 𝓤 𝓛 d p. Lends-own 𝓛 C.the_row.lives d.ptr d.places)
