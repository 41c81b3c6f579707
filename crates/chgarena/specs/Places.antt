-- What a region owns: a row of places, each of which is written or not. b is the object that holds it, and o the place in it.
use Rattle.std.specs.Prelude.{ℕ, suc, ◌+◌, Option, Some, None, List, [], ◌∷◌, ◌++◌, drop, length, map, take}
use Rattle.std.specs.Borrow.{full_share, u8}
use mir.Syntax.{Ty, w8, ty_int, ty_array}
use base.Fml.{Lft, Fml, ffalse, ftrue, fsep, froom}
use denote.Memory.{part_at, shared_of}
use denote.RawPtr.{Ptr, block_ptr, null_ptr}
use denote.Sharing.{said, nothing, beside}

-- so many bytes, as an allocator is asked for them
abbrev pub bytes : ℕ → Ty
bytes n = ty_array (ty_int w8) n

-- one place
abbrev pub place : ℕ → ℕ → Option ℕ → Fml
place b o (Some byte) = part_at u8 full_share byte b o
place b o None = froom (ty_int w8) b o

abbrev pub places : ℕ → ℕ → List (Option ℕ) → Fml
places b o [] = ftrue
places b o (p ∷ ps) = fsep (place b o p) (places b (suc o) ps)

-- what the holder of a `&` has of them
abbrev pub place_lent : ℕ → ℕ → Option ℕ → Lft → Fml
place_lent b o (Some byte) = shared_of u8 byte b o
place_lent b o None = nothing

abbrev pub places_lent_at : ℕ → ℕ → List (Option ℕ) → Lft → Fml
places_lent_at b o [] = nothing
places_lent_at b o (p ∷ ps) = beside (place_lent b o p) (places_lent_at b (suc o) ps)

abbrev pub places_own : Ptr → List (Option ℕ) → Fml
places_own (block_ptr b o) ps = places b o ps
places_own null_ptr ps = ffalse

abbrev pub places_lent : Ptr → List (Option ℕ) → Lft → Fml
places_lent (block_ptr b o) ps = places_lent_at b o ps
places_lent null_ptr ps = said ffalse

-- these bytes written from a place on
abbrev pub with_bytes : List (Option ℕ) → ℕ → List ℕ → List (Option ℕ)
with_bytes ps at bs = take at ps ++ (map (λ byte. Some byte) bs ++ drop (at + length bs) ps)
