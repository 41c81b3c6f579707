-- A region, and the right to give it back, may go from one thread to another.
use Rattle.std.specs.Prelude.{ℕ, suc, List, [], ◌∷◌, Option, Some, None}
use base.Fraction.{full_share}
use base.Shift.{Keyless}
use denote.Builtin.{u8}
use denote.RattleType.{RattleType}
use denote.RawPtr.{Ptr, block_ptr, null_ptr}
use denote.Struct.Struct.{exits_of}
use denote.Struct.Owning.{shape, fields, to}
use denote.Param.Send.{IsSend, AllSend, part_keyless, owning_send, struct_send, sendable}
use Rattle.core.specs.declared.alloc.Allocator.{Ghosts}
use Rattle.std_alloc.proofs.SendSync.{FreesAnywhere, quiet}
use Rattle.chgarena.specs.Places.{places, places_own}
use Rattle.chgarena.specs.contracts.memory.Memory as Memory
use Rattle.chgarena.specs.contracts.memory.ReleaseRight as ReleaseRight

byte_send : IsSend u8
byte_send = search sendable

places-Keyless : (b o : ℕ) (ps : List (Option ℕ)) → Keyless (places b o ps)
places-Keyless b o [] = tt
places-Keyless b o (Some byte ∷ ps) = (part_keyless u8 byte_send full_share byte b o, places-Keyless b (suc o) ps)
places-Keyless b o (None ∷ ps) = (tt, places-Keyless b (suc o) ps)

own-Keyless : (p : Ptr) (ps : List (Option ℕ)) → Keyless (places_own p ps)
own-Keyless (block_ptr b o) ps = places-Keyless b o ps
own-Keyless null_ptr ps = tt

pub Memory-send : IsSend Memory.the_row
Memory-send =
    let O = Memory.the_type in let all : AllSend (fields O) = (search sendable, tt) in
    owning_send O all (λ d. own-Keyless d.ptr d.places) (λ k. quiet (to O) (exits_of k (fields O)) ((struct_send (shape O) all).leaving k))

pub ReleaseRight-send : (A : RattleType) (g : Ghosts A.Denot) → FreesAnywhere A.Denot g → IsSend (ReleaseRight.the_row A g)
ReleaseRight-send A g f =
    let O = ReleaseRight.the_type A g in let all : AllSend (fields O) = (search sendable, tt) in
    owning_send O all (λ d. f.frees d.alloc _ d.ptr) (λ k. quiet (to O) (exits_of k (fields O)) ((struct_send (shape O) all).leaving k))
