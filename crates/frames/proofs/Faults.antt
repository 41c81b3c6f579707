-- The faults of a call: each is what the reading fails with, but for want of memory.
use Rattle.std.proofs.Common.{◌≡◌, Result, Err}
use Rattle.frames.specs.declared.fault.FrameFault.{FrameFault}
use Rattle.frames.specs.declared.fault.FrameFault.TheVariants.{BadLength, BadVersion, UnknownType, BadBody, NotUtf8, TooLong, Memory}
use Rattle.frames.specs.Frame.{Fails}

abbrev pub failed : (A : Type 0) → FrameFault → Result A FrameFault
failed A e = Err e

-- where one reading fails as another does, so does the call
pub same_fault : {A B : Type 0} (e : FrameFault) (r : Result A FrameFault) (s : Result B FrameFault) → (r ≡ Err e → s ≡ Err e) → Fails e r → Fails e s
same_fault BadLength r s same is = same is
same_fault BadVersion r s same is = same is
same_fault UnknownType r s same is = same is
same_fault BadBody r s same is = same is
same_fault NotUtf8 r s same is = same is
same_fault TooLong r s same is = same is
same_fault Memory r s same is = tt

-- what is true of the reading's fault and of want of memory is true of the call's
pub by_fault : {A : Type 0} (P : FrameFault → Type 0) (r : Result A FrameFault) → ((e : FrameFault) → r ≡ Err e → P e) → P Memory → (e : FrameFault) → Fails e r → P e
by_fault P r read memory BadLength is = read BadLength is
by_fault P r read memory BadVersion is = read BadVersion is
by_fault P r read memory UnknownType is = read UnknownType is
by_fault P r read memory BadBody is = read BadBody is
by_fault P r read memory NotUtf8 is = read NotUtf8 is
by_fault P r read memory TooLong is = read TooLong is
by_fault P r read memory Memory is = memory
