-- What all regular frames have in common (PostgreSQL 15, 55.1.1 and 55.7): one type byte, a length of four bytes that
-- counts itself and not the type byte, and the body. The length is read as an unsigned number.
use Rattle.std.specs.Prelude.{◌≡◌, ℕ, ◌+◌, ◌-◌, ◌^◌, ◌<◌, ◌≤◌, List, [], ◌∷◌, ◌++◌, ◌==◌, length, Option, Some, None, option_map, IsSomeAnd, Result, Ok, Err, nat_lt, Bool, false, true, if◌then◌else◌}
use Rattle.std.specs.Option.{ok_or}
use Rattle.std.specs.Int.{w32}
use Rattle.pqformat.specs.Fields.{int32, bytes_at, number_at}
use Rattle.pqformat.specs.Steps.{◌>>=◌}
use Rattle.frames.specs.declared.fault.FrameFault.{FrameFault}
use Rattle.frames.specs.declared.fault.FrameFault.TheVariants.{BadLength, BadVersion, UnknownType, BadBody, NotUtf8, TooLong, Memory}

abbrev pub frame : ℕ → List ℕ → List ℕ
frame kind body = kind ∷ (int32 (4 + length body) ++ body)

-- the body fits the length field
abbrev pub FitsLength : List ℕ → Type 0
FitsLength body = 4 + length body < 2 ^ 32

-- what can be spelled: the shape is right, and the texts are UTF-8
abbrev pub Fits : {F : Type 0} → (F → Type 0) → (F → Bool) → F → Type 0
Fits Shaped is_text f = Shaped f × (is_text f ≡ true)

-- The bytes are the one spelling of the frame f, where its frames have these type bytes, bodies and ranges.
pub record SpellsFrame {F : Type 0} (kind_of : F → ℕ) (body_of : F → List ℕ) (InRange : F → Type 0) (bytes : List ℕ) (f : F) : Type 0 where
  pub in_range : InRange f
  pub fits_length : FitsLength (body_of f)
  pub text : bytes ≡ frame (kind_of f) (body_of f)

-- a frame whose length is within the limit of its type byte
abbrev pub IsShort : {F : Type 0} → (ℕ → Option ℕ) → (F → ℕ) → (F → List ℕ) → F → Type 0
IsShort limit kind_of body_of f = IsSomeAnd (limit (kind_of f)) (λ most. 4 + length (body_of f) ≤ most)

-- A call that answers what reading gives, unless memory ran out.
abbrev pub Fails : {Y : Type 0} → FrameFault → Result Y FrameFault → Type 0
Fails Memory read = Unit {0}
Fails e read = read ≡ Err e

abbrev pub Gives : {X : Type 0} → Result X FrameFault → Result X FrameFault → Type 0
Gives (Ok x) read = read ≡ Ok x
Gives (Err e) read = Fails e read

-- ---- Reading a frame: its type byte, its length against the limit of that type, its body once it is whole.

abbrev pub with_size : ℕ → Option (List ℕ × List ℕ) → Option (List ℕ × ℕ)
with_size n found = option_map (λ body. (body.0, 1 + n)) found

abbrev pub with_kind : ℕ → Option (List ℕ × ℕ) → Option ((ℕ × List ℕ) × ℕ)
with_kind kind found = option_map (λ body. ((kind, body.0), body.1)) found

-- the body after a length, and how many bytes the whole frame takes; None while it isn't there whole
abbrev pub sized_at : ℕ → Option (ℕ × List ℕ) → Result (Option (List ℕ × ℕ)) FrameFault
sized_at limit None = Ok None
sized_at limit (Some n) =
    if nat_lt n.0 4 then Err BadLength
    else if nat_lt limit n.0 then Err TooLong
    else Ok (with_size n.0 (bytes_at (n.0 - 4) n.1))

-- what stands after a type byte whose frames have this limit; None: no frame has that byte
abbrev pub body_at : Option ℕ → List ℕ → Result (Option (List ℕ × ℕ)) FrameFault
body_at limit bytes = ok_or limit UnknownType >>= λ most. sized_at most (number_at w32 bytes)

-- by the limits of the type bytes: the type byte and the body of the frame at the front, and its length
abbrev pub raw_at : (ℕ → Option ℕ) → List ℕ → Result (Option ((ℕ × List ℕ) × ℕ)) FrameFault
raw_at limit [] = Ok None
raw_at limit (kind ∷ bytes) = body_at (limit kind) bytes >>= λ found. Ok (with_kind kind found)

-- the frame that such a body spells
abbrev pub whole_of : {F : Type 0} → (ℕ → List ℕ → Result F FrameFault) → Option ((ℕ × List ℕ) × ℕ) → Result (Option (F × ℕ)) FrameFault
whole_of of None = Ok None
whole_of of (Some raw) = of raw.0.0 raw.0.1 >>= λ f. Ok (Some (f, raw.1))

abbrev pub framed_at : {F : Type 0} → (ℕ → Option ℕ) → (ℕ → List ℕ → Result F FrameFault) → List ℕ → Result (Option (F × ℕ)) FrameFault
framed_at limit of bytes = raw_at limit bytes >>= λ raw. whole_of of raw

abbrev pub IsWhole : {F : Type 0} → Result (Option F) FrameFault → Type 0
IsWhole (Ok (Some f)) = Unit {0}
IsWhole (Ok None) = ⊥
IsWhole (Err e) = ⊥

-- a frame that stands there whole, and for which memory is needed
abbrev pub IsKept : {F : Type 0} → (F → Bool) → Result (Option (F × ℕ)) FrameFault → Type 0
IsKept needs_memory (Ok (Some f)) = needs_memory f.0 ≡ true
IsKept needs_memory (Ok None) = ⊥
IsKept needs_memory (Err e) = ⊥

-- ---- Where a fault stands.

-- f has this type byte and this body, whether its texts are UTF-8 or not
abbrev pub HasBody : {F : Type 0} → (F → ℕ) → (F → List ℕ) → (F → Type 0) → ℕ → List ℕ → F → Type 0
HasBody kind_of body_of Shaped kind body f = (kind_of f ≡ kind) × (body_of f ≡ body) × Shaped f

-- the bytes begin with a type byte whose frames have a limit, and this length field
abbrev pub BeginsWith : (ℕ → Option ℕ) → List ℕ → (ℕ → ℕ → Type 0) → Type 0
BeginsWith limit bytes Holds = (kind most n : ℕ) × (rest : List ℕ) × (limit kind ≡ Some most) × (n < 2 ^ 32) × (bytes ≡ kind ∷ (int32 n ++ rest)) × Holds most n

-- a type byte with a limit, a length within it, and a body of this kind stand at the front
abbrev pub HoldsBody : (ℕ → Option ℕ) → List ℕ → (ℕ → List ℕ → Type 0) → Type 0
HoldsBody limit bytes Holds = (kind most : ℕ) × (body rest : List ℕ) × (limit kind ≡ Some most) × (4 + length body ≤ most) × (bytes ≡ frame kind body ++ rest) × Holds kind body

-- A bad body is no frame's, whatever its texts; one that isn't UTF-8 is that of a frame but for its texts; and for want of
-- memory only what is spelled rightly is refused, where it needs memory. No regular frame has a version.
abbrev pub StandsAt : {F : Type 0} → (ℕ → Option ℕ) → (F → ℕ) → (F → List ℕ) → (F → Type 0) → (F → Bool) → (F → Bool) → FrameFault → List ℕ → Type 0
StandsAt limit kind_of body_of Shaped is_text needs_memory UnknownType bytes = (kind : ℕ) × (rest : List ℕ) × (bytes ≡ kind ∷ rest) × (limit kind ≡ None)
StandsAt limit kind_of body_of Shaped is_text needs_memory BadLength bytes = BeginsWith limit bytes (λ most n. n < 4)
StandsAt limit kind_of body_of Shaped is_text needs_memory TooLong bytes = BeginsWith limit bytes (λ most n. most < n)
StandsAt {F} limit kind_of body_of Shaped is_text needs_memory BadBody bytes = HoldsBody limit bytes (λ kind body. (f : F) → HasBody kind_of body_of Shaped kind body f → ⊥)
StandsAt {F} limit kind_of body_of Shaped is_text needs_memory NotUtf8 bytes = HoldsBody limit bytes (λ kind body. (f : F) × HasBody kind_of body_of Shaped kind body f × (is_text f ≡ false))
StandsAt {F} limit kind_of body_of Shaped is_text needs_memory Memory bytes = HoldsBody limit bytes (λ kind body. (f : F) × HasBody kind_of body_of Shaped kind body f × (is_text f ≡ true) × (needs_memory f ≡ true))
StandsAt limit kind_of body_of Shaped is_text needs_memory BadVersion bytes = ⊥

-- ---- frames of one type byte alone

abbrev pub limit_alone : ℕ → ℕ → ℕ → Option ℕ
limit_alone kind most byte = if byte == kind then Some most else None

-- the body of the frame of this type byte at the front, and how many bytes the whole takes; None while it isn't there whole
abbrev pub body_alone : ℕ → ℕ → List ℕ → Result (Option (List ℕ × ℕ)) FrameFault
body_alone kind most bytes = raw_at (limit_alone kind most) bytes >>= λ raw. Ok (option_map (λ r. (r.0.1, r.1)) raw)
