-- A body that is read whole: first its parts, one after the other, with nothing left over, and then its texts.
use Rattle.std.specs.Prelude.{◌≡◌, ℕ, ◌==◌, Bool, true, false, not, List, [], ◌∷◌, Option, Result, Ok, Err, if◌then◌else◌}
use Rattle.std.specs.Option.{ok_or}
use Rattle.pqformat.specs.Fields.{string_at}
use Rattle.pqformat.specs.Steps.{◌>>=◌}
use Rattle.frames.specs.Frame.{Fails}
use Rattle.frames.specs.declared.fault.FrameFault.{FrameFault}
use Rattle.frames.specs.declared.fault.FrameFault.TheVariants.{BadBody, NotUtf8}

-- A part of a body, with what follows it. It is there or it isn't, and there is no second way to fail.
abbrev pub there : {X : Type 0} → Option X → Result X (Unit {0})
there o = ok_or o tt

-- a body of nothing
abbrev pub nothing_at : List ℕ → Result (Unit {0} × List ℕ) (Unit {0})
nothing_at bytes = Ok (tt, bytes)

-- a body of one text
abbrev pub text_at : List ℕ → Result (List ℕ × List ℕ) (Unit {0})
text_at bytes = there (string_at bytes)

-- nothing is left over
abbrev pub nothing_left : List ℕ → Result (Unit {0}) FrameFault
nothing_left [] = Ok tt
nothing_left (b ∷ bytes) = Err BadBody

-- the texts are UTF-8
abbrev pub checked_text : {X : Type 0} → (X → Bool) → X → Result X FrameFault
checked_text is_text x = if is_text x then Ok x else Err NotUtf8

abbrev pub whole : {X : Type 0} → (X → Bool) → Result (X × List ℕ) (Unit {0}) → Result X FrameFault
whole is_text (Ok x) = nothing_left x.1 >>= λ _. checked_text is_text x.0
whole is_text (Err u) = Err BadBody

-- A part that is read alone: it is there, and then its texts are judged.
abbrev pub checked_at : {X : Type 0} → (X → Bool) → Result (X × List ℕ) (Unit {0}) → Result (X × List ℕ) FrameFault
checked_at is_text (Ok x) = checked_text is_text x.0 >>= λ y. Ok (y, x.1)
checked_at is_text (Err u) = Err BadBody

-- A part that is passed over: what is told of it, and what follows it.
abbrev pub passed_part : {X Y : Type 0} → (X → Y) → Result (X × List ℕ) (Unit {0}) → Result (Y × List ℕ) FrameFault
passed_part told (Ok x) = Ok (told x.0, x.1)
passed_part told (Err u) = Err BadBody

-- A call that answers what reading gives, and has moved past it. It takes no memory.
abbrev pub ReadsAt : {X : Type 0} → Result X FrameFault → List ℕ → Result (X × List ℕ) FrameFault → Type 0
ReadsAt (Ok x) rest read = read ≡ Ok (x, rest)
ReadsAt (Err e) rest read = read ≡ Err e

-- The same, unless memory ran out.
abbrev pub GivesAt : {X : Type 0} → Result X FrameFault → List ℕ → Result (X × List ℕ) FrameFault → Type 0
GivesAt (Ok x) rest read = read ≡ Ok (x, rest)
GivesAt (Err e) rest read = Fails e read

-- for what has no text
abbrev pub always : {X : Type 0} → X → Bool
always x = true

-- an item that isn't taken for the zero byte that ends a list
abbrev pub starts : List ℕ → Bool
starts [] = false
starts (b ∷ bytes) = not (b == 0)
