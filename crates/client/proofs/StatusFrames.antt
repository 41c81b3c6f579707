-- The frame of a status, number by number.
use Rattle.std.proofs.Common.{◌≡◌, ℕ, ◌+◌, List, [], ◌∷◌, ◌++◌, length, refl, ap, ◌∙◌, append_assoc, arith}
use Rattle.std.specs.Int.{w64, cast_unsigned}
use Rattle.std.proofs.lemmas.List.{length-append}
use Rattle.pqformat.specs.Fields.{int32, int64}
use Rattle.frames.specs.Frame.{frame}
use Rattle.frames.specs.declared.copy_data.TheConstants.{COPY_DATA}
use Rattle.pqformat.proofs.Numbers.{length-int64}
use Rattle.copyboth.specs.declared.status.Status.{Status}
use Rattle.copyboth.specs.Keepalive.{ask_byte}
use Rattle.copyboth.specs.Status.{status}

four_bytes : int32 38 ≡ 0 ∷ 0 ∷ 0 ∷ 38 ∷ []
unfolding int32
four_bytes = refl

length-status : (s : Status) → length (status s) ≡ 34
length-status s =
    let a = int64 s.written in
    let b = int64 s.flushed in
    let c = int64 s.applied in
    let d = int64 (cast_unsigned w64 s.clock) in
    omega (
      arith,
      length-int64 s.written,
      length-int64 s.flushed,
      length-int64 s.applied,
      length-int64 (cast_unsigned w64 s.clock),
      length-append a (b ++ (c ++ (d ++ (ask_byte s.ask ∷ [])))),
      length-append b (c ++ (d ++ (ask_byte s.ask ∷ []))),
      length-append c (d ++ (ask_byte s.ask ∷ [])),
      length-append d (ask_byte s.ask ∷ []),
    )

pub frame_is : (s : Status) → frame COPY_DATA (status s) ≡ COPY_DATA ∷ 0 ∷ 0 ∷ 0 ∷ 38 ∷ status s
frame_is s = ap (λ (n : ℕ). COPY_DATA ∷ (int32 (4 + n) ++ status s)) (length-status s) ∙ ap (λ (l : List ℕ). COPY_DATA ∷ (l ++ status s)) four_bytes

-- one number after the other
pub in_a_row : (h x y z u v : List ℕ) → ((((h ++ x) ++ y) ++ z) ++ u) ++ v ≡ h ++ (x ++ (y ++ (z ++ (u ++ v))))
in_a_row h x y z u v = append_assoc (((h ++ x) ++ y) ++ z) u v ∙ append_assoc ((h ++ x) ++ y) z (u ++ v) ∙ append_assoc (h ++ x) y (z ++ (u ++ v)) ∙ append_assoc h x (y ++ (z ++ (u ++ v)))
