-- What a write to a row of places leaves.
use Rattle.std.proofs.Common.{◌≡◌, ℕ, ◌+◌, ◌-◌, ◌<◌, ◌≤◌, List, ◌++◌, Option, Some, None, length, get_or, set, map, take, drop, sym, ap, ◌∙◌, arith}
use Rattle.std.proofs.lemmas.List.{append_assoc, length-map, length-append, length-take-le, length-drop, take_at, take-take, take-append-le, drop_at, drop-take, drop-drop, drop-append-le, get_or-map}
use Rattle.std.proofs.lemmas.List.Edits.{paste_none, paste_more, paste_all, length-paste}
use lib.Seq.{paste}
use Rattle.chgarena.specs.Places.{with_bytes}

abbrev written : List ℕ → List (Option ℕ)
written bs = map (λ b. Some b) bs

-- the first i bytes are written
abbrev pub so_far : List (Option ℕ) → ℕ → List ℕ → ℕ → List (Option ℕ)
so_far ps at bs i = paste ps at (written bs) i

pub none_so_far : (ps : List (Option ℕ)) (at : ℕ) (bs : List ℕ) → ps ≡ so_far ps at bs 0
none_so_far ps at bs = paste_none ps at (written bs)

pub length-so_far : (ps : List (Option ℕ)) (at : ℕ) (bs : List ℕ) (i : ℕ) → at + length bs ≤ length ps → i ≤ length bs → length (so_far ps at bs i) ≡ length ps
length-so_far ps at bs i fits low = let n = length-map bs (λ (b : ℕ). Some b) in length-paste ps at (written bs) i (omega arith) (omega arith)

pub one_more : (ps : List (Option ℕ)) (at : ℕ) (bs : List ℕ) (i byte : ℕ) → at + length bs ≤ length ps → i < length bs → byte ≡ get_or bs i 0 → set (so_far ps at bs i) (at + i) (Some byte) ≡ so_far ps at bs (i + 1)
one_more ps at bs i byte fits low is =
    let n = length-map bs (λ (b : ℕ). Some b) in
    ap (λ b. set (so_far ps at bs i) (at + i) (Some b)) is ∙
    (ap (λ b. set (so_far ps at bs i) (at + i) b) (sym (get_or-map (λ (b : ℕ). Some b) bs i 0 None low)) ∙ paste_more ps at (written bs) i None (omega arith) (omega arith))

pub all_so_far : (ps : List (Option ℕ)) (at : ℕ) (bs : List ℕ) (i : ℕ) → i ≡ length bs → so_far ps at bs i ≡ with_bytes ps at bs
all_so_far ps at bs i end =
    paste_all ps at (written bs) i (end ∙ sym (length-map bs (λ (b : ℕ). Some b))) ∙ ap (λ k. take at ps ++ (written bs ++ drop (at + k) ps)) end

module _ (ps : List (Option ℕ)) (at : ℕ) (bs : List ℕ) (fits : at + length bs ≤ length ps) where
  abbrev now : List (Option ℕ)
  now = with_bytes ps at bs

  front : length (take at ps) ≡ at
  front = length-take-le at ps (omega arith)

  pub length-with_bytes : length now ≡ length ps
  length-with_bytes = omega (arith, front, length-append (take at ps) (written bs ++ drop (at + length bs) ps), length-append (written bs) (drop (at + length bs) ps), length-map bs (λ (b : ℕ). Some b), length-drop (at + length bs) ps)

  -- what stands before it
  pub before_it : (from n : ℕ) → from + n ≤ at → take n (drop from now) ≡ take n (drop from ps)
  before_it from n low =
      let rest = written bs ++ drop (at + length bs) ps in
      let m = at - from in
      let e : at ≡ from + m = omega arith in
      let left = length-drop from (take at ps) in
      ap (take n) (drop-append-le from (take at ps) rest (omega (arith, front))) ∙
      (take-append-le n (drop from (take at ps)) rest (omega (arith, front)) ∙
      (ap (λ k. take n (drop from (take k ps))) e ∙
      (ap (take n) (drop-take from m ps) ∙ take-take n m (drop from ps) (omega arith))))

  -- what stands after it
  pub after_it : (from : ℕ) → at + length bs ≤ from → drop from now ≡ drop from ps
  after_it from high =
      let end = at + length bs in
      let j = from - end in
      let e : from ≡ end + j = omega arith in
      let cut : drop end now ≡ drop end ps =
      ap (drop end) (sym (append_assoc (take at ps) (written bs) (drop end ps))) ∙
      drop_at (take at ps ++ written bs) (drop end ps) end (omega (arith, front, length-append (take at ps) (written bs), length-map bs (λ (b : ℕ). Some b))) in
      ap (λ k. drop k now) e ∙ (sym (drop-drop j end now) ∙ (ap (drop j) cut ∙ (drop-drop j end ps ∙ ap (λ k. drop k ps) (sym e))))

  -- what was written
  pub in_it : take (length bs) (drop at now) ≡ written bs
  in_it =
      let rest = drop (at + length bs) ps in
      ap (take (length bs)) (drop_at (take at ps) (written bs ++ rest) at front) ∙ take_at (written bs) rest (length bs) (length-map bs (λ (b : ℕ). Some b))

-- what stands in one chunk
pub in_chunk : (ps : List (Option ℕ)) (base from size : ℕ) → from + size ≤ 16384 → take size (drop from (take 16384 (drop base ps))) ≡ take size (drop (base + from) ps)
in_chunk ps base from size low =
    let rest = 16384 - from in
    let e : 16384 ≡ from + rest = omega arith in
    ap (λ n. take size (drop from (take n (drop base ps)))) e ∙ (ap (take size) (drop-take from rest (drop base ps)) ∙
    (take-take size rest (drop from (drop base ps)) (omega arith) ∙ ap (take size) (drop-drop from base ps)))
