use Rattle.std.proofs.Common.{◌≡◌, ℕ, List, [], ◌∷◌, ◌++◌, ◌≤◌, length, take, slice_set, sym, ap, ◌∙◌, arith}
use Rattle.std.specs.Int.{w64, cast_unsigned}
use Rattle.std.proofs.lemmas.List.{take_all, take_more_set, length-set}
use Rattle.std.proofs.lemmas.Int.{to_z-of_z}
use Rattle.pqformat.specs.Fields.{int64}
use Rattle.client.proofs.StatusFrames.{frame_is, in_a_row}
use Rattle.client.proofs.status.status_frame.Goals as goal

pub returns : goal.returns
returns c =
    let p = int64 c.args.position in
    let clock = int64 (cast_unsigned w64 c.args.clock) in
    let head : List ℕ = 100 ∷ 0 ∷ 0 ∷ 0 ∷ 38 ∷ 114 ∷ [] in
    let out = c.put_number-4.new.out in
    let one : take 14 c.put_number.new.out ≡ head ++ p = c.put_number.ensures.value in
    let two : take 22 c.put_number-2.new.out ≡ (head ++ p) ++ p = c.put_number-2.ensures.value ∙ ap (λ (l : List ℕ). l ++ p) one in
    let three : take 30 c.put_number-3.new.out ≡ ((head ++ p) ++ p) ++ p = c.put_number-3.ensures.value ∙ ap (λ (l : List ℕ). l ++ p) two in
    let four : take 38 out ≡ (((head ++ p) ++ p) ++ p) ++ clock = c.put_number-4.ensures.value ∙ ap (λ (l : List ℕ). l ++ int64 c.cast_unsigned.result) three ∙ ap (λ (n : ℕ). (((head ++ p) ++ p) ++ p) ++ int64 n) (c.cast_unsigned.ensures ∙ ap (cast_unsigned w64) (to_z-of_z w64 c.args.clock c.ranges.clock)) in
    let long : length out ≡ 39 = c.put_number-4.ensures.length ∙ c.put_number-3.ensures.length ∙ c.put_number-2.ensures.length ∙ c.put_number.ensures.length in
    let whole : length (slice_set out 38 c.ask_of.result) ≡ 39 = length-set out 38 c.ask_of.result ∙ long in
    let short : length (slice_set out 38 c.ask_of.result) ≤ 39 = omega (arith, whole) in
    sym (take_all 39 (slice_set out 38 c.ask_of.result) (omega (arith, long)))
    ∙ take_more_set out 38 c.ask_of.result (omega (arith, long, length-set out 38 c.ask_of.result))
    ∙ ap (λ (l : List ℕ). l ++ c.ask_of.result ∷ []) four
    ∙ in_a_row head p p p clock (c.ask_of.result ∷ [])
    ∙ ap (λ (b : ℕ). head ++ (p ++ (p ++ (p ++ (clock ++ b ∷ []))))) c.ask_of.ensures
    ∙ sym (frame_is (record { written = c.args.position; flushed = c.args.position; applied = c.args.position; clock = c.args.clock; ask = c.args.ask }))
