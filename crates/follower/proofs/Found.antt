-- The position that is found is that of the last whole transaction or note.
use Rattle.std.proofs.Common.{◌≡◌, ℕ, ◌+◌, ◌^◌, ◌==◌, ◌||◌, ◌&&◌, not, Bool, true, false, List, [], ◌∷◌, ◌++◌, Some, refl, sym, ap, subst, ◌∙◌, arith}
use Rattle.std.proofs.lemmas.Bool.Decides.{nat_tests}
use Rattle.std.specs.Prelude.{◌<◌}
use Rattle.std.specs.List.{AllByRecursion}
use Rattle.pgoutput.specs.declared.published.Published.{Published}
use Rattle.follower.specs.declared.resume_point.ResumePoint.{ResumePoint}
use Rattle.follower.specs.declared.printing.line.Line.{Line}
use Rattle.follower.specs.ResumePoint.{with_line, with_lines}
use Rattle.follower.specs.Lives.{place_after, place_after_all}
use Rattle.follower.specs.Found.{IsFirst, IsWithin, TellsTransaction, TellsOne, TellAll, BeginsOne, bytes_in, nothing_kept, Finds}

lines_then : (k : ResumePoint) (xs ys : List Line) → with_lines k (xs ++ ys) ≡ with_lines (with_lines k xs) ys
lines_then k [] ys = refl
lines_then k (x ∷ xs) ys = lines_then (with_line k x) xs ys

bytes_then : (xs ys : List Line) → bytes_in (xs ++ ys) ≡ bytes_in xs + bytes_in ys
bytes_then [] ys = omega arith
bytes_then (x ∷ xs) ys = omega (arith, bytes_then xs ys)

is_some_rest : (n : ℕ) → 0 < n → (n == 0) ≡ false
is_some_rest n lt = grind (arith, nat_tests, lt)

-- how a line is judged, by whether something stands before it
abbrev foreign_by : Bool → Bool → Line → Bool
foreign_by was_foreign is_first line = was_foreign || (is_first && not line.begins) || (not is_first && line.is_note)

judged_first : (k : ResumePoint) (line : Line) → k.rest ≡ 0 → k.is_foreign ≡ false → line.begins ≡ true → foreign_by k.is_foreign (k.rest == 0) line ≡ false
judged_first k line none sound begins = rw (sound, none, begins) refl

judged_within : (k : ResumePoint) (line : Line) → 0 < k.rest → k.is_foreign ≡ false → line.is_note ≡ false → foreign_by k.is_foreign (k.rest == 0) line ≡ false
judged_within k line some sound note = rw (sound, is_some_rest k.rest some, note) refl

-- ---- By a line.

by_first : (place kept : ℕ) (k : ResumePoint) (line : Line) → Finds place kept 0 k → IsFirst line → line.length < 2 ^ 64 → Finds place kept line.length (with_line k line)
by_first place kept k line found is bound = rw (is.1) (record { position = found.position; length = found.length; behind = omega (arith, found.behind, bound); own = judged_first k line found.behind found.own is.0 })

by_within : (place kept rest : ℕ) (k : ResumePoint) (line : Line) → 0 < rest → Finds place kept rest k → IsWithin line → rest + line.length < 2 ^ 64 → Finds place kept (rest + line.length) (with_line k line)
by_within place kept rest k line some found is bound =
    rw (is.1) (record { position = found.position; length = found.length; behind = omega (arith, found.behind, bound); own = judged_within k line (omega (arith, found.behind, some)) found.own is.0 })

by_last : (place kept rest end : ℕ) (k : ResumePoint) (line : Line) → 0 < rest → Finds place kept rest k → line.end ≡ Some end → line.is_note ≡ false → kept + (rest + line.length) < 2 ^ 64 → Finds end (kept + (rest + line.length)) 0 (with_line k line)
by_last place kept rest end k line some found ends note bound =
    rw (ends) (record { position = refl; length = omega (arith, found.length, found.behind, bound); behind = refl; own = judged_within k line (omega (arith, found.behind, some)) found.own note })

by_note : (place kept end : ℕ) (k : ResumePoint) (line : Line) → Finds place kept 0 k → line.begins ≡ true → line.end ≡ Some end → kept + line.length < 2 ^ 64 → Finds end (kept + line.length) 0 (with_line k line)
by_note place kept end k line found begins ends bound =
    rw (ends) (record { position = refl; length = omega (arith, found.length, found.behind, bound); behind = refl; own = judged_first k line found.behind found.own begins })

-- ---- By lines.

by_more : (place kept rest : ℕ) (k : ResumePoint) (lines : List Line) → 0 < rest → Finds place kept rest k → AllByRecursion IsWithin lines → rest + bytes_in lines < 2 ^ 64 → Finds place kept (rest + bytes_in lines) (with_lines k lines)
by_more place kept rest k [] some found are bound = subst (λ (n : ℕ). Finds place kept n k) (omega arith) found
by_more place kept rest k (line ∷ lines) some found are bound =
    let one = by_within place kept rest k line some found are.0 (omega (arith, bound)) in
    let all = by_more place kept (rest + line.length) (with_line k line) lines (omega (arith, some)) one are.1 (omega (arith, bound)) in
    subst (λ (n : ℕ). Finds place kept n (with_lines k (line ∷ lines))) (omega arith) all

by_part : (place kept : ℕ) (k : ResumePoint) (lines : List Line) → Finds place kept 0 k → BeginsOne lines → bytes_in lines < 2 ^ 64 → Finds place kept (bytes_in lines) (with_lines k lines)
by_part place kept k [] found is bound = found
by_part place kept k (line ∷ lines) found is bound =
    by_more place kept line.length (with_line k line) lines is.0.2 (by_first place kept k line found is.0 (omega (arith, bound))) is.1 (omega (arith, bound))

by_transaction : (place kept end : ℕ) (k : ResumePoint) (lines : List Line) → Finds place kept 0 k → TellsTransaction end lines → kept + bytes_in lines < 2 ^ 64 → Finds end (kept + bytes_in lines) 0 (with_lines k lines)
by_transaction place kept end k lines found tells bound =
    let first = tells.first in
    let last = tells.last in
    let middle = tells.within in
    let size : bytes_in lines ≡ first.length + (bytes_in middle + (last.length + 0)) = ap bytes_in tells.are ∙ ap (λ (n : ℕ). first.length + n) (bytes_then middle (last ∷ [])) in
    let begun = by_first place kept k first found tells.begins (omega (arith, size, bound)) in
    let gone = by_more place kept first.length (with_line k first) middle tells.begins.2 begun tells.goes_on (omega (arith, size, bound)) in
    let ended = by_last place kept (first.length + bytes_in middle) end (with_lines (with_line k first) middle) last (omega (arith, tells.begins.2)) gone tells.ends tells.is_none (omega (arith, size, bound)) in
    let same : with_lines k lines ≡ with_line (with_lines (with_line k first) middle) last = ap (with_lines k) tells.are ∙ lines_then (with_line k first) middle (last ∷ []) in
    let there = subst (λ (n : ℕ). Finds end n 0 (with_line (with_lines (with_line k first) middle) last)) (omega (arith, size)) ended in
    subst (λ (l : ResumePoint). Finds end (kept + bytes_in lines) 0 l) (sym same) there

by_one : (is_note : Bool) (place kept end : ℕ) (k : ResumePoint) (lines : List Line) → Finds place kept 0 k → TellsOne is_note end lines → kept + bytes_in lines < 2 ^ 64 → Finds end (kept + bytes_in lines) 0 (with_lines k lines)
by_one false place kept end k lines found tells bound = by_transaction place kept end k lines found tells bound
by_one true place kept end k lines found tells bound =
    let size : bytes_in lines ≡ tells.line.length + 0 = ap bytes_in tells.are in
    let ended = by_note place kept end k tells.line found tells.begins tells.ends (omega (arith, size, bound)) in
    let there = subst (λ (n : ℕ). Finds end n 0 (with_line k tells.line)) (omega (arith, size)) ended in
    subst (λ (l : ResumePoint). Finds end (kept + bytes_in lines) 0 l) (sym (ap (with_lines k) tells.are)) there

by_all : (place kept : ℕ) (k : ResumePoint) (ts : List Published) (lines : List Line) → Finds place kept 0 k → TellAll ts lines → kept + bytes_in lines < 2 ^ 64 → Finds (place_after_all place ts) (kept + bytes_in lines) 0 (with_lines k lines)
by_all place kept k [] lines found tell bound =
    let size : bytes_in lines ≡ 0 = ap bytes_in tell in
    subst (λ (l : ResumePoint). Finds place (kept + bytes_in lines) 0 l) (sym (ap (with_lines k) tell)) (subst (λ (n : ℕ). Finds place n 0 k) (omega (arith, size)) found)
by_all place kept k (t ∷ ts) lines found tell bound =
    let own = tell.0 in
    let others = tell.1 in
    let size : bytes_in lines ≡ bytes_in own + bytes_in others = ap bytes_in tell.2 ∙ bytes_then own others in
    let one = by_one t.is_note place kept (place_after t) k own found tell.3 (omega (arith, size, bound)) in
    let all = by_all (place_after t) (kept + bytes_in own) (with_lines k own) ts others one tell.4 (omega (arith, size, bound)) in
    let there = subst (λ (n : ℕ). Finds (place_after_all (place_after t) ts) n 0 (with_lines (with_lines k own) others)) (omega (arith, size)) all in
    subst (λ (l : ResumePoint). Finds (place_after_all (place_after t) ts) (kept + bytes_in lines) 0 l) (sym (ap (with_lines k) tell.2 ∙ lines_then k own others)) there

pub finds : (ts : List Published) (whole part : List Line) → TellAll ts whole → BeginsOne part → bytes_in (whole ++ part) < 2 ^ 64 → Finds (place_after_all 0 ts) (bytes_in whole) (bytes_in part) (with_lines nothing_kept (whole ++ part))
finds ts whole part tell begins bound =
    let size = bytes_then whole part in
    let none : 0 + bytes_in whole ≡ bytes_in whole = omega arith in
    let all = subst (λ (n : ℕ). Finds (place_after_all 0 ts) n 0 (with_lines nothing_kept whole)) none (by_all 0 0 nothing_kept ts whole (record { position = refl; length = refl; behind = refl; own = refl }) tell (omega (arith, size, bound))) in
    let here = by_part (place_after_all 0 ts) (bytes_in whole) (with_lines nothing_kept whole) part all begins (omega (arith, size, bound)) in
    subst (λ (l : ResumePoint). Finds (place_after_all 0 ts) (bytes_in whole) (bytes_in part) l) (sym (lines_then nothing_kept whole part)) here
