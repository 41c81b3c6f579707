-- Where the k-th entry of a chunk lies in the region.
use Rattle.std.proofs.Common.{◌≡◌, ℕ, ◌+◌, ◌*◌, ◌<◌, ◌≤◌, ◌^◌, List, [], Option, Some, length, get_or, map, take, drop, sym, ◌∙◌, subst, arith}
use Rattle.chgarena.specs.Pages.{IsPages, Lies, begins, line_of, line_place, pages, places_of}
use Rattle.chgarena.proofs.Appending.{count_seen, fits_seen, low_seen, page_seen, used_seen}
use Rattle.chgarena.proofs.Coding.{entry_within, taken_is}
use Rattle.chgarena.proofs.Written.{in_chunk}

module _ (places : List (Option ℕ)) (used counts : List ℕ) (good : IsPages places used counts) (seen : List (List (List ℕ))) (view : pages places counts ≡ seen) (c : ℕ) (in' : c < length seen)
    (k : ℕ) (low : k < length (get_or seen c [])) where
  abbrev es : List (List ℕ)
  es = get_or seen c []

  abbrev pub read : List ℕ
  read = get_or es k []

  lies : Lies (places_of places c) k (begins es k) read
  lies =
      let P : List (List ℕ) → Type 0 = λ xs. Lies (places_of places c) k (begins xs k) (get_or xs k []) in
      let n = count_seen places used counts good seen view c in' in
      subst P (sym (page_seen places used counts good seen view c in')) ((good.each c (low_seen places used counts good seen view c in')).lies k (omega arith))

  -- it and all lines have room
  pub read_fits : begins es k + length read + length es * 4 ≤ 16384
  read_fits =
      let u = used_seen places used counts good seen view c in' in
      let f = fits_seen places used counts good seen view c in' in
      let w = entry_within es k low in
      let t = taken_is es in
      omega arith

  pub line_read : take 4 (drop (c * 16384 + line_place k) places) ≡ map (λ x. Some x) (line_of (begins es k) (length read))
  line_read = let f = read_fits in sym (in_chunk places (c * 16384) (line_place k) 4 (omega arith)) ∙ lies.line

  pub body_read : take (length read) (drop (c * 16384 + begins es k) places) ≡ map (λ x. Some x) read
  body_read = let f = read_fits in sym (in_chunk places (c * 16384) (begins es k) (length read) (omega arith)) ∙ lies.bytes

  -- what a line says that was read where this one lies
  pub line_says : (at : ℕ) (says : ℕ × ℕ) → at ≡ c * 16384 + line_place k →
      ((from size : ℕ) → from < 2 ^ 16 → size < 2 ^ 16 → take 4 (drop at places) ≡ map (λ x. Some x) (line_of from size) → says ≡ (from, size)) → says ≡ (begins es k, length read)
  line_says at says is reads =
      let f = read_fits in
      let P : ℕ → Type 0 = λ j. take 4 (drop j places) ≡ map (λ x. Some x) (line_of (begins es k) (length read)) in
      reads (begins es k) (length read) (omega arith) (omega arith) (subst P (sym is) line_read)
