-- What a chunk's entries are when the places of one chunk change.
use Rattle.std.proofs.Common.{◌≡◌, ◌≢◌, ℕ, ◌+◌, ◌-◌, ◌*◌, ◌<◌, ◌≤◌, ◌^◌, List, [], ◌∷◌, ◌++◌, Option, length, get_or, set, take, replicate, refl, sym, ap, ◌∙◌, subst, arith, ⊎_elim}
use Rattle.std.proofs.lemmas.Bool.{cases_eq, cases_lt}
use Rattle.std.proofs.lemmas.List.{length-append, length-set, length-replicate, get_or_append_left, get_or_default, get_or_push, get_or-set_same, get_or-set_other, get_or-replicate, ext_get_or}
use Rattle.std.proofs.lemmas.List.FromFn.{length-map-range_with_len, get_or-map-range_with_len}
use Rattle.chgarena.specs.Places.{with_bytes}
use Rattle.chgarena.specs.Pages.{IsPage, IsPages, Lies, begins, bytes_taken, line_of, line_place, page, pages, places_of, with_entry}
use Rattle.chgarena.proofs.Coding.{begins_last, begins_push, bytes_of, entry_within, length-page, page_is, taken_is, taken_push}
use Rattle.chgarena.proofs.Written.{length-with_bytes, before_it, after_it, in_chunk, in_it}

pub length-pages : (places : List (Option ℕ)) (counts : List ℕ) → length (pages places counts) ≡ length counts
length-pages places counts = length-map-range_with_len (λ c. page (get_or counts c 0) (places_of places c)) 0 (length counts)

pub page_at : (places : List (Option ℕ)) (counts : List ℕ) (c : ℕ) → c < length counts → get_or (pages places counts) c [] ≡ page (get_or counts c 0) (places_of places c)
page_at places counts c low = get_or-map-range_with_len (λ i. page (get_or counts i 0) (places_of places i)) 0 (length counts) c c [] low (omega arith)

-- what contracts see of a chunk
module _ (places : List (Option ℕ)) (used counts : List ℕ) (good : IsPages places used counts) (seen : List (List (List ℕ))) (view : pages places counts ≡ seen) (c : ℕ) (in' : c < length seen) where
  pub low_seen : c < length used
  low_seen = let n : length (pages places counts) ≡ length seen = ap length view in omega (arith, length-pages places counts, good.counted)

  pub page_seen : get_or seen c [] ≡ page (get_or counts c 0) (places_of places c)
  page_seen = ap (λ ps. get_or ps c []) (sym view) ∙ page_at places counts c (let low = low_seen in omega (arith, good.counted))

  pub used_seen : bytes_taken (get_or seen c []) ≡ get_or used c 0
  used_seen = ap (λ es. bytes_taken es) page_seen ∙ (good.each c low_seen).long

  pub fits_seen : get_or used c 0 ≤ 16384
  fits_seen = (good.each c low_seen).fits

  pub count_seen : length (get_or seen c []) ≡ get_or counts c 0
  count_seen = ap length page_seen ∙ length-page (get_or counts c 0) (places_of places c)

  pub room_seen : c * 16384 + 16384 ≤ length places
  room_seen = let l = low_seen in omega (arith, good.room)

-- the places of one chunk change
module _ (places places' : List (Option ℕ)) (used counts : List ℕ) (good : IsPages places used counts) (c u n : ℕ) (low : c < length used)
    (same : (i : ℕ) → i < length used → i ≢ c → places_of places' i ≡ places_of places i) where
  used_is : get_or (set used c u) c 0 ≡ u
  used_is = get_or-set_same used c u 0 low

  counts_is : get_or (set counts c n) c 0 ≡ n
  counts_is = get_or-set_same counts c n 0 (omega (arith, good.counted))

  used_else : (i : ℕ) → i ≢ c → get_or (set used c u) i 0 ≡ get_or used i 0
  used_else i ne = get_or-set_other used c i u 0 ne

  counts_else : (i : ℕ) → i ≢ c → get_or (set counts c n) i 0 ≡ get_or counts i 0
  counts_else i ne = get_or-set_other counts c i n 0 ne

  pub changed : pages places' (set counts c n) ≡ set (pages places counts) c (page n (places_of places' c))
  changed =
      let new = page n (places_of places' c) in
      let olds = length-pages places counts in
      let news = length-pages places' (set counts c n) in
      let sets = length-set counts c n in
      let resets = length-set (pages places counts) c new in
      let many = good.counted in
      ext_get_or [] (pages places' (set counts c n)) (set (pages places counts) c new) (omega arith) (λ i in'.
      let in'' : i < length counts = omega arith in
      page_at places' (set counts c n) i (omega arith) ∙
      ⊎_elim
      (λ (e : i ≡ c).
      let P : ℕ → Type 0 = λ j. page (get_or (set counts c n) j 0) (places_of places' j) ≡ get_or (set (pages places counts) c new) j [] in
      subst P (sym e) (ap (λ k. page k (places_of places' c)) counts_is ∙ sym (get_or-set_same (pages places counts) c new [] (omega arith))))
      (λ (ne : i ≢ c).
      ap (λ k. page k (places_of places' i)) (counts_else i ne) ∙ (ap (page (get_or counts i 0)) (same i (omega arith) ne) ∙
      (sym (page_at places counts i in'') ∙ sym (get_or-set_other (pages places counts) c i new [] ne))))
      (cases_eq i c))

  module _ (long : length places' ≡ length places) (new : IsPage u n (places_of places' c)) where
    pub changed_good : IsPages places' (set used c u) (set counts c n)
    changed_good =
        let sets = length-set used c u in
        record {
          counted = let m = length-set counts c n in omega (arith, good.counted);
          room = omega (arith, good.room);
          few = omega (arith, good.few);
          each = λ i in'. ⊎_elim
              (λ (e : i ≡ c).
              let P : ℕ → Type 0 = λ j. IsPage (get_or (set used c u) j 0) (get_or (set counts c n) j 0) (places_of places' j) in
              let Q : ℕ → Type 0 = λ k. IsPage k (get_or (set counts c n) c 0) (places_of places' c) in
              let R : ℕ → Type 0 = λ k. IsPage u k (places_of places' c) in
              subst P (sym e) (subst Q (sym used_is) (subst R (sym counts_is) new)))
              (λ (ne : i ≢ c).
              let in'' : i < length used = omega arith in
              let Q : ℕ → Type 0 = λ k. IsPage k (get_or (set counts c n) i 0) (places_of places' i) in
              let R : ℕ → Type 0 = λ k. IsPage (get_or used i 0) k (places_of places' i) in
              let S : List (Option ℕ) → Type 0 = λ ps. IsPage (get_or used i 0) (get_or counts i 0) ps in
              subst Q (sym (used_else i ne)) (subst R (sym (counts_else i ne)) (subst S (sym (same i in'' ne)) (good.each i in''))))
              (cases_eq i c);
        }

-- a chunk of no entries
pub no_page : (places : List (Option ℕ)) → IsPage 0 0 places
no_page places = record { fits = omega arith; long = refl; lies = λ k low. absurd (omega arith) }

-- an entry is added to a chunk that has room for it
module _ (places : List (Option ℕ)) (used counts : List ℕ) (good : IsPages places used counts) (c : ℕ) (e : List ℕ) (low : c < length used)
    (room : bytes_taken (get_or (pages places counts) c []) + (length e + 4) ≤ 16384) where
  abbrev u : ℕ
  u = get_or used c 0

  abbrev n : ℕ
  n = get_or counts c 0

  abbrev es : List (List ℕ)
  es = page n (places_of places c)

  -- where it begins
  abbrev pub from : ℕ
  from = u - n * 4

  abbrev base : ℕ
  base = c * 16384

  abbrev line : List ℕ
  line = line_of from (length e)

  abbrev places₁ : List (Option ℕ)
  places₁ = with_bytes places (base + from) e

  abbrev pub places₂ : List (Option ℕ)
  places₂ = with_entry places c n from e

  was : IsPage u n (places_of places c)
  was = good.each c low

  many : length es ≡ n
  many = length-page n (places_of places c)

  pub all_before : bytes_of es + n * 4 ≡ u
  all_before = let long = was.long in omega (arith, taken_is es, many)

  pub entry_fits : from + length e + (n + 1) * 4 ≤ 16384
  entry_fits =
      let is : bytes_taken (get_or (pages places counts) c []) ≡ bytes_taken es = ap (λ xs. bytes_taken xs) (page_at places counts c (omega (arith, good.counted))) in
      let long = was.long in
      omega (arith, all_before)

  fits₁ : base + from + length e ≤ length places
  fits₁ = omega (arith, entry_fits, good.room)

  length₁ : length places₁ ≡ length places
  length₁ = length-with_bytes places (base + from) e fits₁

  four : length line ≡ 4
  four = refl

  fits₂ : base + line_place n + length line ≤ length places₁
  fits₂ = let l = four in omega (arith, entry_fits, good.room, length₁)

  length₂ : length places₂ ≡ length places
  length₂ = length-with_bytes places₁ (base + line_place n) line fits₂ ∙ length₁

  others : (i : ℕ) → i < length used → i ≢ c → places_of places₂ i ≡ places_of places i
  others i in' ne =
      let t = entry_fits in
      let l = four in
      ⊎_elim
      (λ (below : i < c).
      before_it places₁ (base + line_place n) line fits₂ (i * 16384) 16384 (omega arith) ∙ before_it places (base + from) e fits₁ (i * 16384) 16384 (omega arith))
      (λ (above : c ≤ i).
      let more : c < i = omega arith in
      ap (take 16384) (after_it places₁ (base + line_place n) line fits₂ (i * 16384) (omega arith) ∙ after_it places (base + from) e fits₁ (i * 16384) (omega arith)))
      (cases_lt i c)

  -- those before it stay
  still : (k at : ℕ) (x : List ℕ) → k < n → at + length x ≤ from → Lies (places_of places c) k at x → Lies (places_of places₂ c) k at x
  still k at x in' below is =
      let t = entry_fits in
      let l = four in
      record {
        line = in_chunk places₂ base (line_place k) 4 (omega arith) ∙
            (ap (take 4) (after_it places₁ (base + line_place n) line fits₂ (base + line_place k) (omega arith) ∙ after_it places (base + from) e fits₁ (base + line_place k) (omega arith)) ∙
            (sym (in_chunk places base (line_place k) 4 (omega arith)) ∙ is.line));
        bytes = in_chunk places₂ base at (length x) (omega arith) ∙
            (before_it places₁ (base + line_place n) line fits₂ (base + at) (length x) (omega arith) ∙ (before_it places (base + from) e fits₁ (base + at) (length x) (omega arith) ∙
            (sym (in_chunk places base at (length x) (omega arith)) ∙ is.bytes)));
      }

  here : Lies (places_of places₂ c) n from e
  here =
      let t = entry_fits in
      record {
        line = in_chunk places₂ base (line_place n) 4 (omega arith) ∙ in_it places₁ (base + line_place n) line fits₂;
        bytes = in_chunk places₂ base from (length e) (omega arith) ∙
            (before_it places₁ (base + line_place n) line fits₂ (base + from) (length e) (omega arith) ∙ in_it places (base + from) e fits₁);
      }

  abbrev all : List (List ℕ)
  all = es ++ e ∷ []

  all_lie : (k : ℕ) → k < n + 1 → Lies (places_of places₂ c) k (begins all k) (get_or all k [])
  all_lie k in' = ⊎_elim
      (λ (old : k < n).
      let P : ℕ → Type 0 = λ at. Lies (places_of places₂ c) k at (get_or all k []) in
      let Q : List ℕ → Type 0 = λ x. Lies (places_of places₂ c) k (begins es k) x in
      let within = entry_within es k (omega (arith, many)) in
      subst P (sym (begins_push es e k (omega (arith, many)))) (subst Q (sym (get_or_append_left es (e ∷ []) [] k (omega (arith, many))))
      (still k (begins es k) (get_or es k []) old (omega (arith, all_before)) (was.lies k old))))
      (λ (high : n ≤ k).
      let is : n ≡ k = omega arith in
      let O : ℕ → Type 0 = λ j. Lies (places_of places₂ c) j (begins all j) (get_or all j []) in
      let P : ℕ → Type 0 = λ at. Lies (places_of places₂ c) n at (get_or all n []) in
      let Q : List ℕ → Type 0 = λ x. Lies (places_of places₂ c) n from x in
      let begin : from ≡ begins all n = let b = begins_last es e n many in omega (arith, all_before) in
      subst O is (subst P begin (subst Q (sym (get_or_push es e [] n (omega (arith, many)))) here)))
      (cases_lt k n)

  page_is_all : page (n + 1) (places_of places₂ c) ≡ all
  page_is_all =
      let size = taken_push es e in
      let old = was.long in
      page_is (places_of places₂ c) all (n + 1) (length-append es (e ∷ []) ∙ ap (λ k. k + 1) many) (omega (arith, entry_fits, all_before)) all_lie

  added_page : IsPage (u + (4 + length e)) (n + 1) (places_of places₂ c)
  added_page =
      let P : List (List ℕ) → Type 0 = λ xs. (k : ℕ) → k < n + 1 → Lies (places_of places₂ c) k (begins xs k) (get_or xs k []) in
      record {
        fits = omega (arith, entry_fits, all_before);
        long = let size = taken_push es e in let old = was.long in ap (λ xs. bytes_taken xs) page_is_all ∙ omega arith;
        lies = subst P (sym page_is_all) all_lie;
      }

  pub appended_good : IsPages places₂ (set used c (u + (4 + length e))) (set counts c (n + 1))
  appended_good = changed_good places places₂ used counts good c (u + (4 + length e)) (n + 1) low others length₂ added_page

  pub appended : pages places₂ (set counts c (n + 1)) ≡ set (pages places counts) c (get_or (pages places counts) c [] ++ e ∷ [])
  appended =
      changed places places₂ used counts good c (u + (4 + length e)) (n + 1) low others ∙
      ap (set (pages places counts) c) (page_is_all ∙ ap (λ xs. xs ++ e ∷ []) (sym (page_at places counts c (omega (arith, good.counted)))))

-- chunks of no entries
pub fresh_pages : (places : List (Option ℕ)) (m : ℕ) → pages places (replicate m 0) ≡ replicate m []
fresh_pages places m =
    let many = length-pages places (replicate m 0) in
    let nothing : List (List ℕ) = [] in
    ext_get_or [] (pages places (replicate m 0)) (replicate m nothing) (omega (arith, length-replicate {A = ℕ} m 0, length-replicate m nothing)) (λ i in'.
    let low : i < m = omega (arith, length-replicate {A = ℕ} m 0) in
    page_at places (replicate m 0) i (omega (arith, length-replicate {A = ℕ} m 0)) ∙
    (ap (λ k. page k (places_of places i)) (get_or-replicate m i 0 0 low) ∙ sym (get_or-replicate m i nothing [] low)))

pub fresh_pages_good : (places : List (Option ℕ)) (m : ℕ) → length places ≡ m * 16384 → m < 2 ^ 32 → IsPages places (replicate m 0) (replicate m 0)
fresh_pages_good places m long low = record {
  counted = refl;
  room = omega (arith, length-replicate {A = ℕ} m 0);
  few = omega (arith, length-replicate {A = ℕ} m 0);
  each = λ i in'.
      let P : ℕ → Type 0 = λ k. IsPage k k (places_of places i) in
      let e : get_or (replicate m 0) i 0 ≡ 0 = get_or-replicate m i 0 0 (omega (arith, length-replicate {A = ℕ} m 0)) in
      subst P (sym e) (no_page (places_of places i));
}

-- a chunk that contracts see so gets an entry, by what they see of it
pub added : (places places' : List (Option ℕ)) (used counts : List ℕ) (good : IsPages places used counts) (seen : List (List (List ℕ))) (view : pages places counts ≡ seen) (c : ℕ) (in' : c < length seen) (entry : List ℕ) (u n : ℕ)
    → u ≡ bytes_taken (get_or seen c []) → n ≡ length (get_or seen c []) → bytes_taken (get_or seen c []) + (length entry + 4) ≤ 16384 → places' ≡ with_entry places c n (u - n * 4) entry
    → IsPages places' (set used c (u + (4 + length entry))) (set counts c (n + 1)) × (pages places' (set counts c (n + 1)) ≡ set seen c (get_or seen c [] ++ entry ∷ []))
added places places' used counts good seen view c in' entry u n u_is n_is room places_is =
    let low = low_seen places used counts good seen view c in' in
    let u' : u ≡ get_or used c 0 = u_is ∙ used_seen places used counts good seen view c in' in
    let n' : n ≡ get_or counts c 0 = n_is ∙ count_seen places used counts good seen view c in' in
    let room' : bytes_taken (get_or (pages places counts) c []) + (length entry + 4) ≤ 16384 = subst (λ (ps : List (List (List ℕ))). bytes_taken (get_or ps c []) + (length entry + 4) ≤ 16384) (sym view) room in
    rw (places_is, u', n') (
      appended_good places used counts good c entry low room',
      appended places used counts good c entry low room' ∙ ap (λ ps. set ps c (get_or ps c [] ++ entry ∷ [])) view,
    )
