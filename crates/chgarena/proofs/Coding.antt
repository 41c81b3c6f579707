-- Entries are read back from how they lie in a chunk.
use Rattle.std.proofs.Common.{◌≡◌, ℕ, ◌+◌, ◌*◌, ◌<◌, ◌≤◌, ◌^◌, List, [], ◌∷◌, ◌++◌, Option, Some, length, get_or, map, take, drop, refl, ap, ◌∙◌, arith}
use Rattle.std.specs.Int.{w16, from_be_bytes, to_be_bytes}
use Rattle.std.specs.List.{sum_by}
use Rattle.std.proofs.lemmas.List.{ext_get_or, take-append-le, take_at}
use Rattle.std.proofs.lemmas.List.FromFn.{length-map-range_with_len, get_or-map-range_with_len}
use Rattle.std.proofs.lemmas.List.Sums.{sum_by-append, sum_by-cons, sum_by_more_le}
use Rattle.std.proofs.lemmas.Nat.{from_be_bytes-to_be_bytes_2}
use Rattle.chgarena.specs.Pages.{Lies, begins, bytes_taken, entry_in, entry_of, known, line_of, line_place, page}

pub known_some : (xs : List ℕ) → known (map (λ x. Some x) xs) ≡ xs
known_some [] = refl
known_some (x ∷ xs) = ap (λ ys. x ∷ ys) (known_some xs)

pub length-page : (count : ℕ) (places : List (Option ℕ)) → length (page count places) ≡ count
length-page count places = length-map-range_with_len (entry_in places) 0 count

-- the lengths of entries
abbrev pub bytes_of : List (List ℕ) → ℕ
bytes_of es = sum_by (λ e. length e) es

pub taken_is : (es : List (List ℕ)) → bytes_taken es ≡ bytes_of es + length es * 4
taken_is [] = refl
taken_is (e ∷ es) = let rest = taken_is es in omega (arith, sum_by-cons (λ (x : List ℕ). length x + 4) e es, sum_by-cons (λ (x : List ℕ). length x) e es)

pub taken_push : (es : List (List ℕ)) (e : List ℕ) → bytes_taken (es ++ e ∷ []) ≡ bytes_taken es + (length e + 4)
taken_push es e = omega (arith, sum_by-append (λ (x : List ℕ). length x + 4) es (e ∷ []), sum_by-cons (λ (x : List ℕ). length x + 4) e [])

-- an entry ends where the next begins, or before the end of all
pub entry_within : (es : List (List ℕ)) (k : ℕ) → k < length es → begins es k + length (get_or es k []) ≤ bytes_of es
entry_within es k low = sum_by_more_le (λ (x : List ℕ). length x) es k [] low

pub begins_push : (es : List (List ℕ)) (e : List ℕ) (k : ℕ) → k ≤ length es → begins (es ++ e ∷ []) k ≡ begins es k
begins_push es e k low = ap bytes_of (take-append-le k es (e ∷ []) low)

pub begins_last : (es : List (List ℕ)) (e : List ℕ) (n : ℕ) → length es ≡ n → begins (es ++ e ∷ []) n ≡ bytes_of es
begins_last es e n many = ap bytes_of (take_at es (e ∷ []) n many)

-- the entry is what its line tells of
read_back : (ps : List (Option ℕ)) (k from : ℕ) (e : List ℕ) → Lies ps k from e → from < 2 ^ 16 → length e < 2 ^ 16 → entry_in ps k ≡ e
read_back ps k from e is low low' =
    let line = line_of from (length e) in
    let there : known (take 4 (drop (line_place k) ps)) ≡ line = ap known is.line ∙ known_some line in
    ap (entry_of ps) there ∙ (ap (λ n. known (take n (drop (from_be_bytes w16 (to_be_bytes w16 from)) ps))) (from_be_bytes-to_be_bytes_2 (length e) low') ∙
    (ap (λ n. known (take (length e) (drop n ps))) (from_be_bytes-to_be_bytes_2 from low) ∙ (ap known is.bytes ∙ known_some e)))

pub page_is : (ps : List (Option ℕ)) (es : List (List ℕ)) (n : ℕ) → length es ≡ n → bytes_taken es ≤ 16384 → ((k : ℕ) → k < n → Lies ps k (begins es k) (get_or es k [])) → page n ps ≡ es
page_is ps es n many fits lies = ext_get_or [] (page n ps) es (length-page n ps ∙ omega arith) (λ k in'.
    let low : k < n = omega (arith, length-page n ps) in
    let part = entry_within es k (omega arith) in
    let all = taken_is es in
    get_or-map-range_with_len (entry_in ps) 0 n k k [] low (omega arith) ∙ read_back ps k (begins es k) (get_or es k []) (lies k low) (omega arith) (omega arith))
