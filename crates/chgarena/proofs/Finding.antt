-- How the chunk of an entry is found: from the first chunk of its strand on.
use Rattle.std.proofs.Common.{◌≡◌, ℕ, zero, suc, ◌+◌, ◌-◌, ◌<◌, ◌≤◌, List, [], ◌++◌, length, get_or, refl, sym, ap, ◌∙◌, subst, arith}
use Rattle.std.proofs.lemmas.List.{append-nil, get_or_append_left, get_or-append_right, length-append}
use Rattle.chgarena.specs.Books.{Books, IsRun, at, run}
use Rattle.chgarena.specs.Joined.{joined_entries}
use Rattle.chgarena.proofs.Runs.{run_first}

-- `rest` entries stand before the one looked for, from the chunk on, which has so many chunks after it
pub record IsAt (b : Books) (ps : List (List (List ℕ))) (strand last chunk rest : ℕ) (entry : List ℕ) : Type 0 where
  pub below : at b.rank chunk ≤ at b.rank last
  pub chain : IsRun b strand last (at b.rank chunk) (at b.rank last - at b.rank chunk) chunk
  pub within : rest < length (joined_entries ps (run b.next (at b.rank last - at b.rank chunk) chunk))
  pub same : get_or (joined_entries ps (run b.next (at b.rank last - at b.rank chunk) chunk)) rest [] ≡ entry

-- the entry is in this chunk
found_in : (next : List ℕ) (ps : List (List (List ℕ))) (m c rest : ℕ) → rest < length (get_or ps c []) → get_or (joined_entries ps (run next m c)) rest [] ≡ get_or (get_or ps c []) rest []
found_in next ps zero c rest low = get_or_append_left (get_or ps c []) [] [] rest low
found_in next ps (suc m) c rest low = get_or_append_left (get_or ps c []) (joined_entries ps (run next m (at next c))) [] rest low

-- it is in a later one
record IsLater (b : Books) (ps : List (List (List ℕ))) (h l r m c rest : ℕ) : Type 0 where
  fewer : ℕ
  less : m ≡ fewer + 1
  chain : IsRun b h l (r + 1) fewer (at b.next c)
  within : rest - length (get_or ps c []) < length (joined_entries ps (run b.next fewer (at b.next c)))
  same : get_or (joined_entries ps (run b.next fewer (at b.next c))) (rest - length (get_or ps c [])) [] ≡ get_or (joined_entries ps (run b.next m c)) rest []

later : (b : Books) (ps : List (List (List ℕ))) (h l r m c rest : ℕ) → IsRun b h l r m c → rest < length (joined_entries ps (run b.next m c)) → length (get_or ps c []) ≤ rest → IsLater b ps h l r m c rest
later b ps h l r zero c rest is within more = let n : length (get_or ps c [] ++ []) ≡ length (get_or ps c []) = ap length (append-nil (get_or ps c [])) in absurd (omega arith)
later b ps h l r (suc m) c rest is within more =
    let n = length-append (get_or ps c []) (joined_entries ps (run b.next m (at b.next c))) in
    record {
      fewer = m;
      less = omega arith;
      chain = is.1;
      within = omega arith;
      same = sym (get_or-append_right (get_or ps c []) (joined_entries ps (run b.next m (at b.next c))) (length (get_or ps c [])) rest [] refl more);
    }

module _ (b : Books) (ps : List (List (List ℕ))) (strand last chunk rest : ℕ) (entry : List ℕ) (is : IsAt b ps strand last chunk rest entry) where
  abbrev m : ℕ
  m = at b.rank last - at b.rank chunk

  pub chunk_low : chunk < b.chunks
  chunk_low = (run_first b strand last (at b.rank chunk) m chunk is.chain).0

  pub is_here : rest < length (get_or ps chunk []) → get_or (get_or ps chunk []) rest [] ≡ entry
  is_here low = sym (found_in b.next ps m chunk rest low) ∙ is.same

  module _ (more : length (get_or ps chunk []) ≤ rest) where
    next_is : IsLater b ps strand last (at b.rank chunk) m chunk rest
    next_is = later b ps strand last (at b.rank chunk) m chunk rest is.chain is.within more

    rank_next : at b.rank (at b.next chunk) ≡ at b.rank chunk + 1
    rank_next = (run_first b strand last (at b.rank chunk + 1) next_is.fewer (at b.next chunk) next_is.chain).2

    fewer_is : next_is.fewer ≡ at b.rank last - at b.rank (at b.next chunk)
    fewer_is = omega (arith, next_is.less, rank_next)

    pub step_down : at b.rank last - at b.rank (at b.next chunk) < at b.rank last - at b.rank chunk
    step_down = omega (arith, next_is.less, rank_next)

    pub is_later : IsAt b ps strand last (at b.next chunk) (rest - length (get_or ps chunk [])) entry
    is_later =
        let P : ℕ → Type 0 = λ r. IsRun b strand last r next_is.fewer (at b.next chunk) in
        let Q : ℕ → Type 0 = λ k. IsRun b strand last (at b.rank (at b.next chunk)) k (at b.next chunk) in
        let R : ℕ → Type 0 = λ k. rest - length (get_or ps chunk []) < length (joined_entries ps (run b.next k (at b.next chunk))) in
        let S : ℕ → Type 0 = λ k. get_or (joined_entries ps (run b.next k (at b.next chunk))) (rest - length (get_or ps chunk [])) [] ≡ entry in
        record {
          below = omega (arith, next_is.less, rank_next);
          chain = subst Q fewer_is (subst P (sym rank_next) next_is.chain);
          within = subst R fewer_is next_is.within;
          same = subst S fewer_is (next_is.same ∙ is.same);
        }

-- the first chunk of a strand
pub at_first : (b : Books) (ps : List (List (List ℕ))) (h rest : ℕ) → IsRun b h (at b.last h) 0 (at b.rank (at b.last h)) h → rest < length (joined_entries ps (run b.next (at b.rank (at b.last h)) h)) →
    IsAt b ps h (at b.last h) h rest (get_or (joined_entries ps (run b.next (at b.rank (at b.last h)) h)) rest [])
at_first b ps h rest is within =
    let zeroth : at b.rank h ≡ 0 = (run_first b h (at b.last h) 0 (at b.rank (at b.last h)) h is).2 in
    let whole : at b.rank (at b.last h) ≡ at b.rank (at b.last h) - at b.rank h = omega arith in
    let P : ℕ → Type 0 = λ r. IsRun b h (at b.last h) r (at b.rank (at b.last h)) h in
    let Q : ℕ → Type 0 = λ k. IsRun b h (at b.last h) (at b.rank h) k h in
    let R : ℕ → Type 0 = λ k. rest < length (joined_entries ps (run b.next k h)) in
    let S : ℕ → Type 0 = λ k. get_or (joined_entries ps (run b.next k h)) rest [] ≡ get_or (joined_entries ps (run b.next (at b.rank (at b.last h)) h)) rest [] in
    record {
      below = omega arith;
      chain = subst Q whole (subst P (sym zeroth) is);
      within = subst R whole within;
      same = subst S whole refl;
    }
