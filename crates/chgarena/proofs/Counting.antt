-- How many entries of a strand stand before each of its chunks.
use Rattle.std.proofs.Common.{◌≡◌, ◌≢◌, ℕ, zero, suc, ◌+◌, ◌-◌, ◌*◌, ◌<◌, ◌≤◌, List, [], ◌∷◌, ◌++◌, length, get_or, set, refl, sym, ap, ◌∙◌, subst, arith, ⊎_elim}
use Rattle.std.specs.List.{Contains, fold}
use Rattle.std.proofs.lemmas.Bool.{cases_eq, cases_lt}
use Rattle.std.proofs.lemmas.List.{append-nil, get_or_append_left, get_or-append_right, get_or-set_same, get_or-set_other, length-append, length-map}
use Rattle.std.proofs.lemmas.List.Sums.{get_or-le-sum_by}
use Rattle.chgarena.specs.Books.{Books, IsBooks, IsRun, at, chunks_of, count_to, run}
use Rattle.chgarena.specs.Fill.{sizes, with_size}
use Rattle.chgarena.specs.Joined.{AreCounted, IsFilled, joined_entries}
use Rattle.chgarena.specs.Links.{IsPopped, IsReleased, books_with_chunk, books_with_strand}
use Rattle.chgarena.specs.Pages.{bytes_taken}
use Rattle.chgarena.proofs.Adding.{other, was_free}
use Rattle.chgarena.proofs.Joining.{Kept, joined_same}
use Rattle.chgarena.proofs.Pushing as pushing
use Rattle.chgarena.proofs.Runs.{count_of_strand, run_last}

abbrev Pages : Type 0
Pages = List (List (List ℕ))

-- the counts stay where the chunks of the strand but its last one stay
pub counted_same : (b : Books) (ps ps' : Pages) (ns ns' : List ℕ) (h l k : ℕ) → ((y : ℕ) → y < b.chunks → at b.owner y ≡ h → at ns' y ≡ at ns y) →
    ((y : ℕ) → y < b.chunks → at b.owner y ≡ h → at b.rank y < k → get_or ps' y [] ≡ get_or ps y []) → (r m c n : ℕ) → r + m ≡ k → IsRun b h l r m c →
    AreCounted ps ns n (run b.next m c) → AreCounted ps' ns' n (run b.next m c)
counted_same b ps ps' ns ns' h l k same pages r zero c n e is counted = (same c is.0.0 is.0.1 ∙ counted.0, tt)
counted_same b ps ps' ns ns' h l k same pages r (suc m) c n e is counted =
    let P : List (List ℕ) → Type 0 = λ es. AreCounted ps' ns' (n + length es) (run b.next m (at b.next c)) in
    let rest = counted_same b ps ps' ns ns' h l k same pages (r + 1) m (at b.next c) (n + length (get_or ps c [])) (omega arith) is.1 counted.1 in
    (same c is.0.0 is.0.1 ∙ counted.0, subst P (sym (pages c is.0.0 is.0.1 (omega (arith, is.0.2)))) rest)

-- one chunk more at the end
pub counted_end : (ps : Pages) (ns : List ℕ) (x : ℕ) (cs : List ℕ) (n : ℕ) → AreCounted ps ns n cs → at ns x ≡ n + length (joined_entries ps cs) → AreCounted ps ns n (cs ++ x ∷ [])
counted_end ps ns x [] n counted is = (is ∙ omega arith, tt)
counted_end ps ns x (c ∷ cs) n counted is =
    let long = length-append (get_or ps c []) (joined_entries ps cs) in
    (counted.0, counted_end ps ns x cs (n + length (get_or ps c [])) counted.1 (omega arith))

-- with those of the last chunk they are all
pub counted_last : (b : Books) (ps : Pages) (ns : List ℕ) (h l r m c n : ℕ) → IsRun b h l r m c → AreCounted ps ns n (run b.next m c) →
    at ns l + length (get_or ps l []) ≡ n + length (joined_entries ps (run b.next m c))
counted_last b ps ns h l r zero c n is counted =
    let P : ℕ → Type 0 = λ x. at ns x + length (get_or ps x []) ≡ n + length (joined_entries ps (c ∷ [])) in
    let long : length (get_or ps c [] ++ []) ≡ length (get_or ps c []) = ap length (append-nil (get_or ps c [])) in
    let first = counted.0 in
    subst P is.1 (omega arith)
counted_last b ps ns h l r (suc m) c n is counted =
    let long = length-append (get_or ps c []) (joined_entries ps (run b.next m (at b.next c))) in
    counted_last b ps ns h l (r + 1) m (at b.next c) (n + length (get_or ps c [])) is.1 counted.1 ∙ omega arith

above : (ps : Pages) (ns cs : List ℕ) (n x i : ℕ) → AreCounted ps ns n cs → i < length cs → get_or cs i x ≡ x → n ≤ at ns x
above ps ns [] n x i counted low is = absurd (omega arith)
above ps ns (c ∷ cs) n x zero counted low is = let e : at ns x ≡ n = ap (at ns) (sym is) ∙ counted.0 in omega arith
above ps ns (c ∷ cs) n x (suc i) counted low is = let rest = above ps ns cs (n + length (get_or ps c [])) x i counted.1 (omega arith) is in omega arith

-- an entry of a chunk stands after those before the chunk
found : (ps : Pages) (ns cs : List ℕ) (n x i j k : ℕ) → AreCounted ps ns n cs → i < length cs → get_or cs i x ≡ x → j < length (get_or ps x []) → at ns x + j ≡ n + k →
    get_or (joined_entries ps cs) k [] ≡ get_or (get_or ps x []) j []
found ps ns [] n x i j k counted low is in' e = absurd (omega arith)
found ps ns (c ∷ cs) n x zero j k counted low is in' e =
    let first : at ns x ≡ n = ap (at ns) (sym is) ∙ counted.0 in
    let same : k ≡ j = omega arith in
    let P : ℕ → Type 0 = λ y. get_or (get_or ps y [] ++ joined_entries ps cs) k [] ≡ get_or (get_or ps x []) j [] in
    subst P (sym is) (get_or_append_left (get_or ps x []) (joined_entries ps cs) [] k (omega arith) ∙ ap (λ i. get_or (get_or ps x []) i []) same)
found ps ns (c ∷ cs) n x (suc i) j k counted low is in' e =
    let size = length (get_or ps c []) in
    let behind = above ps ns cs (n + size) x i counted.1 (omega arith) is in
    get_or-append_right (get_or ps c []) (joined_entries ps cs) size k [] refl (omega arith) ∙ found ps ns cs (n + size) x i j (k - size) counted.1 (omega arith) is in' (omega arith)

pub found_near : (ps : Pages) (ns cs : List ℕ) (x k : ℕ) → AreCounted ps ns 0 cs → Contains cs x → at ns x ≤ k → k - at ns x < length (get_or ps x []) →
    get_or (get_or ps x []) (k - at ns x) [] ≡ get_or (joined_entries ps cs) k []
found_near ps ns cs x k counted is first within = sym (found ps ns cs 0 x is.0 (k - at ns x) k counted is.1 is.2 within (omega arith))

-- so many chunks hold few entries
few_entries : (ss : List ℕ) (n u v m : ℕ) → v ≤ u → v ≤ 16384 → m + 16384 ≤ n * 16384 + v → m + length ss ≤ (fold with_size (n, u) ss).0 * 16384
few_entries [] n u v m less low is = omega arith
few_entries (s ∷ ss) n u v m less low is =
    let P : ℕ × ℕ → Type 0 = λ p. m + length (s ∷ ss) ≤ (fold with_size p ss).0 * 16384 in
    ⊎_elim
    (λ (over : 16384 < u + (s + 4)).
    let rest = few_entries ss (n + 1) (s + 4) 1 (m + 1) (omega arith) (omega arith) (omega arith) in
    subst P (sym (pushing.opens_next n u s over)) (omega arith))
    (λ (fits : u + (s + 4) ≤ 16384).
    let rest = few_entries ss n (u + (s + 4)) (u + (s + 4)) (m + 1) (omega arith) fits (omega arith) in
    subst P (sym (pushing.fits_in n u s fits)) (omega arith))
    (cases_lt 16384 (u + (s + 4)))

module _ (b : Books) (good : IsBooks b) (ps : Pages) (long : length ps ≡ b.chunks) (full : (x : ℕ) → x < b.chunks → at b.last x < b.chunks → IsFilled b ps x)
    (ns : List ℕ) (many : length ns ≡ b.chunks) (counted : (x : ℕ) → x < b.chunks → at b.last x < b.chunks → AreCounted ps ns 0 (chunks_of b x)) where
  -- there are as many entries as fit in all chunks
  pub few_counted : (h : ℕ) → h < b.chunks → at b.last h < b.chunks → at ns (at b.last h) + length (get_or ps (at b.last h) []) ≤ b.chunks * 16384
  few_counted h low has =
      let l = at b.last h in
      let es = joined_entries ps (chunks_of b h) in
      let all = counted_last b ps ns h l 0 (at b.rank l) h 0 (good.strands h low has) (counted h low has) in
      let sized : length (sizes es) ≡ length es = length-map es (λ (e : List ℕ). length e) in
      let few = few_entries (sizes es) 0 16384 16384 0 (omega arith) (omega arith) (omega arith) in
      let chunks = ap (λ p. p.0) (full h low has) in
      let own : count_to b l ≡ at b.rank l + 1 = count_of_strand b l has in
      let part = get_or-le-sum_by (count_to b) b.last h 0 (omega (arith, good.lasts)) in
      let whole = good.all in
      omega arith

  -- the last chunk of a strand has other entries
  pub entry_counted : (h : ℕ) → h < b.chunks → at b.last h < b.chunks → (es : List (List ℕ)) → (x : ℕ) → x < b.chunks → at b.last x < b.chunks → AreCounted (set ps (at b.last h) es) ns 0 (chunks_of b x)
  entry_counted h low has es x low' has' =
      let l = at b.last h in
      let owner : at b.owner l ≡ h = (run_last b h l 0 (at b.rank l) h (good.strands h low has)).1 in
      counted_same b ps (set ps l es) ns ns x (at b.last x) (at b.rank (at b.last x)) (λ _ _ _. refl)
      (λ y _ owned less. get_or-set_other ps l y es [] (λ (e : y ≡ l).
      let same : x ≡ h = sym owned ∙ (ap (at b.owner) e ∙ owner) in
      let rank : at b.rank y ≡ at b.rank l = ap (at b.rank) e in
      let rank' : at b.rank (at b.last x) ≡ at b.rank l = ap (λ s. at b.rank (at b.last s)) same in
      absurd (omega arith)))
      0 (at b.rank (at b.last x)) x 0 (omega arith) (good.strands x low' has') (counted x low' has')

  -- a chunk that was free has the entry alone, and so many entries stand before it
  module _ (c : ℕ) (popped : IsPopped b c) (e : List ℕ) (fits : length e ≤ 16380) (n : ℕ) where
    abbrev ps' : Pages
    ps' = set ps c (e ∷ [])

    abbrev ns' : List ℕ
    ns' = set ns c n

    another : (x y : ℕ) → x < b.chunks → at b.owner y ≡ x → y ≢ c
    another x y low owned = other b good c c 0 b.next popped y x low owned

    old_counted : (x : ℕ) → x < b.chunks → at b.last x < b.chunks → AreCounted ps' ns' 0 (chunks_of b x)
    old_counted x low has =
        counted_same b ps ps' ns ns' x (at b.last x) (at b.rank (at b.last x))
        (λ y _ owned. get_or-set_other ns c y n 0 (another x y low owned)) (λ y _ owned _. get_or-set_other ps c y (e ∷ []) [] (another x y low owned))
        0 (at b.rank (at b.last x)) x 0 (omega arith) (good.strands x low has) (counted x low has)

    new_count : at ns' c ≡ n
    new_count = get_or-set_same ns c n 0 (omega (arith, (was_free b good c c 0 b.next popped).0))

    -- a strand whose chunks stay
    kept_counted : (b' : Books) → b'.chunks ≡ b.chunks → (x : ℕ) → x < b.chunks → Kept b b' ps ps' x → at b'.last x < b'.chunks → AreCounted ps' ns' 0 (chunks_of b' x)
    kept_counted b' same x low kept has =
        let P : List ℕ → Type 0 = λ cs. AreCounted ps' ns' 0 cs in
        let has' : at b.last x < b.chunks = omega (arith, kept.last) in
        subst P (sym (kept.chunks has')) (old_counted x low has')

    -- the last of the strand h
    pub grown_counted : (h : ℕ) (low : h < b.chunks) (has : at b.last h < b.chunks) (over : 16384 < bytes_taken (get_or ps (at b.last h) []) + (length e + 4)) →
        n ≡ at ns (at b.last h) + length (get_or ps (at b.last h) []) → (x : ℕ) → x < b.chunks → at (books_with_chunk b h c).last x < b.chunks → AreCounted ps' ns' 0 (chunks_of (books_with_chunk b h c) x)
    grown_counted h low has over is x low' has' = ⊎_elim
        (λ (same : x ≡ h).
        let P : ℕ → Type 0 = λ y. AreCounted ps' ns' 0 (chunks_of (books_with_chunk b h c) y) in
        let Q : List ℕ → Type 0 = λ cs. AreCounted ps' ns' 0 cs in
        let l = at b.last h in
        let run = good.strands h low has in
        let all = counted_last b ps ns h l 0 (at b.rank l) h 0 run (counted h low has) in
        let stay : length (joined_entries ps' (chunks_of b h)) ≡ length (joined_entries ps (chunks_of b h)) =
        ap length (joined_same b ps ps' h l 0 (at b.rank l) h (λ y _ owned. get_or-set_other ps c y (e ∷ []) [] (another h y low owned)) run) in
        let new = new_count in
        subst P (sym same) (subst Q (sym (pushing.chunks_grown b good ps long full c popped e fits h low has over))
        (counted_end ps' ns' c (chunks_of b h) 0 (old_counted h low has) (omega arith))))
        (λ (ne : x ≢ h). kept_counted (books_with_chunk b h c) refl x low' (pushing.grown_kept b good ps long full c popped e fits h low has over x low' ne) has')
        (cases_eq x h)

    -- a strand of its own
    pub begun_counted : n ≡ 0 → (x : ℕ) → x < b.chunks → at (books_with_strand b c).last x < b.chunks → AreCounted ps' ns' 0 (chunks_of (books_with_strand b c) x)
    begun_counted is x low has = ⊎_elim
        (λ (same : x ≡ c).
        let P : ℕ → Type 0 = λ y. AreCounted ps' ns' 0 (chunks_of (books_with_strand b c) y) in
        let Q : List ℕ → Type 0 = λ cs. AreCounted ps' ns' 0 cs in
        subst P (sym same) (subst Q (sym (pushing.chunks_begun b good ps long full c popped e fits)) (new_count ∙ is, tt)))
        (λ (ne : x ≢ c). kept_counted (books_with_strand b c) refl x low (pushing.begun_kept b good ps long full c popped e fits x low ne) has)
        (cases_eq x c)

  -- a strand is gone
  pub gone_counted : (h : ℕ) (low : h < b.chunks) (b' : Books) (gone : IsReleased b h b') (x : ℕ) → x < b'.chunks → at b'.last x < b'.chunks → AreCounted ps ns 0 (chunks_of b' x)
  gone_counted h low b' gone x low' has = ⊎_elim
      (λ (same : x ≡ h).
      let none : at b'.last x ≡ b.chunks = ap (at b'.last) same ∙ pushing.last_gone b good ps long full h low b' gone in
      absurd (omega (arith, gone.0)))
      (λ (ne : x ≢ h).
      let P : List ℕ → Type 0 = λ cs. AreCounted ps ns 0 cs in
      let in' : x < b.chunks = omega (arith, gone.0) in
      let kept = pushing.gone_kept b good ps long full h low b' gone x in' ne in
      let has' : at b.last x < b.chunks = omega (arith, kept.last, gone.0) in
      subst P (sym (kept.chunks has')) (counted x in' has'))
      (cases_eq x h)
