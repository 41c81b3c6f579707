-- The books with a free chunk made the last of a strand.
use Rattle.std.proofs.Common.{◌≡◌, ◌≢◌, ℕ, suc, ◌+◌, ◌-◌, ◌<◌, ◌≤◌, List, [], ◌∷◌, ◌++◌, length, set, take, refl, sym, ap, ◌∙◌, subst, arith, ⊎_elim}
use Rattle.std.specs.List.{Contains, sum_by}
use Rattle.std.proofs.lemmas.Bool.{cases_eq, cases_lt}
use Rattle.std.proofs.lemmas.List.{length-set, length-take-le, get_or-take, get_or-set_same, get_or-set_other}
use Rattle.std.proofs.lemmas.List.Elements.{Contains-append_left}
use Rattle.std.proofs.lemmas.List.Sums.{sum_by-set}
use Rattle.chgarena.specs.Books.{Books, IsBooks, IsHeld, IsOwned, IsRun, at, chunks_of, count_to, run}
use Rattle.chgarena.specs.Links.{IsPopped, books_with_chunk, books_with_strand}
use Rattle.chgarena.proofs.Runs.{Same, last_in, run_first, run_last, same_run, longer_run, sum_by_same, count_of_strand, count_of_none, count_same}

-- a free chunk c becomes the last of the strand h, k of whose chunks stand before it
module _ (b : Books) (good : IsBooks b) (h c k : ℕ) (next : List ℕ) (popped : IsPopped b c) where
  abbrev pub added : Books
  added = record b { owner = set b.owner c h; next = next; rank = set b.rank c k; last = set b.last h c; free = take (length b.free - 1) b.free }

  pub was_free : (c < b.chunks) × (at b.owner c ≡ b.chunks)
  was_free =
      let P : ℕ → Type 0 = λ x. (x < b.chunks) × (at b.owner x ≡ b.chunks) in
      let some = popped.0 in
      subst P popped.1 (good.free (length b.free - 1) (omega arith))

  -- a chunk that a strand has is another
  pub other : (x strand : ℕ) → strand < b.chunks → at b.owner x ≡ strand → x ≢ c
  other x strand low owned e =
      let o : at b.owner c ≡ b.chunks = was_free.1 in
      let o' : at b.owner x ≡ at b.owner c = ap (at b.owner) e in
      absurd (omega arith)

  pub owner_is : at added.owner c ≡ h
  owner_is = get_or-set_same b.owner c h 0 (omega (arith, was_free.0, good.owners))

  pub owner_else : (x : ℕ) → x ≢ c → at added.owner x ≡ at b.owner x
  owner_else x ne = get_or-set_other b.owner c x h 0 ne

  pub rank_is : at added.rank c ≡ k
  rank_is = get_or-set_same b.rank c k 0 (omega (arith, was_free.0, good.ranks))

  pub rank_else : (x : ℕ) → x ≢ c → at added.rank x ≡ at b.rank x
  rank_else x ne = get_or-set_other b.rank c x k 0 ne

  pub last_is : h < b.chunks → at added.last h ≡ c
  last_is low = get_or-set_same b.last h c 0 (omega (arith, low, good.lasts))

  pub last_else : (x : ℕ) → x ≢ h → at added.last x ≡ at b.last x
  last_else x ne = get_or-set_other b.last h x c 0 ne

  pub rests : length added.free + 1 ≡ length b.free
  rests = let some = popped.0 in omega (arith, length-take-le (length b.free - 1) b.free (omega arith))

  rest_at : (i : ℕ) → i < length added.free → at added.free i ≡ at b.free i
  rest_at i low = let n = rests in get_or-take (length b.free - 1) b.free i 0 (omega arith)

  rest_other : (i : ℕ) → i < length added.free → at b.free i ≢ c
  rest_other i low e =
      let n = rests in
      let same : i ≡ length b.free - 1 = good.apart i (length b.free - 1) (omega arith) (omega (arith, popped.0)) (e ∙ sym popped.1) in
      absurd (omega arith)

  -- the last chunk of a strand is another than c
  pub last_other : (x : ℕ) → x < b.chunks → at b.last x < b.chunks → at b.last x ≢ c
  last_other x low has = other (at b.last x) x low (run_last b x (at b.last x) 0 (at b.rank (at b.last x)) x (good.strands x low has)).1

  -- chunks of strands but h stay
  module _ (nexts : length next ≡ b.chunks) (next_else : (x : ℕ) → x < b.chunks → at b.owner x ≢ h → at next x ≡ at b.next x) (low : h < b.chunks) where
    pub stays : (x strand : ℕ) → strand < b.chunks → strand ≢ h → x < b.chunks → at b.owner x ≡ strand → Same b added x
    stays x strand low' ne in' owned = record {
      owner = owner_else x (other x strand low' owned);
      rank = rank_else x (other x strand low' owned);
      next = next_else x in' (λ e. ne (sym owned ∙ e));
    }

    pub other_run : (x : ℕ) → x < b.chunks → x ≢ h → at b.last x < b.chunks → (r m d : ℕ) → IsRun b x (at b.last x) r m d →
        IsRun added x (at b.last x) r m d × (run next m d ≡ run b.next m d)
    other_run x low' ne has r m d is = same_run b added x (at b.last x) refl r m d (λ y in' owned _. stays y x low' ne in' owned) is

    other_chunks : (x : ℕ) → x < b.chunks → x ≢ h → at b.last x < b.chunks → chunks_of added x ≡ chunks_of b x
    other_chunks x low' ne has =
        ap (λ l. run next (at added.rank l) x) (last_else x ne) ∙ (ap (λ j. run next j x) (rank_else (at b.last x) (last_other x low' has)) ∙
        (other_run x low' ne has 0 (at b.rank (at b.last x)) x (good.strands x low' has)).1)

    -- the books stay in order, where the run of h does
    module _ (count : count_to b (at b.last h) ≡ k) (own : IsRun added h c 0 k h) (keeps : (x : ℕ) → at b.last h < b.chunks → Contains (chunks_of b h) x → Contains (run next k h) x) where
      counts : (i : ℕ) → i < length b.last → count_to added (at b.last i) ≡ count_to b (at b.last i)
      counts i in' = count_same b added (at b.last i) refl (λ has. rank_else (at b.last i) (last_other i (omega (arith, good.lasts)) has))

      sums : sum_by (count_to added) added.last + k ≡ sum_by (count_to b) b.last + (k + 1)
      sums =
          let moved = sum_by-set (count_to added) b.last h c 0 (omega (arith, good.lasts)) in
          let same : sum_by (count_to added) b.last ≡ sum_by (count_to b) b.last = sum_by_same (count_to added) (count_to b) b.last counts in
          let before : count_to added (at b.last h) ≡ k = counts h (omega (arith, good.lasts)) ∙ count in
          let after : count_to added c ≡ k + 1 = count_of_strand added c was_free.0 ∙ ap (λ j. j + 1) rank_is in
          omega arith

      strand_is : (x : ℕ) → x < b.chunks → at added.last x < b.chunks → IsRun added x (at added.last x) 0 (at added.rank (at added.last x)) x
      strand_is x in' has = ⊎_elim
          (λ (e : x ≡ h).
          let P : ℕ → Type 0 = λ y. IsRun added y (at added.last y) 0 (at added.rank (at added.last y)) y in
          let Q : ℕ → Type 0 = λ l. IsRun added h l 0 (at added.rank l) h in
          let R : ℕ → Type 0 = λ j. IsRun added h c 0 j h in
          subst P (sym e) (subst Q (sym (last_is low)) (subst R (sym rank_is) own)))
          (λ (ne : x ≢ h).
          let Q : ℕ → Type 0 = λ l. IsRun added x l 0 (at added.rank l) x in
          let R : ℕ → Type 0 = λ j. IsRun added x (at b.last x) 0 j x in
          let L : ℕ → Type 0 = λ l. l < b.chunks in
          let has' : at b.last x < b.chunks = subst L (last_else x ne) has in
          subst Q (sym (last_else x ne)) (subst R (sym (rank_else (at b.last x) (last_other x in' has')))
          (other_run x in' ne has' 0 (at b.rank (at b.last x)) x (good.strands x in' has')).0))
          (cases_eq x h)

      held_by : (x : ℕ) → Contains (run next k h) x → IsHeld added h x
      held_by x is =
          let P : ℕ → Type 0 = λ l. Contains (run next (at added.rank l) h) x in
          let Q : ℕ → Type 0 = λ j. Contains (run next j h) x in
          (omega (arith, last_is low, was_free.0), subst P (sym (last_is low)) (subst Q (sym rank_is) is))

      held_else : (x strand : ℕ) → strand < b.chunks → IsHeld b strand x → IsHeld added strand x
      held_else x strand low' was = ⊎_elim
          (λ (e : strand ≡ h).
          let P : ℕ → Type 0 = λ s. IsHeld added s x in
          let Q : ℕ → Type 0 = λ s. IsHeld b s x in
          let is : IsHeld b h x = subst Q e was in
          subst P (sym e) (held_by x (keeps x is.0 is.1)))
          (λ (ne : strand ≢ h).
          let P : List ℕ → Type 0 = λ cs. Contains cs x in
          (omega (arith, last_else strand ne, was.0), subst P (sym (other_chunks strand low' ne was.0)) was.1))
          (cases_eq strand h)

      held_is : (x : ℕ) → x < b.chunks → at added.owner x < b.chunks → IsHeld added (at added.owner x) x
      held_is x in' has = ⊎_elim
          (λ (e : x ≡ c).
          let P : ℕ → Type 0 = λ y. IsHeld added (at added.owner y) y in
          let Q : ℕ → Type 0 = λ s. IsHeld added s c in
          subst P (sym e) (subst Q (sym owner_is) (held_by c (last_in added h c 0 k h own))))
          (λ (ne : x ≢ c).
          let same = owner_else x ne in
          let low' : at b.owner x < b.chunks = omega arith in
          let Q : ℕ → Type 0 = λ s. IsHeld added s x in
          subst Q (sym same) (held_else x (at b.owner x) low' (good.held x in' low')))
          (cases_eq x c)

      pub added_good : IsBooks added
      added_good = record {
        owners = length-set b.owner c h ∙ good.owners;
        nexts = nexts;
        ranks = length-set b.rank c k ∙ good.ranks;
        lasts = length-set b.last h c ∙ good.lasts;
        free = λ i in'.
            let P : ℕ → Type 0 = λ x. (x < b.chunks) × (at added.owner x ≡ b.chunks) in
            let was = good.free i (let n = rests in omega arith) in
            subst P (sym (rest_at i in')) (was.0, owner_else (at b.free i) (rest_other i in') ∙ was.1);
        apart = λ i j in' in'' same.
            let n = rests in
            good.apart i j (omega arith) (omega arith) (sym (rest_at i in') ∙ (same ∙ rest_at j in''));
        strands = strand_is;
        held = held_is;
        all = let n = rests in let s = sums in let a = good.all in omega arith;
      }

-- a free chunk becomes a strand of its own
module _ (b : Books) (good : IsBooks b) (c : ℕ) (popped : IsPopped b c) where
  pub no_strand : b.chunks ≤ at b.last c
  no_strand = ⊎_elim (λ (has : at b.last c < b.chunks).
      let low = (was_free b good c c 0 b.next popped).0 in
      let owned = run_first b c (at b.last c) 0 (at b.rank (at b.last c)) c (good.strands c low has) in
      absurd (other b good c c 0 b.next popped c c low owned.1 refl))
      (λ (high : b.chunks ≤ at b.last c). high)
      (cases_lt (at b.last c) b.chunks)

  pub begun_run : IsRun (books_with_strand b c) c c 0 0 c
  begun_run = (((was_free b good c c 0 b.next popped).0, owner_is b good c c 0 b.next popped, rank_is b good c c 0 b.next popped), refl)

  pub begun_good : IsBooks (books_with_strand b c)
  begun_good = added_good b good c c 0 b.next popped good.nexts (λ x low ne. refl) (was_free b good c c 0 b.next popped).0 (count_of_none b (at b.last c) no_strand) begun_run
      (λ x has is. let high = no_strand in absurd (omega arith))

-- a free chunk becomes the last of the strand h
module _ (b : Books) (good : IsBooks b) (h c : ℕ) (popped : IsPopped b c) (low : h < b.chunks) (has : at b.last h < b.chunks) where
  abbrev l : ℕ
  l = at b.last h

  abbrev k : ℕ
  k = at b.rank l

  abbrev next : List ℕ
  next = set b.next l c

  ends : IsOwned b h (0 + k) l
  ends = run_last b h l 0 k h (good.strands h low has)

  next_else : (x : ℕ) → x < b.chunks → at b.owner x ≢ h → at next x ≡ at b.next x
  next_else x in' ne = get_or-set_other b.next l x c 0 (λ e. ne (ap (at b.owner) e ∙ ends.1))

  -- the chunks of h before its last one stay
  before : (y : ℕ) → y < b.chunks → at b.owner y ≡ h → at b.rank y < k → Same b (books_with_chunk b h c) y
  before y in' owned less =
      let ne : y ≢ c = other b good h c (k + 1) next popped y h low owned in
      record {
        owner = owner_else b good h c (k + 1) next popped y ne;
        rank = rank_else b good h c (k + 1) next popped y ne;
        next = get_or-set_other b.next l y c 0 (λ e. let r : at b.rank y ≡ k = ap (at b.rank) e in absurd (omega arith));
      }

  pub grown_run : IsRun (books_with_chunk b h c) h c 0 (suc k) h × (run next (suc k) h ≡ run b.next k h ++ c ∷ [])
  grown_run =
      let free = was_free b good h c (k + 1) next popped in
      let ne : l ≢ c = other b good h c (k + 1) next popped l h low ends.1 in
      longer_run b (books_with_chunk b h c) h l k c refl before
      (owner_else b good h c (k + 1) next popped l ne ∙ ends.1)
      (rank_else b good h c (k + 1) next popped l ne)
      (get_or-set_same b.next l c 0 (omega (arith, good.nexts)))
      (free.0, owner_is b good h c (k + 1) next popped, rank_is b good h c (k + 1) next popped)
      0 k h (omega arith) (good.strands h low has)

  pub grown_good : IsBooks (books_with_chunk b h c)
  grown_good =
      let P : ℕ → Type 0 = λ j. IsRun (books_with_chunk b h c) h c 0 j h in
      let more : suc k ≡ k + 1 = omega arith in
      let C : ℕ → ℕ → Type 0 = λ x j. Contains (run next j h) x in
      let D : ℕ → List ℕ → Type 0 = λ x cs. Contains cs x in
      added_good b good h c (k + 1) next popped (length-set b.next l c ∙ good.nexts) next_else low (count_of_strand b l has) (subst P more grown_run.0)
      (λ x _ is. subst (C x) more (subst (D x) (sym grown_run.1) (Contains-append_left (run b.next k h) (c ∷ []) x is)))
