-- The books while the chunks of a strand become free, from the first on, and the books of an arena that is new.
use Rattle.std.proofs.Common.{◌≡◌, ◌≢◌, ℕ, suc, ◌+◌, ◌-◌, ◌<◌, ◌≤◌, [], ◌∷◌, ◌++◌, length, set, replicate, refl, sym, ap, ◌∙◌, subst, arith, ⊎_elim}
use Rattle.std.specs.List.{Contains, sum_by, range_with_len}
use Rattle.std.proofs.lemmas.Bool.{cases_eq, cases_lt}
use Rattle.std.proofs.lemmas.List.{map-id, length-set, length-append, length-replicate, get_or-replicate, get_or_append_left, get_or_push, get_or-set_same, get_or-set_other}
use Rattle.std.proofs.lemmas.List.FromFn.{length-range_with_len, get_or-range_with_len, map-range_with_len_more}
use Rattle.std.proofs.lemmas.List.Sums.{sum_by-set}
use Rattle.chgarena.specs.Books.{Books, IsBooks, IsHeld, IsRun, at, count_to, run}
use Rattle.chgarena.proofs.Runs.{Same, behind_first, run_first, same_run, sum_by_same, sum_by_none, count_of_strand, count_of_none}

-- the strand h, whose last chunk was l, is gone, and `left` of its chunks are still to become free, the first of them c
pub record IsReleasing (b : Books) (h l left c : ℕ) : Type 0 where
  pub owners : length b.owner ≡ b.chunks
  pub nexts : length b.next ≡ b.chunks
  pub ranks : length b.rank ≡ b.chunks
  pub lasts : length b.last ≡ b.chunks
  pub free : (i : ℕ) → i < length b.free → (at b.free i < b.chunks) × (at b.owner (at b.free i) ≡ b.chunks)
  pub apart : (i j : ℕ) → i < length b.free → j < length b.free → at b.free i ≡ at b.free j → i ≡ j
  pub others : (x : ℕ) → x < b.chunks → x ≢ h → at b.last x < b.chunks → IsRun b x (at b.last x) 0 (at b.rank (at b.last x)) x
  pub own : (m : ℕ) → left ≡ m + 1 → (r : ℕ) × IsRun b h l r m c
  pub held : (x : ℕ) → x < b.chunks → at b.owner x < b.chunks → at b.owner x ≢ h → IsHeld b (at b.owner x) x
  pub mine : (x : ℕ) → x < b.chunks → at b.owner x ≡ h → (m : ℕ) × (left ≡ m + 1) × Contains (run b.next m c) x
  pub gone : at b.last h ≡ b.chunks
  pub all : length b.free + left + sum_by (count_to b) b.last ≡ b.chunks

-- it begins
module _ (b : Books) (good : IsBooks b) (h : ℕ) (low : h < b.chunks) (has : at b.last h < b.chunks) where
  abbrev pub ended : Books
  ended = record b { last = set b.last h b.chunks }

  stays : (x : ℕ) → Same b ended x
  stays x = record { owner = refl; rank = refl; next = refl }

  pub begun_releasing : IsReleasing ended h (at b.last h) (at b.rank (at b.last h) + 1) h
  begun_releasing = record {
    owners = good.owners;
    nexts = good.nexts;
    ranks = good.ranks;
    lasts = length-set b.last h b.chunks ∙ good.lasts;
    free = good.free;
    apart = good.apart;
    others = λ x in' ne has'.
        let e : at ended.last x ≡ at b.last x = get_or-set_other b.last h x b.chunks 0 ne in
        let P : ℕ → Type 0 = λ l. IsRun ended x l 0 (at b.rank l) x in
        let L : ℕ → Type 0 = λ l. l < b.chunks in
        subst P (sym e) (same_run b ended x (at b.last x) refl 0 (at b.rank (at b.last x)) x (λ y _ _ _. stays y) (good.strands x in' (subst L e has'))).0;
    own = λ m e.
        let k : at b.rank (at b.last h) ≡ m = omega arith in
        let P : ℕ → Type 0 = λ j. IsRun ended h (at b.last h) 0 j h in
        (0, subst P k (same_run b ended h (at b.last h) refl 0 (at b.rank (at b.last h)) h (λ y _ _ _. stays y) (good.strands h low has)).0);
    held = λ x in' has' ne.
        let e : at ended.last (at b.owner x) ≡ at b.last (at b.owner x) = get_or-set_other b.last h (at b.owner x) b.chunks 0 ne in
        let P : ℕ → Type 0 = λ l. (l < b.chunks) × Contains (run b.next (at b.rank l) (at b.owner x)) x in
        subst P (sym e) (good.held x in' has');
    mine = λ x in' owned.
        let P : ℕ → Type 0 = λ s. IsHeld b s x in
        (at b.rank (at b.last h), refl, (subst P owned (good.held x in' (omega arith))).1);
    gone = get_or-set_same b.last h b.chunks 0 (omega (arith, good.lasts));
    all =
        let moved = sum_by-set (count_to b) b.last h b.chunks 0 (omega (arith, good.lasts)) in
        let before = count_of_strand b (at b.last h) has in
        let after = count_of_none b b.chunks (omega arith) in
        let same : sum_by (count_to ended) ended.last ≡ sum_by (count_to b) ended.last = sum_by_same (count_to ended) (count_to b) ended.last (λ i _. refl) in
        let a = good.all in
        omega arith;
  }

-- one more chunk becomes free
module _ (b : Books) (h l left c : ℕ) (going : IsReleasing b h l left c) (low : h < b.chunks) (more : 0 < left) where
  abbrev pub freed : Books
  freed = record b { owner = set b.owner c b.chunks; free = b.free ++ c ∷ [] }

  pub own_first : (c < b.chunks) × (at b.owner c ≡ h)
  own_first =
      let is = going.own (left - 1) (omega arith) in
      let first = run_first b h l is.0 (left - 1) c is.1 in
      (first.0, first.1)

  -- there is room for it
  pub room_for_one : length b.free < b.chunks
  room_for_one = omega (arith, going.all)

  owner_else : (x : ℕ) → x ≢ c → at freed.owner x ≡ at b.owner x
  owner_else x ne = get_or-set_other b.owner c x b.chunks 0 ne

  owned_else : (x strand : ℕ) → at b.owner x ≡ strand → strand ≢ h → x ≢ c
  owned_else x strand owned ne e = ne (sym owned ∙ (ap (at b.owner) e ∙ own_first.1))

  lengths : length freed.free ≡ length b.free + 1
  lengths = length-append b.free (c ∷ [])

  old_at : (i : ℕ) → i < length b.free → at freed.free i ≡ at b.free i
  old_at i in' = get_or_append_left b.free (c ∷ []) 0 i in'

  new_at : (i : ℕ) → i < length freed.free → length b.free ≤ i → at freed.free i ≡ c
  new_at i in' high = get_or_push b.free c 0 i (let n = lengths in omega arith)

  was_not_free : (i : ℕ) → i < length b.free → at b.free i ≢ c
  was_not_free i in' = owned_else (at b.free i) b.chunks (going.free i in').1 (λ e. absurd (omega arith))

  free_is : (i : ℕ) → i < length freed.free → (at freed.free i < b.chunks) × (at freed.owner (at freed.free i) ≡ b.chunks)
  free_is i in' =
      let P : ℕ → Type 0 = λ x. (x < b.chunks) × (at freed.owner x ≡ b.chunks) in
      ⊎_elim
      (λ (old : i < length b.free). subst P (sym (old_at i old)) ((going.free i old).0, owner_else (at b.free i) (was_not_free i old) ∙ (going.free i old).1))
      (λ (new : length b.free ≤ i). subst P (sym (new_at i in' new)) (own_first.0, get_or-set_same b.owner c b.chunks 0 (omega (arith, own_first.0, going.owners))))
      (cases_lt i (length b.free))

  apart_is : (i j : ℕ) → i < length freed.free → j < length freed.free → at freed.free i ≡ at freed.free j → i ≡ j
  apart_is i j in' in'' same = ⊎_elim
      (λ (i_old : i < length b.free). ⊎_elim
      (λ (j_old : j < length b.free). going.apart i j i_old j_old (sym (old_at i i_old) ∙ (same ∙ old_at j j_old)))
      (λ (j_new : length b.free ≤ j). absurd (was_not_free i i_old (sym (old_at i i_old) ∙ (same ∙ new_at j in'' j_new))))
      (cases_lt j (length b.free)))
      (λ (i_new : length b.free ≤ i). ⊎_elim
      (λ (j_old : j < length b.free). absurd (was_not_free j j_old (sym (old_at j j_old) ∙ (sym same ∙ new_at i in' i_new))))
      (λ (j_new : length b.free ≤ j). let n = lengths in omega arith)
      (cases_lt j (length b.free)))
      (cases_lt i (length b.free))

  still : (x : ℕ) → at freed.owner x < b.chunks → x ≢ c
  still x has e =
      let free : at freed.owner c ≡ b.chunks = get_or-set_same b.owner c b.chunks 0 (omega (arith, own_first.0, going.owners)) in
      let same : at freed.owner x ≡ at freed.owner c = ap (at freed.owner) e in
      absurd (omega arith)

  pub freed_releasing : IsReleasing freed h l (left - 1) (at b.next c)
  freed_releasing = record {
    owners = length-set b.owner c b.chunks ∙ going.owners;
    nexts = going.nexts;
    ranks = going.ranks;
    lasts = going.lasts;
    free = free_is;
    apart = apart_is;
    others = λ x in' ne has. (same_run b freed x (at b.last x) refl 0 (at b.rank (at b.last x)) x
        (λ y _ owned _. record { owner = owner_else y (owned_else y x owned ne); rank = refl; next = refl }) (going.others x in' ne has)).0;
    own = λ m e.
        let is = going.own (suc m) (omega arith) in (
          is.0 + 1,
          (same_run b freed h l refl (is.0 + 1) m (at b.next c)
              (λ y _ owned high. record { owner = owner_else y (λ e'. let r : at b.rank y ≡ at b.rank c = ap (at b.rank) e' in absurd (omega (arith, is.1.0.2))); rank = refl; next = refl }) is.1.1).0,
        );
    held = λ x in' has ne.
        let same = owner_else x (still x has) in
        let P : ℕ → Type 0 = λ s. IsHeld b s x in
        subst P (sym same) (going.held x in' (omega arith) (λ e. ne (same ∙ e)));
    mine = λ x in' owned.
        let ne = still x (omega arith) in
        let was = going.mine x in' (sym (owner_else x ne) ∙ owned) in
        let rest = behind_first b.next was.0 c x ne was.2 in
        (rest.0, let n = was.1 in let n' = rest.1 in omega arith, rest.2);
    gone = going.gone;
    all =
        let n = lengths in
        let same : sum_by (count_to freed) b.last ≡ sum_by (count_to b) b.last = sum_by_same (count_to freed) (count_to b) b.last (λ i _. refl) in
        let a = going.all in
        omega arith;
  }

-- none is left
pub released_good : (b : Books) (h l c : ℕ) → IsReleasing b h l 0 c → IsBooks b
released_good b h l c going = record {
  owners = going.owners;
  nexts = going.nexts;
  ranks = going.ranks;
  lasts = going.lasts;
  free = going.free;
  apart = going.apart;
  strands = λ x in' has. ⊎_elim
      (λ (e : x ≡ h). let gone : at b.last x ≡ b.chunks = ap (at b.last) e ∙ going.gone in absurd (omega arith))
      (λ (ne : x ≢ h). going.others x in' ne has)
      (cases_eq x h);
  held = λ x in' has. ⊎_elim
      (λ (e : at b.owner x ≡ h). let none = going.mine x in' e in let n = none.1 in absurd (omega arith))
      (λ (ne : at b.owner x ≢ h). going.held x in' has ne)
      (cases_eq (at b.owner x) h);
  all = let a = going.all in omega arith;
}

-- all chunks are free
abbrev pub fresh : ℕ → Books
fresh n = record { chunks = n; owner = replicate n n; next = replicate n n; rank = replicate n 0; last = replicate n n; free = range_with_len 0 n }

pub fresh_good : (n : ℕ) → IsBooks (fresh n)
fresh_good n = record {
  owners = length-replicate n n;
  nexts = length-replicate n n;
  ranks = length-replicate n 0;
  lasts = length-replicate n n;
  free = λ i in'.
      let P : ℕ → Type 0 = λ x. (x < n) × (at (replicate n n) x ≡ n) in
      let low : i < n = omega (arith, length-range_with_len 0 n) in
      let e : i ≡ at (range_with_len 0 n) i = omega (arith, get_or-range_with_len 0 n i 0 low) in
      subst P e (low, get_or-replicate n i n 0 low);
  apart = λ i j in' in'' same.
      let low : i < n = omega (arith, length-range_with_len 0 n) in
      let low' : j < n = omega (arith, length-range_with_len 0 n) in
      omega (arith, get_or-range_with_len 0 n i 0 low, get_or-range_with_len 0 n j 0 low');
  strands = λ x in' has. let e = get_or-replicate n x n 0 in' in absurd (omega arith);
  held = λ x in' has. let e = get_or-replicate n x n 0 in' in absurd (omega arith);
  all =
      let none = sum_by_none (count_to (fresh n)) (replicate n n) (λ i in'.
      let low : i < n = omega (arith, length-replicate n n) in
      ap (count_to (fresh n)) (get_or-replicate n i n 0 low) ∙ count_of_none (fresh n) n (omega arith)) in
      let l = length-range_with_len 0 n in
      omega arith;
}

pub range_more : (n : ℕ) → range_with_len 0 (n + 1) ≡ range_with_len 0 n ++ n ∷ []
range_more n = sym (map-id (range_with_len 0 (n + 1))) ∙ (map-range_with_len_more (λ x. x) 0 n n (omega arith) ∙ ap (λ xs. xs ++ n ∷ []) (map-id (range_with_len 0 n)))
