-- The strands of an arena with one entry more, or one strand less.
use Rattle.std.proofs.Common.{◌≡◌, ◌≢◌, ℕ, suc, ◌+◌, ◌<◌, ◌≤◌, cond, Some, None, List, [], ◌∷◌, ◌++◌, length, get_or, set, refl, sym, ap, ◌∙◌, arith}
use Rattle.std.proofs.lemmas.Bool.{le-leb, lt-leb}
use Rattle.std.proofs.lemmas.List.{append-nil, map-append, get_or-set_same, get_or-set_other}
use Rattle.std.proofs.lemmas.List.Concat.{flat_map-append}
use Rattle.std.proofs.lemmas.List.Sums.{fold-append}
use Rattle.chgarena.specs.Books.{Books, IsBooks, IsRun, at, chunks_of, run}
use Rattle.chgarena.specs.Fill.{filled, sizes, with_size}
use Rattle.chgarena.specs.Joined.{IsFilled, joined_entries, strands}
use Rattle.chgarena.specs.Links.{IsPopped, IsReleased, books_with_chunk, books_with_strand}
use Rattle.chgarena.specs.Pages.{bytes_taken}
use Rattle.chgarena.proofs.Runs.{run_last}
use Rattle.chgarena.proofs.Adding.{other, other_run, was_free, rank_is, rank_else, last_is, last_else, last_other, grown_good, grown_run}
use Rattle.chgarena.proofs.Coding.{taken_push}
use Rattle.chgarena.proofs.Joining.{Kept, all_filled, joined_more, joined_same, no_strand, one_changed, some_strand}

-- one entry more
pub filled_more : (es : List (List ℕ)) (e : List ℕ) → filled (sizes (es ++ e ∷ [])) ≡ with_size (filled (sizes es)) (length e)
filled_more es e = ap filled (map-append (λ (x : List ℕ). length x) es (e ∷ [])) ∙ fold-append with_size (0, 16384) (sizes es) (length e ∷ [])

pub fits_in : (chunks used size : ℕ) → used + (size + 4) ≤ 16384 → with_size (chunks, used) size ≡ (chunks, used + (size + 4))
fits_in chunks used size fits = ap (λ t. cond t (chunks, used + (size + 4)) (chunks + 1, size + 4)) (le-leb (used + (size + 4)) 16384 fits)

pub opens_next : (chunks used size : ℕ) → 16384 < used + (size + 4) → with_size (chunks, used) size ≡ (chunks + 1, size + 4)
opens_next chunks used size over = ap (λ t. cond t (chunks, used + (size + 4)) (chunks + 1, size + 4)) (lt-leb (used + (size + 4)) 16384 over)

module _ (b : Books) (good : IsBooks b) (ps : List (List (List ℕ))) (long : length ps ≡ b.chunks) (full : (x : ℕ) → x < b.chunks → at b.last x < b.chunks → IsFilled b ps x) where
  run_of : (x : ℕ) → x < b.chunks → at b.last x < b.chunks → IsRun b x (at b.last x) 0 (at b.rank (at b.last x)) x
  run_of x low has = good.strands x low has

  owner_of_last : (x : ℕ) → x < b.chunks → at b.last x < b.chunks → at b.owner (at b.last x) ≡ x
  owner_of_last x low has = (run_last b x (at b.last x) 0 (at b.rank (at b.last x)) x (run_of x low has)).1

  -- the last chunk of the strand h has one entry more
  module _ (h : ℕ) (low : h < b.chunks) (has : at b.last h < b.chunks) (e : List ℕ) (fits : bytes_taken (get_or ps (at b.last h) []) + (length e + 4) ≤ 16384) where
    abbrev l : ℕ
    l = at b.last h

    abbrev pub with_entry : List (List (List ℕ))
    with_entry = set ps l (get_or ps l [] ++ e ∷ [])

    page_is : get_or with_entry l [] ≡ get_or ps l [] ++ e ∷ []
    page_is = get_or-set_same ps l (get_or ps l [] ++ e ∷ []) [] (omega arith)

    page_else : (y : ℕ) → y ≢ l → get_or with_entry y [] ≡ get_or ps y []
    page_else y ne = get_or-set_other ps l y (get_or ps l [] ++ e ∷ []) [] ne

    entry_kept : (x : ℕ) → x < b.chunks → x ≢ h → Kept b b ps with_entry x
    entry_kept x low' ne =
        let another : (y : ℕ) → at b.owner y ≡ x → y ≢ l = λ y owned is. ne (sym owned ∙ (ap (at b.owner) is ∙ owner_of_last h low has)) in
        record {
          last = refl;
          chunks = λ _. refl;
          rank = λ _. refl;
          entries = λ has'. joined_same b ps with_entry x (at b.last x) 0 (at b.rank (at b.last x)) x (λ y _ owned. page_else y (another y owned)) (run_of x low' has');
          end = λ has'. page_else (at b.last x) (another (at b.last x) (owner_of_last x low' has'));
        }

    joined_entry : joined_entries with_entry (chunks_of b h) ≡ joined_entries ps (chunks_of b h) ++ e ∷ []
    joined_entry = joined_more b ps with_entry h l (at b.rank l) 0 (at b.rank l) h e
        (λ y _ _ less. page_else y (λ is. let same : at b.rank y ≡ at b.rank l = ap (at b.rank) is in absurd (omega arith))) page_is (omega arith) (run_of h low has)

    filled_entry : IsFilled b with_entry h
    filled_entry =
        ap (λ es. filled (sizes es)) joined_entry ∙ (filled_more (joined_entries ps (chunks_of b h)) e ∙ (ap (λ p. with_size p (length e)) (full h low has) ∙
        (fits_in (at b.rank l + 1) (bytes_taken (get_or ps l [])) (length e) fits ∙
        ap (λ n. (at b.rank l + 1, n)) (sym (taken_push (get_or ps l []) e) ∙ ap (λ es. bytes_taken es) (sym page_is)))))

    pub entry_strands : strands b with_entry ≡ set (strands b ps) h (Some (joined_entries ps (chunks_of b h) ++ e ∷ []))
    entry_strands = one_changed b b ps with_entry refl h (Some (joined_entries ps (chunks_of b h) ++ e ∷ [])) low entry_kept (some_strand b with_entry h has ∙ ap (λ es. Some es) joined_entry)

    pub entry_filled : (x : ℕ) → x < b.chunks → at b.last x < b.chunks → IsFilled b with_entry x
    entry_filled = all_filled b b ps with_entry refl h entry_kept full (λ _. filled_entry)

  -- a chunk that was free has the entry alone
  module _ (c : ℕ) (popped : IsPopped b c) (e : List ℕ) (fits : length e ≤ 16380) where
    abbrev pub with_page : List (List (List ℕ))
    with_page = set ps c (e ∷ [])

    new_page : get_or with_page c [] ≡ e ∷ []
    new_page = get_or-set_same ps c (e ∷ []) [] (omega (arith, (was_free b good c c 0 b.next popped).0))

    old_page : (y : ℕ) → y ≢ c → get_or with_page y [] ≡ get_or ps y []
    old_page y ne = get_or-set_other ps c y (e ∷ []) [] ne

    new_length : bytes_taken (get_or with_page c []) ≡ length e + 4
    new_length = let n : bytes_taken (e ∷ []) ≡ 0 + (length e + 4) = taken_push [] e in ap (λ es. bytes_taken es) new_page ∙ omega arith

    -- the last of the strand h
    module _ (h : ℕ) (low : h < b.chunks) (has : at b.last h < b.chunks) (over : 16384 < bytes_taken (get_or ps (at b.last h) []) + (length e + 4)) where
      abbrev k : ℕ
      k = at b.rank (at b.last h)

      abbrev b' : Books
      b' = books_with_chunk b h c

      else_next : (x : ℕ) → x < b.chunks → at b.owner x ≢ h → at b'.next x ≡ at b.next x
      else_next x in' ne = get_or-set_other b.next (at b.last h) x c 0 (λ is. ne (ap (at b.owner) is ∙ owner_of_last h low has))

      nexts : length b'.next ≡ b.chunks
      nexts = (grown_good b good h c popped low has).nexts

      pub grown_kept : (x : ℕ) → x < b.chunks → x ≢ h → Kept b b' ps with_page x
      grown_kept x low' ne =
          let last : at b'.last x ≡ at b.last x = last_else b good h c (k + 1) b'.next popped x ne in
          let rank : at b.last x < b.chunks → at b'.rank (at b.last x) ≡ at b.rank (at b.last x) = λ has'. rank_else b good h c (k + 1) b'.next popped (at b.last x) (last_other b good h c (k + 1) b'.next popped x low' has') in
          record {
            last = last;
            rank = rank;
            chunks = λ has'. ap (λ l. run b'.next (at b'.rank l) x) last ∙ (ap (λ j. run b'.next j x) (rank has') ∙
                (other_run b good h c (k + 1) b'.next popped nexts else_next low x low' ne has' 0 (at b.rank (at b.last x)) x (run_of x low' has')).1);
            entries = λ has'. joined_same b ps with_page x (at b.last x) 0 (at b.rank (at b.last x)) x (λ y _ owned. old_page y (other b good h c (k + 1) b'.next popped y x low' owned)) (run_of x low' has');
            end = λ has'. old_page (at b.last x) (last_other b good h c (k + 1) b'.next popped x low' has');
          }

      last_grown : at b'.last h ≡ c
      last_grown = last_is b good h c (k + 1) b'.next popped low

      rank_grown : at b'.rank c ≡ k + 1
      rank_grown = rank_is b good h c (k + 1) b'.next popped

      pub chunks_grown : chunks_of b' h ≡ chunks_of b h ++ c ∷ []
      chunks_grown =
          let more : k + 1 ≡ suc k = omega arith in
          ap (λ l. run b'.next (at b'.rank l) h) last_grown ∙ (ap (λ j. run b'.next j h) (rank_grown ∙ more) ∙ (grown_run b good h c popped low has).1)

      joined_grown : joined_entries with_page (chunks_of b' h) ≡ joined_entries ps (chunks_of b h) ++ e ∷ []
      joined_grown =
          ap (joined_entries with_page) chunks_grown ∙ (flat_map-append (λ y. get_or with_page y []) (chunks_of b h) (c ∷ []) ∙
          (ap (λ es. es ++ (get_or with_page c [] ++ [])) (joined_same b ps with_page h (at b.last h) 0 k h (λ y _ owned. old_page y (other b good h c (k + 1) b'.next popped y h low owned)) (run_of h low has)) ∙
          ap (λ es. joined_entries ps (chunks_of b h) ++ es) (append-nil (get_or with_page c []) ∙ new_page)))

      filled_grown : IsFilled b' with_page h
      filled_grown =
          ap (λ es. filled (sizes es)) joined_grown ∙ (filled_more (joined_entries ps (chunks_of b h)) e ∙ (ap (λ p. with_size p (length e)) (full h low has) ∙
          (opens_next (k + 1) (bytes_taken (get_or ps (at b.last h) [])) (length e) over ∙
          sym (ap (λ l. (at b'.rank l + 1, bytes_taken (get_or with_page l []))) last_grown ∙ (ap (λ j. (j + 1, bytes_taken (get_or with_page c []))) rank_grown ∙ ap (λ n. (k + 1 + 1, n)) new_length)))))

      pub grown_strands : strands b' with_page ≡ set (strands b ps) h (Some (joined_entries ps (chunks_of b h) ++ e ∷ []))
      grown_strands = one_changed b b' ps with_page refl h (Some (joined_entries ps (chunks_of b h) ++ e ∷ [])) low grown_kept
          (some_strand b' with_page h (omega (arith, last_grown, (was_free b good c c 0 b.next popped).0)) ∙ ap (λ es. Some es) joined_grown)

      pub grown_filled : (x : ℕ) → x < b.chunks → at b'.last x < b.chunks → IsFilled b' with_page x
      grown_filled = all_filled b b' ps with_page refl h grown_kept full (λ _. filled_grown)

    -- a strand of its own
    abbrev b₀ : Books
    b₀ = books_with_strand b c

    pub begun_kept : (x : ℕ) → x < b.chunks → x ≢ c → Kept b b₀ ps with_page x
    begun_kept x low' ne =
        let last : at b₀.last x ≡ at b.last x = last_else b good c c 0 b.next popped x ne in
        let rank : at b.last x < b.chunks → at b₀.rank (at b.last x) ≡ at b.rank (at b.last x) = λ has'. rank_else b good c c 0 b.next popped (at b.last x) (last_other b good c c 0 b.next popped x low' has') in
        record {
          last = last;
          rank = rank;
          chunks = λ has'. ap (λ l. run b.next (at b₀.rank l) x) last ∙ ap (λ j. run b.next j x) (rank has');
          entries = λ has'. joined_same b ps with_page x (at b.last x) 0 (at b.rank (at b.last x)) x (λ y _ owned. old_page y (other b good c c 0 b.next popped y x low' owned)) (run_of x low' has');
          end = λ has'. old_page (at b.last x) (last_other b good c c 0 b.next popped x low' has');
        }

    in_range : c < b.chunks
    in_range = (was_free b good c c 0 b.next popped).0

    last_begun : at b₀.last c ≡ c
    last_begun = last_is b good c c 0 b.next popped in_range

    rank_begun : at b₀.rank c ≡ 0
    rank_begun = rank_is b good c c 0 b.next popped

    pub chunks_begun : chunks_of b₀ c ≡ c ∷ []
    chunks_begun = ap (λ l. run b.next (at b₀.rank l) c) last_begun ∙ ap (λ j. run b.next j c) rank_begun

    joined_begun : joined_entries with_page (chunks_of b₀ c) ≡ e ∷ []
    joined_begun = ap (joined_entries with_page) chunks_begun ∙ (append-nil (get_or with_page c []) ∙ new_page)

    filled_begun : IsFilled b₀ with_page c
    filled_begun =
        ap (λ es. filled (sizes es)) joined_begun ∙ (opens_next 0 16384 (length e) (omega arith) ∙
        sym (ap (λ l. (at b₀.rank l + 1, bytes_taken (get_or with_page l []))) last_begun ∙ (ap (λ j. (j + 1, bytes_taken (get_or with_page c []))) rank_begun ∙ ap (λ n. (1, n)) new_length)))

    pub begun_strands : strands b₀ with_page ≡ set (strands b ps) c (Some (e ∷ []))
    begun_strands = one_changed b b₀ ps with_page refl c (Some (e ∷ [])) in_range begun_kept (some_strand b₀ with_page c (omega (arith, last_begun, in_range)) ∙ ap (λ es. Some es) joined_begun)

    pub begun_filled : (x : ℕ) → x < b.chunks → at b₀.last x < b.chunks → IsFilled b₀ with_page x
    begun_filled = all_filled b b₀ ps with_page refl c begun_kept full (λ _. filled_begun)

  -- a strand is gone
  module _ (h : ℕ) (low : h < b.chunks) (b' : Books) (gone : IsReleased b h b') where
    pub last_gone : at b'.last h ≡ b.chunks
    last_gone = ap (λ ls. at ls h) gone.3 ∙ get_or-set_same b.last h b.chunks 0 (omega (arith, good.lasts))

    pub gone_kept : (x : ℕ) → x < b.chunks → x ≢ h → Kept b b' ps ps x
    gone_kept x low' ne =
        let last : at b'.last x ≡ at b.last x = ap (λ ls. at ls x) gone.3 ∙ get_or-set_other b.last h x b.chunks 0 ne in
        record {
          last = last;
          rank = λ _. ap (λ rs. at rs (at b.last x)) gone.2;
          chunks = λ _. ap (λ l. run b'.next (at b'.rank l) x) last ∙ (ap (λ rs. run b'.next (at rs (at b.last x)) x) gone.2 ∙ ap (λ ns. run ns (at b.rank (at b.last x)) x) gone.1);
          entries = λ _. refl;
          end = λ _. refl;
        }

    pub gone_strands : strands b' ps ≡ set (strands b ps) h None
    gone_strands = one_changed b b' ps ps gone.0 h None low gone_kept (no_strand b' ps h (omega (arith, last_gone, gone.0)))

    pub gone_filled : (x : ℕ) → x < b'.chunks → at b'.last x < b'.chunks → IsFilled b' ps x
    gone_filled = all_filled b b' ps ps gone.0 h gone_kept full (λ has. absurd (omega (arith, last_gone, gone.0)))
