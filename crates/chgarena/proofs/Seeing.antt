-- What contracts see of an arena, from its links and its chunks.
use Rattle.std.proofs.Common.{◌≡◌, ℕ, ◌+◌, ◌<◌, ◌≤◌, ◌^◌, true, false, Option, Some, None, MatchOption, List, [], ◌∷◌, ◌++◌, length, get_or, set, replicate, refl, sym, ap, ◌∙◌, subst, arith}
use Rattle.std.specs.Prelude.{MatchBool, is_some}
use Rattle.std.proofs.lemmas.Bool.{le-leb, lt-leb}
use Rattle.std.proofs.lemmas.List.{length-set, length-replicate, get_or-replicate, ext_get_or}
use Rattle.chgarena.specs.Books.{Books, at, chunks_of}
use Rattle.chgarena.specs.Fill.{filled, sizes}
use Rattle.chgarena.specs.Joined.{AreCounted, IsArena, IsFilled, joined_entries, strands}
use Rattle.chgarena.specs.Links.{IsLinks, IsPopped, IsReleased, books, books_with_chunk, books_with_strand}
use Rattle.chgarena.specs.Pages.{bytes_taken}
use Rattle.chgarena.specs.Strands.{IsOf, entries_of, fills, has_room}
use Rattle.chgarena.specs.declared.links.Links.{Links}
use Rattle.chgarena.proofs.Adding as adding
use Rattle.chgarena.proofs.Counting as counting
use Rattle.chgarena.proofs.Joining as joining
use Rattle.chgarena.proofs.Pushing as pushing

abbrev Pages : Type 0
Pages = List (List (List ℕ))

abbrev Strands : Type 0
Strands = List (Option (List (List ℕ)))

-- an arena whose books are these
pub arena_by : (l : Links) (b : Books) (ps : Pages) (ns : List ℕ) → books l ≡ b → IsLinks l → b.chunks < 2 ^ 32 → length ps ≡ b.chunks → length ns ≡ b.chunks →
    ((x : ℕ) → x < b.chunks → at b.last x < b.chunks → IsFilled b ps x × AreCounted ps ns 0 (chunks_of b x)) → IsArena l ps ns
arena_by l b ps ns e links few long many each =
    let P : Books → Type 0 = λ b'. (b'.chunks < 2 ^ 32) × (length ps ≡ b'.chunks) × (length ns ≡ b'.chunks) ×
    ((x : ℕ) → x < b'.chunks → at b'.last x < b'.chunks → IsFilled b' ps x × AreCounted ps ns 0 (chunks_of b' x)) in
    let is : P (books l) = subst P (sym e) (few, long, many, each) in
    record { links = links; few = is.0; pages = is.1; befores = is.2; filled = λ x low has. (is.3 x low has).0; counted = λ x low has. (is.3 x low has).1 }

module _ (l : Links) (ps : Pages) (ns : List ℕ) (good : IsArena l ps ns) (seen : Strands) (view : strands (books l) ps ≡ seen) where
  abbrev b : Books
  b = books l

  pub length_seen : length seen ≡ l.chunks
  length_seen = ap length (sym view) ∙ joining.length-strands b ps

  pub free_seen : length b.free + fills seen ≡ length seen
  free_seen =
      let P : Strands → Type 0 = λ s. length b.free + fills s ≡ length s in
      subst P view (joining.counted b ps good.links.books good.filled)

  pub of_seen : (h : ℕ) → IsOf seen (Some h) → (h < l.chunks) × (at b.last h < l.chunks)
  of_seen h is =
      let P : Strands → Type 0 = λ s. IsOf s (Some h) in
      joining.has_chunks b ps h (subst P (sym view) is)

  pub entries_seen : (h : ℕ) → IsOf seen (Some h) → entries_of seen (Some h) ≡ joined_entries ps (chunks_of b h)
  entries_seen h is =
      let has = of_seen h is in
      ap (λ s. entries_of s (Some h)) (sym view) ∙ joining.entries_are b ps h has.0 has.1

  pub used_seen : (h : ℕ) → IsOf seen (Some h) → (filled (sizes (entries_of seen (Some h)))).1 ≡ bytes_taken (get_or ps (at b.last h) [])
  used_seen h is =
      let has = of_seen h is in
      ap (λ es. (filled (sizes es)).1) (entries_seen h is) ∙ ap (λ p. p.1) (good.filled h has.0 has.1)

  pub room_is : (h size : ℕ) → IsOf seen (Some h) → bytes_taken (get_or ps (at b.last h) []) + (size + 4) ≤ 16384 → has_room (entries_of seen (Some h)) size ≡ true
  room_is h size is fits = let u = used_seen h is in le-leb ((filled (sizes (entries_of seen (Some h)))).1 + (size + 4)) 16384 (omega arith)

  pub no_room_is : (h size : ℕ) → IsOf seen (Some h) → 16384 < bytes_taken (get_or ps (at b.last h) []) + (size + 4) → has_room (entries_of seen (Some h)) size ≡ false
  no_room_is h size is over = let u = used_seen h is in lt-leb ((filled (sizes (entries_of seen (Some h)))).1 + (size + 4)) 16384 (omega arith)

  -- one entry more in the last chunk of a strand
  module _ (h : ℕ) (is : IsOf seen (Some h)) (e : List ℕ) (fits : bytes_taken (get_or ps (at b.last h) []) + (length e + 4) ≤ 16384) (ps' : Pages)
      (added : ps' ≡ set ps (at b.last h) (get_or ps (at b.last h) [] ++ e ∷ [])) where
    has : (h < l.chunks) × (at b.last h < l.chunks)
    has = of_seen h is

    pub added_arena : IsArena l ps' ns
    added_arena =
        let P : Pages → Type 0 = λ qs. IsArena l qs ns in
        let es = get_or ps (at b.last h) [] ++ e ∷ [] in
        subst P (sym added) (record {
          links = good.links;
          few = good.few;
          pages = length-set ps (at b.last h) es ∙ good.pages;
          befores = good.befores;
          filled = pushing.entry_filled b good.links.books ps good.pages good.filled h has.0 has.1 e fits;
          counted = counting.entry_counted b good.links.books ps good.pages good.filled ns good.befores good.counted h has.0 has.1 es;
        })

    pub added_strands : strands b ps' ≡ set seen h (Some (entries_of seen (Some h) ++ e ∷ []))
    added_strands =
        ap (strands b) added ∙ (pushing.entry_strands b good.links.books ps good.pages good.filled h has.0 has.1 e fits ∙
        (ap (λ s. set s h (Some (joined_entries ps (chunks_of b h) ++ e ∷ []))) view ∙ ap (λ es. set seen h (Some (es ++ e ∷ []))) (sym (entries_seen h is))))

    pub added_says : (strands b ps' ≡ set seen h (Some (entries_of seen (Some h) ++ e ∷ []))) × (has_room (entries_of seen (Some h)) (length e) ≡ false → fills seen < length seen)
    added_says = (added_strands, λ no. let yes = room_is h (length e) is fits in absurd cc)

  -- nothing has changed
  pub same_arena : (l' : Links) → IsLinks l' → (ps' : Pages) → books l' ≡ b → ps' ≡ ps → IsArena l' ps' ns
  same_arena l' links' ps' same pages =
      let P : Pages → Type 0 = λ qs. IsArena l' qs ns in
      subst P (sym pages) (arena_by l' b ps ns same links' good.few good.pages good.befores (λ x low has. (good.filled x low has, good.counted x low has)))

  -- those before the last chunk of a strand and its own are all
  pub count_seen : (h : ℕ) → IsOf seen (Some h) → at ns (at b.last h) + length (get_or ps (at b.last h) []) ≡ length (entries_of seen (Some h))
  count_seen h is =
      let has = of_seen h is in
      let all : at ns (at b.last h) + length (get_or ps (at b.last h) []) ≡ 0 + length (joined_entries ps (chunks_of b h)) =
      counting.counted_last b ps ns h (at b.last h) 0 (at b.rank (at b.last h)) h 0 (good.links.books.strands h has.0 has.1) (good.counted h has.0 has.1) in
      let long : length (entries_of seen (Some h)) ≡ length (joined_entries ps (chunks_of b h)) = ap length (entries_seen h is) in
      omega (arith, all, long)

  -- how many entries stand before the next chunk of a strand
  pub few_before : (h : ℕ) → IsOf seen (Some h) → at ns (at b.last h) + length (get_or ps (at b.last h) []) < 2 ^ 64
  few_before h is =
      let has = of_seen h is in
      let few = counting.few_counted b good.links.books ps good.pages good.filled ns good.befores good.counted h has.0 has.1 in
      omega (arith, good.few)

  -- a chunk more at the end of a strand, or none
  module _ (h : ℕ) (is : IsOf seen (Some h)) (e : List ℕ) (fits : length e ≤ 16380) (over : 16384 < bytes_taken (get_or ps (at b.last h) []) + (length e + 4)) (l' : Links) (links' : IsLinks l') (ps' : Pages) where
    abbrev Behind : Option ℕ → Type 0
    Behind r = MatchOption r ((books l' ≡ b) × (ps' ≡ ps) × (length b.free ≡ 0)) (λ c. IsPopped b c × (books l' ≡ books_with_chunk b h c) × (ps' ≡ set ps c (e ∷ [])))

    had : (h < l.chunks) × (at b.last h < l.chunks)
    had = of_seen h is

    pub after_arena : (c n : ℕ) → Behind (Some c) → n ≡ at ns (at b.last h) + length (get_or ps (at b.last h) []) → IsArena l' ps' (set ns c n)
    after_arena c n done is =
        let P : Pages → Type 0 = λ qs. IsArena l' qs (set ns c n) in
        subst P (sym done.2) (arena_by l' (books_with_chunk b h c) (set ps c (e ∷ [])) (set ns c n) done.1 links' good.few (length-set ps c (e ∷ []) ∙ good.pages) (length-set ns c n ∙ good.befores) (λ x low has. (
          pushing.grown_filled b good.links.books ps good.pages good.filled c done.0 e fits h had.0 had.1 over x low has,
          counting.grown_counted b good.links.books ps good.pages good.filled ns good.befores good.counted c done.0 e fits n h had.0 had.1 over is x low has,
        )))

    pub after_says : (r : Option ℕ) → Behind r → MatchBool (is_some r)
        ((strands (books l') ps' ≡ set seen h (Some (entries_of seen (Some h) ++ e ∷ []))) × (has_room (entries_of seen (Some h)) (length e) ≡ false → fills seen < length seen))
        ((strands (books l') ps' ≡ seen) × (has_room (entries_of seen (Some h)) (length e) ≡ false) × (fills seen ≡ length seen))
    after_says None done =
        (ap (λ b'. strands b' ps') done.0 ∙ (ap (strands b) done.1 ∙ view), no_room_is h (length e) is over, let f = free_seen in omega (arith, done.2))
    after_says (Some c) done = (
      ap (λ b'. strands b' ps') done.1 ∙ (ap (strands (books_with_chunk b h c)) done.2 ∙ (pushing.grown_strands b good.links.books ps good.pages good.filled c done.0 e fits h had.0 had.1 over ∙
          (ap (λ s. set s h (Some (joined_entries ps (chunks_of b h) ++ e ∷ []))) view ∙ ap (λ es. set seen h (Some (es ++ e ∷ []))) (sym (entries_seen h is))))),
      λ _. let f = free_seen in omega (arith, done.0.0),
    )

  -- a strand of its own, or none
  module _ (e : List ℕ) (fits : length e ≤ 16380) (l' : Links) (links' : IsLinks l') (ps' : Pages) where
    abbrev First : Option ℕ → Type 0
    First r = MatchOption r ((books l' ≡ b) × (ps' ≡ ps) × (length b.free ≡ 0)) (λ c. IsPopped b c × (books l' ≡ books_with_strand b c) × (ps' ≡ set ps c (e ∷ [])))

    pub first_arena : (c : ℕ) → First (Some c) → IsArena l' ps' (set ns c 0)
    first_arena c done =
        let P : Pages → Type 0 = λ qs. IsArena l' qs (set ns c 0) in
        subst P (sym done.2) (arena_by l' (books_with_strand b c) (set ps c (e ∷ [])) (set ns c 0) done.1 links' good.few (length-set ps c (e ∷ []) ∙ good.pages) (length-set ns c 0 ∙ good.befores) (λ x low has. (
          pushing.begun_filled b good.links.books ps good.pages good.filled c done.0 e fits x low has,
          counting.begun_counted b good.links.books ps good.pages good.filled ns good.befores good.counted c done.0 e fits 0 refl x low has,
        )))

    pub first_says : (r : Option ℕ) → First r → MatchOption r
        ((strands (books l') ps' ≡ seen) × (fills seen ≡ length seen))
        (λ h. (h < length seen) × (get_or seen h None ≡ None) × (strands (books l') ps' ≡ set seen h (Some (e ∷ []))) × (fills seen < length seen))
    first_says None done = (ap (λ b'. strands b' ps') done.0 ∙ (ap (strands b) done.1 ∙ view), let f = free_seen in omega (arith, done.2))
    first_says (Some c) done =
        let low = (adding.was_free b good.links.books c c 0 b.next done.0).0 in
        let f = free_seen in (
          omega (arith, low, length_seen),
          ap (λ s. get_or s c None) (sym view) ∙ (joining.strands_at b ps c low ∙ joining.no_strand b ps c (adding.no_strand b good.links.books c done.0)),
          ap (λ b'. strands b' ps') done.1 ∙ (ap (strands (books_with_strand b c)) done.2 ∙ (pushing.begun_strands b good.links.books ps good.pages good.filled c done.0 e fits ∙ ap (λ s. set s c (Some (e ∷ []))) view)),
          omega (arith, done.0.0),
        )

  -- a strand less
  module _ (h : ℕ) (is : IsOf seen (Some h)) (l' : Links) (links' : IsLinks l') (gone : IsReleased b h (books l')) where
    pub released_arena : IsArena l' ps ns
    released_arena = record {
      links = links';
      few = let same = gone.0 in omega (arith, good.few);
      pages = good.pages ∙ sym gone.0;
      befores = good.befores ∙ sym gone.0;
      counted = counting.gone_counted b good.links.books ps good.pages good.filled ns good.befores good.counted h (of_seen h is).0 (books l') gone;
      filled = pushing.gone_filled b good.links.books ps good.pages good.filled h (of_seen h is).0 (books l') gone;
    }

    pub released_strands : strands (books l') ps ≡ set seen h None
    released_strands = pushing.gone_strands b good.links.books ps good.pages good.filled h (of_seen h is).0 (books l') gone ∙ ap (λ s. set s h None) view

-- an arena of no strands
pub fresh_strands : (l : Links) (ps : Pages) (n : ℕ) → (books l).chunks ≡ n → (books l).last ≡ replicate n n → strands (books l) ps ≡ replicate n None
fresh_strands l ps n many none =
    let nothing : Option (List (List ℕ)) = None in
    let long = joining.length-strands (books l) ps in
    ext_get_or None (strands (books l) ps) (replicate n nothing) (omega (arith, length-replicate n nothing)) (λ i in'.
    let low : i < n = omega arith in
    let last : at (books l).last i ≡ n = ap (λ ls. at ls i) none ∙ get_or-replicate n i n 0 low in
    joining.strands_at (books l) ps i (omega arith) ∙ (joining.no_strand (books l) ps i (omega arith) ∙ sym (get_or-replicate n i nothing None low)))
