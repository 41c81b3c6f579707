-- What the strands of an arena are when its books or its chunks change.
use Rattle.std.proofs.Common.{◌≡◌, ◌≢◌, ℕ, zero, suc, ◌+◌, ◌<◌, ◌≤◌, cond, Option, Some, None, List, [], ◌∷◌, ◌++◌, length, get_or, set, refl, sym, ap, ◌∙◌, subst, arith, ⊎_elim}
use Rattle.std.specs.List.{sum_by}
use Rattle.std.proofs.lemmas.Bool.{cases_eq, cases_lt, lt-ltb, le-ltb}
use Rattle.std.proofs.lemmas.List.{append-nil, append_assoc, length-set, get_or-set_same, get_or-set_other, ext_get_or}
use Rattle.std.proofs.lemmas.List.FromFn.{length-map-range_with_len, get_or-map-range_with_len}
use Rattle.std.proofs.lemmas.List.Sums.{sum_by-cons}
use Rattle.chgarena.specs.Books.{Books, IsBooks, IsRun, at, chunks_of, count_to, run}
use Rattle.chgarena.specs.Fill.{fill, filled, sizes}
use Rattle.chgarena.specs.Joined.{IsFilled, joined_entries, strand_at, strands}
use Rattle.chgarena.specs.Pages.{bytes_taken}
use Rattle.chgarena.specs.Strands.{IsOf, entries_at, entries_of, fills}
use Rattle.chgarena.proofs.Runs.{count_of_strand, count_of_none}

module _ (b : Books) (ps : List (List (List ℕ))) where
  pub some_strand : (h : ℕ) → at b.last h < b.chunks → strand_at b ps h ≡ Some (joined_entries ps (chunks_of b h))
  some_strand h has = ap (λ t. cond t (Some (joined_entries ps (chunks_of b h))) None) (lt-ltb (at b.last h) b.chunks has)

  pub no_strand : (h : ℕ) → b.chunks ≤ at b.last h → strand_at b ps h ≡ None
  no_strand h high = ap (λ t. cond t (Some (joined_entries ps (chunks_of b h))) None) (le-ltb (at b.last h) b.chunks high)

  pub length-strands : length (strands b ps) ≡ b.chunks
  length-strands = length-map-range_with_len (strand_at b ps) 0 b.chunks

  pub strands_at : (h : ℕ) → h < b.chunks → get_or (strands b ps) h None ≡ strand_at b ps h
  strands_at h low = get_or-map-range_with_len (strand_at b ps) 0 b.chunks h h None low (omega arith)

  -- a strand that the arena made has chunks
  pub has_chunks : (h : ℕ) → IsOf (strands b ps) (Some h) → (h < b.chunks) × (at b.last h < b.chunks)
  has_chunks h is =
      let low : h < b.chunks = omega (arith, is.0, length-strands) in (
        low,
        ⊎_elim (λ (has : at b.last h < b.chunks). has)
            (λ (high : b.chunks ≤ at b.last h). let none : None ≡ Some is.1 = sym (no_strand h high) ∙ (sym (strands_at h low) ∙ is.2) in absurd cc)
            (cases_lt (at b.last h) b.chunks),
      )

  pub entries_are : (h : ℕ) → h < b.chunks → at b.last h < b.chunks → entries_of (strands b ps) (Some h) ≡ joined_entries ps (chunks_of b h)
  entries_are h low has = ap entries_at (strands_at h low ∙ some_strand h has)

-- two sums of as many numbers
sums_same : {X Y : Type 0} (f : X → ℕ) (g : Y → ℕ) (xs : List X) (ys : List Y) (d : X) (e : Y) → length xs ≡ length ys → ((i : ℕ) → i < length xs → f (get_or xs i d) ≡ g (get_or ys i e)) → sum_by f xs ≡ sum_by g ys
sums_same f g [] [] d e long same = refl
sums_same f g [] (y ∷ ys) d e long same = absurd (omega arith)
sums_same f g (x ∷ xs) [] d e long same = absurd (omega arith)
sums_same f g (x ∷ xs) (y ∷ ys) d e long same =
    let first : f x ≡ g y = same 0 (omega arith) in
    let rest : sum_by f xs ≡ sum_by g ys = sums_same f g xs ys d e (omega arith) (λ i low. same (suc i) (omega arith)) in
    omega (arith, sum_by-cons f x xs, sum_by-cons g y ys)

-- the chunks of all strands are those that are not free
pub counted : (b : Books) (ps : List (List (List ℕ))) → IsBooks b → ((h : ℕ) → h < b.chunks → at b.last h < b.chunks → IsFilled b ps h) → length b.free + fills (strands b ps) ≡ length (strands b ps)
counted b ps good full =
    let f : Option (List (List ℕ)) → ℕ = λ s. fill (sizes (entries_at s)) in
    let n = length-strands b ps in
    let same : fills (strands b ps) ≡ sum_by (count_to b) b.last = sums_same f (count_to b) (strands b ps) b.last None 0 (n ∙ sym good.lasts) (λ i in'.
    let low : i < b.chunks = omega arith in
    ⊎_elim
    (λ (has : at b.last i < b.chunks). ap f (strands_at b ps i low ∙ some_strand b ps i has) ∙ (ap (λ p. p.0) (full i low has) ∙ sym (count_of_strand b (at b.last i) has)))
    (λ (high : b.chunks ≤ at b.last i). ap f (strands_at b ps i low ∙ no_strand b ps i high) ∙ sym (count_of_none b (at b.last i) high))
    (cases_lt (at b.last i) b.chunks)) in
    let a = good.all in
    omega arith

-- the entries of a run whose chunks stay
pub joined_same : (b : Books) (ps ps' : List (List (List ℕ))) (x l r m c : ℕ) → ((y : ℕ) → y < b.chunks → at b.owner y ≡ x → get_or ps' y [] ≡ get_or ps y []) → IsRun b x l r m c →
    joined_entries ps' (run b.next m c) ≡ joined_entries ps (run b.next m c)
joined_same b ps ps' x l r zero c same is = ap (λ es. es ++ []) (same c is.0.0 is.0.1)
joined_same b ps ps' x l r (suc m) c same is =
    ap (λ es. es ++ joined_entries ps' (run b.next m (at b.next c))) (same c is.0.0 is.0.1) ∙
    ap (λ es. get_or ps c [] ++ es) (joined_same b ps ps' x l (r + 1) m (at b.next c) same is.1)

-- the entries of a run whose last chunk has one more
pub joined_more : (b : Books) (ps ps' : List (List (List ℕ))) (h l k r m c : ℕ) (e : List ℕ) → ((y : ℕ) → y < b.chunks → at b.owner y ≡ h → at b.rank y < k → get_or ps' y [] ≡ get_or ps y []) →
    get_or ps' l [] ≡ get_or ps l [] ++ e ∷ [] → r + m ≡ k → IsRun b h l r m c → joined_entries ps' (run b.next m c) ≡ joined_entries ps (run b.next m c) ++ e ∷ []
joined_more b ps ps' h l k r zero c e same more end is =
    let P : ℕ → Type 0 = λ y. joined_entries ps' (y ∷ []) ≡ joined_entries ps (y ∷ []) ++ e ∷ [] in
    subst P (sym is.1) (append-nil (get_or ps' l []) ∙ (more ∙ ap (λ es. es ++ e ∷ []) (sym (append-nil (get_or ps l [])))))
joined_more b ps ps' h l k r (suc m) c e same more end is =
    ap (λ es. es ++ joined_entries ps' (run b.next m (at b.next c))) (same c is.0.0 is.0.1 (omega (arith, is.0.2))) ∙
    (ap (λ es. get_or ps c [] ++ es) (joined_more b ps ps' h l k (r + 1) m (at b.next c) e same more (omega arith) is.1) ∙
    sym (append_assoc (get_or ps c []) (joined_entries ps (run b.next m (at b.next c))) (e ∷ [])))

-- a strand stays
pub record Kept (b b' : Books) (ps ps' : List (List (List ℕ))) (x : ℕ) : Type 0 where
  pub last : at b'.last x ≡ at b.last x
  pub chunks : at b.last x < b.chunks → chunks_of b' x ≡ chunks_of b x
  pub rank : at b.last x < b.chunks → at b'.rank (at b.last x) ≡ at b.rank (at b.last x)
  pub entries : at b.last x < b.chunks → joined_entries ps' (chunks_of b x) ≡ joined_entries ps (chunks_of b x)
  pub end : at b.last x < b.chunks → get_or ps' (at b.last x) [] ≡ get_or ps (at b.last x) []

module _ (b b' : Books) (ps ps' : List (List (List ℕ))) (n : b'.chunks ≡ b.chunks) where
  strand_kept : (x : ℕ) → Kept b b' ps ps' x → strand_at b' ps' x ≡ strand_at b ps x
  strand_kept x kept = ⊎_elim
      (λ (has : at b.last x < b.chunks).
      some_strand b' ps' x (omega (arith, kept.last)) ∙ (ap (λ cs. Some (joined_entries ps' cs)) (kept.chunks has) ∙ (ap (λ es. Some es) (kept.entries has) ∙ sym (some_strand b ps x has))))
      (λ (high : b.chunks ≤ at b.last x). no_strand b' ps' x (omega (arith, kept.last)) ∙ sym (no_strand b ps x high))
      (cases_lt (at b.last x) b.chunks)

  filled_kept : (x : ℕ) → Kept b b' ps ps' x → at b.last x < b.chunks → IsFilled b ps x → IsFilled b' ps' x
  filled_kept x kept has full =
      ap (λ cs. filled (sizes (joined_entries ps' cs))) (kept.chunks has) ∙ (ap (λ es. filled (sizes es)) (kept.entries has) ∙ (full ∙
      sym (ap (λ l. (at b'.rank l + 1, bytes_taken (get_or ps' l []))) kept.last ∙
      (ap (λ k. (k + 1, bytes_taken (get_or ps' (at b.last x) []))) (kept.rank has) ∙ ap (λ es. (at b.rank (at b.last x) + 1, bytes_taken es)) (kept.end has)))))

  -- one strand changes, and every other stays
  pub one_changed : (h : ℕ) (new : Option (List (List ℕ))) → h < b.chunks → ((x : ℕ) → x < b.chunks → x ≢ h → Kept b b' ps ps' x) → strand_at b' ps' h ≡ new →
      strands b' ps' ≡ set (strands b ps) h new
  one_changed h new low kept is =
      let long = length-strands b ps in
      let long' = length-strands b' ps' in
      let sets = length-set (strands b ps) h new in
      ext_get_or None (strands b' ps') (set (strands b ps) h new) (omega arith) (λ x in'.
      let low' : x < b.chunks = omega arith in
      strands_at b' ps' x (omega arith) ∙ ⊎_elim
      (λ (e : x ≡ h).
      let P : ℕ → Type 0 = λ y. strand_at b' ps' y ≡ get_or (set (strands b ps) h new) y None in
      subst P (sym e) (is ∙ sym (get_or-set_same (strands b ps) h new None (omega arith))))
      (λ (ne : x ≢ h). strand_kept x (kept x low' ne) ∙ (sym (strands_at b ps x low') ∙ sym (get_or-set_other (strands b ps) h x new None ne)))
      (cases_eq x h))

  pub all_filled : (h : ℕ) → ((x : ℕ) → x < b.chunks → x ≢ h → Kept b b' ps ps' x) → ((x : ℕ) → x < b.chunks → at b.last x < b.chunks → IsFilled b ps x) → (at b'.last h < b'.chunks → IsFilled b' ps' h) →
      (x : ℕ) → x < b'.chunks → at b'.last x < b'.chunks → IsFilled b' ps' x
  all_filled h kept full is x low has = ⊎_elim
      (λ (e : x ≡ h).
      let P : ℕ → Type 0 = λ y. at b'.last y < b'.chunks → IsFilled b' ps' y in
      subst P (sym e) is has)
      (λ (ne : x ≢ h).
      let k = kept x (omega arith) ne in
      let has' : at b.last x < b.chunks = omega (arith, k.last) in
      filled_kept x k has' (full x (omega arith) has'))
      (cases_eq x h)
