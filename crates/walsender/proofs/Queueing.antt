-- What is added to what is on its way out comes after it.
use Rattle.std.proofs.Common.{◌≡◌, ◌<◌, ◌≤◌, ℕ, ◌+◌, ◌-◌, zero, suc, List, [], ◌∷◌, ◌++◌, drop, length, map, take, refl, sym, ap, subst, ◌∙◌, append_assoc, append-nil, arith}
use Rattle.std.proofs.lemmas.List.{length-append, length-drop, length-take}
use Rattle.publication.specs.Publications.{PublicationSet}
use Rattle.reorder.specs.Pool.{PoolState}
use Rattle.reorder.specs.Ready.{ready_entries}
use Rattle.pgoutput.specs.declared.published.PublishedChange.{PublishedChange}
use Rattle.pgoutput.specs.Items.{relations_sent_by_all}
use Rattle.walsender.specs.Published.{published_changes}
use Rattle.walsender.specs.Waiting.{AreWithin, bytes_after, bytes_left, changes_bytes, commit_bytes, left_of, places, ready_states, sent_after}
use Rattle.walsender.specs.declared.held.committed_transaction.CommittedTransaction.{CommittedTransaction}

-- ---- lists

pub drop_front : (n : ℕ) (xs ys : List ℕ) → n ≤ length xs → drop n (xs ++ ys) ≡ drop n xs ++ ys
drop_front zero xs ys low = refl
drop_front (suc n) [] ys low = absurd (omega arith)
drop_front (suc n) (x ∷ xs) ys low = drop_front n xs ys (omega arith)

pub take_front : (n : ℕ) (xs ys : List ℕ) → n ≤ length xs → take n (xs ++ ys) ≡ take n xs
take_front zero xs ys low = refl
take_front (suc n) [] ys low = absurd (omega arith)
take_front (suc n) (x ∷ xs) ys low = ap (λ l. x ∷ l) (take_front n xs ys (omega arith))

-- ---- places

pub within_more : (made more : ℕ) (ws : List CommittedTransaction) → AreWithin made ws → AreWithin (made + more) ws
within_more made more [] w = tt
within_more made more (x ∷ ws) w =
    let same : (made + more) - x.before ≡ (made - x.before) + more = let low = w.0 in omega arith in
    (let low = w.0 in omega arith, subst (λ (n : ℕ). AreWithin n ws) (sym same) (within_more (made - x.before) more ws w.1))

pub within_last : (made : ℕ) (ws : List CommittedTransaction) (w : CommittedTransaction) → AreWithin made ws → places ws + w.before ≤ made → AreWithin made (ws ++ w ∷ [])
within_last made [] w a low = (omega arith, tt)
within_last made (x ∷ ws) w a low = (a.0, within_last (made - x.before) ws w a.1 (let l = a.0 in omega arith))

pub places_last : (ws : List CommittedTransaction) (w : CommittedTransaction) → places (ws ++ w ∷ []) ≡ places ws + w.before
places_last [] w = omega arith
places_last (x ∷ ws) w = let rest = places_last ws w in omega arith

pub places_low : (made : ℕ) (ws : List CommittedTransaction) → AreWithin made ws → places ws ≤ made
places_low made [] w = omega arith
places_low made (x ∷ ws) w = let rest = places_low (made - x.before) ws w.1 in let low = w.0 in omega arith

-- ---- bytes after bytes

module _ (selection : PublicationSet) (pool : PoolState) where
  -- bytes more come after all
  pub bytes_more : (sent made more : List ℕ) (ws : List CommittedTransaction) → AreWithin (length made) ws → bytes_after selection pool sent (made ++ more) ws ≡ bytes_after selection pool sent made ws ++ more
  bytes_more sent made more [] w = refl
  bytes_more sent made more (x ∷ ws) w =
      let low : x.before ≤ length made = w.0 in
      let changes = bytes_left selection pool sent x in
      let next = relations_sent_by_all sent (left_of selection pool x) in
      let behind = bytes_after selection pool next (drop x.before made) ws in
      let rest = bytes_more next (drop x.before made) more ws (subst (λ (n : ℕ). AreWithin n ws) (sym (length-drop x.before made)) w.1) in
      ap (λ (l : List ℕ). l ++ (changes ++ bytes_after selection pool next (drop x.before (made ++ more)) ws)) (take_front x.before made more low)
      ∙ ap (λ (l : List ℕ). take x.before made ++ (changes ++ bytes_after selection pool next l ws)) (drop_front x.before made more low)
      ∙ ap (λ (l : List ℕ). take x.before made ++ (changes ++ l)) rest
      ∙ ap (λ (l : List ℕ). take x.before made ++ l) (sym (append_assoc changes behind more))
      ∙ sym (append_assoc (take x.before made) (changes ++ behind) more)

  -- at least all that is made
  pub bytes_low : (sent made : List ℕ) (ws : List CommittedTransaction) → AreWithin (length made) ws → length made ≤ length (bytes_after selection pool sent made ws)
  bytes_low sent made [] w = omega arith
  bytes_low sent made (x ∷ ws) w =
      let low : x.before ≤ length made = w.0 in
      let changes = bytes_left selection pool sent x in
      let next = relations_sent_by_all sent (left_of selection pool x) in
      let behind = bytes_after selection pool next (drop x.before made) ws in
      let size = length-drop x.before made in
      let rest : length (drop x.before made) ≤ length behind = bytes_low next (drop x.before made) ws (subst (λ (n : ℕ). AreWithin n ws) (sym size) w.1) in
      omega (arith, length-append (take x.before made) (changes ++ behind), length-append changes behind, length-take x.before made)

  -- at least a Commit, where something waits
  pub waits_some : (sent made : List ℕ) (w : CommittedTransaction) (ws : List CommittedTransaction) → 0 < length (bytes_after selection pool sent made (w ∷ ws))
  waits_some sent made w ws =
      let commit = commit_bytes w.clock w.header in
      let changes = changes_bytes selection sent w.clock (left_of selection pool w) in
      let rest = bytes_after selection pool (relations_sent_by_all sent (left_of selection pool w)) (drop w.before made) ws in
      let some : 0 < length commit = omega arith in
      omega (arith, some, length-append (take w.before made) ((changes ++ commit) ++ rest), length-append (changes ++ commit) rest, length-append changes commit)

  -- a transaction that waits after all, where all that is made stands before it
  pub bytes_last : (sent made : List ℕ) (ws : List CommittedTransaction) (w : CommittedTransaction) → AreWithin (length made) ws → places ws + w.before ≡ length made
      → bytes_after selection pool sent made (ws ++ w ∷ []) ≡ bytes_after selection pool sent made ws ++ bytes_left selection pool (sent_after selection pool sent ws) w
  bytes_last sent made [] w within is =
      let whole : w.before ≡ length made = omega arith in
      let changes = bytes_left selection pool sent w in
      let front : take w.before made ≡ made = ap (λ (n : ℕ). take n made) whole ∙ take_all_of made in
      let none : drop w.before made ≡ [] = ap (λ (n : ℕ). drop n made) whole ∙ drop_all_of made in
      ap (λ (l : List ℕ). l ++ (changes ++ drop w.before made)) front ∙ ap (λ (l : List ℕ). made ++ (changes ++ l)) none ∙ ap (λ (l : List ℕ). made ++ l) (append-nil changes)
    where
      take_all_of : (xs : List ℕ) → take (length xs) xs ≡ xs
      take_all_of [] = refl
      take_all_of (x ∷ xs) = ap (λ l. x ∷ l) (take_all_of xs)

      drop_all_of : (xs : List ℕ) → drop (length xs) xs ≡ []
      drop_all_of [] = refl
      drop_all_of (x ∷ xs) = drop_all_of xs
  bytes_last sent made (x ∷ ws) w within is =
      let low : x.before ≤ length made = let l = within.0 in omega arith in
      let changes = bytes_left selection pool sent x in
      let next = relations_sent_by_all sent (left_of selection pool x) in
      let last = bytes_left selection pool (sent_after selection pool next ws) w in
      let behind = bytes_after selection pool next (drop x.before made) ws in
      let size = length-drop x.before made in
      let rest = bytes_last next (drop x.before made) ws w (subst (λ (n : ℕ). AreWithin n ws) (sym size) within.1) (omega (arith, size, is, low)) in
      ap (λ (l : List ℕ). take x.before made ++ (changes ++ l)) rest ∙ ap (λ (l : List ℕ). take x.before made ++ l) (sym (append_assoc changes behind last)) ∙ sym (append_assoc (take x.before made) (changes ++ behind) last)

  pub sent_last : (sent : List ℕ) (ws : List CommittedTransaction) (w : CommittedTransaction) → sent_after selection pool sent (ws ++ w ∷ []) ≡ relations_sent_by_all (sent_after selection pool sent ws) (left_of selection pool w)
  sent_last sent [] w = refl
  sent_last sent (x ∷ ws) w = sent_last (relations_sent_by_all sent (left_of selection pool x)) ws w

-- ---- the same changes, where they lie

module _ (selection : PublicationSet) (pool pool' : PoolState) where
  left_same : (w : CommittedTransaction) → ready_entries pool' w.ready ≡ ready_entries pool w.ready → left_of selection pool' w ≡ left_of selection pool w
  left_same w same = ap (λ es. published_changes selection (drop w.next es)) same

  pub bytes_same : (sent made : List ℕ) (ws : List CommittedTransaction) → map (ready_entries pool') (ready_states ws) ≡ map (ready_entries pool) (ready_states ws) → bytes_after selection pool' sent made ws ≡ bytes_after selection pool sent made ws
  bytes_same sent made [] same = refl
  bytes_same sent made (w ∷ ws) same =
      let here = left_same w (heads same) in
      ap (λ (cs : List PublishedChange). take w.before made ++ ((changes_bytes selection sent w.clock cs ++ commit_bytes w.clock w.header) ++ bytes_after selection pool' (relations_sent_by_all sent cs) (drop w.before made) ws)) here
      ∙ ap (λ (l : List ℕ). take w.before made ++ (bytes_left selection pool sent w ++ l)) (bytes_same (relations_sent_by_all sent (left_of selection pool w)) (drop w.before made) ws (tails same))
    where
      heads : {A : Type 0} {x y : A} {xs ys : List A} → x ∷ xs ≡ y ∷ ys → x ≡ y
      heads e = cc

      tails : {A : Type 0} {x y : A} {xs ys : List A} → x ∷ xs ≡ y ∷ ys → xs ≡ ys
      tails e = cc

  pub sent_same : (sent : List ℕ) (ws : List CommittedTransaction) → map (ready_entries pool') (ready_states ws) ≡ map (ready_entries pool) (ready_states ws) → sent_after selection pool' sent ws ≡ sent_after selection pool sent ws
  sent_same sent [] same = refl
  sent_same sent (w ∷ ws) same =
      ap (λ (cs : List PublishedChange). sent_after selection pool' (relations_sent_by_all sent cs) ws) (left_same w (heads same)) ∙ sent_same (relations_sent_by_all sent (left_of selection pool w)) ws (tails same)
    where
      heads : {A : Type 0} {x y : A} {xs ys : List A} → x ∷ xs ≡ y ∷ ys → x ≡ y
      heads e = cc

      tails : {A : Type 0} {x y : A} {xs ys : List A} → x ∷ xs ≡ y ∷ ys → xs ≡ ys
      tails e = cc
