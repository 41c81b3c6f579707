-- Bytes that are held, from where they are made to the frames, and out of them.
use Rattle.std.proofs.Common.{◌≡◌, ◌<◌, ◌≤◌, ℕ, ◌+◌, ◌-◌, List, [], ◌∷◌, ◌++◌, drop, get_or, length, map, take, refl, sym, ap, subst, ◌∙◌, append_assoc, arith}
use Rattle.std.specs.Prelude.{reverse, slice_set, vec_capacity}
use Rattle.std.proofs.Common.{⊎_elim, inl}
use Rattle.std.proofs.Math.Seq.{take-add, take-append-add}
use Rattle.std.proofs.lemmas.List.{drop-append-le, drop-drop, drop_all, drop-take, length-append, length-drop, length-map, length-take-le, take-append-drop, take-take}
use Rattle.std.proofs.lemmas.Slice.{drop-put_mid, take-put_mid}
use borrow.Rule.Slice.PartMut.{put_mid}
use Rattle.std.specs.List.{AllByRecursion}
use Rattle.publication.specs.Publications.{PublicationSet}
use Rattle.publication.specs.Selection.{selected_oids}
use Rattle.reorder.specs.Pool.{PoolState}
use Rattle.reorder.specs.Ready.{ReadyState, ready_entries}
use Rattle.reorder.specs.Settled.{AreLentIn, after_giving_all_back, after_giving_back}
use Rattle.reorder.specs.Taking.{ReorderState}
use Rattle.reorder.proofs.Filling.{chunks_each_given_back}
use Rattle.reorder.proofs.Settling.{entries_given_back}
use Rattle.pgoutput.specs.declared.published.PublishedChange.{PublishedChange}
use Rattle.pgoutput.specs.Items.{relations_sent_by_all}
use Rattle.walsender.specs.Published.{published_changes}
use Rattle.walsender.specs.Waiting.{AreSelected, AreWithin, Makes, bytes_after, bytes_left, changes_bytes, commit_bytes, left_of, places, ready_states, sent_after}
use Rattle.walsender.specs.Lent.{LentTransaction}
use Rattle.walsender.specs.Outgoing.{HoldsSame, IsFilled, IsOutgoing, IsSameQueue, frames_left, held_behind, held_of, lent_in, lent_of, sent_of}
use Rattle.walsender.specs.declared.held.outgoing.Outgoing.{Outgoing}
use Rattle.walsender.specs.declared.held.outgoing.TheConstants.{FRAMES_LENGTH}
use Rattle.walsender.specs.declared.held.committed_transaction.CommittedTransaction.{CommittedTransaction}
use Rattle.walsender.proofs.Lasting.{last_same, last_then, lents_same}
use Rattle.walsender.proofs.Queueing.{bytes_same, sent_same}

-- ---- lists

pub part_is : (from to : ℕ) (xs : List ℕ) → from ≤ to → take (to - from) (drop from xs) ≡ drop from (take to xs)
part_is from to xs low =
    let whole : from + (to - from) ≡ to = omega arith in
    sym (drop-take from (to - from) xs) ∙ ap (λ (n : ℕ). drop from (take n xs)) whole

pub part_more : (from to to' : ℕ) (xs xs' more : List ℕ) → from ≤ to → to ≤ to' → to ≤ length xs → take to' xs' ≡ take to xs ++ more → take (to' - from) (drop from xs') ≡ take (to - from) (drop from xs) ++ more
part_more from to to' xs xs' more low up within is =
    let size : length (take to xs) ≡ to = length-take-le to xs within in
    part_is from to' xs' (omega arith) ∙ ap (drop from) is ∙ drop-append-le from (take to xs) more (omega (arith, size)) ∙ ap (λ (l : List ℕ). l ++ more) (sym (part_is from to xs low))

pub take_split : (n m : ℕ) (xs : List ℕ) → n ≤ m → take m xs ≡ take n xs ++ take (m - n) (drop n xs)
take_split n m xs low =
    let whole : m ≡ n + (m - n) = omega arith in
    ap (λ (k : ℕ). take k xs) whole ∙ take-add n (m - n) xs

pub drop_split : (n m : ℕ) (xs : List ℕ) → n ≤ m → drop (m - n) (drop n xs) ≡ drop m xs
drop_split n m xs low =
    let whole : n + (m - n) ≡ m = omega arith in
    drop-drop (m - n) n xs ∙ ap (λ (k : ℕ). drop k xs) whole

pub mid_taken : (a k n : ℕ) (xs ys : List ℕ) → a ≤ length xs → n ≤ length ys → take (a + n) (put_mid a k xs ys) ≡ take a xs ++ take n ys
mid_taken a k n xs ys within low =
    let size : length (take a xs) ≡ a = length-take-le a xs within in
    sym (take-take (a + n) (a + length ys) (put_mid a k xs ys) (omega arith)) ∙ ap (take (a + n)) (take-put_mid a k xs ys (a + length ys) refl within)
    ∙ ap (λ (m : ℕ). take (m + n) (take a xs ++ ys)) (sym size) ∙ take-append-add (take a xs) ys n

pub mid_length : (a k : ℕ) (xs ys : List ℕ) → a + k ≤ length xs → length ys ≡ k → length (put_mid a k xs ys) ≡ length xs
mid_length a k xs ys within is =
    let whole = ap (length {A = ℕ}) (sym (take-append-drop (a + k) (put_mid a k xs ys))) in
    let front = take-put_mid a k xs ys (a + k) (let s = is in omega arith) (omega arith) in
    let back = drop-put_mid a k xs ys (a + k) (omega arith) (omega arith) is in
    let parts : length (put_mid a k xs ys) ≡ length ((take a xs ++ ys) ++ drop (a + k) xs) = whole ∙ ap (λ (l : List ℕ). length (l ++ drop (a + k) (put_mid a k xs ys))) front ∙ ap (λ (l : List ℕ). length ((take a xs ++ ys) ++ l)) back in
    omega (arith, parts, length-append (take a xs ++ ys) (drop (a + k) xs), length-append (take a xs) ys, length-take-le a xs (omega arith), length-drop (a + k) xs, is)

-- ---- the first that waits

pub first_is : (ws : List CommittedTransaction) (w : CommittedTransaction) → 0 < length ws → w ≡ get_or ws 0 w → (rest : List CommittedTransaction) × (ws ≡ w ∷ rest) × ((y : CommittedTransaction) → slice_set ws 0 y ≡ y ∷ rest)
first_is [] w some is = absurd (omega arith)
first_is (x ∷ xs) w some is = (xs, ap (λ (y : CommittedTransaction). y ∷ xs) (sym is), λ y. refl)

pub first_of : (ws : List CommittedTransaction) → 0 < length ws → (w : CommittedTransaction) × (rest : List CommittedTransaction) × (ws ≡ w ∷ rest)
first_of [] some = absurd (omega arith)
first_of (w ∷ ws) some = (w, ws, refl)

abbrev pub less : CommittedTransaction → ℕ → CommittedTransaction
less w count = record w { before = w.before - count }

abbrev pub moved_to : CommittedTransaction → ℕ → CommittedTransaction
moved_to w next = record w { next = next }

module _ (selection : PublicationSet) (pool : PoolState) where
  pub made_moved : (sent made : List ℕ) (w : CommittedTransaction) (ws : List CommittedTransaction) (count : ℕ) → count ≤ w.before
      → bytes_after selection pool sent made (w ∷ ws) ≡ take count made ++ bytes_after selection pool sent (drop count made) (less w count ∷ ws)
  made_moved sent made w ws count low =
      let changes = bytes_left selection pool sent w in
      let next = relations_sent_by_all sent (left_of selection pool w) in
      ap (λ (l : List ℕ). l ++ (changes ++ bytes_after selection pool next (drop w.before made) ws)) (take_split count w.before made low)
      ∙ append_assoc (take count made) (take (w.before - count) (drop count made)) (changes ++ bytes_after selection pool next (drop w.before made) ws)
      ∙ ap (λ (l : List ℕ). take count made ++ (take (w.before - count) (drop count made) ++ (changes ++ bytes_after selection pool next l ws))) (sym (drop_split count w.before made low))

  -- where nothing stands before its changes
  pub bytes_first : (sent made : List ℕ) (w : CommittedTransaction) (ws : List CommittedTransaction) → w.before ≡ 0
      → bytes_after selection pool sent made (w ∷ ws) ≡ bytes_left selection pool sent w ++ bytes_after selection pool (relations_sent_by_all sent (left_of selection pool w)) made ws
  bytes_first sent made w ws none =
      ap (λ (n : ℕ). take n made ++ (bytes_left selection pool sent w ++ bytes_after selection pool (relations_sent_by_all sent (left_of selection pool w)) (drop n made) ws)) none

  pub frame_moved : (sent sent' made bytes : List ℕ) (w : CommittedTransaction) (ws : List CommittedTransaction) (next : ℕ) → w.before ≡ 0
      → Makes selection w.clock (left_of selection pool w) (left_of selection pool (moved_to w next)) sent sent' bytes
      → bytes_after selection pool sent made (w ∷ ws) ≡ bytes ++ bytes_after selection pool sent' made (moved_to w next ∷ ws)
  frame_moved sent sent' made bytes w ws next none makes =
      let changes = changes_bytes selection sent' w.clock (left_of selection pool (moved_to w next)) in
      let commit = commit_bytes w.clock w.header in
      let here = changes ++ commit in
      let behind = bytes_after selection pool (relations_sent_by_all sent' (left_of selection pool (moved_to w next))) made ws in
      bytes_first sent made w ws none
      ∙ ap (λ (l : List ℕ). (l ++ commit) ++ bytes_after selection pool (relations_sent_by_all sent (left_of selection pool w)) made ws) makes.bytes
      ∙ ap (λ (l : List ℕ). ((bytes ++ changes) ++ commit) ++ bytes_after selection pool l made ws) makes.names
      ∙ ap (λ (l : List ℕ). l ++ behind) (append_assoc bytes changes commit)
      ∙ append_assoc bytes here behind
      ∙ ap (λ (l : List ℕ). bytes ++ l) (sym (bytes_first sent' made (moved_to w next) ws none))

  none_left : (w : CommittedTransaction) → length w.ready.places ≤ w.next → left_of selection pool w ≡ []
  none_left w over =
      let size : length (ready_entries pool w.ready) ≡ length w.ready.places = length-map w.ready.places _ in
      ap (published_changes selection) (drop_all w.next (ready_entries pool w.ready) (omega (arith, over, size)))

-- ---- the same is held

pub same_then : (selection : PublicationSet) (s s' s'' : ReorderState) (o o' o'' : Outgoing) → HoldsSame selection s s' o o' → HoldsSame selection s' s'' o' o'' → HoldsSame selection s s'' o o''
same_then selection s s' s'' o o' o'' first then = record {
  good = then.good;
  held = then.held ∙ first.held;
  sent = then.sent ∙ first.sent;
  settled = then.settled ∙ first.settled;
  lent = last_then (lent_of s o) (lent_of s' o') (lent_of s'' o'') first.lent then.lent;
}

pub before_same : (selection : PublicationSet) (s s' s'' : ReorderState) (o o' o'' : Outgoing) → HoldsSame selection s' s'' o' o'' → HoldsSame selection s s' o o' → HoldsSame selection s s'' o o''
before_same selection s s' s'' o o' o'' then first = same_then selection s s' s'' o o' o'' first then

pub filled_both : (o o' o'' : Outgoing) → IsFilled o o' → IsFilled o' o'' → IsFilled o o''
filled_both o o' o'' first then = record { front = then.front ∙ first.front; from = then.from ∙ first.from; low = omega (arith, first.low, then.low); high = then.high; size = then.size ∙ first.size }

-- where there is room for some, there is all room
pub room_there : (selection : PublicationSet) (s : ReorderState) (o : Outgoing) (count : ℕ) → IsOutgoing selection s o → 0 < count → o.to + count ≤ length o.frames.items → length o.frames.items ≡ FRAMES_LENGTH
room_there selection s o count good some room =
    ⊎_elim (λ (e : length o.frames.items ≡ FRAMES_LENGTH). e) (λ (p : (length o.frames.items ≡ 0) × (o.made.items ≡ []) × (o.waiting.items ≡ [])). absurd (omega (arith, some, room, p.0))) good.room

-- where bytes came to the frames
pub record ComesToFrames (o o' : Outgoing) (more : List ℕ) : Type 0 where
  pub front : o'.front.items ≡ o.front.items
  pub from : o'.from ≡ o.from
  pub taken : take o'.to o'.frames.items ≡ take o.to o.frames.items ++ more
  pub low : o.to ≤ o'.to
  pub high : o'.to ≤ length o'.frames.items
  pub size : length o'.frames.items ≡ length o.frames.items

module _ (selection : PublicationSet) (s : ReorderState) (o o' : Outgoing) (more : List ℕ) (good : IsOutgoing selection s o) (comes : ComesToFrames o o' more) where
  pub held_as_before : held_behind selection s o ≡ more ++ held_behind selection s o' → held_of selection s o' ≡ held_of selection s o
  held_as_before behind =
      let left : frames_left o' ≡ frames_left o ++ more =
      ap (λ (n : ℕ). take (o'.to - n) (drop n o'.frames.items)) comes.from ∙ part_more o.from o.to o'.to o.frames.items o'.frames.items more good.from comes.low good.to comes.taken in
      ap (λ (l : List ℕ). l ++ (frames_left o' ++ held_behind selection s o')) comes.front
      ∙ ap (λ (l : List ℕ). o.front.items ++ (l ++ held_behind selection s o')) left
      ∙ ap (λ (l : List ℕ). o.front.items ++ l) (append_assoc (frames_left o) more (held_behind selection s o'))
      ∙ ap (λ (l : List ℕ). o.front.items ++ (frames_left o ++ l)) (sym behind)

  pub same_before : held_behind selection s o ≡ more ++ held_behind selection s o' → sent_of selection s o' ≡ sent_of selection s o → ready_states o'.waiting.items ≡ ready_states o.waiting.items → lent_of s o' ≡ lent_of s o
      → AreWithin (length o'.made.items) o'.waiting.items → places o'.waiting.items ≡ o'.placed → length o'.frames.items ≡ FRAMES_LENGTH
      → AreSelected selection (reverse o'.relations_sent.items) → (0 < length o'.waiting.items → length (selected_oids selection) ≤ vec_capacity o'.relations_sent) → HoldsSame selection s s o o'
  same_before behind sent ready lents within placed room selected capacity = record {
    good = record {
      lent = subst (AreLentIn s) (sym ready) good.lent;
      within = within;
      placed = placed;
      from = omega (arith, comes.from, comes.low, good.from);
      to = comes.high;
      room = inl room;
      sent = selected;
      capacity = capacity;
      some = subst (AllByRecursion (λ (r : ReadyState). 0 < length r.places)) (sym ready) good.some;
    };
    held = held_as_before behind;
    sent = sent;
    settled = ap (after_giving_all_back s) ready;
    lent = last_same (lent_of s o) (lent_of s o') lents;
  }

-- bytes that were made before the changes of the first that waits
pub first_moved : (selection : PublicationSet) (s : ReorderState) (o o' : Outgoing) (w : CommittedTransaction) (ws : List CommittedTransaction) (count : ℕ) → IsOutgoing selection s o → 0 < count → count ≤ w.before
    → o.to + count ≤ length o.frames.items → ComesToFrames o o' (take count o.made.items) → o.waiting.items ≡ w ∷ ws → o'.waiting.items ≡ less w count ∷ ws
    → o'.made.items ≡ drop count o.made.items → o'.placed ≡ o.placed - count → o'.relations_sent ≡ o.relations_sent → HoldsSame selection s s o o'
first_moved selection s o o' w ws count good some low room comes is is' made placed relations =
    let pool = s.strands.pool in
    let sent = reverse o.relations_sent.items in
    let within : AreWithin (length o.made.items) (w ∷ ws) = subst (AreWithin (length o.made.items)) is good.within in
    let full : length o'.frames.items ≡ FRAMES_LENGTH = comes.size ∙ room_there selection s o count good some room in
    let sent_is : reverse o'.relations_sent.items ≡ sent = ap (λ (r : _). reverse r.items) relations in
    let before = within.0 in
    let size : length o'.made.items ≡ length o.made.items - count = ap (length {A = ℕ}) made ∙ length-drop count o.made.items in
    let less_left : length o.made.items - w.before ≡ length o'.made.items - (w.before - count) = omega arith in
    let placed_is : w.before + places ws ≡ o.placed = ap places (sym is) ∙ good.placed in
    let after_is : held_behind selection s o' ≡ bytes_after selection pool sent (drop count o.made.items) (less w count ∷ ws) =
    ap (λ (l : List ℕ). bytes_after selection pool l o'.made.items o'.waiting.items) sent_is ∙ ap (λ (l : List ℕ). bytes_after selection pool sent l o'.waiting.items) made
    ∙ ap (bytes_after selection pool sent (drop count o.made.items)) is' in
    same_before selection s o o' (take count o.made.items) good comes
    (ap (bytes_after selection pool sent o.made.items) is ∙ made_moved selection pool sent o.made.items w ws count low ∙ ap (λ (l : List ℕ). take count o.made.items ++ l) (sym after_is))
    (ap (λ (l : List ℕ). sent_after selection pool l o'.waiting.items) sent_is ∙ ap (sent_after selection pool sent) is' ∙ sym (ap (sent_after selection pool sent) is))
    (ap ready_states is' ∙ sym (ap ready_states is))
    (ap (map (lent_in pool.arena)) is' ∙ sym (ap (map (lent_in pool.arena)) is))
    (subst (AreWithin (length o'.made.items)) (sym is') (omega arith, subst (λ (n : ℕ). AreWithin n ws) less_left within.1))
    (ap places is' ∙ omega (arith, placed_is, placed, low))
    full
    (subst (AreSelected selection) (sym sent_is) good.sent)
    (λ more. subst (λ (r : _). length (selected_oids selection) ≤ vec_capacity r) (sym relations) (good.capacity (subst (λ (l : List CommittedTransaction). 0 < length l) (sym is) (omega arith))))

-- bytes that were made after all changes
pub last_moved : (selection : PublicationSet) (s : ReorderState) (o o' : Outgoing) (count : ℕ) → IsOutgoing selection s o → length o.frames.items ≡ FRAMES_LENGTH
    → ComesToFrames o o' (take count o.made.items) → o.waiting.items ≡ [] → o'.waiting ≡ o.waiting → o'.made.items ≡ drop count o.made.items → o'.placed ≡ o.placed → o'.relations_sent ≡ o.relations_sent
    → HoldsSame selection s s o o'
last_moved selection s o o' count good room comes is waiting made placed relations =
    let pool = s.strands.pool in
    let sent = reverse o.relations_sent.items in
    let is' : o'.waiting.items ≡ [] = ap (λ (q : _). q.items) waiting ∙ is in
    let sent_is : reverse o'.relations_sent.items ≡ sent = ap (λ (r : _). reverse r.items) relations in
    let after_is : held_behind selection s o' ≡ drop count o.made.items = ap (bytes_after selection pool (reverse o'.relations_sent.items) o'.made.items) is' ∙ made in
    same_before selection s o o' (take count o.made.items) good comes
    (ap (bytes_after selection pool sent o.made.items) is ∙ sym (take-append-drop count o.made.items) ∙ ap (λ (l : List ℕ). take count o.made.items ++ l) (sym after_is))
    (ap (λ (l : List ℕ). sent_after selection pool l o'.waiting.items) sent_is ∙ ap (sent_after selection pool sent) is' ∙ sym (ap (sent_after selection pool sent) is))
    (ap ready_states is' ∙ sym (ap ready_states is))
    (ap (map (lent_in pool.arena)) is' ∙ sym (ap (map (lent_in pool.arena)) is))
    (subst (AreWithin (length o'.made.items)) (sym is') tt)
    (ap (λ (q : _). places q.items) waiting ∙ good.placed ∙ sym placed)
    (comes.size ∙ room)
    (subst (AreSelected selection) (sym sent_is) good.sent)
    (λ more. absurd (omega (arith, more, ap (length {A = CommittedTransaction}) is')))

-- the next frame of the first that waits
pub frame_made : (selection : PublicationSet) (s : ReorderState) (o o' : Outgoing) (w : CommittedTransaction) (ws : List CommittedTransaction) (next : ℕ) (bytes : List ℕ) → IsOutgoing selection s o → w.before ≡ 0
    → length o.frames.items ≡ FRAMES_LENGTH → ComesToFrames o o' bytes → o.waiting.items ≡ w ∷ ws → o'.waiting.items ≡ moved_to w next ∷ ws
    → o'.made.items ≡ o.made.items → o'.placed ≡ o.placed
    → Makes selection w.clock (left_of selection s.strands.pool w) (left_of selection s.strands.pool (moved_to w next)) (reverse o.relations_sent.items) (reverse o'.relations_sent.items) bytes
    → AreSelected selection (reverse o'.relations_sent.items) → vec_capacity o'.relations_sent ≡ vec_capacity o.relations_sent → HoldsSame selection s s o o'
frame_made selection s o o' w ws next bytes good none room comes is is' made placed makes selected capacity =
    let pool = s.strands.pool in
    let sent = reverse o.relations_sent.items in
    let sent' = reverse o'.relations_sent.items in
    let within : AreWithin (length o.made.items) (w ∷ ws) = subst (AreWithin (length o.made.items)) is good.within in
    let size : length o'.made.items ≡ length o.made.items = ap (length {A = ℕ}) made in
    let after_is : held_behind selection s o' ≡ bytes_after selection pool sent' o.made.items (moved_to w next ∷ ws) =
    ap (λ (l : List ℕ). bytes_after selection pool sent' l o'.waiting.items) made ∙ ap (bytes_after selection pool sent' o.made.items) is' in
    same_before selection s o o' bytes good comes
    (ap (bytes_after selection pool sent o.made.items) is ∙ frame_moved selection pool sent sent' o.made.items bytes w ws next none makes ∙ ap (λ (l : List ℕ). bytes ++ l) (sym after_is))
    (ap (sent_after selection pool sent') is' ∙ ap (λ (l : List ℕ). sent_after selection pool l ws) (sym makes.names) ∙ sym (ap (sent_after selection pool sent) is))
    (ap ready_states is' ∙ sym (ap ready_states is))
    (ap (map (lent_in pool.arena)) is' ∙ sym (ap (map (lent_in pool.arena)) is))
    (subst (AreWithin (length o'.made.items)) (sym is') (subst (λ (n : ℕ). AreWithin n (moved_to w next ∷ ws)) (sym size) (within.0, within.1)))
    (ap places is' ∙ ap places (sym is) ∙ good.placed ∙ sym placed)
    (comes.size ∙ room)
    selected
    (λ more. let low = good.capacity (subst (λ (l : List CommittedTransaction). 0 < length l) (sym is) (omega arith)) in omega (arith, low, capacity))

-- the first has no change left: its Commit is made, and it waits no more
pub first_over : (selection : PublicationSet) (s s' : ReorderState) (o o' : Outgoing) (w : CommittedTransaction) → IsOutgoing selection s o → o.waiting.items ≡ w ∷ o'.waiting.items → w.before ≡ 0 → length w.ready.places ≤ w.next
    → length o.frames.items ≡ FRAMES_LENGTH → ComesToFrames o o' (commit_bytes w.clock w.header) → s' ≡ after_giving_back s w.ready
    → o'.made.items ≡ o.made.items → o'.placed ≡ o.placed → o'.relations_sent ≡ o.relations_sent → HoldsSame selection s s' o o'
first_over selection s s' o o' w good is none over room comes back made placed relations =
    let pool = s.strands.pool in
    let pool' = s'.strands.pool in
    let ws = o'.waiting.items in
    let sent = reverse o.relations_sent.items in
    let commit = commit_bytes w.clock w.header in
    let lent : AreLentIn s (w.ready ∷ ready_states ws) = subst (λ (l : List CommittedTransaction). AreLentIn s (ready_states l)) is good.lent in
    let later = entries_given_back s s' w.ready (ready_states ws) lent back in
    let within : AreWithin (length o.made.items) (w ∷ ws) = subst (AreWithin (length o.made.items)) is good.within in
    let size : length o'.made.items ≡ length o.made.items = ap (length {A = ℕ}) made in
    let left = none_left selection pool w over in
    let sent_is : reverse o'.relations_sent.items ≡ sent = ap (λ (r : _). reverse r.items) relations in
    let bytes : bytes_after selection pool sent o.made.items (w ∷ ws) ≡ commit ++ bytes_after selection pool sent o.made.items ws =
    bytes_first selection pool sent o.made.items w ws none
    ∙ ap (λ (cs : List PublishedChange). (changes_bytes selection sent w.clock cs ++ commit) ++ bytes_after selection pool (relations_sent_by_all sent cs) o.made.items ws) left in
    let names : sent_after selection pool sent (w ∷ ws) ≡ sent_after selection pool sent ws = ap (λ (cs : List PublishedChange). sent_after selection pool (relations_sent_by_all sent cs) ws) left in
    let after_is : held_behind selection s' o' ≡ bytes_after selection pool sent o.made.items ws =
    ap (λ (l : List ℕ). bytes_after selection pool' l o'.made.items ws) sent_is ∙ ap (λ (l : List ℕ). bytes_after selection pool' sent l ws) made
    ∙ bytes_same selection pool pool' sent o.made.items ws later.1 in
    let behind : held_behind selection s o ≡ commit ++ held_behind selection s' o' =
    ap (bytes_after selection pool sent o.made.items) is ∙ bytes ∙ ap (λ (l : List ℕ). commit ++ l) (sym after_is) in
    let frames : frames_left o' ≡ frames_left o ++ commit =
    ap (λ (n : ℕ). take (o'.to - n) (drop n o'.frames.items)) comes.from ∙ part_more o.from o.to o'.to o.frames.items o'.frames.items commit good.from comes.low good.to comes.taken in
    let before : w.before + places ws ≡ o.placed = ap places (sym is) ∙ good.placed in
    let less_left : length o.made.items - w.before ≡ length o'.made.items = omega (arith, none, size) in
    record {
      good = record {
        lent = later.0;
        within = subst (λ (n : ℕ). AreWithin n ws) less_left within.1;
        placed = omega (arith, none, before, placed);
        from = omega (arith, comes.from, comes.low, good.from);
        to = comes.high;
        room = inl (comes.size ∙ room);
        sent = subst (AreSelected selection) (sym sent_is) good.sent;
        capacity = λ more. subst (λ (r : _). length (selected_oids selection) ≤ vec_capacity r) (sym relations) (good.capacity (subst (λ (l : List CommittedTransaction). 0 < length l) (sym is) (omega arith)));
        some = (subst (λ (l : List CommittedTransaction). AllByRecursion (λ (r : ReadyState). 0 < length r.places) (ready_states l)) is good.some).1;
      };
      held =
          ap (λ (l : List ℕ). l ++ (frames_left o' ++ held_behind selection s' o')) comes.front
          ∙ ap (λ (l : List ℕ). o.front.items ++ (l ++ held_behind selection s' o')) frames
          ∙ ap (λ (l : List ℕ). o.front.items ++ l) (append_assoc (frames_left o) commit (held_behind selection s' o'))
          ∙ ap (λ (l : List ℕ). o.front.items ++ (frames_left o ++ l)) (sym behind);
      sent = ap (λ (l : List ℕ). sent_after selection pool' l ws) sent_is ∙ sent_same selection pool pool' sent ws later.1 ∙ sym names ∙ sym (ap (sent_after selection pool sent) is);
      settled = ap (λ (t : ReorderState). after_giving_all_back t (ready_states ws)) back ∙ sym (ap (λ (l : List CommittedTransaction). after_giving_all_back s (ready_states l)) is);
      lent = (
        lent_in pool.arena w ∷ [],
        ap (map (lent_in pool.arena)) is ∙ ap (λ (l : List LentTransaction). lent_in pool.arena w ∷ l) (sym (lents_same pool.arena pool'.arena ws (chunks_each_given_back s s' w.ready (ready_states ws) lent back))),
      );
    }

-- memory for frames was asked for, and for what was sent: the queue is as it was
pub queue_kept : (o p o' : Outgoing) → p ≡ record o { frames = p.frames } → o' ≡ record p { made = o'.made; relations_sent = o'.relations_sent } → o'.relations_sent.items ≡ p.relations_sent.items
    → vec_capacity p.relations_sent ≤ vec_capacity o'.relations_sent → IsSameQueue o o'
queue_kept o p o' rest last items capacity =
    let same = ap (λ (q : Outgoing). vec_capacity q.relations_sent) rest in
    record {
      front = ap (λ (q : Outgoing). q.front.items) last ∙ ap (λ (q : Outgoing). q.front.items) rest;
      from = ap (λ (q : Outgoing). q.from) last ∙ ap (λ (q : Outgoing). q.from) rest;
      to = ap (λ (q : Outgoing). q.to) last ∙ ap (λ (q : Outgoing). q.to) rest;
      waiting = ap (λ (q : Outgoing). q.waiting.items) last ∙ ap (λ (q : Outgoing). q.waiting.items) rest;
      placed = ap (λ (q : Outgoing). q.placed) last ∙ ap (λ (q : Outgoing). q.placed) rest;
      sent = items ∙ ap (λ (q : Outgoing). q.relations_sent.items) rest;
      capacity = omega (arith, same, capacity);
    }
