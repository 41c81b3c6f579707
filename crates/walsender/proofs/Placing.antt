-- A frame of the first transaction that waits, made in a part of the frames.
use Rattle.std.proofs.Common.{◌≡◌, ◌≤◌, ℕ, ◌+◌, ◌++◌, ◌∷◌, ◌∙◌, List, length, take, reverse, ap, subst, arith}
use Rattle.std.specs.Prelude.{vec_capacity}
use Rattle.std.specs.Vec.{with_items}
use Rattle.std.proofs.lemmas.List.{with_items_is}
use borrow.Rule.Slice.PartMut.{put_mid}
use Rattle.publication.specs.Publications.{PublicationSet}
use Rattle.reorder.specs.Taking.{ReorderState}
use Rattle.walsender.specs.Outgoing.{HoldsSame, IsFilled, IsOutgoing}
use Rattle.walsender.specs.Waiting.{AreSelected, Makes, left_of}
use Rattle.walsender.specs.declared.held.outgoing.Outgoing.{Outgoing}
use Rattle.walsender.specs.declared.held.outgoing.TheConstants.{FRAMES_LENGTH}
use Rattle.walsender.specs.declared.held.committed_transaction.CommittedTransaction.{CommittedTransaction}
use Rattle.walsender.proofs.Frames.{ComesToFrames, frame_made, mid_length, mid_taken, moved_to}

-- what of the fields is as it was, and what came to them
pub record IsPlaced (o o' : Outgoing) (w : CommittedTransaction) (ws : List CommittedTransaction) (size count : ℕ) (xs out : List ℕ) : Type 0 where
  pub front : o'.front ≡ o.front
  pub from : o'.from ≡ o.from
  pub to : o'.to ≡ o.to + count
  pub frames : o'.frames ≡ with_items o.frames (put_mid o.to size xs out)
  pub waiting : o'.waiting.items ≡ w ∷ ws
  pub made : o'.made ≡ o.made
  pub placed : o'.placed ≡ o.placed

module _ (selection : PublicationSet) (s : ReorderState) (o o' : Outgoing) (w w' : CommittedTransaction) (ws : List CommittedTransaction) (size count : ℕ) (xs out : List ℕ) (good : IsOutgoing selection s o) (none : w.before ≡ 0)
    (room : length o.frames.items ≡ FRAMES_LENGTH) (value : xs ≡ o.frames.items) (within : o.to + size ≤ length o.frames.items) (long : length out ≡ size) (low : count ≤ size) (is : o.waiting.items ≡ w ∷ ws)
    (is' : IsPlaced o o' w' ws size count xs out) where
  abbrev mid : List ℕ
  mid = put_mid o.to size xs out

  same_size : length mid ≡ length o.frames.items
  same_size = let whole = ap (length {A = ℕ}) value in mid_length o.to size xs out (omega (arith, whole, within)) long ∙ whole

  items : o'.frames.items ≡ mid
  items = ap (λ (f : _). f.items) is'.frames ∙ with_items_is o.frames mid (let ok = o.frames.ok in omega (arith, ok, same_size))

  full : length o'.frames.items ≡ length o.frames.items
  full = ap (length {A = ℕ}) items ∙ same_size

  taken : take o'.to o'.frames.items ≡ take o.to o.frames.items ++ take count out
  taken =
      let whole = ap (length {A = ℕ}) value in
      ap (λ (n : ℕ). take n o'.frames.items) is'.to ∙ ap (take (o.to + count)) items ∙ mid_taken o.to size count xs out (omega (arith, whole, within)) (omega (arith, long, low))
      ∙ ap (λ (l : List ℕ). take o.to l ++ take count out) value

  comes : ComesToFrames o o' (take count out)
  comes = record {
    front = ap (λ (b : _). b.items) is'.front;
    from = is'.from;
    taken = taken;
    low = omega (arith, is'.to);
    high = omega (arith, is'.to, full, within, low);
    size = full;
  }

  -- so the same is held
  pub made_in_place : w' ≡ moved_to w w'.next
      → Makes selection w.clock (left_of selection s.strands.pool w) (left_of selection s.strands.pool w') (reverse o.relations_sent.items) (reverse o'.relations_sent.items) (take count out)
      → AreSelected selection (reverse o'.relations_sent.items) → vec_capacity o'.relations_sent ≡ vec_capacity o.relations_sent → HoldsSame selection s s o o'
  made_in_place moves makes selected capacity =
      let sent = reverse o.relations_sent.items in
      let sent' = reverse o'.relations_sent.items in
      let told = subst (λ (x : CommittedTransaction). Makes selection w.clock (left_of selection s.strands.pool w) (left_of selection s.strands.pool x) sent sent' (take count out)) moves makes in
      frame_made selection s o o' w ws w'.next (take count out) good none room comes is (is'.waiting ∙ ap (λ (y : CommittedTransaction). y ∷ ws) moves) (ap (λ (b : _). b.items) is'.made) is'.placed told selected capacity

  -- and frames came after those that there were
  pub filled_in_place : IsFilled o o'
  filled_in_place = record { front = is'.front; from = is'.from; low = comes.low; high = comes.high; size = full }

pub same_first : (x y : CommittedTransaction) (xs ys : List CommittedTransaction) → x ∷ xs ≡ y ∷ ys → x ≡ y
same_first x y xs ys is = cc
