-- A transaction that waits after all others, and one that doesn't come to wait.
use Rattle.std.proofs.Common.{◌≡◌, ◌<◌, ℕ, ℤ, ◌+◌, List, [], ◌∷◌, ◌++◌, Ok, Err, length, map, inl, sym, ap, subst, ◌∙◌, append_assoc, append-nil, arith}
use Rattle.std.specs.Prelude.{reverse}
use Rattle.std.specs.List.{AllByRecursion}
use Rattle.std.specs.declared.alloc.AllocError.{AllocError}
use Rattle.pgoutput.proofs.Lists.{all_of_both}
use Rattle.std.proofs.lemmas.List.{length-append, map-append}
use Rattle.publication.specs.Publications.{PublicationSet}
use Rattle.publication.specs.Selection.{relation}
use Rattle.wal.specs.declared.record.Record.{Record}
use Rattle.reorder.specs.Chunks.{IsTidy}
use Rattle.reorder.specs.Ready.{ReadyState, ready_entries}
use Rattle.reorder.specs.Settled.{AreLentIn, after_giving_all_back, after_giving_back, ready_chunks}
use Rattle.reorder.specs.Taking.{HasTaken, ReorderState}
use Rattle.reorder.proofs.Settling.{taken_settled}
use Rattle.pgoutput.specs.declared.published.Published.{Published}
use Rattle.pgoutput.specs.Words.{frames_of}
use Rattle.pgoutput.specs.Items.{Block, bytes_of_items, relations_sent_through, transaction_words}
use Rattle.walsender.specs.Published.{published_with}
use Rattle.walsender.specs.Waiting.{AreSelected, AreWithin, begin_bytes, bytes_after, changes_bytes, commit_bytes, places, ready_states, sent_after}
use Rattle.walsender.specs.Outgoing.{Grows, IsOutgoing, Queues, StaysQueued, frames_left, held_behind, held_of, lent_in, lent_of, sent_of, settled_of}
use Rattle.walsender.specs.Lent.{lent_with}
use Rattle.walsender.specs.declared.commit_frames.header.Header.{Header}
use Rattle.walsender.specs.declared.held.outgoing.Outgoing.{Outgoing}
use Rattle.walsender.specs.declared.held.committed_transaction.CommittedTransaction.{CommittedTransaction}
use Rattle.walsender.proofs.Framing.{block_is}
use Rattle.walsender.proofs.Growing.{frames_same, room_made, settled_kept, size_kept, stays}
use Rattle.walsender.proofs.Lent.{Keeps, keeps_given_back, taken_back, tidy_back}
use Rattle.walsender.proofs.Queueing.{bytes_last, bytes_more, places_last, sent_last, within_last, within_more}

regroup : (front frames behind begin changes commit : List ℕ) → front ++ (frames ++ ((behind ++ begin) ++ (changes ++ commit))) ≡ (front ++ (frames ++ behind)) ++ ((begin ++ changes) ++ commit)
regroup front frames behind begin changes commit = simp append_assoc

-- ---- a transaction that waits

module _ (selection : PublicationSet) (s : ReorderState) (o o' : Outgoing) (ready : ReadyState) (clock : ℤ) (h : Header) (good : IsOutgoing selection s o) (q : Queues selection ready clock h o o') where
  abbrev last : CommittedTransaction
  last = record { ready = ready; next = 0; header = h; clock = clock; before = q.before }

  abbrev begin : List ℕ
  begin = begin_bytes clock h

  abbrev commit : List ℕ
  commit = commit_bytes clock h

  abbrev sent : List ℕ
  sent = reverse o.relations_sent.items

  abbrev published : Published
  published = published_with selection (ready_entries s.strands.pool ready) h

  begun_length : length (o.made.items ++ begin) ≡ length o.made.items + length begin
  begun_length = length-append o.made.items begin

  within_begun : AreWithin (length (o.made.items ++ begin)) o.waiting.items
  within_begun = subst (λ (n : ℕ). AreWithin n o.waiting.items) (sym begun_length) (within_more (length o.made.items) (length begin) o.waiting.items good.within)

  in_place : places o.waiting.items + q.before ≡ length (o.made.items ++ begin)
  in_place = omega (arith, good.placed, q.place)

  waiting_readies : ready_states o'.waiting.items ≡ ready_states o.waiting.items ++ ready ∷ []
  waiting_readies = ap ready_states q.waiting ∙ map-append (λ (w : CommittedTransaction). w.ready) o.waiting.items (last ∷ [])

  within_all : AreWithin (length o'.made.items) (o.waiting.items ++ last ∷ [])
  within_all =
      subst (λ (l : List ℕ). AreWithin (length l) (o.waiting.items ++ last ∷ [])) (sym q.made)
      (within_last (length (o.made.items ++ begin)) o.waiting.items last within_begun (omega (arith, in_place)))

  queued_good : AreLentIn s (ready_states o.waiting.items ++ ready ∷ []) → 0 < length ready.places → IsOutgoing selection s o'
  queued_good lent some = record {
    lent = subst (AreLentIn s) (sym waiting_readies) lent;
    within = subst (λ (ws : List CommittedTransaction). AreWithin (length o'.made.items) ws) (sym q.waiting) within_all;
    placed = ap places q.waiting ∙ places_last o.waiting.items last ∙ ap (λ (n : ℕ). n + q.before) good.placed ∙ sym q.placed;
    from = omega (arith, q.from, q.to, good.from);
    to = omega (arith, q.to, size_kept o o' good.from good.to q.frames);
    room = inl (room_made o o' good.from good.to q.frames good.room q.room);
    sent = subst (λ (l : List ℕ). AreSelected selection (reverse l)) (sym q.sent) good.sent;
    capacity = λ any. q.capacity;
    some = subst (AllByRecursion (λ (r : ReadyState). 0 < length r.places)) (sym waiting_readies) (all_of_both (λ (r : ReadyState). 0 < length r.places) (ready_states o.waiting.items) (ready ∷ []) good.some (some, tt));
  }

  bytes_queued : bytes_after selection s.strands.pool sent (o.made.items ++ begin) (o.waiting.items ++ last ∷ [])
      ≡ (held_behind selection s o ++ begin) ++ (changes_bytes selection (sent_of selection s o) clock published.changes ++ commit)
  bytes_queued =
      bytes_last selection s.strands.pool sent (o.made.items ++ begin) o.waiting.items last within_begun in_place
      ∙ ap (λ (l : List ℕ). l ++ (changes_bytes selection (sent_of selection s o) clock published.changes ++ commit)) (bytes_more selection s.strands.pool sent o.made.items begin o.waiting.items good.within)

  block_spelled : bytes_of_items (relation selection) (sent_of selection s o) (Block clock published ∷ []) ≡ (begin ++ changes_bytes selection (sent_of selection s o) clock published.changes) ++ commit
  block_spelled = ap frames_of (append-nil (transaction_words (relation selection) (sent_of selection s o) clock published)) ∙ block_is (relation selection) (sent_of selection s o) clock published

  held_queued : held_of selection s o' ≡ held_of selection s o ++ bytes_of_items (relation selection) (sent_of selection s o) (Block clock published ∷ [])
  held_queued =
      ap (λ (l : List ℕ). l ++ (frames_left o' ++ held_behind selection s o')) q.front
      ∙ ap (λ (l : List ℕ). o.front.items ++ (l ++ held_behind selection s o')) (frames_same o o' good.from good.to q.frames q.from q.to)
      ∙ ap (λ (l : List ℕ). o.front.items ++ (frames_left o ++ bytes_after selection s.strands.pool (reverse l) o'.made.items o'.waiting.items)) q.sent
      ∙ ap (λ (l : List ℕ). o.front.items ++ (frames_left o ++ bytes_after selection s.strands.pool sent l o'.waiting.items)) q.made
      ∙ ap (λ (ws : List CommittedTransaction). o.front.items ++ (frames_left o ++ bytes_after selection s.strands.pool sent (o.made.items ++ begin) ws)) q.waiting
      ∙ ap (λ (l : List ℕ). o.front.items ++ (frames_left o ++ l)) bytes_queued
      ∙ regroup o.front.items (frames_left o) (held_behind selection s o) begin (changes_bytes selection (sent_of selection s o) clock published.changes) commit
      ∙ ap (λ (l : List ℕ). held_of selection s o ++ l) (sym block_spelled)

  sent_queued : sent_of selection s o' ≡ relations_sent_through (sent_of selection s o) (published ∷ [])
  sent_queued =
      ap (λ (l : List ℕ). sent_after selection s.strands.pool (reverse l) o'.waiting.items) q.sent
      ∙ ap (λ (ws : List CommittedTransaction). sent_after selection s.strands.pool sent ws) q.waiting
      ∙ sent_last selection s.strands.pool sent o.waiting.items last

  pub lent_queued : lent_of s o' ≡ lent_of s o ++ lent_with (ready_chunks s.strands.pool.arena ready) published ∷ []
  lent_queued = ap (map (lent_in s.strands.pool.arena)) q.waiting ∙ map-append (lent_in s.strands.pool.arena) o.waiting.items (last ∷ [])

  pub queue_grows : AreLentIn s (ready_states o.waiting.items ++ ready ∷ []) → 0 < length ready.places → Grows selection clock (published ∷ []) (Ok tt) s s o o'
  queue_grows lent some = record { good = queued_good lent some; held = held_queued; sent = sent_queued; err = tt }

  pub queue_taken : (rs : List Record) → AreLentIn s (ready_states o.waiting.items ++ ready ∷ []) → HasTaken s rs → HasTaken (settled_of s o') rs
  queue_taken rs lent taken = taken_settled s (ready_states o'.waiting.items) rs (subst (AreLentIn s) (sym waiting_readies) lent) taken

-- ---- one that doesn't

module _ (selection : PublicationSet) (s s' : ReorderState) (o : Outgoing) (ready : ReadyState) (clock : ℤ) (good : IsOutgoing selection s o) (lent : AreLentIn s (ready_states o.waiting.items ++ ready ∷ [])) (is : s' ≡ after_giving_back s ready) where
  abbrev kept : Keeps selection s s' o
  kept = keeps_given_back selection s s' o ready good lent is

  pub none_lent : lent_of s' o ≡ lent_of s o ++ []
  none_lent = (kept).lent ∙ sym (append-nil (lent_of s o))

  -- no change of it has a message
  pub none_grows : Grows selection clock [] (Ok tt) s s' o o
  none_grows = let k = kept in record { good = k.good; held = k.held ∙ sym (append-nil (held_of selection s o)); sent = k.sent; err = tt }

  -- memory was refused before anything was added
  pub unqueued_grows : (ts : List Published) (e : AllocError) → Grows selection clock ts (Err e) s s' o o
  unqueued_grows ts e = let k = kept in record { good = k.good; held = tt; sent = tt; err = k.held }

  pub unqueued_taken : (rs : List Record) → HasTaken s rs → HasTaken (settled_of s' o) rs
  unqueued_taken rs taken = subst (λ (t : ReorderState). HasTaken (settled_of t o) rs) (sym is) (taken_back s (ready_states o.waiting.items) ready rs lent taken)

  pub unqueued_tidy : (count : ℕ) → IsTidy count [] (after_giving_all_back s (ready_states o.waiting.items ++ ready ∷ [])).strands → IsTidy count [] (settled_of s' o).strands
  unqueued_tidy count tidy = subst (λ (t : ReorderState). IsTidy count [] (settled_of t o).strands) (sym is) (tidy_back s (ready_states o.waiting.items) ready count lent tidy)

  module _ (o' : Outgoing) (stay : StaysQueued o o') where
    -- memory was refused
    pub refused_grows : (ts : List Published) (e : AllocError) → Grows selection clock ts (Err e) s s' o o'
    refused_grows ts e =
        let k = kept in
        let g = stays selection s' o o' k.good stay.frames stay.rest stay.made in
        record { good = g.0; held = tt; sent = tt; err = g.1 ∙ k.held }

    same_settled : settled_of s' o' ≡ settled_of s' o
    same_settled = settled_kept selection s' o o' (kept).good stay.frames stay.rest

    pub refused_taken : (rs : List Record) → HasTaken s rs → HasTaken (settled_of s' o') rs
    refused_taken rs taken = subst (λ (t : ReorderState). HasTaken t rs) (sym same_settled) (unqueued_taken rs taken)

    pub refused_tidy : (count : ℕ) → IsTidy count [] (after_giving_all_back s (ready_states o.waiting.items ++ ready ∷ [])).strands → IsTidy count [] (settled_of s' o').strands
    refused_tidy count tidy = subst (λ (t : ReorderState). IsTidy count [] t.strands) (sym same_settled) (unqueued_tidy count tidy)
