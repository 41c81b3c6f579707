-- Where what waits has given way, a change finds no room only because of transactions in progress, and a record is read as before.
use Rattle.std.proofs.Common.{◌≡◌, ◌<◌, ◌+◌, ℕ, ℤ, Bool, false, List, [], ◌++◌, ap, length, subst, sym, ◌∙◌, arith, inl, inr, ⊎_elim}
use Rattle.std.proofs.lemmas.List.{length-map}
use Rattle.std.specs.Prelude.{◌⊎◌}
use Rattle.wal.specs.declared.record.Record.{Record}
use Rattle.publication.specs.Publications.{PublicationSet}
use Rattle.reorder.specs.Chunks.{IsTidy, LeavesNoRoom, live_chunks}
use Rattle.reorder.specs.Ready.{ReadyState}
use Rattle.reorder.specs.Settled.{AreLentIn, LeavesNoRoomBeside, after_giving_all_back, lent_chunks}
use Rattle.reorder.specs.Taking.{HasTaken, ReorderState}
use Rattle.reorder.proofs.Filling.{lent_fill}
use Rattle.reorder.proofs.Settling.{failed_settled, settled_taken}
use Rattle.walsender.specs.Outgoing.{HasFreeChunk, HoldsSame, IsOutgoing, LeavesChunk, held_of, lent_of, sent_of, settled_of}
use Rattle.walsender.specs.Sending.{ReadOne, SenderState, sent_by_record}
use Rattle.walsender.specs.Waiting.{ready_states}
use Rattle.walsender.specs.declared.held.committed_transaction.CommittedTransaction.{CommittedTransaction}
use Rattle.walsender.specs.declared.held.outgoing.Outgoing.{Outgoing}
use Rattle.walsender.proofs.Lasting.{last_more, last_then}
use Rattle.walsender.proofs.States.{state}

none_left : (s : ReorderState) (ws : List ReadyState) (rs : List Record) (count : ℕ) (r : Record) → (ws ≡ []) ⊎ HasFreeChunk s → HasTaken s rs → AreLentIn s ws → IsTidy count [] (after_giving_all_back s ws).strands
    → LeavesNoRoomBeside (lent_chunks s ws) count rs r → LeavesNoRoom count rs r
none_left s ws rs count r way taken are tidy full =
    let split = full.split in
    ⊎_elim
    (λ (none : ws ≡ []).
    let lent : lent_chunks s ws ≡ 0 = ap (lent_chunks s) none in
    subst (λ (n : ℕ). LeavesNoRoom n rs r) (omega (arith, split, lent)) full.full)
    (λ (free : HasFreeChunk s).
    let low = free rs ws count taken are tidy in
    let all = full.full.all in
    absurd (omega (arith, low, split, all)))
    way

-- while something waits, the transactions in progress leave a chunk
pub chunk_left : (selection : PublicationSet) (s : ReorderState) (o : Outgoing) (free : ℕ) → IsOutgoing selection s o → 0 < length o.waiting.items
    → ((rs : List Record) (ws : List ReadyState) (count : ℕ) → HasTaken s rs → AreLentIn s ws → IsTidy count [] (after_giving_all_back s ws).strands → free + live_chunks rs + lent_chunks s ws ≡ count) → LeavesChunk s o
chunk_left selection s o free good waits exact rs count taken tidy =
    let ws = ready_states o.waiting.items in
    let long : 0 < length ws = omega (arith, waits, length-map o.waiting.items (λ (w : CommittedTransaction). w.ready)) in
    let all = exact rs ws count (settled_taken s ws rs good.lent taken) good.lent tidy in
    let some = lent_fill s ws good.lent good.some long in
    omega (arith, all, some)

module _ (selection : PublicationSet) (old new : ReorderState) (o o' : Outgoing) (same : HoldsSame selection old new o o') where
  pub chunk_left_before : LeavesChunk new o' → LeavesChunk old o
  chunk_left_before left rs count taken tidy = left rs count (subst (λ (s : ReorderState). HasTaken s rs) (sym same.settled) taken) (subst (λ (s : ReorderState). IsTidy count [] s.strands) (sym same.settled) tidy)

  pub tidy_then : (count : ℕ) → IsTidy count [] (settled_of old o).strands → IsTidy count [] (settled_of new o').strands
  tidy_then count tidy = subst (λ (s : ReorderState). IsTidy count [] s.strands) (sym same.settled) tidy

  pub taken_then : (rs : List Record) → HasTaken (settled_of old o) rs → HasTaken new rs
  taken_then rs taken = settled_taken new (ready_states o'.waiting.items) rs same.good.lent (subst (λ (s : ReorderState). HasTaken s rs) (sym same.settled) taken)

  pub running_then : (settled_of old o).failed ≡ false → new.failed ≡ false
  running_then running = sym (failed_settled new (ready_states o'.waiting.items)) ∙ ap (λ (s : ReorderState). s.failed) same.settled ∙ running

  pub lacks_room_alone : (rs : List Record) (count : ℕ) (r : Record) → (o'.waiting.items ≡ []) ⊎ HasFreeChunk new → HasTaken (settled_of old o) rs → IsTidy count [] (settled_of old o).strands
      → (HasTaken new rs → IsTidy count [] (settled_of new o').strands → LeavesNoRoomBeside (lent_chunks new (ready_states o'.waiting.items)) count rs r) → LeavesNoRoom count rs r
  lacks_room_alone rs count r way taken tidy full =
      let then = taken_then rs taken in
      none_left new (ready_states o'.waiting.items) rs count r
      (⊎_elim (λ (none : o'.waiting.items ≡ []). inl (ap ready_states none)) (λ (free : HasFreeChunk new). inr free) way)
      then same.good.lent (tidy_then count tidy) (full then (tidy_then count tidy))

  -- where transactions in progress leave no chunk, there is none beside what waits
  pub lacks_room_beside : (rs : List Record) (count : ℕ) (r : Record) → (o'.waiting.items ≡ []) ⊎ HasFreeChunk new → HasTaken (settled_of old o) rs → IsTidy count [] (settled_of old o).strands
      → LeavesNoRoom count rs r → LeavesNoRoomBeside (lent_chunks new (ready_states o'.waiting.items)) count rs r
  lacks_room_beside rs count r way taken tidy full =
      let ws = ready_states o'.waiting.items in
      let all = full.all in
      ⊎_elim
      (λ (none : o'.waiting.items ≡ []).
      let lent : lent_chunks new ws ≡ 0 = ap (λ (l : List CommittedTransaction). lent_chunks new (ready_states l)) none in
      record { left = count; split = omega (arith, lent); full = full })
      (λ (free : HasFreeChunk new). let low = free rs ws count (taken_then rs taken) same.good.lent (tidy_then count tidy) in absurd (omega (arith, low, all)))
      way

  -- what is read after the same is read after what it was
  pub read_after : (clock : ℤ) (start position : ℕ) (failed : Bool) (r : Record) (last : SenderState)
      → ReadOne clock (state selection start position failed (held_of selection new o') (sent_of selection new o') (settled_of new o') (lent_of new o')) last r
      → ReadOne clock (state selection start position failed (held_of selection old o) (sent_of selection old o) (settled_of old o) (lent_of old o)) last r
  read_after clock start position failed r last read =
      let lent = lent_of new o' in
      let one =
      subst (λ (h : List ℕ). ReadOne clock (state selection start position failed h (sent_of selection old o) (settled_of old o) lent) last r) same.held
      (subst (λ (l : List ℕ). ReadOne clock (state selection start position failed (held_of selection new o') l (settled_of old o) lent) last r) same.sent
      (subst (λ (s : ReorderState). ReadOne clock (state selection start position failed (held_of selection new o') (sent_of selection new o') s lent) last r) same.settled read)) in
      record {
        ready = one.ready;
        takes = one.takes;
        running = one.running;
        selection = one.selection;
        start = one.start;
        position = one.position;
        held = one.held;
        fit = one.fit;
        relations_sent = one.relations_sent;
        lent = λ before taken may.
            let sent = sent_by_record selection start r one.ready in
            last_then (lent_of old o ++ sent) (lent ++ sent) last.lent (last_more (lent_of old o) lent sent same.lent) (one.lent before taken may);
      }
