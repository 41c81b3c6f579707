-- How many chunks an arena has, whatever a sender does with them, and where it is full for good.
use Rattle.std.proofs.Common.{◌≡◌, ◌+◌, ◌<◌, ℕ, Bool, List, [], ◌∷◌, ap, length, map, subst, sym, ◌∙◌, arith, ⊎_elim}
use Rattle.std.specs.Prelude.{◌⊎◌, sum_by}
use Rattle.chgarena.specs.Strands.{fills}
use Rattle.wal.specs.declared.record.Record.{Record}
use Rattle.publication.specs.Publications.{PublicationSet}
use Rattle.reorder.specs.Ready.{ReadyState}
use Rattle.reorder.specs.Chunks.{IsTidy}
use Rattle.reorder.specs.Settled.{AreLentIn, LeavesNoRoomBeside, after_giving_all_back, after_giving_back, lent_chunks}
use Rattle.reorder.specs.Taking.{HasTaken, ReorderState}
use Rattle.reorder.proofs.Filling.{settled_fills, settled_length}
use Rattle.walsender.specs.Lent.{LentTransaction}
use Rattle.walsender.specs.Outgoing.{HasFreeChunk, HoldsSame, lent_in, lent_of, settled_of}
use Rattle.walsender.specs.Sending.{HasSize, IsFilled, LeavesFree}
use Rattle.walsender.specs.Waiting.{ready_states}
use Rattle.walsender.specs.declared.held.committed_transaction.CommittedTransaction.{CommittedTransaction}
use Rattle.walsender.specs.declared.held.outgoing.Outgoing.{Outgoing}
use Rattle.walsender.proofs.GivingWay.{taken_then, tidy_then}
use Rattle.walsender.proofs.Lasting.{lent_sum}
use Rattle.walsender.proofs.States.{state}

abbrev size : ReorderState → ℕ
size s = length s.strands.pool.arena

pub size_given_back : (s s' : ReorderState) (ready : ReadyState) → s' ≡ after_giving_back s ready → size s' ≡ size s
size_given_back s s' ready is = ap size is ∙ settled_length s (ready ∷ [])

-- what waits has given way, and then the regrouping went on
pub size_settled : (selection : PublicationSet) (old mid new : ReorderState) (o o' o'' : Outgoing) → HoldsSame selection old mid o o' → size new ≡ size mid → size (settled_of new o'') ≡ size (settled_of old o)
size_settled selection old mid new o o' o'' same on =
    settled_length new (ready_states o''.waiting.items) ∙ on ∙ sym (settled_length mid (ready_states o'.waiting.items)) ∙ ap size same.settled

-- the last field is whatever lies beside it
pub free_beside : (s : ReorderState) (ws : List CommittedTransaction) (free : ℕ) → AreLentIn s (ready_states ws) → free + fills s.strands.pool.arena ≡ size s
    → free + fills (after_giving_all_back s (ready_states ws)).strands.pool.arena + sum_by (λ (t : LentTransaction). t.chunks) (map (lent_in s.strands.pool.arena) ws) ≡ size (after_giving_all_back s (ready_states ws))
free_beside s ws free are is = omega (arith, is, settled_fills s (ready_states ws) are, lent_sum s ws, settled_length s (ready_states ws))

-- Where the arena was full for a change, nothing waits that might have given way.
pub none_waits : (selection : PublicationSet) (old new : ReorderState) (o o' : Outgoing) → HoldsSame selection old new o o' → (rs : List Record) (count : ℕ) (r : Record) → (o'.waiting.items ≡ []) ⊎ HasFreeChunk new
    → HasTaken (settled_of old o) rs → IsTidy count [] (settled_of old o).strands
    → (HasTaken new rs → IsTidy count [] (settled_of new o').strands → LeavesNoRoomBeside (lent_chunks new (ready_states o'.waiting.items)) count rs r) → o'.waiting.items ≡ []
none_waits selection old new o o' same rs count r way taken tidy full =
    let taken' = taken_then selection old new o o' same rs taken in
    let tidy' = tidy_then selection old new o o' same count tidy in
    ⊎_elim
    (λ (none : o'.waiting.items ≡ []). none)
    (λ (free : HasFreeChunk new).
    let low = free rs (ready_states o'.waiting.items) count taken' same.good.lent tidy' in
    let f = full taken' tidy' in
    let split = f.split in
    let all = f.full.all in
    absurd (omega (arith, low, split, all)))
    way

pub filled_alone : (selection : PublicationSet) (start position : ℕ) (failed : Bool) (held sent : List ℕ) (s : ReorderState) (o : Outgoing) → o.waiting.items ≡ [] → fills s.strands.pool.arena ≡ size s
    → IsFilled (state selection start position failed held sent (settled_of s o) (lent_of s o))
filled_alone selection start position failed held sent s o none is = record {
  all = subst (λ (ws : List CommittedTransaction). fills (after_giving_all_back s (ready_states ws)).strands.pool.arena ≡ size (after_giving_all_back s (ready_states ws))) (sym none) is;
  alone = ap (map (lent_in s.strands.pool.arena)) none;
}
