-- A record that is taken while committed transactions wait.
use Rattle.std.proofs.Common.{◌≡◌, ℕ, ℤ, Bool, false, List, [], ◌∷◌, ◌++◌, Option, None, Ok, refl, ap, ◌∙◌}
use Rattle.std.specs.List.{AllByRecursion}
use Rattle.wal.specs.declared.record.Record.{Record}
use Rattle.wal.specs.Log.{Entry}
use Rattle.publication.specs.Publications.{PublicationSet}
use Rattle.publication.specs.Selection.{relation}
use Rattle.pgoutput.specs.Items.{FitsPublished, bytes_of_items, relations_sent_through}
use Rattle.reorder.specs.Chunks.{IsTidy, held_with}
use Rattle.reorder.specs.Pool.{IsLent, StaysLent}
use Rattle.reorder.specs.Ready.{ReadyState}
use Rattle.reorder.specs.declared.ready.RecordOutcome.{RecordOutcome}
use Rattle.reorder.specs.declared.ready.RecordOutcome.TheVariants as steps
use Rattle.reorder.specs.Settled.{AreLentIn, FillsReady, after_giving_all_back}
use Rattle.reorder.specs.Taking.{HasTaken, IsStepApart, IsStepHeld, MayCome, ReorderState, Takes, readied_changes}
use Rattle.reorder.proofs.Filling.{tidy_more, tidy_quiet}
use Rattle.reorder.proofs.Settling.{entries_lent, failed_settled, lent_more, settled_taken}
use Rattle.walsender.specs.Waiting.{ready_states, ready_states_with}
use Rattle.walsender.specs.Lent.{LentTransaction}
use Rattle.walsender.specs.Outgoing.{Grows, held_of, lent_by_step, lent_of, sent_of, settled_of}
use Rattle.walsender.specs.Sending.{ReadOne, blocks, published_by_record, sent_by_record}
use Rattle.walsender.specs.declared.held.outgoing.Outgoing.{Outgoing}
use Rattle.walsender.proofs.Lasting.{last_same, step_fills}
use Rattle.walsender.proofs.Lent.{Keeps}
use Rattle.walsender.proofs.States.{state}

-- what it has taken while these are ready, it has taken once they are given back
pub takes_settled : (old new last : ReorderState) (ws : List ReadyState) (r : Record) (ready : Option (List Entry)) → AreLentIn old ws → Takes old new r ready → ((rs : List Record) → HasTaken new rs → HasTaken last rs) → Takes (after_giving_all_back old ws) last r ready
takes_settled old new last ws r ready are takes then = record {
  after = λ before taken may behind.
      let t = takes.after before (settled_taken old ws before are taken) may behind in
      (then (before ++ r ∷ []) t.0, t.1);
}

-- what is ready with it lies in the arena
pub lent_step : (old new : ReorderState) (ws : List ReadyState) (step : RecordOutcome) → AreLentIn old ws → StaysLent old.strands.pool new.strands.pool → IsStepHeld new step
    → ((lent : List (ℕ × Option ℕ)) → IsLent old.strands.pool lent → IsStepApart step lent) → AreLentIn new (ready_states_with ws step)
lent_step old new ws steps.Quiet are stays held apart = (entries_lent old new ws are stays).0
lent_step old new ws (steps.Ready ready) are stays held apart = lent_more old new ws ready are (entries_lent old new ws are stays).0 held apart

pub tidy_step : (old new : ReorderState) (ws : List ReadyState) (step : RecordOutcome) (count : ℕ) → AreLentIn old ws → AreLentIn new (ready_states_with ws step)
    → ((n : ℕ) (held : List ReadyState) → IsTidy n held old.strands → IsTidy n (held_with held step) new.strands) → IsTidy count [] (after_giving_all_back old ws).strands → IsTidy count [] (after_giving_all_back new (ready_states_with ws step)).strands
tidy_step old new ws steps.Quiet count before after takes tidy = tidy_quiet old new ws count before after takes tidy
tidy_step old new ws (steps.Ready ready) count before after takes tidy = tidy_more old new ws ready count before after takes tidy

-- what makes nothing ready is quiet
pub quiet_of : (s : ReorderState) (step : RecordOutcome) → readied_changes s step ≡ None → step ≡ steps.Quiet
quiet_of s steps.Quiet none = refl
quiet_of s (steps.Ready ready) none = let never = none in cc

-- ---- a record that was read

pub read_one : (clock : ℤ) (selection : PublicationSet) (start position end : ℕ) (failed : Bool) (r : Record) (old mid new : ReorderState) (o o' : Outgoing) (step : RecordOutcome) → AreLentIn old (ready_states o.waiting.items) → Keeps selection old mid o
    → Takes old mid r (readied_changes mid step) → end ≡ r.end → Grows selection clock (published_by_record selection start r (readied_changes mid step)) (Ok tt) mid new o o'
    → AllByRecursion (FitsPublished (relation selection)) (published_by_record selection start r (readied_changes mid step)) → ((rs : List Record) → HasTaken mid rs → HasTaken (settled_of new o') rs)
    → ((rs : List Record) → HasTaken old rs → MayCome rs r.body → FillsReady mid step)
    → lent_of new o' ≡ lent_of mid o ++ lent_by_step (published_by_record selection start r (readied_changes mid step)) mid step → new.failed ≡ false
    → ReadOne clock (state selection start position failed (held_of selection old o) (sent_of selection old o) (settled_of old o) (lent_of old o)) (state selection start end failed (held_of selection new o') (sent_of selection new o') (settled_of new o') (lent_of new o')) r
read_one clock selection start position end failed r old mid new o o' step are kept takes is grows fit taken fills lents running =
    let ready = readied_changes mid step in
    let ts = published_by_record selection start r ready in
    record {
      ready = ready;
      takes = takes_settled old mid (settled_of new o') (ready_states o.waiting.items) r ready are takes taken;
      running = failed_settled new (ready_states o'.waiting.items) ∙ running;
      selection = refl;
      start = refl;
      position = is;
      held =
          grows.held ∙ ap (λ (l : List ℕ). l ++ bytes_of_items (relation selection) (sent_of selection mid o) (blocks clock ts)) kept.held
          ∙ ap (λ (l : List ℕ). held_of selection old o ++ bytes_of_items (relation selection) l (blocks clock ts)) kept.sent;
      fit = fit;
      relations_sent = grows.sent ∙ ap (λ (l : List ℕ). relations_sent_through l ts) kept.sent;
      lent = λ before told may.
          let taken_before = settled_taken old (ready_states o.waiting.items) before are told in
          last_same (lent_of old o ++ sent_by_record selection start r ready) (lent_of new o')
          (lents ∙ ap (λ (l : List LentTransaction). l ++ lent_by_step ts mid step) kept.lent
          ∙ ap (λ (l : List LentTransaction). lent_of old o ++ l) (step_fills selection start r mid step (fills before taken_before may)));
    }
