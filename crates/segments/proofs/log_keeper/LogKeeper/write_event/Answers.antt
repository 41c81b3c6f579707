use Rattle.std.proofs.Common.{◌≡◌, true, List, ℕ, ◌++◌, take, ap, ◌∙◌}
use Rattle.shared_log.specs.Readers.{seen_of}
use Rattle.segments.specs.Entries.{Written}
use Rattle.segments.specs.Kinds.{is_beside}
use Rattle.segments.specs.SlotEvents.{spell_event}
use Rattle.segments.proofs.Kept.{beside_kept, event_beside}
use Rattle.segments.proofs.log_keeper.LogKeeper.write_event.Goals as goal

pub returns-clause-keeps : goal.returns-clause-keeps
returns-clause-keeps g c = λ never has.
    let old = c.args.self.now in
    let event = c.args.event.now in
    let e : Written = record { synced = old.segment.synced; body = c.as_slice.result.now } in
    let text : c.as_slice.result.now ≡ spell_event event = c.as_slice.ensures ∙ c.in_ok-put_slot_event.ensures ∙ ap (λ (l : List ℕ). l ++ spell_event event) c.clear.ensures.items in
    let beside : is_beside e.body ≡ true = ap is_beside text ∙ event_beside event in
    beside_kept g.D.Disk.seen old.segment c.append.new.self (take old.reader.place (seen_of old.reader)) c.append.result e beside c.append.ensures.written c.append.ensures.unwritten never has
