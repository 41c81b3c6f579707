use Rattle.std.proofs.Common.{◌≡◌, ℕ, List, ap, subst, ◌∙◌}
use Rattle.segments.specs.Entries.{Written}
use Rattle.segments.specs.Recovery.{ReplaysEntry}
use Rattle.segments.proofs.Recovered.{replays_more}
use Rattle.segments.proofs.replaying.replay.Goals as goal

pub loop-entry-preserved : goal.loop-entry-preserved
loop-entry-preserved g c =
    let before = c.loop-entry.publisher in
    let after = c.replay_entry.new.publisher in
    let e : Written = c.entry-item.result in
    let bytes : c.as_slice.result.now ≡ e.body = c.as_slice.ensures.value ∙ ap (λ (w : Written). w.body) c.entry.view_is in
    let one = subst (λ (b : List ℕ). ReplaysEntry b before.log after.log) bytes c.in_ok-replay_entry.ensures.ok in
    let kept = c.loop-entry.invariant.1 in
    let same = c.in_ok-replay_entry.ensures.beside in
    (replays_more c.args.entries.now c.loop-entry.entry-index e c.args.publisher.now.log before.log after.log c.loop-entry-test.true c.entry-item.is c.loop-entry.invariant.0 one, record { tables = same.tables ∙ kept.tables; capacity = same.capacity ∙ kept.capacity; given = same.given ∙ kept.given; snapshots = same.snapshots ∙ kept.snapshots })
