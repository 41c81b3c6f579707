use Rattle.std.proofs.Common.{rules, ◌≡◌, ℕ, [], false, length, List, Option, ◌∙◌, sym, ap, subst, Some, None}
use Rattle.wal.specs.declared.record.Record.{Record}
use Rattle.wal.specs.declared.record.Body.{Body}
use Rattle.wal.specs.Log.{Entry, IsOpen, is_assigned}
use Rattle.reorder.specs.Entries.{entry_in}
use Rattle.reorder.specs.Ready.{ready_entries}
use Rattle.reorder.specs.Strands.{IsSame, by_xid, with_change_of}
use Rattle.reorder.specs.Taking.{MayCome, ReorderState, Takes}
use Rattle.reorder.specs.Bookkeeping.{IsBookkeeping}
use Rattle.reorder.specs.Chunks.{IsTidy}
use Rattle.reorder.specs.Settled.{AreLentIn, LeavesNoRoomBeside, after_giving_all_back, lent_chunks, ready_chunks}
use Rattle.reorder.specs.Pool.{IsLent, StaysLent}
use Rattle.reorder.proofs.Lending.{stays_itself, stays_lent}
use Rattle.reorder.proofs.Coding.{entry_length, kept_again}
use Rattle.reorder.proofs.Counting.{no_room_left}
use Rattle.reorder.proofs.Filling.{chunks_lent, no_room_beside, tidy_settled}
use Rattle.reorder.proofs.Opening.{Opened, opened}
use Rattle.reorder.proofs.ReadyChunks.{commit_filled}
use Rattle.reorder.proofs.Refusing.{never_alone, never_beside, refused_alone, refused_beside}
use Rattle.reorder.proofs.Settling.{entries_lent}
use Rattle.reorder.proofs.Steps.{state, taken_assign, taken_change, taken_rollback, taken_abort, taken_commit, taken_note}
use Rattle.reorder.proofs.reorder.Reorder.regroup.Goals as goal
use Rattle.reorder.proofs.reorder.Reorder.regroup.Goals.{in-Assign+in_ok-open-in-Assign+in_ok-assign-in-Assign, in-Change+else-is_full_for+in_ok-open-in-Change+in_ok-write_entry-in-Change+in_ok-push-in-Change, in-AbortSub, in-Abort, in-Note}

carried : (s old after now : ReorderState) (r : Record) (ready : Option (List Entry)) → s ≡ old → now ≡ after → Takes s after r ready → Takes old now r ready
carried s old after now r ready same same' taken =
    subst (λ (n : ReorderState). Takes old n r ready) (sym same') (subst (λ (o : ReorderState). Takes o after r ready) same taken)

pub returns-clause-takes : goal.returns-clause-takes
returns-clause-takes c =
    elim c.match-next.branch [
      | in-Assign+in_ok-open-in-Assign+in_ok-assign-in-Assign w ↦
          carried (state c.self.inside.strands c.self.inside.failed) c.args.self.now (state w.assign.new.self c.self.inside.failed) c.match-next.self c.args.next.now None c.self.view_is w.self-is
          (taken_assign c.self.inside.strands w.open.new.self w.assign.new.self c.self.inside.failed c.self.inside.failed c.args.next.now w.in-Assign.sub w.in-Assign.parent
          w.in-Assign.is w.in_ok-open-in-Assign.ensures.known w.in_ok-open-in-Assign.ensures.fresh w.in_ok-assign-in-Assign.ensures.assigned)
      | in-Change+else-is_full_for+in_ok-open-in-Change+in_ok-write_entry-in-Change+in_ok-push-in-Change w ↦
          carried (state c.self.inside.strands c.self.inside.failed) c.args.self.now (state w.push.new.self c.self.inside.failed) c.match-next.self c.args.next.now None c.self.view_is w.self-is
          (taken_change c.self.inside.strands w.open-in-Change.new.self w.push.new.self c.self.inside.failed c.self.inside.failed c.args.next.now w.in-Change.xid w.in-Change.change
          w.in-Change.is w.in_ok-open-in-Change.ensures.known w.in_ok-open-in-Change.ensures.fresh
          (subst (λ (e : Entry). IsSame (by_xid w.push.new.self) (with_change_of w.in-Change.xid e (by_xid w.open-in-Change.new.self)))
          (ap (entry_in w.in-Change.xid) (w.as_slice.ensures ∙ w.in_ok-write_entry-in-Change.ensures.text)
          ∙ kept_again c.args.next.now w.in-Change.xid w.in-Change.change w.in-Change.is w.write_entry.ensures.in_range w.write_entry.ensures.coded) w.in_ok-push-in-Change.ensures.ok))
      | in-AbortSub w ↦
          carried (state c.self.inside.strands c.self.inside.failed) c.args.self.now (state w.undo.new.self c.self.inside.failed) c.match-next.self c.args.next.now None c.self.view_is w.self-is
          (taken_rollback c.self.inside.strands w.undo.new.self c.self.inside.failed c.self.inside.failed c.args.next.now w.in-AbortSub.xid w.in-AbortSub.is w.undo.ensures.undone)
      | in-Abort w ↦
          carried (state c.self.inside.strands c.self.inside.failed) c.args.self.now (state w.end.new.self c.self.inside.failed) c.match-next.self c.args.next.now None c.self.view_is w.self-is
          (taken_abort c.self.inside.strands w.end.new.self c.self.inside.failed c.self.inside.failed c.args.next.now w.in-Abort.top w.in-Abort.is w.end.ensures.ended)
      | in-Note w ↦
          subst (λ (now : ReorderState). Takes c.args.self.now now c.args.next.now None) (sym w.self-is) (subst (λ (old : ReorderState). Takes old old c.args.next.now None) c.self.view_is
          (taken_note c.self.inside.strands c.self.inside.failed c.self.inside.failed c.args.next.now w.in-Note.field-0 w.in-Note.is))
    ]

pub returns-in-Commit-clause-takes : goal.returns-in-Commit-clause-takes
returns-in-Commit-clause-takes c =
    subst (λ (s : ReorderState). Takes s (state c.make_ready.new.self c.self.inside.failed) c.args.next.now (Some (ready_entries c.make_ready.new.self.pool c.in_ok-make_ready-in-Commit.field-0))) c.self.view_is
    (taken_commit c.self.inside.strands c.make_ready.new.self c.self.inside.failed c.self.inside.failed c.args.next.now c.in-Commit.top c.in-Commit.field-1
    _ c.in-Commit.is c.in_ok-make_ready-in-Commit.ensures.merged c.in_ok-make_ready-in-Commit.ensures.ended)

pub returns-in_err-push-in-Change-clause-full : goal.returns-in_err-push-in-Change-clause-full
returns-in_err-push-in-Change-clause-full c = λ is rs count taken next tidy.
    let body : IsOpen rs c.in-Change.xid = subst (λ (b : Body). MayCome rs b) c.in-Change.is next in
    let before : IsBookkeeping (by_xid c.self.inside.strands) rs = subst (λ (s : ReorderState). IsBookkeeping (by_xid s.strands) rs) (sym c.self.view_is) taken.ready in
    let o : Opened (by_xid c.open-in-Change.new.self) (by_xid c.self.inside.strands) rs c.in-Change.xid =
    opened c.self.inside.strands c.open-in-Change.new.self rs c.in-Change.xid before.strands body c.in_ok-open-in-Change.ensures.known c.in_ok-open-in-Change.ensures.fresh in
    no_room_left c.open-in-Change.new.self rs count (length c.as_slice.result.now) c.args.next.now c.in-Change.xid c.in-Change.change o.kept
    (c.in_ok-open-in-Change.ensures.tidy count [] (subst (λ (s : ReorderState). IsTidy count [] s.strands) (sym c.self.view_is) tidy)) c.in-Change.is
    (ap length (c.as_slice.ensures ∙ c.in_ok-write_entry-in-Change.ensures.text) ∙ entry_length c.args.next.now.start c.in-Change.change) body.undropped o.some
    (c.in_err-push-in-Change.ensures.full (search rules))

pub returns-in_err-push-in-Change-clause-full_beside : goal.returns-in_err-push-in-Change-clause-full_beside
returns-in_err-push-in-Change-clause-full_beside c = λ is rs ws count taken next are tidy.
    let body : IsOpen rs c.in-Change.xid = subst (λ (b : Body). MayCome rs b) c.in-Change.is next in
    let before : IsBookkeeping (by_xid c.self.inside.strands) rs = subst (λ (s : ReorderState). IsBookkeeping (by_xid s.strands) rs) (sym c.self.view_is) taken.ready in
    let o : Opened (by_xid c.open-in-Change.new.self) (by_xid c.self.inside.strands) rs c.in-Change.xid =
    opened c.self.inside.strands c.open-in-Change.new.self rs c.in-Change.xid before.strands body c.in_ok-open-in-Change.ensures.known c.in_ok-open-in-Change.ensures.fresh in
    let old : ReorderState = state c.self.inside.strands c.self.inside.failed in
    let mid : ReorderState = state c.open-in-Change.new.self c.self.inside.failed in
    let lent : AreLentIn old ws = subst (λ (s : ReorderState). AreLentIn s ws) (sym c.self.view_is) are in
    let whole : IsTidy count ws c.open-in-Change.new.self =
    c.in_ok-open-in-Change.ensures.tidy count ws (tidy_settled old ws count lent (subst (λ (s : ReorderState). IsTidy count [] (after_giving_all_back s ws).strands) (sym c.self.view_is) tidy)) in
    let same : lent_chunks mid ws ≡ lent_chunks c.args.self.now ws = chunks_lent old mid ws lent c.open-in-Change.ensures.lent ∙ ap (λ (s : ReorderState). lent_chunks s ws) c.self.view_is in
    subst (λ (n : ℕ). LeavesNoRoomBeside n count rs c.args.next.now) same
    (no_room_beside mid rs ws count (length c.as_slice.result.now) c.args.next.now c.in-Change.xid c.in-Change.change o.kept (entries_lent old mid ws lent c.open-in-Change.ensures.lent).0 whole c.in-Change.is
    (ap length (c.as_slice.ensures ∙ c.in_ok-write_entry-in-Change.ensures.text) ∙ entry_length c.args.next.now.start c.in-Change.change) body.undropped o.some
    (c.in_err-push-in-Change.ensures.full (search rules)))

pub returns-in-Commit-clause-tidy : goal.returns-in-Commit-clause-tidy
returns-in-Commit-clause-tidy c = λ count held tidy. c.in_ok-make_ready-in-Commit.ensures.tidy count held (subst (λ (s : ReorderState). IsTidy count held s.strands) (sym c.self.view_is) tidy)

pub returns-clause-tidy : goal.returns-clause-tidy
returns-clause-tidy c = λ count held tidy.
    let before : IsTidy count held c.self.inside.strands = subst (λ (s : ReorderState). IsTidy count held s.strands) (sym c.self.view_is) tidy in
    elim c.match-next.branch [
      | in-Assign+in_ok-open-in-Assign+in_ok-assign-in-Assign w ↦
          subst (λ (s : ReorderState). IsTidy count held s.strands) (sym w.self-is) (w.in_ok-assign-in-Assign.ensures.tidy count held (w.in_ok-open-in-Assign.ensures.tidy count held before))
      | in-Change+else-is_full_for+in_ok-open-in-Change+in_ok-write_entry-in-Change+in_ok-push-in-Change w ↦
          subst (λ (s : ReorderState). IsTidy count held s.strands) (sym w.self-is) (w.in_ok-push-in-Change.ensures.tidy w.in_ok-open-in-Change.ensures.there count held (w.in_ok-open-in-Change.ensures.tidy count held before))
      | in-AbortSub w ↦ subst (λ (s : ReorderState). IsTidy count held s.strands) (sym w.self-is) (w.undo.ensures.tidy count held before)
      | in-Abort w ↦ subst (λ (s : ReorderState). IsTidy count held s.strands) (sym w.self-is) (w.end.ensures.tidy count held before)
      | in-Note w ↦ subst (λ (s : ReorderState). IsTidy count held s.strands) (sym w.self-is) tidy
    ]

pub returns-in-Commit-clause-chunks : goal.returns-in-Commit-clause-chunks
returns-in-Commit-clause-chunks c = λ rs taken next.
    let before : IsBookkeeping (by_xid c.self.inside.strands) rs = subst (λ (s : ReorderState). IsBookkeeping (by_xid s.strands) rs) (sym c.self.view_is) taken.ready in
    let may : (is_assigned rs c.in-Commit.top ≡ false) × IsOpen rs c.in-Commit.top = subst (λ (b : Body). MayCome rs b) c.in-Commit.is next in
    commit_filled c.self.inside.strands rs c.in-Commit.top (ready_entries c.make_ready.new.self.pool c.in_ok-make_ready-in-Commit.field-0)
    (ready_chunks c.make_ready.new.self.pool.arena c.in_ok-make_ready-in-Commit.field-0) before.strands may.0 may.1 c.in_ok-make_ready-in-Commit.ensures.merged c.in_ok-make_ready-in-Commit.ensures.chunks

pub returns-in-Commit-clause-apart : goal.returns-in-Commit-clause-apart
returns-in-Commit-clause-apart c = λ lent is. c.in_ok-make_ready-in-Commit.ensures.apart lent (subst (λ (s : ReorderState). IsLent s.strands.pool lent) (sym c.self.view_is) is)

pub returns-clause-lent : goal.returns-clause-lent
returns-clause-lent c =
    elim c.match-next.branch [
      | in-Assign+in_ok-open-in-Assign+in_ok-assign-in-Assign w ↦
          subst (λ (s : ReorderState). StaysLent s.strands.pool c.match-next.self.strands.pool) c.self.view_is (subst (λ (s : ReorderState). StaysLent c.self.inside.strands.pool s.strands.pool) (sym w.self-is)
          (stays_lent c.self.inside.strands.pool w.open.new.self.pool w.assign.new.self.pool w.open.ensures.lent w.assign.ensures.lent))
      | in-Change+else-is_full_for+in_ok-open-in-Change+in_ok-write_entry-in-Change+in_ok-push-in-Change w ↦
          subst (λ (s : ReorderState). StaysLent s.strands.pool c.match-next.self.strands.pool) c.self.view_is (subst (λ (s : ReorderState). StaysLent c.self.inside.strands.pool s.strands.pool) (sym w.self-is)
          (stays_lent c.self.inside.strands.pool w.open-in-Change.new.self.pool w.push.new.self.pool w.open-in-Change.ensures.lent w.push.ensures.lent))
      | in-AbortSub w ↦
          subst (λ (s : ReorderState). StaysLent s.strands.pool c.match-next.self.strands.pool) c.self.view_is (subst (λ (s : ReorderState). StaysLent c.self.inside.strands.pool s.strands.pool) (sym w.self-is) w.undo.ensures.lent)
      | in-Abort w ↦
          subst (λ (s : ReorderState). StaysLent s.strands.pool c.match-next.self.strands.pool) c.self.view_is (subst (λ (s : ReorderState). StaysLent c.self.inside.strands.pool s.strands.pool) (sym w.self-is) w.end.ensures.lent)
      | in-Note w ↦ subst (λ (s : ReorderState). StaysLent c.args.self.now.strands.pool s.strands.pool) (sym w.self-is) (stays_itself c.args.self.now.strands.pool)
    ]

pub returns-then-is_full_for-clause-full : goal.returns-then-is_full_for-clause-full
returns-then-is_full_for-clause-full c = λ is rs count taken next tidy.
    let body : IsOpen rs c.in-Change.xid = subst (λ (b : Body). MayCome rs b) c.in-Change.is next in
    let before : IsBookkeeping (by_xid c.self.inside.strands) rs = subst (λ (s : ReorderState). IsBookkeeping (by_xid s.strands) rs) (sym c.self.view_is) taken.ready in
    refused_alone (state c.self.inside.strands c.self.inside.failed) rs c.args.next.now c.in-Change.xid c.entry_len.result c.in-Change.change c.in-Change.is c.entry_len.ensures.value before.strands body count
    (subst (λ (s : ReorderState). IsTidy count [] s.strands) (sym c.self.view_is) tidy) (rw c.if-is_full_for.true at c.is_full_for.ensures.room)

pub returns-then-is_full_for-clause-full_beside : goal.returns-then-is_full_for-clause-full_beside
returns-then-is_full_for-clause-full_beside c = λ is rs ws count taken next are tidy.
    let body : IsOpen rs c.in-Change.xid = subst (λ (b : Body). MayCome rs b) c.in-Change.is next in
    let before : IsBookkeeping (by_xid c.self.inside.strands) rs = subst (λ (s : ReorderState). IsBookkeeping (by_xid s.strands) rs) (sym c.self.view_is) taken.ready in
    subst (λ (s : ReorderState). LeavesNoRoomBeside (lent_chunks s ws) count rs c.args.next.now) c.self.view_is
    (refused_beside (state c.self.inside.strands c.self.inside.failed) rs c.args.next.now c.in-Change.xid c.entry_len.result c.in-Change.change c.in-Change.is c.entry_len.ensures.value before.strands body ws count
    (subst (λ (s : ReorderState). AreLentIn s ws) (sym c.self.view_is) are) (subst (λ (s : ReorderState). IsTidy count [] (after_giving_all_back s ws).strands) (sym c.self.view_is) tidy) (rw c.if-is_full_for.true at c.is_full_for.ensures.room))

pub returns-in_err-open-in-Change-clause-lacks : goal.returns-in_err-open-in-Change-clause-lacks
returns-in_err-open-in-Change-clause-lacks c = λ rs count taken next tidy lacks.
    absurd (never_alone (state c.self.inside.strands c.self.inside.failed) c.args.self.now c.self.view_is rs c.args.next.now c.in-Change.xid c.entry_len.result c.in-Change.change c.in-Change.is c.entry_len.ensures.value
    c.is_full_for.ensures.pool c.is_full_for.ensures.hold (rw c.if-is_full_for.false at c.is_full_for.ensures.room) taken next count tidy lacks)

pub returns-in_err-open-in-Change-clause-lacks_beside : goal.returns-in_err-open-in-Change-clause-lacks_beside
returns-in_err-open-in-Change-clause-lacks_beside c = λ rs ws count taken next are tidy lacks.
    absurd (never_beside (state c.self.inside.strands c.self.inside.failed) c.args.self.now c.self.view_is rs c.args.next.now c.in-Change.xid c.entry_len.result c.in-Change.change c.in-Change.is c.entry_len.ensures.value
    c.is_full_for.ensures.pool c.is_full_for.ensures.hold (rw c.if-is_full_for.false at c.is_full_for.ensures.room) taken next ws count are tidy lacks)

pub returns-in_err-write_entry-in-Change-clause-lacks : goal.returns-in_err-write_entry-in-Change-clause-lacks
returns-in_err-write_entry-in-Change-clause-lacks c = λ rs count taken next tidy lacks.
    absurd (never_alone (state c.self.inside.strands c.self.inside.failed) c.args.self.now c.self.view_is rs c.args.next.now c.in-Change.xid c.entry_len.result c.in-Change.change c.in-Change.is c.entry_len.ensures.value
    c.is_full_for.ensures.pool c.is_full_for.ensures.hold (rw c.if-is_full_for.false at c.is_full_for.ensures.room) taken next count tidy lacks)

pub returns-in_err-write_entry-in-Change-clause-lacks_beside : goal.returns-in_err-write_entry-in-Change-clause-lacks_beside
returns-in_err-write_entry-in-Change-clause-lacks_beside c = λ rs ws count taken next are tidy lacks.
    absurd (never_beside (state c.self.inside.strands c.self.inside.failed) c.args.self.now c.self.view_is rs c.args.next.now c.in-Change.xid c.entry_len.result c.in-Change.change c.in-Change.is c.entry_len.ensures.value
    c.is_full_for.ensures.pool c.is_full_for.ensures.hold (rw c.if-is_full_for.false at c.is_full_for.ensures.room) taken next ws count are tidy lacks)

pub returns-in_err-push-in-Change-clause-lacks : goal.returns-in_err-push-in-Change-clause-lacks
returns-in_err-push-in-Change-clause-lacks c = λ rs count taken next tidy lacks.
    absurd (never_alone (state c.self.inside.strands c.self.inside.failed) c.args.self.now c.self.view_is rs c.args.next.now c.in-Change.xid c.entry_len.result c.in-Change.change c.in-Change.is c.entry_len.ensures.value
    c.is_full_for.ensures.pool c.is_full_for.ensures.hold (rw c.if-is_full_for.false at c.is_full_for.ensures.room) taken next count tidy lacks)

pub returns-in_err-push-in-Change-clause-lacks_beside : goal.returns-in_err-push-in-Change-clause-lacks_beside
returns-in_err-push-in-Change-clause-lacks_beside c = λ rs ws count taken next are tidy lacks.
    absurd (never_beside (state c.self.inside.strands c.self.inside.failed) c.args.self.now c.self.view_is rs c.args.next.now c.in-Change.xid c.entry_len.result c.in-Change.change c.in-Change.is c.entry_len.ensures.value
    c.is_full_for.ensures.pool c.is_full_for.ensures.hold (rw c.if-is_full_for.false at c.is_full_for.ensures.room) taken next ws count are tidy lacks)

pub returns-clause-lacks : goal.returns-clause-lacks
returns-clause-lacks c =
    elim c.match-next.branch [
      | in-Assign+in_ok-open-in-Assign+in_ok-assign-in-Assign w ↦ λ rs count taken next tidy lacks. let is = sym w.in-Assign.is ∙ lacks.is in absurd cc
      | in-Change+else-is_full_for+in_ok-open-in-Change+in_ok-write_entry-in-Change+in_ok-push-in-Change w ↦ λ rs count taken next tidy lacks.
          absurd (never_alone (state c.self.inside.strands c.self.inside.failed) c.args.self.now c.self.view_is rs c.args.next.now w.in-Change.xid w.entry_len.result w.in-Change.change w.in-Change.is w.entry_len.ensures.value
          w.is_full_for.ensures.pool w.is_full_for.ensures.hold (rw w.if-is_full_for.false at w.is_full_for.ensures.room) taken next count tidy lacks)
      | in-AbortSub w ↦ λ rs count taken next tidy lacks. let is = sym w.in-AbortSub.is ∙ lacks.is in absurd cc
      | in-Abort w ↦ λ rs count taken next tidy lacks. let is = sym w.in-Abort.is ∙ lacks.is in absurd cc
      | in-Note w ↦ λ rs count taken next tidy lacks. let is = sym w.in-Note.is ∙ lacks.is in absurd cc
    ]

pub returns-clause-lacks_beside : goal.returns-clause-lacks_beside
returns-clause-lacks_beside c =
    elim c.match-next.branch [
      | in-Assign+in_ok-open-in-Assign+in_ok-assign-in-Assign w ↦ λ rs ws count taken next are tidy lacks. let is = sym w.in-Assign.is ∙ lacks.full.is in absurd cc
      | in-Change+else-is_full_for+in_ok-open-in-Change+in_ok-write_entry-in-Change+in_ok-push-in-Change w ↦ λ rs ws count taken next are tidy lacks.
          absurd (never_beside (state c.self.inside.strands c.self.inside.failed) c.args.self.now c.self.view_is rs c.args.next.now w.in-Change.xid w.entry_len.result w.in-Change.change w.in-Change.is w.entry_len.ensures.value
          w.is_full_for.ensures.pool w.is_full_for.ensures.hold (rw w.if-is_full_for.false at w.is_full_for.ensures.room) taken next ws count are tidy lacks)
      | in-AbortSub w ↦ λ rs ws count taken next are tidy lacks. let is = sym w.in-AbortSub.is ∙ lacks.full.is in absurd cc
      | in-Abort w ↦ λ rs ws count taken next are tidy lacks. let is = sym w.in-Abort.is ∙ lacks.full.is in absurd cc
      | in-Note w ↦ λ rs ws count taken next are tidy lacks. let is = sym w.in-Note.is ∙ lacks.full.is in absurd cc
    ]
