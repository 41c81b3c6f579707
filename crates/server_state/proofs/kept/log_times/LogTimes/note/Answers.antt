use Rattle.server_state.proofs.Marks.{tell_merged_more, tell_one_more}
use Rattle.server_state.proofs.kept.log_times.LogTimes.note.Goals.{then-keep, else-keep}
use Rattle.server_state.proofs.kept.log_times.LogTimes.note.Goals as goal

pub returns-after-keep : goal.returns-after-keep
returns-after-keep c = elim c.if-keep.branch [
  | then-keep w ↦ rw (c.in-Some.is, w.self-is) (tell_one_more _ _ _ (c.keep.ensures.kept w.if-keep.true))
  | else-keep w ↦ rw (c.in-Some.is, w.self-is, w.merged.ensures) (tell_merged_more _ _ _ _ (c.keep.ensures.full w.if-keep.false))
]
