use Rattle.std.proofs.Common.{rules, ◌≡◌, ◌++◌, [], ◌∷◌}
use Rattle.server_state.proofs.Marks.{tell_one_more}
use Rattle.server_state.proofs.kept.log_times.LogTimes.keep.Goals as goal

pub returns-then-len-lt-MOST_MARKS-clause-kept : goal.returns-then-len-lt-MOST_MARKS-clause-kept
returns-then-len-lt-MOST_MARKS-clause-kept c kept =
    let new : c.push.new.self.items ≡ c.thin.new.self.marks.items ++ c.args.mark ∷ [] = search rules in
    rw new (tell_one_more c.args.self.now.marks.items c.thin.new.self.marks.items c.args.mark c.thin.ensures.marks)
