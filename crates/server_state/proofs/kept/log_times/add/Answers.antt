use Rattle.std.proofs.Common.{rules, ◌≡◌, ◌++◌, [], ◌∷◌}
use Rattle.server_state.specs.LogTimes.{merged}
use Rattle.server_state.proofs.Marks.{tell_merged_last}
use Rattle.server_state.proofs.kept.log_times.add.Goals as goal

pub returns-in_ok-push-in-Some : goal.returns-in_ok-push-in-Some
returns-in_ok-push-in-Some c =
    let old : c.args.marks.now.items ≡ c.pop.new.self.items ++ c.in-Some.last ∷ [] = search rules in
    let new : c.push.new.self.items ≡ c.pop.new.self.items ++ merged c.in-Some.last c.args.mark ∷ [] = search rules in
    rw (old, new) (tell_merged_last c.pop.new.self.items c.in-Some.last c.args.mark)
