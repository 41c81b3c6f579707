use Rattle.std.proofs.Common.{rules}
use Rattle.std.specs.Prelude.{option_to_list}
use Rattle.server_state.proofs.Marks.{past_more}
use Rattle.server_state.proofs.kept.log_times.LogTimes.past.Goals as goal

pub returns-in-Some : goal.returns-in-Some
returns-in-Some c =
    let more = past_more c.args.position c.args.self.now.marks.items (option_to_list c.args.self.now.last) in
    search (rules, more)

pub returns-in-Some-last : goal.returns-in-Some-last
returns-in-Some-last c =
    let more = past_more c.args.position c.args.self.now.marks.items (option_to_list c.args.self.now.last) in
    search (rules, more)

pub returns-in_default : goal.returns-in_default
returns-in_default c =
    let more = past_more c.args.position c.args.self.now.marks.items (option_to_list c.args.self.now.last) in
    search (rules, more)
