use Rattle.std.proofs.Common.{rules}
use mathlib.Core.List.{append_assoc}
use Rattle.follower.specs.Requests.{session_startup}
use Rattle.follower.proofs.login.startup.put_startup.Goals as goal

pub returns : goal.returns
unfolding session_startup
returns c = search (rules, append_assoc)
