use Rattle.std.proofs.Common.{rules}
use mathlib.Core.List.{append_assoc}
use Rattle.follower.proofs.login.startup.session_body.Goals as goal

pub returns : goal.returns
returns c = search (rules, append_assoc)
