use Rattle.std.proofs.Common.{◌≡◌, drop, map}
use Rattle.schedule.specs.Sessions.{named_tx, place_from}
use Rattle.schedule.proofs.session.place_of.Given as goal

abbrev pub invariant-loop-place : goal.invariant-loop-place
invariant-loop-place l = place_from l.place l.name (map named_tx (drop l.place l.sessions)) ≡ place_from 0 l.name (map named_tx l.sessions)
