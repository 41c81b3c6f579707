use Rattle.std.proofs.Common.{◌≡◌, drop}
use Rattle.schedule.specs.SessionLines.{oids_named}
use Rattle.schedule.proofs.Asking.{behind}
use Rattle.schedule.proofs.session.oids_of.Given as goal

abbrev pub invariant-loop-name : goal.invariant-loop-name
invariant-loop-name l = behind l.oids.items (oids_named l.catalog (drop l.name-index l.names)) ≡ oids_named l.catalog l.names
