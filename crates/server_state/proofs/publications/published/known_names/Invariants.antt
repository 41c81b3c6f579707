use Rattle.std.proofs.Common.{◌≡◌, take}
use Rattle.std.specs.Prelude.{filter}
use Rattle.server_state.specs.Published.{is_publication}
use Rattle.server_state.proofs.publications.published.known_names.Given as goal

abbrev pub invariant-loop-name : goal.invariant-loop-name
invariant-loop-name l = l.known.items ≡ filter (is_publication l.publications) (take l.name-index l.names)
