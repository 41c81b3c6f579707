use Rattle.std.proofs.Common.{take}
use Rattle.server_state.proofs.Telling.{short_names}
use Rattle.server_state.proofs.publications.published.known_names.Goals as goal

pub returns-clause-short : goal.returns-clause-short
returns-clause-short c = rw (c.new.ensures, c.loop-name.invariant) (short_names c.args.publications.now (take c.loop-name.name-index c.args.names.now))
