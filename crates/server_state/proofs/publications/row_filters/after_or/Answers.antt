use Rattle.std.proofs.lemmas.Bool.Decides.{Decides-eqb}
use Rattle.std.proofs.lemmas.Slice.Eq.{strip_prefix_is}
use Rattle.std.specs.Prelude.{codes}
use Rattle.server_state.proofs.publications.row_filters.after_or.Goals as goal

pub returns : goal.returns
returns c = strip_prefix_is Decides-eqb c.args.text.now (codes " OR ") c.strip_prefix.result (rw c.as_bytes.ensures.value at c.strip_prefix.ensures.cases)
