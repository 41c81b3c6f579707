use Rattle.std.proofs.Common.{◌==◌, not, rules}
use Rattle.std.proofs.lemmas.Fn.{filter_same}
use Rattle.world.proofs.opening.close.Goals as goal

pub returns : goal.returns
returns c = filter_same _ (λ p. not (p == c.args.place)) _ (λ x b f' k. search rules) _ _ c.retain.ensures.filtered
