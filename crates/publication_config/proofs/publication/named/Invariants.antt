use Rattle.std.proofs.Common.{◌≡◌, ◌++◌, drop}
use Rattle.publication_config.specs.Published.{publications_named}
use Rattle.publication_config.proofs.publication.named.Given as goal

abbrev pub invariant-loop-publication : goal.invariant-loop-publication
invariant-loop-publication l = l.named.items ++ publications_named l.names (drop l.publication-index l.publications) ≡ publications_named l.names l.publications
