use Rattle.std.proofs.Common.{◌≡◌, ◌++◌, drop, map}
use Rattle.publication.specs.Copied.{copied_publication}
use Rattle.publication.proofs.copied.each_copied.Given as goal

abbrev pub invariant-loop-publication : goal.invariant-loop-publication
invariant-loop-publication l = l.copied.items ++ map (copied_publication l.oid l.listed) (drop l.publication-index l.publications) ≡ map (copied_publication l.oid l.listed) l.publications
