use Rattle.std.proofs.Common.{◌≡◌, drop}
use Rattle.publication.specs.Selection.{list_by}
use Rattle.publication.proofs.selection.list_by.Given as goal

abbrev pub invariant-loop-publication : goal.invariant-loop-publication
invariant-loop-publication l = list_by (drop l.publication-index l.publications) l.oid ≡ list_by l.publications l.oid
