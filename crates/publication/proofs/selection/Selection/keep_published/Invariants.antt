use Rattle.std.proofs.Common.{◌≡◌, ◌≤◌, ◌++◌, drop, length, take}
use Rattle.std.specs.Prelude.{filter}
use Rattle.publication_config.specs.declared.operations.Operation.TheVariants.{Truncate}
use Rattle.publication.specs.Projection.{is_published}
use Rattle.publication.proofs.selection.Selection.keep_published.Given as goal

abbrev pub invariant-loop-i : goal.invariant-loop-i
invariant-loop-i l = record {
  kept : take l.count l.kept ++ filter (is_published l.self Truncate) (drop l.i l.oids) ≡ filter (is_published l.self Truncate) l.oids;
  fewer : l.count ≤ l.i;
  same : length l.kept ≡ length l.initial.kept;
}
