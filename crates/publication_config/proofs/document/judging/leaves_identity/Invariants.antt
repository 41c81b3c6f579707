use Rattle.std.proofs.Common.{◌≡◌, ◌&&◌, not, drop}
use Rattle.conditions.specs.Conditions.{names}
use Rattle.publication_config.specs.Config.{leaves_identity, some_column}
use Rattle.publication_config.specs.Published.{is_identity}
use Rattle.publication_config.proofs.document.judging.leaves_identity.Given as goal

abbrev pub invariant-loop-place : goal.invariant-loop-place
invariant-loop-place l =
    some_column (λ place column. not (is_identity l.table.identity column.is_key) && names l.filter place) l.place (drop l.place l.table.columns) ≡ leaves_identity l.table l.filter
