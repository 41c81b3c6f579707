use Rattle.std.proofs.Common.{◌≡◌, ◌&&◌, not, drop}
use Rattle.publication_config.specs.Config.{lacks_identity, some_column}
use Rattle.publication_config.specs.Published.{is_identity, is_listed}
use Rattle.publication_config.proofs.document.judging.lacks_identity.Given as goal

abbrev pub invariant-loop-place : goal.invariant-loop-place
invariant-loop-place l =
    some_column (λ place column. is_identity l.table.identity column.is_key && not (is_listed l.listed place)) l.place (drop l.place l.table.columns) ≡ lacks_identity l.table l.listed
