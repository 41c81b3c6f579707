use Rattle.std.proofs.Common.{◌++◌, List, map, sym, ap, ◌∙◌}
use Rattle.std.specs.Prelude.{filter}
use Rattle.std.specs.List.{list_any}
use Rattle.std.proofs.lemmas.List.{append-nil, drop_all}
use Rattle.tables.specs.declared.table.Table.{Table}
use Rattle.publication_config.specs.Published.{has}
use Rattle.publication.proofs.selection.oids_of.Goals as goal

pub returns : goal.returns
returns c =
    let kept = c.loop-table.oids.items in
    let none = drop_all c.loop-table.table-index c.args.tables.now c.loop-table-test.false in
    c.new.ensures ∙ sym (append-nil kept)
    ∙ ap (λ (tables : List Table). kept ++ filter (λ oid. list_any (has oid) c.args.publications.now) (map (λ t. t.oid) tables)) (sym none) ∙ c.loop-table.invariant
