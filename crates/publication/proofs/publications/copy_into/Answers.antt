use Rattle.std.proofs.Common.{◌++◌, List, sym, ap, ◌∙◌}
use Rattle.std.proofs.lemmas.List.{append-nil, drop_all}
use Rattle.tables.specs.declared.table.Table.{Table}
use Rattle.publication.proofs.publications.copy_into.Goals as goal

pub returns : goal.returns
returns c =
    let none = drop_all c.loop-table.table-index c.args.tables.now c.loop-table-test.false in
    sym (append-nil c.loop-table.copies.items) ∙ ap (λ (tables : List Table). c.loop-table.copies.items ++ tables) (sym none) ∙ c.loop-table.invariant
