use Rattle.std.proofs.Common.{◌+◌, [], drop, sym, ◌∙◌}
use Rattle.std.proofs.lemmas.Result.{err_from_is_err_and}
use Rattle.toml.specs.View.{view, items_view}
use Rattle.catalog.specs.Config.{tables_after}
use Rattle.catalog.proofs.Catalogued.{one_more}
use Rattle.catalog.proofs.Behind.{item_next, no_more_items, table_read, table_refused}
use Rattle.catalog.proofs.config.tables_after.Goals as goal

pub loop-value-preserved : goal.loop-value-preserved
loop-value-preserved c =
    let had = c.loop-value.tables.items in
    let next = item_next (tables_after had) c.args.values.now c.loop-value.value-index c.value-item.result c.loop-value-test.true c.value-item.is in
    let read = table_read had (view c.value-item.result) (items_view (drop (c.loop-value.value-index + 1) c.args.values.now)) c.in_ok-table.table
    (rw c.as_slice.ensures.value at c.in_ok-table.ensures.value) in
    rw c.in_ok-push.ensures.items
    (sym read ∙ sym next ∙ c.loop-value.invariant.0, one_more had c.in_ok-table.table c.loop-value.invariant.1 c.in_ok-table.ensures.fits (rw c.as_slice.ensures.value at c.in_ok-table.ensures.alone))

pub returns-in_err-table-clause-value : goal.returns-in_err-table-clause-value
returns-in_err-table-clause-value c =
    let had = c.loop-value.tables.items in
    let err = err_from_is_err_and c.from_residual.result c.from_residual.ensures.1 in
    let next = item_next (tables_after had) c.args.values.now c.loop-value.value-index c.value-item.result c.loop-value-test.true c.value-item.is in
    rw (err.1, err.2)
    (table_refused had (view c.value-item.result) (items_view (drop (c.loop-value.value-index + 1) c.args.values.now)) c.in_err-table.field-0.0 (tables_after [] (items_view c.args.values.now))
    (rw c.as_slice.ensures.value at c.in_err-table.ensures.value) (sym next ∙ c.loop-value.invariant.0))

pub returns : goal.returns
returns c =
    rw c.new.ensures (record {
      value = sym c.loop-value.invariant.0 ∙ no_more_items (tables_after c.loop-value.tables.items) c.args.values.now c.loop-value.value-index c.loop-value-test.false;
      fits = c.loop-value.invariant.1;
    })
