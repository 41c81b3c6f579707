use Rattle.std.proofs.Common.{◌+◌, drop, sym, arith, ◌∙◌}
use Rattle.std.proofs.lemmas.List.{length_push}
use Rattle.toml.specs.View.{view, items_view}
use Rattle.catalog.specs.Config.{columns_after}
use Rattle.tables.specs.Tables.{IsName}
use Rattle.catalog.proofs.Behind.{item_next, no_more_items, column_read, all_with}
use Rattle.catalog.proofs.config_table.columns_of.Goals as goal

pub loop-value-preserved : goal.loop-value-preserved
loop-value-preserved c =
    let had = c.loop-value.columns.items in
    let next = item_next (columns_after c.args.key.now had) c.args.values.now c.loop-value.value-index c.value-item.result c.loop-value-test.true c.value-item.is in
    let read = column_read c.args.key.now had (view c.value-item.result) (items_view (drop (c.loop-value.value-index + 1) c.args.values.now)) c.in-Some.column
    (sym (rw (c.in-Some.is, c.as_slice.ensures.value) at c.in_ok-column.ensures.value)) in
    let room = rw (c.in-Some.is, c.as_slice.ensures.value) at c.in_ok-column.ensures.room in
    rw c.in_ok-push.ensures.items (
      sym read ∙ sym next ∙ c.loop-value.invariant.0,
      (
        all_with (λ column. IsName column.name) had c.in-Some.column c.loop-value.invariant.1.0 (rw c.in-Some.is at c.in_ok-column.ensures.named),
        omega (arith, length_push had c.in-Some.column, room),
      ),
    )

pub returns : goal.returns
returns c =
    rw c.new.ensures (record {
      value = sym (sym c.loop-value.invariant.0 ∙ no_more_items (columns_after c.args.key.now c.loop-value.columns.items) c.args.values.now c.loop-value.value-index c.loop-value-test.false);
      fits = c.loop-value.invariant.1;
    })
