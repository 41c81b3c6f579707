use Rattle.std.proofs.Common.{◌+◌, drop, sym, ◌∙◌}
use Rattle.toml.specs.View.{view, items_view}
use Rattle.catalog.specs.Config.{names_behind}
use Rattle.catalog.proofs.Behind.{item_next, no_more_items, name_read}
use Rattle.catalog.proofs.config_member.names_of.Goals as goal

pub loop-value-preserved : goal.loop-value-preserved
loop-value-preserved c =
    let had = c.loop-value.names.items in
    let next = item_next (names_behind had) c.args.values.now c.loop-value.value-index c.value-item.result c.loop-value-test.true c.value-item.is in
    let read = name_read had (view c.value-item.result) (items_view (drop (c.loop-value.value-index + 1) c.args.values.now)) c.in-Some.name.now
    (sym (rw c.as_slice.ensures.value at c.in-Some.ensures)) in
    rw (c.in_ok-push.ensures.items, c.in_ok-copy_of.ensures) (sym read ∙ sym next ∙ c.loop-value.invariant)

pub returns : goal.returns
returns c = rw c.new.ensures
    (sym (sym c.loop-value.invariant ∙ no_more_items (names_behind c.loop-value.names.items) c.args.values.now c.loop-value.value-index c.loop-value-test.false))
