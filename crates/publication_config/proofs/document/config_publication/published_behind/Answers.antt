use Rattle.std.proofs.Common.{[], ◌∙◌}
use Rattle.toml.specs.View.{items_view}
use Rattle.publication_config.specs.Config.{published_behind}
use Rattle.publication_config.proofs.Reading.{published_next}
use Rattle.publication_config.proofs.document.config_publication.published_behind.Goals as goal

pub loop-value-preserved : goal.loop-value-preserved
loop-value-preserved c =
    published_next c.args.number c.args.operations c.args.catalog.now c.loop-value.published.items c.push.new.self.items c.as_slice.result.now c.len.result c.args.values.now c.loop-value.value-index
    c.value-item.result c.in_ok-table.table (published_behind c.args.number c.args.operations c.args.catalog.now [] (items_view c.args.values.now)) c.loop-value-test.true c.value-item.is
    (c.len.ensures ∙ c.loop-value.published.ok.0) c.as_slice.ensures.value c.in_ok-table.ensures c.in_ok-push.ensures.items c.loop-value.invariant
