use Rattle.std.proofs.Common.{[], Ok, sym, ap, ◌∙◌}
use Rattle.std.proofs.lemmas.List.{drop_all}
use Rattle.toml.specs.View.{items_view}
use Rattle.publication_config.specs.Config.{publications_after}
use Rattle.publication_config.proofs.Reading.{publication_next}
use Rattle.publication_config.proofs.document.config.publications_after.Goals as goal

pub loop-value-preserved : goal.loop-value-preserved
loop-value-preserved c =
    publication_next c.args.catalog.now c.loop-value.publications.items c.push.new.self.items c.as_slice.result.now c.len-number.result c.args.values.now c.loop-value.value-index c.value-item.result
    c.in_ok-publication.publication (publications_after c.args.catalog.now [] (items_view c.args.values.now)) c.loop-value-test.true c.value-item.is (c.len-number.ensures ∙ c.loop-value.publications.ok.0) c.as_slice.ensures.value
    c.in_ok-publication.ensures c.in_ok-push.ensures.items c.loop-value.invariant

pub returns : goal.returns
returns c =
    let none = drop_all c.loop-value.value-index c.args.values.now c.loop-value-test.false in
    sym c.loop-value.invariant ∙ ap (λ values. publications_after c.args.catalog.now c.loop-value.publications.items (items_view values)) none ∙ ap Ok (sym c.new.ensures)
