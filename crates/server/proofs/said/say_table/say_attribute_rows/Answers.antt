use Rattle.std.proofs.Common.{◌++◌, List, ℕ, take, ap, sym, ◌∙◌, append_assoc, arith}
use Rattle.server.specs.TableAnswers.{attribute_row, attribute_rows}
use Rattle.server.proofs.Rows.{attributes_next}
use Rattle.server.proofs.said.say_table.say_attribute_rows.Goals as goal

pub loop-attribute-preserved : goal.loop-attribute-preserved
loop-attribute-preserved c =
    let item = c.attribute-item.result in
    let out = c.args.out.now.items in
    let rows = attribute_rows 1 (take c.loop-attribute.attribute-index c.args.attributes.now) in
    let next = attributes_next c.args.attributes.now c.loop-attribute.attribute-index item (omega arith) (sym c.attribute-item.is) in
    record {
      said =
          c.in_ok-say_attribute.ensures
          ∙ ap (λ (l : List ℕ). l ++ attribute_row c.loop-attribute.number item) c.loop-attribute.invariant.said
          ∙ append_assoc out rows (attribute_row c.loop-attribute.number item)
          ∙ ap (λ (n : ℕ). out ++ (rows ++ attribute_row n item)) c.loop-attribute.invariant.numbered
          ∙ ap (λ (l : List ℕ). out ++ l) (sym next);
      numbered = omega arith;
    }
