use Rattle.std.proofs.Common.{◌≡◌, ◌+◌, ◌++◌, take}
use Rattle.server.specs.TableAnswers.{attribute_rows}
use Rattle.server.proofs.said.say_table.say_attribute_rows.Given as goal

abbrev pub invariant-loop-attribute : goal.invariant-loop-attribute
invariant-loop-attribute l = record {
  said : l.out.items ≡ l.fn.out.items ++ attribute_rows 1 (take l.attribute-index l.attributes);
  numbered : l.number ≡ 1 + l.attribute-index;
}
