use Rattle.std.proofs.Common.{List, subst}
use Rattle.conditions.specs.declared.words.token.Token.{Token}
use Rattle.conditions.specs.Views.{GivesPart}
use Rattle.rowfilter.proofs.Filters.{condition_given}
use Rattle.conditions.proofs.Sayings.{reading_of}
use Rattle.rowfilter.proofs.reading.condition_of.Goals as goal

-- src/reading.rt:89:1
pub returns : goal.returns
returns c =
    let tokens = c.in_ok-tokens.tokens.items in
    let gives = subst (λ (ts : List Token). GivesPart c.part_of.result (reading_of c.args.columns.now ts)) c.as_slice.ensures.value c.part_of.ensures in
    condition_given c.args.columns.now c.args.text.now tokens c.part_of.result c.expression_of.result c.in_ok-tokens.ensures.found.0 c.in_ok-tokens.ensures.found.1 gives c.expression_of.ensures
