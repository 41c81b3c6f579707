use Rattle.std.proofs.Common.{◌∙◌}
use Rattle.conditions.specs.declared.values.comparison.Comparison.TheVariants as signs
use Rattle.conditions.proofs.Truths.{number_told, text_told}
use Rattle.conditions.proofs.flat.step.StepCondition.holds.Goals as goal

pub returns-in-Equal-clause-answer : goal.returns-in-Equal-clause-answer
returns-in-Equal-clause-answer c = rw c.in-Equal.is (c.is_number.ensures.answer ∙ number_told signs.Equal c.args.row.now c.in-Equal.at c.in-Equal.n)

pub returns-in-NotEqual-clause-answer : goal.returns-in-NotEqual-clause-answer
returns-in-NotEqual-clause-answer c = rw c.in-NotEqual.is (c.is_number-in-NotEqual.ensures.answer ∙ number_told signs.NotEqual c.args.row.now c.in-NotEqual.at c.in-NotEqual.n)

pub returns-in-Less-clause-answer : goal.returns-in-Less-clause-answer
returns-in-Less-clause-answer c = rw c.in-Less.is (c.is_number-in-Less.ensures.answer ∙ number_told signs.Less c.args.row.now c.in-Less.at c.in-Less.n)

pub returns-in-Greater-clause-answer : goal.returns-in-Greater-clause-answer
returns-in-Greater-clause-answer c = rw c.in-Greater.is (c.is_number-in-Greater.ensures.answer ∙ number_told signs.Greater c.args.row.now c.in-Greater.at c.in-Greater.n)

pub returns-in-LessOrEqual-clause-answer : goal.returns-in-LessOrEqual-clause-answer
returns-in-LessOrEqual-clause-answer c = rw c.in-LessOrEqual.is (c.is_number-in-LessOrEqual.ensures.answer ∙ number_told signs.LessOrEqual c.args.row.now c.in-LessOrEqual.at c.in-LessOrEqual.n)

pub returns-in-GreaterOrEqual-clause-answer : goal.returns-in-GreaterOrEqual-clause-answer
returns-in-GreaterOrEqual-clause-answer c = rw c.in-GreaterOrEqual.is (c.is_number-in-GreaterOrEqual.ensures.answer ∙ number_told signs.GreaterOrEqual c.args.row.now c.in-GreaterOrEqual.at c.in-GreaterOrEqual.n)

pub returns-in-SameText-clause-answer : goal.returns-in-SameText-clause-answer
returns-in-SameText-clause-answer c =
    rw c.in-SameText.is ((rw c.as_slice.ensures at c.is_text.ensures) ∙ text_told signs.Equal c.args.row.now c.in-SameText.at c.in-SameText.text)

pub returns-in-OtherText-clause-answer : goal.returns-in-OtherText-clause-answer
returns-in-OtherText-clause-answer c =
    rw c.in-OtherText.is ((rw c.as_slice-in-OtherText.ensures at c.is_text-in-OtherText.ensures) ∙ text_told signs.NotEqual c.args.row.now c.in-OtherText.at c.in-OtherText.text)

pub returns-in-Text-clause-answer : goal.returns-in-Text-clause-answer
returns-in-Text-clause-answer c =
    rw c.in-Text.is ((rw c.as_slice-in-Text.ensures at c.is_text-in-Text.ensures) ∙ text_told c.in-Text.how c.args.row.now c.in-Text.at c.in-Text.text)
