use Rattle.std.proofs.Common.{rules, ◌≡◌, ◌^◌, ◌∷◌, sym, ap, ◌∙◌}
use Rattle.std.specs.Str.Parse.{digits_value, digits_value_after}
use Rattle.pqformat.proofs.Digits.{too_large}
use Rattle.pqformat.proofs.decimal.decimal_of.Goals as goal

pub returns-in_default-with_digit : goal.returns-in_default-with_digit
returns-in_default-with_digit c =
    let parted : c.loop-b.rest.now ≡ c.in-Some.b.now ∷ c.in-Some.tail.now = search rules in
    too_large (2 ^ 64) c.loop-b.value c.in-Some.b.now (digits_value 10 c.args.digits.now) c.in-Some.tail.now (ap (digits_value_after 10 c.loop-b.value) (sym parted) ∙ c.loop-b.invariant) c.in_default-with_digit.ensures
