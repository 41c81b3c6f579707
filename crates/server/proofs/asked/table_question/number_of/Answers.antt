use Rattle.std.proofs.Common.{◌≡◌, ◌≤◌, ◌^◌, ◌∙◌, rules, arith}
use Rattle.std.specs.Prelude.{◌≢◌}
use Rattle.std.specs.Fmt.{decimal}
use Rattle.std.specs.Str.Parse.{digits_value}
use Rattle.server.proofs.TableReads.{number_too_long, number_unprinted}
use Rattle.server.proofs.asked.table_question.number_of.Goals as goal

pub returns-in_default : goal.returns-in_default
returns-in_default c =
    let long : 2 ^ 32 ≤ digits_value 10 c.split_digits.result.0.now = omega (arith, c.in_default.ensures) in
    number_too_long c.args.text.now c.split_digits.result.0.now c.split_digits.result.1.now c.split_digits.ensures.whole c.split_digits.ensures.digits c.split_digits.ensures.end long

pub returns-in_default-try_from : goal.returns-in_default-try_from
returns-in_default-try_from c =
    let value : c.in-Some.number ≡ digits_value 10 c.split_digits.result.0.now = search rules in
    let wide : 2 ^ 32 ≤ c.in-Some.number = first_of (search rules, omega arith, grind arith) in
    let long : 2 ^ 32 ≤ digits_value 10 c.split_digits.result.0.now = omega arith in
    number_too_long c.args.text.now c.split_digits.result.0.now c.split_digits.result.1.now c.split_digits.ensures.whole c.split_digits.ensures.digits c.split_digits.ensures.end long

pub returns : goal.returns
returns c =
    let value : c.in-Ok.oid ≡ digits_value 10 c.split_digits.result.0.now = search rules in
    let printed : c.as_bytes.result.now ≡ decimal c.in-Ok.oid = search rules in
    let differs : c.as_bytes.result.now ≢ c.split_digits.result.0.now = search rules in
    number_unprinted c.args.text.now c.split_digits.result.0.now c.split_digits.result.1.now c.in-Ok.oid c.split_digits.ensures.whole c.split_digits.ensures.digits c.split_digits.ensures.end value (λ e. differs (printed ∙ e))
