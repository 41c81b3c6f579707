use Rattle.std.proofs.Common.{◌≡◌, ◌<◌, ◌^◌, ◌++◌, false, ℕ, List, rules, arith}
use Rattle.std.specs.Prelude.{◌≢◌}
use Rattle.std.specs.Char.{is_ascii_digit}
use Rattle.std.specs.Fmt.{decimal}
use Rattle.pqformat.specs.Quoting.{begins}
use Rattle.server.proofs.TableReads.{attributes_no_again, attributes_no_number, attributes_other, attributes_read, attributes_unended, first_part, last_part, second_part}
use Rattle.server.proofs.asked.table_question.attributes_of.Goals as goal

pub returns-in_default : goal.returns-in_default
returns-in_default c =
    let none : (oid : ℕ) (rest : List ℕ) → oid < 2 ^ 32 → begins is_ascii_digit rest ≡ false → c.args.text.now ≡ first_part ++ (decimal oid ++ rest) → ⊥ = rw c.in_default.is at c.in_ok-oid.ensures in
    attributes_no_number c.args.text.now none

pub returns-in-Some-2 : goal.returns-in-Some-2
returns-in-Some-2 c =
    let one : (c.in-Some.oid < 2 ^ 32) × (begins is_ascii_digit c.in-Some.rest.now ≡ false) × (c.args.text.now ≡ first_part ++ (decimal c.in-Some.oid ++ c.in-Some.rest.now)) = rw c.in-Some.is at c.in_ok-oid.ensures in
    let two : (c.in-Some-2.again < 2 ^ 32) × (begins is_ascii_digit c.in-Some-2.end.now ≡ false) × (c.in-Some.rest.now ≡ second_part ++ (decimal c.in-Some-2.again ++ c.in-Some-2.end.now)) = rw c.in-Some-2.is at c.in_ok-again.ensures in
    let same : c.in-Some-2.again ≡ c.in-Some.oid = first_of (search rules, omega arith, grind arith) in
    let ends : c.in-Some-2.end.now ≡ last_part = search rules in
    (one.0, attributes_read c.args.text.now c.in-Some.rest.now c.in-Some-2.end.now c.in-Some.oid c.in-Some-2.again one.2 two.2 same ends)

pub returns-in_default-2 : goal.returns-in_default-2
returns-in_default-2 c =
    let one : (c.in-Some.oid < 2 ^ 32) × (begins is_ascii_digit c.in-Some.rest.now ≡ false) × (c.args.text.now ≡ first_part ++ (decimal c.in-Some.oid ++ c.in-Some.rest.now)) = rw c.in-Some.is at c.in_ok-oid.ensures in
    let two : (c.in-Some-2.again < 2 ^ 32) × (begins is_ascii_digit c.in-Some-2.end.now ≡ false) × (c.in-Some.rest.now ≡ second_part ++ (decimal c.in-Some-2.again ++ c.in-Some-2.end.now)) = rw c.in-Some-2.is at c.in_ok-again.ensures in
    let differs : c.in-Some-2.end.now ≢ last_part = search rules in
    attributes_unended c.args.text.now c.in-Some.rest.now c.in-Some-2.end.now c.in-Some.oid c.in-Some-2.again one.0 one.1 one.2 two.0 two.1 two.2 differs

pub returns-in_default-2-2 : goal.returns-in_default-2-2
returns-in_default-2-2 c =
    let one : (c.in-Some.oid < 2 ^ 32) × (begins is_ascii_digit c.in-Some.rest.now ≡ false) × (c.args.text.now ≡ first_part ++ (decimal c.in-Some.oid ++ c.in-Some.rest.now)) = rw c.in-Some.is at c.in_ok-oid.ensures in
    let two : (c.in-Some-2.again < 2 ^ 32) × (begins is_ascii_digit c.in-Some-2.end.now ≡ false) × (c.in-Some.rest.now ≡ second_part ++ (decimal c.in-Some-2.again ++ c.in-Some-2.end.now)) = rw c.in-Some-2.is at c.in_ok-again.ensures in
    let differs : c.in-Some-2.again ≢ c.in-Some.oid = first_of (search rules, omega arith, grind arith) in
    attributes_other c.args.text.now c.in-Some.rest.now c.in-Some-2.end.now c.in-Some.oid c.in-Some-2.again one.0 one.1 one.2 two.0 two.1 two.2 differs

pub returns-in_default-2-3 : goal.returns-in_default-2-3
returns-in_default-2-3 c =
    let one : (c.in-Some.oid < 2 ^ 32) × (begins is_ascii_digit c.in-Some.rest.now ≡ false) × (c.args.text.now ≡ first_part ++ (decimal c.in-Some.oid ++ c.in-Some.rest.now)) = rw c.in-Some.is at c.in_ok-oid.ensures in
    let none : (oid : ℕ) (more : List ℕ) → oid < 2 ^ 32 → begins is_ascii_digit more ≡ false → c.in-Some.rest.now ≡ second_part ++ (decimal oid ++ more) → ⊥ = rw c.in_default-2.is at c.in_ok-again.ensures in
    attributes_no_again c.args.text.now c.in-Some.rest.now c.in-Some.oid one.0 one.1 one.2 none
