use Rattle.std.proofs.Common.{◌≡◌, true, List, ℕ, [], length, eqb, refl, sym, ap, subst, ◌∙◌, rules, arith}
use Rattle.std.specs.Prelude.{codes}
use Rattle.std.specs.Str.{IsUtf8}
use Rattle.server.specs.CopyReading.{EndsColumns, EndsName, Read, SomeColumnsAt, TableAt}
use Rattle.server.specs.declared.asked.table_name.TableName.{TableName}
use Rattle.server.proofs.CopyForms.{whole_goes_on, whole_no_bracket, whole_no_columns, whole_no_table, whole_read}
use Rattle.server.proofs.Lists.{after_text}
use Rattle.server.proofs.Slots.{nothing_left}
use Rattle.server.proofs.asked.copy_command.whole_of.Goals as goal

pub table_of-requires : goal.table_of-requires
table_of-requires c = after_text (codes "COPY ") c.in-Some.rest.now refl (subst IsUtf8 c.in-Some.ensures c.requires)

pub returns-in_default-2 : goal.returns-in_default-2
returns-in_default-2 c =
    let none : (table : TableName) (other : List ℕ) → TableAt c.in-Some.rest.now table other → EndsName other → ⊥ = rw c.in_default-2.is at c.in_ok-table.ensures in
    whole_no_table c.args.text.now c.in-Some.rest.now c.in-Some.ensures none

pub returns-in_default-behind : goal.returns-in_default-behind
returns-in_default-behind c =
    let read : Read (λ table rest. TableAt c.in-Some.rest.now table rest) EndsName c.in-Some-2.table c.in-Some-2.rest.now = rw c.in-Some-2.is at c.in_ok-table.ensures in
    whole_no_bracket c.args.text.now c.in-Some.rest.now c.in-Some-2.table c.in-Some-2.rest.now c.in-Some.ensures read c.in_default-behind.ensures

pub columns_of-requires : goal.columns_of-requires
columns_of-requires c =
    let read : Read (λ table rest. TableAt c.in-Some.rest.now table rest) EndsName c.in-Some-2.table c.in-Some-2.rest.now = rw c.in-Some-2.is at c.in_ok-table.ensures in
    after_text (codes " (") c.in-Some-behind.rest.now refl (subst IsUtf8 c.in-Some-behind.ensures read.text)

pub returns-in_default-3 : goal.returns-in_default-3
returns-in_default-3 c =
    let read : Read (λ table rest. TableAt c.in-Some.rest.now table rest) EndsName c.in-Some-2.table c.in-Some-2.rest.now = rw c.in-Some-2.is at c.in_ok-table.ensures in
    let none : (columns : List (List ℕ)) (other : List ℕ) → SomeColumnsAt c.in-Some-behind.rest.now columns other → EndsColumns other → ⊥ = rw c.in_default-3.is at c.in_ok-columns.ensures in
    whole_no_columns c.args.text.now c.in-Some.rest.now c.in-Some-2.table c.in-Some-2.rest.now c.in-Some-behind.rest.now c.in-Some.ensures read c.in-Some-behind.ensures none

pub returns-then-not-is_empty : goal.returns-then-not-is_empty
returns-then-not-is_empty c =
    let read : Read (λ table rest. TableAt c.in-Some.rest.now table rest) EndsName c.in-Some-2.table c.in-Some-2.rest.now = rw c.in-Some-2.is at c.in_ok-table.ensures in
    let names : Read (λ columns rest. SomeColumnsAt c.in-Some-behind.rest.now columns rest) EndsColumns c.in-Some-3.columns c.in-Some-3.rest.now = rw c.in-Some-3.is at c.in_ok-columns.ensures in
    let some : c.in-Some-3.rest.now ≡ [] → ⊥ =
    λ e. let f : c.is_empty.result ≡ true = c.is_empty.ensures ∙ ap (λ (l : List ℕ). eqb (length l) 0) e in first_of (cc, search rules, grind arith) in
    whole_goes_on c.args.text.now c.in-Some.rest.now c.in-Some-2.table c.in-Some-2.rest.now c.in-Some-behind.rest.now c.in-Some-3.columns c.in-Some-3.rest.now c.in-Some.ensures read c.in-Some-behind.ensures names some

pub returns : goal.returns
returns c =
    let read : Read (λ table rest. TableAt c.in-Some.rest.now table rest) EndsName c.in-Some-2.table c.in-Some-2.rest.now = rw c.in-Some-2.is at c.in_ok-table.ensures in
    let names : Read (λ columns rest. SomeColumnsAt c.in-Some-behind.rest.now columns rest) EndsColumns c.in-Some-3.columns c.in-Some-3.rest.now = rw c.in-Some-3.is at c.in_ok-columns.ensures in
    let f : c.is_empty.result ≡ true = first_of (cc, search rules, grind arith) in
    whole_read c.args.text.now c.in-Some.rest.now c.in-Some-2.table c.in-Some-2.rest.now c.in-Some-behind.rest.now c.in-Some-3.columns c.in-Some-3.rest.now c.in-Some.ensures read c.in-Some-behind.ensures names
    (nothing_left c.in-Some-3.rest.now (sym c.is_empty.ensures ∙ f))
