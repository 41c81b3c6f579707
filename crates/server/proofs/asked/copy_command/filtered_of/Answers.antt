use Rattle.std.proofs.Common.{◌≡◌, List, ℕ, refl, subst, rules}
use Rattle.std.specs.Prelude.{codes}
use Rattle.std.specs.Str.{IsUtf8}
use Rattle.server.specs.CopyReading.{EndsColumns, EndsName, Read, SomeColumnsAt, TableAt}
use Rattle.server.specs.declared.asked.table_name.TableName.{TableName}
use Rattle.server.proofs.CopyFilters.{filtered_no_columns, filtered_no_from, filtered_no_table, filtered_no_where, filtered_read}
use Rattle.server.proofs.Lists.{after_text}
use Rattle.server.proofs.asked.copy_command.filtered_of.Goals as goal

pub returns-in_default : goal.returns-in_default
returns-in_default c =
    let none : (columns : List (List ℕ)) (other : List ℕ) → SomeColumnsAt c.args.text.now columns other → EndsColumns other → ⊥ = rw c.in_default.is at c.in_ok-columns.ensures in
    filtered_no_columns c.args.text.now none

pub returns-in_default-behind : goal.returns-in_default-behind
returns-in_default-behind c =
    let names : Read (λ columns rest. SomeColumnsAt c.args.text.now columns rest) EndsColumns c.in-Some.columns c.in-Some.rest.now = rw c.in-Some.is at c.in_ok-columns.ensures in
    filtered_no_from c.args.text.now c.in-Some.columns c.in-Some.rest.now names c.in_default-behind.ensures

pub table_of-requires : goal.table_of-requires
table_of-requires c =
    let names : Read (λ columns rest. SomeColumnsAt c.args.text.now columns rest) EndsColumns c.in-Some.columns c.in-Some.rest.now = rw c.in-Some.is at c.in_ok-columns.ensures in
    after_text (codes " FROM ONLY ") c.in-Some-behind.rest.now refl (subst IsUtf8 c.in-Some-behind.ensures names.text)

pub returns-in_default-2 : goal.returns-in_default-2
returns-in_default-2 c =
    let names : Read (λ columns rest. SomeColumnsAt c.args.text.now columns rest) EndsColumns c.in-Some.columns c.in-Some.rest.now = rw c.in-Some.is at c.in_ok-columns.ensures in
    let none : (table : TableName) (other : List ℕ) → TableAt c.in-Some-behind.rest.now table other → EndsName other → ⊥ = rw c.in_default-2.is at c.in_ok-table.ensures in
    filtered_no_table c.args.text.now c.in-Some.columns c.in-Some.rest.now c.in-Some-behind.rest.now names c.in-Some-behind.ensures none

pub returns-in_default-behind-2 : goal.returns-in_default-behind-2
returns-in_default-behind-2 c =
    let names : Read (λ columns rest. SomeColumnsAt c.args.text.now columns rest) EndsColumns c.in-Some.columns c.in-Some.rest.now = rw c.in-Some.is at c.in_ok-columns.ensures in
    let read : Read (λ table rest. TableAt c.in-Some-behind.rest.now table rest) EndsName c.in-Some-2.table c.in-Some-2.rest.now = rw c.in-Some-2.is at c.in_ok-table.ensures in
    filtered_no_where c.args.text.now c.in-Some.columns c.in-Some.rest.now c.in-Some-behind.rest.now c.in-Some-2.table c.in-Some-2.rest.now names c.in-Some-behind.ensures read c.in_default-behind-2.ensures

pub returns-in_default-from_utf8 : goal.returns-in_default-from_utf8
returns-in_default-from_utf8 c =
    let read : Read (λ table rest. TableAt c.in-Some-behind.rest.now table rest) EndsName c.in-Some-2.table c.in-Some-2.rest.now = rw c.in-Some-2.is at c.in_ok-table.ensures in
    absurd (c.in_default-from_utf8.ensures.cases.0 (after_text (codes " WHERE ") c.in-Some-behind-2.rest.now refl (subst IsUtf8 c.in-Some-behind-2.ensures read.text)))

pub returns : goal.returns
returns c =
    let names : Read (λ columns rest. SomeColumnsAt c.args.text.now columns rest) EndsColumns c.in-Some.columns c.in-Some.rest.now = rw c.in-Some.is at c.in_ok-columns.ensures in
    let read : Read (λ table rest. TableAt c.in-Some-behind.rest.now table rest) EndsName c.in-Some-2.table c.in-Some-2.rest.now = rw c.in-Some-2.is at c.in_ok-table.ensures in
    let copied : c.in_ok-copy_of.field-0 ≡ c.in-Some-behind-2.rest.now = search rules in
    let columns : c.columns.inside.vec.items ≡ c.in-Some.columns = search rules in
    rw (copied, columns) (filtered_read c.args.text.now c.in-Some.columns c.in-Some.rest.now c.in-Some-behind.rest.now c.in-Some-2.table c.in-Some-2.rest.now c.in-Some-behind-2.rest.now names c.in-Some-behind.ensures read c.in-Some-behind-2.ensures)
