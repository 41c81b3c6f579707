use Rattle.std.proofs.Common.{◌≡◌, true, false, List, ℕ, [], length, eqb, refl, sym, ap, subst, ◌∙◌, rules}
use Rattle.std.specs.Prelude.{None}
use Rattle.std.specs.Str.{IsUtf8}
use Rattle.pqformat.proofs.Quoting.{found}
use Rattle.server.specs.Reading.{literal_front}
use Rattle.server.proofs.Lists.{after_text}
use Rattle.server.proofs.Literals.{literal_leaves_text}
use Rattle.server.proofs.Slots.{nothing_left}
use Rattle.server.proofs.TableReads.{table_front, table_goes_on, table_middle, table_no_front, table_no_middle, table_no_name, table_no_schema, table_read}
use Rattle.server.proofs.asked.table_question.table_of.Goals.{in_default-3-via-in-Some-3+else-is_empty, in_default-3-via-in_default-3}
use Rattle.server.proofs.asked.table_question.table_of.Goals as goal

pub returns-in_default : goal.returns-in_default
returns-in_default c = table_no_front c.args.text.now c.in_default.ensures

pub literal_of-requires : goal.literal_of-requires
literal_of-requires c = after_text table_front c.in-Some.named.now refl (subst IsUtf8 c.in-Some.ensures c.requires)

pub returns-in_default-2 : goal.returns-in_default-2
returns-in_default-2 c =
    let none : literal_front c.in-Some.named.now ≡ None = search rules in
    table_no_schema c.args.text.now c.in-Some.named.now c.in-Some.ensures none

pub returns-in_default-behind : goal.returns-in_default-behind
returns-in_default-behind c =
    let read : literal_front c.in-Some.named.now ≡ found c.in-Some-2.schema c.in-Some-2.rest.now = search rules in
    table_no_middle c.args.text.now c.in-Some.named.now c.in-Some-2.schema c.in-Some-2.rest.now c.in-Some.ensures read c.in_default-behind.ensures

pub literal_of-requires-2 : goal.literal_of-requires-2
literal_of-requires-2 c =
    let read : literal_front c.in-Some.named.now ≡ found c.in-Some-2.schema c.in-Some-2.rest.now = search rules in
    let valid = after_text table_front c.in-Some.named.now refl (subst IsUtf8 c.in-Some.ensures c.requires) in
    after_text table_middle c.in-Some-behind.named.now refl (subst IsUtf8 c.in-Some-behind.ensures (literal_leaves_text c.in-Some.named.now c.in-Some-2.schema c.in-Some-2.rest.now valid read))

pub returns-in-Some-3 : goal.returns-in-Some-3
returns-in-Some-3 c =
    let read : literal_front c.in-Some.named.now ≡ found c.in-Some-2.schema c.in-Some-2.rest.now = search rules in
    let then : literal_front c.in-Some-behind.named.now ≡ found c.in-Some-3.name c.in-Some-3.rest.now = search rules in
    table_read c.args.text.now c.in-Some.named.now c.in-Some-2.schema c.in-Some-2.rest.now c.in-Some-behind.named.now c.in-Some-3.name c.in-Some-3.rest.now c.in-Some.ensures read c.in-Some-behind.ensures then (nothing_left c.in-Some-3.rest.now (sym c.is_empty.ensures ∙ c.if-is_empty.true))

pub returns-in_default-3 : goal.returns-in_default-3
returns-in_default-3 c =
    let read : literal_front c.in-Some.named.now ≡ found c.in-Some-2.schema c.in-Some-2.rest.now = search rules in
    elim c.in_default-3.branch [
      | in_default-3-via-in-Some-3+else-is_empty w ↦
          let then : literal_front c.in-Some-behind.named.now ≡ found w.in-Some-3.name w.in-Some-3.rest.now = search rules in
          let some : w.in-Some-3.rest.now ≡ [] → ⊥ = λ e. let f : w.is_empty.result ≡ true = w.is_empty.ensures ∙ ap (λ (l : List ℕ). eqb (length l) 0) e in let g : w.is_empty.result ≡ false = w.if-is_empty.false in cc in
          table_goes_on c.args.text.now c.in-Some.named.now c.in-Some-2.schema c.in-Some-2.rest.now c.in-Some-behind.named.now w.in-Some-3.name w.in-Some-3.rest.now c.in-Some.ensures read c.in-Some-behind.ensures then some
      | in_default-3-via-in_default-3 w ↦
          let none : literal_front c.in-Some-behind.named.now ≡ None = search rules in
          table_no_name c.args.text.now c.in-Some.named.now c.in-Some-2.schema c.in-Some-2.rest.now c.in-Some-behind.named.now c.in-Some.ensures read c.in-Some-behind.ensures none
    ]
