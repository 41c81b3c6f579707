use Rattle.std.proofs.Common.{sym, ap, ◌∙◌}
use Rattle.std.specs.Prelude.{◌&&◌, not}
use Rattle.std.specs.List.{list_any, zip}
use Rattle.tables.specs.declared.kinds.Value.{Value}
use Rattle.tables.specs.Kinds.{value_of}
use Rattle.row_messages.specs.Kinds.{same_value}
use Rattle.row_messages.proofs.Written.{changed_here, is_changed, key_is, passed_here, past, same_here}
use Rattle.row_messages.proofs.Choosing.{unpaired}
use Rattle.row_messages.proofs.tuples.changes_key_in.Goals.{else-is_listed-via-then-is_listed+else-is_other_key, else-is_listed-via-else-is_listed}
use Rattle.row_messages.proofs.tuples.changes_key_in.Goals as goal

pub loop-i-preserved : goal.loop-i-preserved
loop-i-preserved c =
    let of = λ (a b : Value). c.index-columns-i.result.is_key && not (same_value a b) in
    elim c.else-is_listed.branch [
      | else-is_listed-via-then-is_listed+else-is_other_key w ↦
          sym (same_here c.args.listed.now c.args.columns.now c.args.old.now c.args.new.now c.loop-i.i c.index-columns-i.result c.loop-i-test.true c.requires.old c.requires.new c.index-columns-i.is (sym c.is_listed.ensures ∙ w.if-is_listed.true)
          (sym (ap (λ a. of a (value_of c.value_in-value.result)) c.value_in-before.ensures ∙ ap (of _) c.value_in-value.ensures) ∙ (sym w.is_other_key.ensures ∙ w.if-is_other_key.false))) ∙ c.loop-i.invariant
      | else-is_listed-via-else-is_listed w ↦
          sym (passed_here c.args.listed.now c.args.columns.now c.args.old.now c.args.new.now c.loop-i.i c.index-columns-i.result c.loop-i-test.true c.requires.old c.requires.new c.index-columns-i.is (sym c.is_listed.ensures ∙ w.if-is_listed.false)) ∙ c.loop-i.invariant
    ]

pub returns-then-is_other_key : goal.returns-then-is_other_key
returns-then-is_other_key c =
    let of = λ (a b : Value). c.index-columns-i.result.is_key && not (same_value a b) in
    let here = changed_here c.args.listed.now c.args.columns.now c.args.old.now c.args.new.now c.loop-i.i c.index-columns-i.result c.loop-i-test.true c.requires.old c.requires.new c.index-columns-i.is (sym c.is_listed.ensures ∙ c.if-is_listed.true)
    (sym (ap (λ a. of a (value_of c.value_in-value.result)) c.value_in-before.ensures ∙ ap (of _) c.value_in-value.ensures) ∙ (sym c.is_other_key.ensures ∙ c.if-is_other_key.true)) in
    sym here ∙ c.loop-i.invariant ∙ key_is c.args.listed.now c.args.columns.now c.args.old.now c.args.new.now

pub returns : goal.returns
returns c =
    let triples = zip c.args.columns.now (zip c.args.old.now c.args.new.now) in
    let none = past c.args.listed.now triples c.loop-i.i (unpaired c.args.columns.now (zip c.args.old.now c.args.new.now) c.loop-i.i c.loop-i-test.false) in
    sym (ap (list_any is_changed) none) ∙ c.loop-i.invariant ∙ key_is c.args.listed.now c.args.columns.now c.args.old.now c.args.new.now
