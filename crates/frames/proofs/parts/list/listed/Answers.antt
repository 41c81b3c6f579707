use Rattle.std.proofs.Common.{length, refl, sym}
use Rattle.std.specs.List.{list_all}
use Rattle.frames.proofs.Listed.{are_listed, passes, judges, are_items}
use Rattle.frames.proofs.parts.list.listed.Goals as goal

pub returns-in_err-are_texts-clause-exact : goal.returns-in_err-are_texts-clause-exact
returns-in_err-are_texts-clause-exact g c =
    let l = are_listed g.T.Field.field_at (length c.args.body.now) c.in_ok-count.count c.args.body.now c.count_of.new.cursor (rw c.new-cursor.ensures at c.in_ok-count.ensures) (sym c.in_ok-end_of.ensures) in
    absurd (passes l (list_all g.T.Field.is_text) c.in_err-are_texts.field-0.0 (rw c.new.ensures at c.in_err-are_texts.ensures))

pub returns-then-not-are_texts-clause-exact : goal.returns-then-not-are_texts-clause-exact
returns-then-not-are_texts-clause-exact g c =
    let l = are_listed g.T.Field.field_at (length c.args.body.now) c.in_ok-count.count c.args.body.now c.count_of.new.cursor (rw c.new-cursor.ensures at c.in_ok-count.ensures) (sym c.in_ok-end_of.ensures) in
    rw c.if-not-are_texts.true at (judges g.T.Field.is_text l c.in_ok-are_texts.are_texts c.pass_items.new.cursor (rw c.new.ensures at c.in_ok-are_texts.ensures))

pub returns-clause-exact : goal.returns-clause-exact
returns-clause-exact g c =
    let l = are_listed g.T.Field.field_at (length c.args.body.now) c.in_ok-count.count c.args.body.now c.count_of.new.cursor (rw c.new-cursor.ensures at c.in_ok-count.ensures) (sym c.in_ok-end_of.ensures) in
    are_items g.T.Field.is_text l c.items_of.new.cursor c.items_of.result (rw c.new-2.ensures at c.items_of.ensures)

pub returns-clause-memory : goal.returns-clause-memory
returns-clause-memory g c =
    let l = are_listed g.T.Field.field_at (length c.args.body.now) c.in_ok-count.count c.args.body.now c.count_of.new.cursor (rw c.new-cursor.ensures at c.in_ok-count.ensures) (sym c.in_ok-end_of.ensures) in
    let right = rw c.if-not-are_texts.false at (judges g.T.Field.is_text l c.in_ok-are_texts.are_texts c.pass_items.new.cursor (rw c.new.ensures at c.in_ok-are_texts.ensures)) in
    λ _. rw right refl
