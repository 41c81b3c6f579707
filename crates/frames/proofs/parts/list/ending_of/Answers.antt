use Rattle.std.proofs.Common.{sym}
use Rattle.std.specs.List.{list_all}
use Rattle.frames.proofs.Listed.{are_counted, are_items}
use Rattle.frames.proofs.parts.list.ending_of.Goals as goal

pub returns-clause-exact : goal.returns-clause-exact
returns-clause-exact g c =
    let l = are_counted (list_all g.T.Field.is_text) g.T.Field.field_at c.args.count c.args.bytes.now c.pass_items.new.cursor c.in_ok-are_texts.are_texts (rw c.new-cursor.ensures at c.in_ok-are_texts.ensures) (sym c.in_ok-end_of.ensures) in
    are_items g.T.Field.is_text l c.items_of.new.cursor c.items_of.result (rw c.new.ensures at c.items_of.ensures)
