use Rattle.std.proofs.Common.{Bool, Some, ap₂, ◌∙◌}
use Rattle.row_messages.specs.Messages.{insert_message, update_message}
use Rattle.publication.specs.Projection.{message_of_update}
use Rattle.row_messages.specs.Relations.{listed_items, table_as_published}
use Rattle.publication.proofs.writing.messages.put_update.Goals as goal

pub put_replacement-requires-clause-room : goal.put_replacement-requires-clause-room
put_replacement-requires-clause-room c =
    let t = table_as_published c.args.listed.now c.args.table.now in
    let old = listed_items c.args.listed.now c.args.old.now in
    let new = listed_items c.args.listed.now c.args.new.now in
    c.requires.room (update_message old new t) (ap₂ (λ (a b : Bool). message_of_update a b (Some t) old new) c.in-true-true.is-0 c.in-true-true.is-1)

pub put_deletion-requires-clause-room : goal.put_deletion-requires-clause-room
put_deletion-requires-clause-room c m is =
    let t = table_as_published c.args.listed.now c.args.table.now in
    let old = listed_items c.args.listed.now c.args.old.now in
    let new = listed_items c.args.listed.now c.args.new.now in
    c.requires.room m (ap₂ (λ (a b : Bool). message_of_update a b (Some t) old new) c.in-true-false.is-0 c.in-true-false.is-1 ∙ is)

pub put_insertion-requires-clause-room : goal.put_insertion-requires-clause-room
put_insertion-requires-clause-room c =
    let t = table_as_published c.args.listed.now c.args.table.now in
    let old = listed_items c.args.listed.now c.args.old.now in
    let new = listed_items c.args.listed.now c.args.new.now in
    c.requires.room (insert_message new t) (ap₂ (λ (a b : Bool). message_of_update a b (Some t) old new) c.in-false-true.is-0 c.in-false-true.is-1)
