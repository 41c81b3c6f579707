use Rattle.std.proofs.Common.{◌+◌, arith, length, subst}
use Rattle.tables.specs.Spelling.{row_length}
use Rattle.publication_config.specs.Published.{PublicationSet}
use Rattle.tables.specs.declared.changes.change.Change.TheVariants.{Insert}
use Rattle.publication.specs.Projection.{message_by}
use Rattle.publication.specs.Selection.{FitTables}
use Rattle.publication.proofs.Fields.{row_size}
use Rattle.publication.proofs.Room.{less_room}
use Rattle.publication.proofs.Standing.{large_stands, none_written, nothing_if}
use Rattle.publication.proofs.selection.Selection.put_inserted.Goals as goal

pub returns-in_err-oid-clause-told : goal.returns-in_err-oid-clause-told
returns-in_err-oid-clause-told c = λ m e.
    let all = subst (λ (s : PublicationSet). FitTables s) c.self.view_is c.self.invariant.0 in
    let none = nothing_if (message_by c.args.self.now (Insert m.0 m.1)) _ (large_stands c.args.self.now m.0 m.1 all (c.in_err-oid.ensures.none m e)) in
    none_written c.from_residual.result c.args.out.now _ c.from_residual.ensures none

pub put_insert-requires-clause-room : goal.put_insert-requires-clause-room
put_insert-requires-clause-room c =
    let row = c.one_row.new.row in
    let size = row_size c.args.fields.now (λ i. omega (arith, c.type_inv.fields i)) (c.in_ok-oid.oid, row) c.in_ok-oid.ensures.found in
    less_room (5 + row_length row) (length c.args.fields.now + 1) c.args.out.now (omega (arith, size)) c.requires
