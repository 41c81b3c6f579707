use Rattle.std.proofs.Common.{◌≡◌, ℕ, List, [], sym, ap, subst, ◌∙◌}
use Rattle.std.specs.Prelude.{◌&&◌, ◌||◌}
use Rattle.tables.specs.declared.kinds.Value.{Value}
use Rattle.tables.specs.Reading.{insert_at, row_at, update_at}
use Rattle.tables.specs.Tables.{fits_table}
use Rattle.publication_config.specs.declared.operations.Operation.TheVariants.{Update}
use Rattle.row_messages.specs.Messages.{stands_in}
use Rattle.publication.specs.Projection.{passes}
use Rattle.publication.proofs.Fields.{after_is, update_parts}
use Rattle.publication.proofs.Judgements.{both_stand, large_first, large_second, read_alike, unfit_first, update_judged, update_read}
use Rattle.publication.proofs.selection.Selection.tells_rows.Goals as goal

pub returns-in_default-clause-value : goal.returns-in_default-clause-value
returns-in_default-clause-value c = λ m e.
    let p = update_parts c.args.fields.now [] m e in
    large_first c.args.table.now m.0.1 _ c.requires (c.in_default.ensures.none m.0 p.after p.old)

pub returns-then-not-takes_ref-clause-value : goal.returns-then-not-takes_ref-clause-value
returns-then-not-takes_ref-clause-value c = λ m e.
    let p = update_parts c.args.fields.now [] m e in
    let same = read_alike (insert_at c.args.fields.now) (c.in-Some.oid, c.oid_and_row.new.row) m.0 c.in-Some.behind.now p.after c.in-Some.ensures.found p.old in
    unfit_first c.args.table.now m.0.1 _ (ap (λ first. fits_table c.args.table.now first.1) (sym same) ∙ sym c.if-not-takes_ref.ensures)

pub returns-in_default-last_row-clause-value : goal.returns-in_default-last_row-clause-value
returns-in_default-last_row-clause-value c = λ m e.
    let p = update_parts c.args.fields.now [] m e in
    let behind = after_is c.args.fields.now c.in-Some.behind.now p.after (c.in-Some.oid, c.oid_and_row.new.row) m.0 c.in-Some.ensures.found p.old in
    large_second (stands_in c.args.table.now m.0.1) c.args.table.now m.1 _ c.requires (c.in_default-last_row.ensures.none m.1 (ap row_at behind ∙ p.new))

pub returns-clause-value : goal.returns-clause-value
returns-clause-value c = λ m e.
    let t = c.args.table.now in
    let old = c.oid_and_row.new.row in
    let new = c.last_row.new.row in
    let passed = passes c.args.self.now Update c.in-Some.oid new in
    let whole = update_read c.args.fields.now c.in-Some.behind.now (c.in-Some.oid, old) new c.in-Some.ensures.found c.in-Some-last_row.ensures.found in
    subst (λ (r : (ℕ × List Value) × List Value). c.tells_new.result ≡ update_judged c.args.self.now t r) (read_alike (update_at c.args.fields.now) ((c.in-Some.oid, old), new) m [] [] whole e)
    (c.tells_new.ensures ∙ both_stand t old new (c.tells_old-tells_old.result || passed) (sym c.if-not-takes_ref.ensures) c.in-Some.ensures.short c.in-Some-last_row.ensures.short
    ∙ ap (λ b. stands_in t old && (stands_in t new && (b || passed))) c.tells_old-tells_old.ensures)

pub returns-clause-found : goal.returns-clause-found
returns-clause-found c = λ _.
    (((c.in-Some.oid, c.oid_and_row.new.row), c.last_row.new.row), update_read c.args.fields.now c.in-Some.behind.now (c.in-Some.oid, c.oid_and_row.new.row) c.last_row.new.row c.in-Some.ensures.found c.in-Some-last_row.ensures.found)
