use Rattle.std.proofs.Common.{ℕ, Some, subst, sym}
use Rattle.tables.specs.Reading.{change_tagged}
use Rattle.publication.specs.Read.{IsReadWhole}
use Rattle.publication.proofs.Fields.{found_delete, found_insert, found_message, found_truncate, found_update}
use Rattle.publication.proofs.selection.Selection.tells_tagged.Goals as goal

pub returns-in-1-clause-found : goal.returns-in-1-clause-found
returns-in-1-clause-found c = λ told.
    subst (λ (tag : ℕ). IsReadWhole (change_tagged tag c.args.fields.now)) (sym c.in-1.is) (found_insert c.args.fields.now (Some 0) (c.tells_insert.ensures.found told))

pub returns-in-2-clause-found : goal.returns-in-2-clause-found
returns-in-2-clause-found c = λ told.
    subst (λ (tag : ℕ). IsReadWhole (change_tagged tag c.args.fields.now)) (sym c.in-2.is) (found_update c.args.fields.now (Some 0) (c.tells_update.ensures.found told))

pub returns-in-3-clause-found : goal.returns-in-3-clause-found
returns-in-3-clause-found c = λ told.
    subst (λ (tag : ℕ). IsReadWhole (change_tagged tag c.args.fields.now)) (sym c.in-3.is) (found_delete c.args.fields.now (Some 0) (c.tells_delete.ensures.found told))

pub returns-in-4-clause-found : goal.returns-in-4-clause-found
returns-in-4-clause-found c = λ told.
    subst (λ (tag : ℕ). IsReadWhole (change_tagged tag c.args.fields.now)) (sym c.in-4.is) (found_truncate c.args.fields.now (Some 0) (c.tells_truncate.ensures.found told))

pub returns-in-5-clause-found : goal.returns-in-5-clause-found
returns-in-5-clause-found c = λ told.
    subst (λ (tag : ℕ). IsReadWhole (change_tagged tag c.args.fields.now)) (sym c.in-5.is) (found_message c.args.fields.now (Some 0) (c.tells_logged.ensures.found told))
