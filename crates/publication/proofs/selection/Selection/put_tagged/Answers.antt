use Rattle.std.proofs.Common.{ℕ, subst, sym}
use Rattle.std.specs.Prelude.{IfSome}
use Rattle.tables.specs.Reading.{change_tagged}
use Rattle.publication.specs.Read.{IsReadWhole}
use Rattle.publication.proofs.Fields.{found_delete, found_insert, found_message, found_truncate, found_update}
use Rattle.publication.proofs.selection.Selection.put_tagged.Goals as goal

pub returns-in-1-clause-found : goal.returns-in-1-clause-found
returns-in-1-clause-found c =
    subst (λ (tag : ℕ). IfSome c.put_inserted.result (λ _. IsReadWhole (change_tagged tag c.args.fields.now))) (sym c.in-1.is) (found_insert c.args.fields.now c.put_inserted.result c.put_inserted.ensures.found)

pub returns-in-2-clause-found : goal.returns-in-2-clause-found
returns-in-2-clause-found c =
    subst (λ (tag : ℕ). IfSome c.put_updated.result (λ _. IsReadWhole (change_tagged tag c.args.fields.now))) (sym c.in-2.is) (found_update c.args.fields.now c.put_updated.result c.put_updated.ensures.found)

pub returns-in-3-clause-found : goal.returns-in-3-clause-found
returns-in-3-clause-found c =
    subst (λ (tag : ℕ). IfSome c.put_deleted.result (λ _. IsReadWhole (change_tagged tag c.args.fields.now))) (sym c.in-3.is) (found_delete c.args.fields.now c.put_deleted.result c.put_deleted.ensures.found)

pub returns-in-4-clause-found : goal.returns-in-4-clause-found
returns-in-4-clause-found c =
    subst (λ (tag : ℕ). IfSome c.put_truncated.result (λ _. IsReadWhole (change_tagged tag c.args.fields.now))) (sym c.in-4.is) (found_truncate c.args.fields.now c.put_truncated.result c.put_truncated.ensures.found)

pub returns-in-5-clause-found : goal.returns-in-5-clause-found
returns-in-5-clause-found c =
    subst (λ (tag : ℕ). IfSome c.put_logged.result (λ _. IsReadWhole (change_tagged tag c.args.fields.now))) (sym c.in-5.is) (found_message c.args.fields.now c.put_logged.result c.put_logged.ensures.found)
