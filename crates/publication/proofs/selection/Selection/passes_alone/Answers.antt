use Rattle.std.proofs.Common.{◌≡◌, ℕ, List, [], sym, subst, ◌∙◌}
use Rattle.tables.specs.declared.kinds.Value.{Value}
use Rattle.tables.specs.Reading.{insert_at}
use Rattle.publication.specs.Projection.{passes}
use Rattle.publication.proofs.Judgements.{fitting_stands, large_first, read_alike, row_judged, unfit_first}
use Rattle.publication.proofs.selection.Selection.passes_alone.Goals as goal

pub returns-in_default-clause-value : goal.returns-in_default-clause-value
returns-in_default-clause-value c = λ m e. large_first c.args.table.now m.1 (passes c.args.self.now c.args.operation m.0 m.1) c.requires (c.in_default.ensures.none m e)

pub returns-then-takes_ref-clause-value : goal.returns-then-takes_ref-clause-value
returns-then-takes_ref-clause-value c = λ m e.
    let same = read_alike (insert_at c.args.fields.now) (c.in-Some.oid, c.one_row.new.row) m [] [] c.in-Some.ensures.found e in
    subst (λ (r : ℕ × List Value). c.passes.result ≡ row_judged c.args.self.now c.args.operation c.args.table.now r) same
    (c.passes.ensures ∙ fitting_stands c.args.table.now c.one_row.new.row _ (sym c.if-takes_ref.ensures) c.in-Some.ensures.short)

pub returns-else-takes_ref-clause-value : goal.returns-else-takes_ref-clause-value
returns-else-takes_ref-clause-value c = λ m e.
    let same = read_alike (insert_at c.args.fields.now) (c.in-Some.oid, c.one_row.new.row) m [] [] c.in-Some.ensures.found e in
    subst (λ (r : ℕ × List Value). c.takes_ref.result ≡ row_judged c.args.self.now c.args.operation c.args.table.now r) same
    (c.if-takes_ref.false ∙ unfit_first c.args.table.now c.one_row.new.row _ (sym c.if-takes_ref.ensures))
