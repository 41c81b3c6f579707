use Rattle.std.proofs.Common.{[], sym, ap, ◌∙◌}
use Rattle.std.specs.Option.{option_copied}
use Rattle.publication.proofs.Judgements.{delete_outside, delete_told, delete_untold}
use Rattle.publication.proofs.selection.Selection.tells_delete.Goals as goal

pub returns-in_default-clause-told : goal.returns-in_default-clause-told
returns-in_default-clause-told c = λ m e. delete_outside c.args.self.now m.0 (sym (c.table_at.ensures.value m [] e) ∙ ap option_copied c.in_default.is) m.1

pub returns-then-not-tells_gone_rows-clause-told : goal.returns-then-not-tells_gone_rows-clause-told
returns-then-not-tells_gone_rows-clause-told c = λ m e.
    delete_untold c.args.self.now m.0 c.in-Some.table.now (sym (c.table_at.ensures.value m [] e) ∙ ap option_copied c.in-Some.is) m.1 (sym (c.if-not-tells_gone_rows.ensures m.1))

pub returns-clause-told : goal.returns-clause-told
returns-clause-told c = λ m e.
    c.passes_alone.ensures.value m e
    ∙ delete_told c.args.self.now m.0 c.in-Some.table.now (sym (c.table_at.ensures.value m [] e) ∙ ap option_copied c.in-Some.is) m.1 (sym (c.if-not-tells_gone_rows.ensures m.1))
