use Rattle.std.proofs.Common.{[], sym, ap, ◌∙◌}
use Rattle.std.specs.Option.{option_copied}
use Rattle.publication.proofs.Judgements.{insert_inside, insert_outside}
use Rattle.publication.proofs.selection.Selection.tells_insert.Goals as goal

pub returns-in_default-clause-told : goal.returns-in_default-clause-told
returns-in_default-clause-told c = λ m e. insert_outside c.args.self.now m.0 (sym (c.table_at.ensures.value m [] e) ∙ ap option_copied c.in_default.is) m.1

pub returns-clause-told : goal.returns-clause-told
returns-clause-told c = λ m e.
    c.passes_alone.ensures.value m e ∙ insert_inside c.args.self.now m.0 c.in-Some.table.now (sym (c.table_at.ensures.value m [] e) ∙ ap option_copied c.in-Some.is) m.1
