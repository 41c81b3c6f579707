use Rattle.std.proofs.Common.{[], sym, ap, ◌∙◌}
use Rattle.std.specs.Option.{option_copied}
use Rattle.publication.proofs.Fields.{update_parts}
use Rattle.publication.proofs.Judgements.{update_inside, update_outside}
use Rattle.publication.proofs.selection.Selection.tells_update.Goals as goal

pub returns-in_default-clause-told : goal.returns-in_default-clause-told
returns-in_default-clause-told c = λ m e.
    let p = update_parts c.args.fields.now [] m e in
    update_outside c.args.self.now m.0.0 (sym (c.table_at.ensures.value m.0 p.after p.old) ∙ ap option_copied c.in_default.is) m.0.1 m.1

pub returns-clause-told : goal.returns-clause-told
returns-clause-told c = λ m e.
    let p = update_parts c.args.fields.now [] m e in
    c.tells_rows.ensures.value m e
    ∙ update_inside c.args.self.now m.0.0 c.in-Some.table.now (sym (c.table_at.ensures.value m.0 p.after p.old) ∙ ap option_copied c.in-Some.is) m.0.1 m.1
