use Rattle.std.proofs.Common.{ap, ◌≡◌, ◌∙◌, ◌++◌}
use Rattle.tables.specs.Spelling.{spell_body}
use Rattle.wal.proofs.Bodies.{change_again}
use Rattle.wal.proofs.logged.LoggedChange.of.Goals as goal

pub invariant_of-result : goal.invariant_of-result
invariant_of-result c =
    let text : c.in-Ok.body.items ≡ spell_body c.args.change.now = c.in-Ok.ensures.ok ∙ c.in_ok-write_body.ensures.ok ∙ ap (λ xs. xs ++ spell_body c.args.change.now) c.in_ok-body.ensures.items in
    rw (change_again c.in-Ok.body.items c.args.change.now c.requires.coded text) (record { in_range = c.requires.coded; text = text }, c.requires.short)

pub returns-in-Ok : goal.returns-in-Ok
returns-in-Ok c = change_again c.in-Ok.body.items c.args.change.now c.requires.coded (c.in-Ok.ensures.ok ∙ c.in_ok-write_body.ensures.ok ∙ ap (λ xs. xs ++ spell_body c.args.change.now) c.in_ok-body.ensures.items)
