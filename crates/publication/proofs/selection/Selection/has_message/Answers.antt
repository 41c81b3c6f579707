use Rattle.std.proofs.Common.{Some, arith}
use Rattle.publication.proofs.Fields.{found_of, told_of}
use Rattle.publication.proofs.selection.Selection.has_message.Goals as goal

pub returns-clause-value : goal.returns-clause-value
returns-clause-value c = λ position change is.
    c.tells_tagged.ensures.told position change (told_of c.args.body.now c.in-Some.tag.now c.in-Some.fields.now change c.in-Some.ensures.cases.0 is)

pub returns-clause-found : goal.returns-clause-found
returns-clause-found c = λ told.
    found_of c.args.body.now c.in-Some.tag.now c.in-Some.fields.now (Some 0) (λ i. omega (arith, c.type_inv.body i)) c.in-Some.ensures.cases.0 (c.tells_tagged.ensures.found told)
