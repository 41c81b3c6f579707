use Rattle.std.proofs.Common.{◌≡◌, ◌+◌, ◌∙◌, ℕ, ap, arith, drop, length, subst, take}
use Rattle.std.proofs.lemmas.List.{length-take}
use Rattle.publication.specs.Logged.{change_message}
use Rattle.publication_config.specs.Published.{PublicationSet}
use Rattle.publication.specs.Selection.{FitTables}
use Rattle.row_messages.specs.Spelling.{room_for}
use Rattle.publication.proofs.Standing.{spelled_fits}
use Rattle.publication.proofs.Fields.{found_of, told_of}
use Rattle.publication.proofs.Room.{room_within}
use Rattle.row_messages.proofs.Written.{put_in}
use Rattle.publication.proofs.selection.Selection.put.Goals as goal

pub put_tagged-requires : goal.put_tagged-requires
put_tagged-requires c =
    let room = c.room_for.result in
    let size = length-take room c.args.out.now in
    let whole : length c.args.body.now ≡ length c.in_ok-tag.fields.now + 1 = let text = ap (length {A = ℕ}) c.in_ok-tag.ensures.cases.0 in omega (arith, text) in
    let is : room ≡ room_for (length c.in_ok-tag.fields.now + 1) = c.room_for.ensures ∙ ap room_for whole in
    let max = room_within (length c.in_ok-tag.fields.now + 1) in
    (omega (arith, size, c.requires, c.room_for.ensures, is), omega (arith, size, is, max))

pub returns-clause-message : goal.returns-clause-message
returns-clause-message c = λ change is.
    put_in c.put_tagged.result (take c.room_for.result c.args.out.now) c.put_tagged.new.out (drop c.room_for.result c.args.out.now) (change_message c.args.self.now c.args.position change)
    (c.put_tagged.ensures.told change (told_of c.args.body.now c.in_ok-tag.tag.now c.in_ok-tag.fields.now change c.in_ok-tag.ensures.cases.0 is))

pub returns-clause-found : goal.returns-clause-found
returns-clause-found c = found_of c.args.body.now c.in_ok-tag.tag.now c.in_ok-tag.fields.now c.put_tagged.result (λ i. omega (arith, c.type_inv.body i)) c.in_ok-tag.ensures.cases.0 c.put_tagged.ensures.found

pub returns-clause-fits : goal.returns-clause-fits
returns-clause-fits c = spelled_fits c.args.self.now c.args.position c.args.body.now (omega (arith, c.ranges.position.fits)) (subst (λ (s : PublicationSet). FitTables s) c.self.view_is c.self.invariant.0)

pub returns-in_err-tag-clause-fits : goal.returns-in_err-tag-clause-fits
returns-in_err-tag-clause-fits c = spelled_fits c.args.self.now c.args.position c.args.body.now (omega (arith, c.ranges.position.fits)) (subst (λ (s : PublicationSet). FitTables s) c.self.view_is c.self.invariant.0)
