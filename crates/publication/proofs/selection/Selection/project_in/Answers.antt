use Rattle.std.proofs.Common.{sym, ap}
use Rattle.publication.specs.Logged.{change_message}
use Rattle.publication.specs.Projection.{projection_of}
use Rattle.publication.proofs.Projecting.{read_put}
use Rattle.publication.proofs.selection.Selection.project_in.Goals as goal

pub returns-in_ok-message_in-in-Some : goal.returns-in_ok-message_in-in-Some
returns-in_ok-message_in-in-Some c = λ change spelled.
    let is = read_put c.in-Some.len c.put.new.out (change_message c.args.self.now c.args.position change) c.in_ok-message_in-in-Some.field-0 (c.in-Some.ensures.message change spelled)
    (λ m is. (c.in-Some.ensures.fits change m spelled is).fits) c.in_ok-message_in-in-Some.ensures in
    (ap projection_of (sym is), c.in-Some.ensures.fits change c.in_ok-message_in-in-Some.field-0 spelled is)
