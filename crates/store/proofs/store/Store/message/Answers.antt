use Rattle.std.proofs.Common.{subst}
use Rattle.std.proofs.lemmas.Result.{err_from_is_err_and}
use Rattle.tables.specs.Tables.{FitsMessage}
use Rattle.store.proofs.Changing.{message_made}
use Rattle.store.proofs.Storing.{keeps_same}
use Rattle.store.proofs.store.Store.message.Goals as goal

pub returns-in_err-note_nothing-in-Ok-clause-err : goal.returns-in_err-note_nothing-in-Ok-clause-err
returns-in_err-note_nothing-in-Ok-clause-err c =
    let p = err_from_is_err_and c.from_residual.result c.from_residual.ensures.1 in
    rw p.1 (λ h keeps. keeps_same c.args.self.now c.note_nothing.new.self h c.in_err-note_nothing-in-Ok.ensures.err keeps)

pub returns-in_ok-note_nothing-in-Ok-clause-ok : goal.returns-in_ok-note_nothing-in-Ok-clause-ok
returns-in_ok-note_nothing-in-Ok-clause-ok c = λ h keeps.
    message_made c.args.self.now c.note_nothing.new.self h c.args.top (record { prefix = c.args.prefix.now; content = c.args.content.now }) (subst FitsMessage c.in-Ok.ensures.value c.in-Ok.ensures.fits)
    c.in_ok-note_nothing-in-Ok.ensures.ok keeps
