use Rattle.std.proofs.Common.{◌≡◌, subst, sym, List, [], ◌∷◌, ◌++◌}
use Rattle.tables.specs.declared.changes.change.Change.TheVariants as changes
use Rattle.store.specs.History.{Made, change_made}
use Rattle.store.specs.Keeping.{Keeps, IsSame}
use Rattle.store.specs.Emptying.{Does}
use Rattle.tables.specs.Spelling.{IsShort}
use Rattle.store.proofs.Outcomes.{on_ok, on_err, if_ok}
use Rattle.store.proofs.Storing.{keeps_same}
use Rattle.store.proofs.Refusing.{truncate_made}
use Rattle.store.proofs.store.Store.truncate.Goals as goal

pub returns-in-Ok-clause-short : goal.returns-in-Ok-clause-short
returns-in-Ok-clause-short c =
    if_ok c.empty.result (λ change. change ≡ changes.Truncate c.args.oids.now) IsShort (λ change is. subst IsShort (sym is) c.in-Ok.ensures.fits.0) c.empty.ensures.change

pub returns-in-Ok-clause-ok : goal.returns-in-Ok-clause-ok
returns-in-Ok-clause-ok c =
    on_ok c.empty.result (Does c.args.top (changes.Truncate c.args.oids.now) c.args.self.now c.empty.new.self)
    ((h : List Made) → Keeps c.args.self.now h → Keeps c.empty.new.self (h ++ change_made c.args.top (changes.Truncate c.args.oids.now) ∷ []))
    (λ does h keeps. truncate_made c.args.self.now c.empty.new.self h c.args.top c.args.oids.now c.in-Ok.ensures.fits (c.in-Ok.ensures.refused h keeps) does keeps) c.empty.ensures.ok

pub returns-in-Ok-clause-err : goal.returns-in-Ok-clause-err
returns-in-Ok-clause-err c =
    on_err c.empty.result (IsSame c.args.self.now c.empty.new.self) ((h : List Made) → Keeps c.args.self.now h → Keeps c.empty.new.self h)
    (λ same h keeps. keeps_same c.args.self.now c.empty.new.self h same keeps) c.empty.ensures.err
