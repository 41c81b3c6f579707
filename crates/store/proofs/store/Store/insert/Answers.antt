use Rattle.std.proofs.Common.{◌≡◌, subst, List, [], ◌∷◌, ◌++◌, Some, sym, ◌∙◌}
use Rattle.tables.specs.declared.changes.change.Change.TheVariants as changes
use Rattle.store.specs.Rows.{key_of}
use Rattle.std.specs.Prelude.{is_some}
use Rattle.store.specs.History.{Made, change_made, insert_fault, insert_refusal}
use Rattle.store.specs.Keeping.{Keeps, Makes, IsSame, key_held, row_at}
use Rattle.tables.specs.Spelling.{IsShort}
use Rattle.store.proofs.Outcomes.{on_ok, on_err, if_ok, refused_by, refused_memory}
use Rattle.store.proofs.Storing.{keeps_same}
use Rattle.store.proofs.Changing.{insert_made, insert_same}
use Rattle.store.proofs.store.Store.insert.Goals as goal

pub returns-in-Ok-clause-short : goal.returns-in-Ok-clause-short
returns-in-Ok-clause-short c =
    if_ok c.insert_at.result (λ change. change ≡ changes.Insert c.args.oid c.args.row) IsShort (λ change is. subst IsShort (sym is) c.in-Ok.ensures.fits.short) c.insert_at.ensures.change

pub returns-in-Ok-clause-ok : goal.returns-in-Ok-clause-ok
returns-in-Ok-clause-ok c =
    on_ok c.insert_at.result (Makes c.args.top ((c.in-Ok.place, Some c.args.row) ∷ []) c.args.self.now c.insert_at.new.self)
    ((h : List Made) → Keeps c.args.self.now h → Keeps c.insert_at.new.self (h ++ change_made c.args.top (changes.Insert c.args.oid c.args.row) ∷ []))
    (λ makes h keeps. insert_made c.args.self.now c.insert_at.new.self h c.args.top c.args.oid c.args.row c.in-Ok.place c.in-Ok.ensures.place c.in-Ok.ensures.fits c.in-Ok.ensures.refused makes keeps)
    c.insert_at.ensures.ok

pub returns-in-Ok-clause-err : goal.returns-in-Ok-clause-err
returns-in-Ok-clause-err c =
    on_err c.insert_at.result (IsSame c.args.self.now c.insert_at.new.self) ((h : List Made) → Keeps c.args.self.now h → Keeps c.insert_at.new.self h)
    (λ same h keeps. keeps_same c.args.self.now c.insert_at.new.self h same keeps) c.insert_at.ensures.err

pub returns-in-Ok-clause-refused : goal.returns-in-Ok-clause-refused
returns-in-Ok-clause-refused c h keeps =
    refused_memory c.insert_at.result (insert_refusal c.args.self.now.tables h c.args.top c.args.oid c.args.row)
    (sym (insert_same c.args.self.now h c.args.top c.args.oid c.args.row keeps) ∙ c.in-Ok.ensures.refused) c.insert_at.ensures.memory

pub returns-in-Err-clause-refused : goal.returns-in-Err-clause-refused
returns-in-Err-clause-refused c h keeps =
    let key = key_of c.args.self.now.tables c.args.oid c.args.row in
    refused_by (insert_fault c.args.self.now.tables c.args.oid c.args.row (key_held c.args.self.now c.args.top key) (is_some (row_at c.args.self.now key)))
    (insert_refusal c.args.self.now.tables h c.args.top c.args.oid c.args.row) c.in-Err.fault (insert_same c.args.self.now h c.args.top c.args.oid c.args.row keeps) c.in-Err.ensures.refused
