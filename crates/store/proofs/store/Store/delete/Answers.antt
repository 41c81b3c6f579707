use Rattle.std.proofs.Common.{List, [], ◌∷◌, ◌++◌, None, sym, subst, ◌∙◌, ℕ}
use Rattle.std.specs.Prelude.{IsTrue, is_some}
use Rattle.store.specs.Rows.{Key}
use Rattle.store.specs.Slots.{slot_at}
use Rattle.tables.specs.Tables.{FitsChange}
use Rattle.store.specs.History.{Made, change_made, Deletes, delete_fault, delete_refusal}
use Rattle.store.specs.Keeping.{Keeps, Makes, IsSame, DeletesAt, key_held, row_at}
use Rattle.tables.specs.Spelling.{IsShort}
use Rattle.tables.proofs.Lengths.{short_of_fits}
use Rattle.store.proofs.Outcomes.{on_err, if_ok, if_ok_both, refused_by, refused_there}
use Rattle.store.proofs.Storing.{keeps_same}
use Rattle.store.proofs.Changing.{delete_made, delete_fits, delete_is, delete_same, delete_there}
use Rattle.store.proofs.store.Store.delete.Goals as goal

pub returns-in-Ok-clause-fits : goal.returns-in-Ok-clause-fits
returns-in-Ok-clause-fits c =
    let key : Key = record { oid = c.args.oid; values = c.args.key.now } in
    if_ok c.delete_at.result (DeletesAt c.args.self.now c.args.oid c.in-Ok.place) (λ change. (h : List Made) → Keeps c.args.self.now h → FitsChange c.args.self.now.tables change)
    (λ change deletes h keeps. delete_fits c.args.self.now h key c.in-Ok.place change c.ranges.oid.fits c.in-Ok.ensures.place deletes keeps) c.delete_at.ensures.change

pub returns-in-Ok-clause-short : goal.returns-in-Ok-clause-short
returns-in-Ok-clause-short c =
    let key : Key = record { oid = c.args.oid; values = c.args.key.now } in
    if_ok c.delete_at.result (DeletesAt c.args.self.now c.args.oid c.in-Ok.place) (λ change. (h : List Made) → Keeps c.args.self.now h → IsShort change)
    (λ change deletes h keeps. short_of_fits c.args.self.now.tables change (delete_fits c.args.self.now h key c.in-Ok.place change c.ranges.oid.fits c.in-Ok.ensures.place deletes keeps))
    c.delete_at.ensures.change

pub returns-in-Ok-clause-change : goal.returns-in-Ok-clause-change
returns-in-Ok-clause-change c =
    let key : Key = record { oid = c.args.oid; values = c.args.key.now } in
    if_ok c.delete_at.result (DeletesAt c.args.self.now c.args.oid c.in-Ok.place) (λ change. (h : List Made) → Keeps c.args.self.now h → Deletes c.args.self.now.tables h key change)
    (λ change deletes h keeps. delete_is c.args.self.now h key c.in-Ok.place change c.in-Ok.ensures.place deletes keeps) c.delete_at.ensures.change

pub returns-in-Ok-clause-ok : goal.returns-in-Ok-clause-ok
returns-in-Ok-clause-ok c =
    let key : Key = record { oid = c.args.oid; values = c.args.key.now } in
    if_ok_both c.delete_at.result (DeletesAt c.args.self.now c.args.oid c.in-Ok.place)
    (λ change. (h : List Made) → Keeps c.args.self.now h → Keeps c.delete_at.new.self (h ++ change_made c.args.top change ∷ []))
    (Makes c.args.top ((c.in-Ok.place, None) ∷ []) c.args.self.now c.delete_at.new.self)
    (λ change deletes makes h keeps. delete_made c.args.self.now c.delete_at.new.self h c.args.top key c.in-Ok.place change c.ranges.oid.fits c.in-Ok.ensures.place (c.in-Ok.ensures.refused keeps.short) deletes makes keeps)
    c.delete_at.ensures.change c.delete_at.ensures.ok

pub returns-in-Ok-clause-err : goal.returns-in-Ok-clause-err
returns-in-Ok-clause-err c =
    on_err c.delete_at.result (IsSame c.args.self.now c.delete_at.new.self) ((h : List Made) → Keeps c.args.self.now h → Keeps c.delete_at.new.self h)
    (λ same h keeps. keeps_same c.args.self.now c.delete_at.new.self h same keeps) c.delete_at.ensures.err

pub returns-in-Ok-clause-refused : goal.returns-in-Ok-clause-refused
returns-in-Ok-clause-refused c h keeps =
    let key : Key = record { oid = c.args.oid; values = c.args.key.now } in
    let none = c.in-Ok.ensures.refused keeps.short in
    refused_there c.delete_at.result (delete_refusal c.args.self.now.tables h c.args.top key) (IsTrue (is_some (slot_at c.args.self.now.slots c.in-Ok.place).row))
    (subst (λ (p : List ℕ). IsTrue (is_some (slot_at c.args.self.now.slots p).row)) (sym c.in-Ok.ensures.place)
    (delete_there c.args.self.now.tables key (key_held c.args.self.now c.args.top key) (row_at c.args.self.now key) none))
    (sym (delete_same c.args.self.now h c.args.top key keeps) ∙ none) c.delete_at.ensures.memory

pub returns-in-Err-clause-refused : goal.returns-in-Err-clause-refused
returns-in-Err-clause-refused c h keeps =
    let key : Key = record { oid = c.args.oid; values = c.args.key.now } in
    refused_by (delete_fault c.args.self.now.tables key (key_held c.args.self.now c.args.top key) (is_some (row_at c.args.self.now key)))
    (delete_refusal c.args.self.now.tables h c.args.top key) c.in-Err.fault (delete_same c.args.self.now h c.args.top key keeps) (c.in-Err.ensures.refused keeps.short)
