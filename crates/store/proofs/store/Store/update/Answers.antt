use Rattle.std.proofs.Common.{List, [], ◌∷◌, ◌++◌, None, Some, not, ◌||◌, ◌&&◌, sym, subst, ◌∙◌, ℕ}
use Rattle.std.specs.Prelude.{IsTrue, is_some}
use Rattle.store.specs.Rows.{Key, key_text, key_of}
use Rattle.store.specs.Slots.{same_key, slot_at}
use Rattle.tables.specs.Tables.{FitsChange}
use Rattle.store.specs.History.{Made, change_made, row_place, Updates, update_fault, update_refusal}
use Rattle.store.specs.Keeping.{Keeps, Makes, IsSame, UpdatesAt, key_held, row_at}
use Rattle.tables.specs.Spelling.{IsShort}
use Rattle.tables.proofs.Lengths.{short_of_fits}
use Rattle.store.proofs.Outcomes.{on_err, if_ok, if_ok_both, refused_by, refused_there}
use Rattle.store.proofs.Storing.{keeps_same}
use Rattle.store.proofs.Changing.{update_made, update_fits, update_is, update_same, update_there}
use Rattle.store.proofs.store.Store.update.Goals as goal

pub returns-in-Ok-clause-fits : goal.returns-in-Ok-clause-fits
returns-in-Ok-clause-fits c =
    let key : Key = record { oid = c.args.oid; values = c.args.key.now } in
    if_ok c.update_at.result (UpdatesAt c.args.self.now c.args.oid c.in-Ok.from c.args.row) (λ change. (h : List Made) → Keeps c.args.self.now h → FitsChange c.args.self.now.tables change)
    (λ change updates h keeps. update_fits c.args.self.now h key c.args.row c.in-Ok.from change c.ranges.oid.fits c.in-Ok.ensures.places.0 c.in-Ok.ensures.fits updates keeps) c.update_at.ensures.change

pub returns-in-Ok-clause-short : goal.returns-in-Ok-clause-short
returns-in-Ok-clause-short c =
    let key : Key = record { oid = c.args.oid; values = c.args.key.now } in
    if_ok c.update_at.result (UpdatesAt c.args.self.now c.args.oid c.in-Ok.from c.args.row) (λ change. (h : List Made) → Keeps c.args.self.now h → IsShort change)
    (λ change updates h keeps. short_of_fits c.args.self.now.tables change
    (update_fits c.args.self.now h key c.args.row c.in-Ok.from change c.ranges.oid.fits c.in-Ok.ensures.places.0 c.in-Ok.ensures.fits updates keeps)) c.update_at.ensures.change

pub returns-in-Ok-clause-change : goal.returns-in-Ok-clause-change
returns-in-Ok-clause-change c =
    let key : Key = record { oid = c.args.oid; values = c.args.key.now } in
    if_ok c.update_at.result (UpdatesAt c.args.self.now c.args.oid c.in-Ok.from c.args.row) (λ change. (h : List Made) → Keeps c.args.self.now h → Updates c.args.self.now.tables h key c.args.row change)
    (λ change updates h keeps. update_is c.args.self.now h key c.args.row c.in-Ok.from change c.in-Ok.ensures.places.0 updates keeps) c.update_at.ensures.change

pub returns-in-Ok-clause-ok : goal.returns-in-Ok-clause-ok
returns-in-Ok-clause-ok c =
    let key : Key = record { oid = c.args.oid; values = c.args.key.now } in
    if_ok_both c.update_at.result (UpdatesAt c.args.self.now c.args.oid c.in-Ok.from c.args.row)
    (λ change. (h : List Made) → Keeps c.args.self.now h → Keeps c.update_at.new.self (h ++ change_made c.args.top change ∷ []))
    (Makes c.args.top ((c.in-Ok.from, None) ∷ (c.in-Ok.to, Some c.args.row) ∷ []) c.args.self.now c.update_at.new.self)
    (λ change updates makes h keeps. update_made c.args.self.now c.update_at.new.self h c.args.top key c.args.row c.in-Ok.from c.in-Ok.to change c.ranges.oid.fits c.in-Ok.ensures.places.0 c.in-Ok.ensures.places.1
    c.in-Ok.ensures.fits (c.in-Ok.ensures.refused keeps.short) updates makes keeps)
    c.update_at.ensures.change c.update_at.ensures.ok

pub returns-in-Ok-clause-err : goal.returns-in-Ok-clause-err
returns-in-Ok-clause-err c =
    on_err c.update_at.result (IsSame c.args.self.now c.update_at.new.self) ((h : List Made) → Keeps c.args.self.now h → Keeps c.update_at.new.self h)
    (λ same h keeps. keeps_same c.args.self.now c.update_at.new.self h same keeps) c.update_at.ensures.err

pub returns-in-Ok-clause-refused : goal.returns-in-Ok-clause-refused
returns-in-Ok-clause-refused c h keeps =
    let key : Key = record { oid = c.args.oid; values = c.args.key.now } in
    let s = c.args.self.now in
    let none = c.in-Ok.ensures.refused keeps.short in
    refused_there c.update_at.result (update_refusal c.args.self.now.tables h c.args.top key c.args.row) (IsTrue (is_some (slot_at c.args.self.now.slots c.in-Ok.from).row))
    (subst (λ (p : List ℕ). IsTrue (is_some (slot_at c.args.self.now.slots p).row)) (sym c.in-Ok.ensures.places.0)
    (update_there c.args.self.now.tables key c.args.row (key_held s c.args.top key || key_held s c.args.top (key_of s.tables key.oid c.args.row))
    (not (same_key (key_text key) (row_place s.tables key.oid c.args.row)) && is_some (row_at s (key_of s.tables key.oid c.args.row))) (row_at c.args.self.now key) none))
    (sym (update_same c.args.self.now h c.args.top key c.args.row keeps) ∙ none) c.update_at.ensures.memory

pub returns-in-Err-clause-refused : goal.returns-in-Err-clause-refused
returns-in-Err-clause-refused c h keeps =
    let key : Key = record { oid = c.args.oid; values = c.args.key.now } in
    let s = c.args.self.now in
    refused_by (update_fault s.tables key c.args.row (key_held s c.args.top key || key_held s c.args.top (key_of s.tables key.oid c.args.row)) (is_some (row_at s key))
    (not (same_key (key_text key) (row_place s.tables key.oid c.args.row)) && is_some (row_at s (key_of s.tables key.oid c.args.row))))
    (update_refusal s.tables h c.args.top key c.args.row) c.in-Err.fault (update_same s h c.args.top key c.args.row keeps) (c.in-Err.ensures.refused keeps.short)
