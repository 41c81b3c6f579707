use Rattle.std.proofs.Common.{◌∙◌, ap, sym, List, ℕ}
use Rattle.store.specs.Rows.{Key, key_text}
use Rattle.store.specs.Slots.{slot_at}
use Rattle.store.specs.Keeping.{StoreState}
use Rattle.store.proofs.Storing.{row_is, long_vacant}
use Rattle.store.proofs.store.Store.get.Goals as goal

pub returns-in-Some : goal.returns-in-Some
returns-in-Some c h keeps =
    let key : Key = record { oid = c.args.oid; values = c.args.key.now } in
    c.row.ensures ∙ ap (λ (k : List ℕ). (slot_at c.self.inside.slots k).row) (c.as_bytes.ensures ∙ c.in-Some.ensures) ∙ ap (λ (s : StoreState). (slot_at s.slots (key_text key)).row) c.self.view_is
    ∙ row_is c.args.self.now h key keeps

pub returns-in-None : goal.returns-in-None
returns-in-None c h keeps =
    let key : Key = record { oid = c.args.oid; values = c.args.key.now } in
    sym (long_vacant c.args.self.now key c.in-None.ensures keeps.short) ∙ row_is c.args.self.now h key keeps
