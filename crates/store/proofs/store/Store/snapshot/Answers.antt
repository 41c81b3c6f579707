use Rattle.std.proofs.Common.{List, [], refl, sym, ap, subst}
use Rattle.tables.specs.declared.table.Table.{Table}
use Rattle.store.specs.Slots.{Entries}
use Rattle.store.specs.Keeping.{StoreState, Keeps}
use Rattle.store.specs.Snapshots.{AreCommitted, Settling}
use Rattle.store.proofs.Storing.{state}
use Rattle.store.proofs.Snapshots.{settled_are}
use Rattle.store.proofs.store.Store.snapshot.Goals as goal

pub returns-clause-rows : goal.returns-clause-rows
returns-clause-rows c h keeps =
    let inside = c.self.inside in
    let start : Settling inside.catalog c.in_ok-slots.slots inside.journals h =
    (h, subst (λ (es : Entries). Keeps (state inside.catalog es inside.journals) h) (sym c.in_ok-slots.ensures) (subst (λ (s : StoreState). Keeps s h) (sym c.self.view_is) keeps), refl) in
    let settled : Settling inside.catalog c.undo_all.new.slots [] h = c.in_ok-undo_all.ensures inside.catalog h start in
    subst (λ (ts : List Table). AreCommitted ts h c.new.result.rows) (ap (λ (s : StoreState). s.tables) c.self.view_is)
    (subst (AreCommitted inside.catalog h) (sym c.new.ensures.rows) (settled_are inside.catalog c.undo_all.new.slots h c.new.ensures.once settled))
