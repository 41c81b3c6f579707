use Rattle.std.proofs.Common.{List}
use Rattle.tables.specs.declared.table.Table.{Table}
use Rattle.store.specs.History.{Made}
use Rattle.store.specs.Snapshots.{Settling}
use Rattle.store.proofs.Snapshots.{AreApartTops}
use Rattle.store.proofs.journals.Journals.undo_all.Given as goal

abbrev pub invariant-loop-journal : goal.invariant-loop-journal
invariant-loop-journal l =
    AreApartTops l.journal-iterator
    × ((tables : List Table) (h : List Made) → Settling tables l.fn.slots l.fn.self h → Settling tables l.slots l.journal-iterator h)
