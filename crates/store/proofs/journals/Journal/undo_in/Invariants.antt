use Rattle.std.proofs.Common.{◌≡◌, ◌≤◌, ℕ, List, ◌∷◌, take, length}
use Rattle.tables.specs.declared.table.Table.{Table}
use Rattle.store.specs.History.{Made}
use Rattle.store.specs.Keeping.{Journals}
use Rattle.store.specs.Snapshots.{Settling}
use Rattle.store.proofs.journals.Journal.undo_in.Given as goal

abbrev pub invariant-loop-left : goal.invariant-loop-left
invariant-loop-left l =
    (l.left ≤ length l.self-inside.changes.items)
    × ((tables : List Table) (top : ℕ) (rest : Journals) (h : List Made) → Settling tables l.fn.slots ((top, l.fn.self) ∷ rest) h →
    Settling tables l.slots ((top, take l.left l.self-inside.changes.items) ∷ rest) h)

abbrev pub decreases-loop-left : goal.decreases-loop-left
decreases-loop-left l = l.left
