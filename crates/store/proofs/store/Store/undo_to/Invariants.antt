use Rattle.std.proofs.Common.{◌≡◌, List, length}
use Rattle.store.specs.History.{Made}
use Rattle.store.specs.Keeping.{Keeps, journal_of}
use Rattle.store.proofs.Storing.{Undoing, state}
use Rattle.store.proofs.store.Store.undo_to.Given as goal

abbrev pub invariant-loop-undos : goal.invariant-loop-undos
invariant-loop-undos l = (l.self-inside.catalog ≡ l.fn.self.tables)
    × ((h : List Made) → Keeps l.fn.self h → Undoing l.top l.mark (state l.self-inside.catalog l.self-inside.slots l.self-inside.journals) h)

abbrev pub decreases-loop-undos : goal.decreases-loop-undos
decreases-loop-undos l = length (journal_of l.top l.self-inside.journals)
