use Rattle.std.proofs.Common.{◌≡◌, ◌++◌, drop}
use Rattle.store.proofs.journals.copy_of.Given as goal

abbrev pub invariant-loop-undo : goal.invariant-loop-undo
invariant-loop-undo l = l.copies.items ++ drop l.undo-index l.undos ≡ l.undos
