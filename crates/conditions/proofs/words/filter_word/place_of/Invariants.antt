use Rattle.std.proofs.Common.{◌≡◌, ◌+◌, drop}
use Rattle.conditions.specs.Grammar.{place_of}
use Rattle.conditions.proofs.words.filter_word.place_of.Given as goal

abbrev pub invariant-loop-column : goal.invariant-loop-column
invariant-loop-column l = record { place : l.place ≡ l.column-index; rest : l.place + place_of (drop l.column-index l.columns) l.name ≡ place_of l.columns l.name }
