-- What is true of the log that readers see, between any two steps of any threads.
use Rattle.std.specs.Prelude.{◌≡◌, ◌≤◌, ℕ, List, []}
use mathlib.Core.Option.{some}
use mathlib.Core.List.{IsPrefix}
use lib.ListN.{get_elem?}
use Rattle.logbook.specs.Pages.{Book}
use Rattle.wal.specs.declared.record.Record.{Record}
use Rattle.wal.specs.Log.{IsWellFormedLog}
use Rattle.shared_log.specs.declared.histories.edge.Edge.{Edge}
use Rattle.shared_log.specs.declared.histories.rule.View.{View}
use Rattle.shared_log.specs.Kept.{LiesFrom}

-- The published log is well formed, its end lies in memory with its restart places, and all that anybody has seen of it is a beginning
-- of it, whose edge was no further on.
pub record Keeps (name : Book) (log : List Record) (edge : Edge) (kept : List (Record × ℕ)) (book : Book) (views : List View) : Type 0 where
  pub good : IsWellFormedLog log
  pub lies : LiesFrom log edge kept
  pub named : book ≡ name
  pub seen : (seat : ℕ) (v : View) → get_elem? views seat ≡ some v → IsPrefix v.seen log
  pub moved : (seat : ℕ) (v : View) → get_elem? views seat ≡ some v → v.edge ≤ edge.place

-- who has seen nothing
abbrev pub newcomer : View
newcomer = record { seen = []; edge = 0 }

-- the log was seen, and begins with all that had been seen before
pub record Saw (name : Book) (old : View) (log : List Record) (edge : Edge) (kept : List (Record × ℕ)) (book : Book) (new : View) : Type 0 where
  pub longer : IsPrefix old.seen log
  pub whole : new.seen ≡ log
  pub further : old.edge ≤ edge.place
  pub from : new.edge ≡ edge.place
  pub good : IsWellFormedLog log
  pub lies : LiesFrom log edge kept
  pub named : book ≡ name
