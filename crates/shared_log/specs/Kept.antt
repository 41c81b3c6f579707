-- How a copy keeps the log: its records from an edge on, and beside each the place from which whoever starts after it begins to read.
-- What stands before the edge was given back.
use Rattle.std.specs.Prelude.{◌≡◌, ℕ, suc, ◌-◌, ◌≤◌, List, [], ◌∷◌, ◌++◌, length, map, take, drop, min, max}
use Rattle.wal.specs.declared.record.TheConstants.{FIRST_POSITION}
use Rattle.wal.specs.declared.record.Record.{Record}
use Rattle.wal.specs.Log.{end_of}
use Rattle.wal.specs.Restart.{oldest}
use Rattle.shared_log.specs.declared.histories.copy.Logged.{Logged}
use Rattle.shared_log.specs.declared.histories.edge.Edge.{Edge}

abbrev pub records_in : List Logged → List Record
records_in items = map (λ l. l.entry.value) items

-- what lies there, as values
abbrev pub kept_in : List Logged → List (Record × ℕ)
kept_in items = map (λ l. (l.entry.value, l.restart)) items

-- the records after others, each with the place of the earliest record of a transaction that is in progress after it
abbrev pub with_restarts_from : List Record → List Record → List (Record × ℕ)
with_restarts_from before [] = []
with_restarts_from before (r ∷ rs) = (r, oldest (before ++ r ∷ [])) ∷ with_restarts_from (before ++ r ∷ []) rs

-- This lies in memory of a log, and the edge says of the records before it what a reader asks: where whoever starts there begins to
-- read, and the position.
pub record LiesFrom (log : List Record) (edge : Edge) (kept : List (Record × ℕ)) : Type 0 where
  pub within : edge.place ≤ length log
  pub records : kept ≡ with_restarts_from (take edge.place log) (drop edge.place log)
  pub restart : edge.restart ≡ oldest (take edge.place log)
  pub position : edge.position ≡ end_of FIRST_POSITION (take edge.place log)

-- where a copy begins from which these records were given back
abbrev pub edge_past : Edge → List (Record × ℕ) → Edge
edge_past edge [] = edge
edge_past edge (p ∷ ps) = edge_past (record { place = suc edge.place; restart = p.1; position = p.0.end }) ps

-- A record enters at a place, and a new edge is the place of the first that stays.
abbrev pub edge_entered : (place first : ℕ) → Edge → List (Record × ℕ) → Edge
edge_entered place first edge kept = edge_past edge (take (first - edge.place) (take (place - edge.place) kept))

abbrev pub kept_entered : (place first : ℕ) → Edge → List (Record × ℕ) → Record × ℕ → List (Record × ℕ)
kept_entered place first edge kept item = drop (first - edge.place) (take (place - edge.place) kept) ++ item ∷ []

-- The place up to which the records of a log may be given back, once that is asked up to a place: it only moves forward, and never past
-- the oldest record of a transaction in progress.
abbrev pub given_after : ℕ → List Record → ℕ → ℕ
given_after up_to log given = max given (min up_to (oldest log))
