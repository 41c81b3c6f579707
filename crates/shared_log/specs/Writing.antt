-- How a writer stands between its calls, and what it makes of a record.
use Rattle.std.specs.Prelude.{◌≡◌, ◌<◌, ◌≤◌, ◌^◌, ℕ, List, [], ◌∷◌, ◌++◌, length, None, Some, true, vec_capacity, vec_len}
use Rattle.std.specs.Arc.{arc_value}
use Rattle.logbook.specs.Pages.{Book}
use Rattle.wal.specs.declared.record.TheConstants.{FIRST_POSITION}
use Rattle.wal.specs.declared.record.Record.{Record}
use Rattle.wal.specs.Log.{IsWellFormedLog, end_of}
use Rattle.wal.specs.Restart.{oldest}
use Rattle.shared_log.specs.declared.histories.entry.Entry.{Entry}
use Rattle.shared_log.specs.declared.histories.copy.LogCopy.{LogCopy}
use Rattle.shared_log.specs.declared.histories.copy.PutRecord.{PutRecord}
use Rattle.shared_log.specs.declared.histories.edge.Edge.{Edge}
use Rattle.shared_log.specs.declared.appending.openings.Openings.{Openings as Noted}
use Rattle.shared_log.specs.declared.appending.outline.Outline.{Outline}
use Rattle.shared_log.specs.SeenPrefixes.{settled_records, shown_records, open_from, ends_confirmed}
use Rattle.shared_log.specs.Kept.{LiesFrom, given_after}
use Rattle.shared_log.specs.Openings.{AreOpenings, is_end, owner_of}
use Rattle.shared_log.specs.Telling.{TellsOf}

-- What is known of a log by the history that was seen: how many records are settled and where they end, a front at which nothing is
-- offered, and the transactions in progress, with room to note one more where a record is offered.
pub record Stands (front sure : List Entry) (count end : ℕ) (noted : Noted) : Type 0 where
  pub counted : count ≡ length (settled_records front)
  pub ends : end ≡ end_of FIRST_POSITION (settled_records front)
  pub alike : settled_records sure ≡ settled_records front
  pub confirmed : ends_confirmed sure ≡ true
  pub progress : AreOpenings (settled_records front) noted.items.items
  pub room : (r : Record) → open_from None front ≡ Some r → vec_len noted.items < vec_capacity noted.items

-- a log as its writer knows it: its records, and the place up to which they may be given back
pub record Written : Type 0 where
  pub records : List Record
  pub given : ℕ

-- some of its records may be given back
abbrev pub after_giving : ℕ → Written → Written
after_giving up_to w = record w { given = given_after up_to w.records w.given }

-- a copy of an empty log
abbrev pub IsEmptyCopy : LogCopy → Type 0
IsEmptyCopy copy = (copy.records.items ≡ []) × (copy.edge ≡ record { place = 0; restart = 0; position = FIRST_POSITION })

-- Each record that still waits for a copy enters at the end of the log, and copies begin where it says, ever further on.
abbrev pub Waits : List Record → (first last : ℕ) → List PutRecord → Type 0
Waits log first last [] = first ≤ last
Waits log first last (p ∷ ps) = (p.place ≡ length log) × (first ≤ p.edge) × Waits log p.edge last ps

-- Readers see the log, of which the end lies in memory, and what still waits for a copy enters at its end. Copies begin no further on
-- than records may be given back.
pub record Shows (log : List Record) (last given : ℕ) (front : List Entry) (edge : Edge) (kept : List (Record × ℕ)) (waiting : List PutRecord) : Type 0 where
  pub says : shown_records front ≡ log
  pub shown : LiesFrom log edge kept
  pub waits : Waits log edge.place last waiting
  pub bounded : last ≤ given
  pub within : given ≤ length log

-- what is known beside its body of a record that may stand at the end of a log
pub record IsOutline (log : List Record) (r : Record) (outline : Outline) : Type 0 where
  pub good : IsWellFormedLog (log ++ r ∷ [])
  pub tells : TellsOf r outline.start outline.end
  pub owner : owner_of (log ++ r ∷ []) r ≡ outline.top
  pub last : is_end r.body ≡ outline.is_last

-- a record of this outline was offered last, and there is room for its confirmation
pub record IsOffered (front : List Entry) (outline : Outline) : Type 0 where
  pub offered : Record
  pub waits : open_from None front ≡ Some offered
  pub fits : IsOutline (settled_records front) offered outline
  pub short : length front < 2 ^ 62

-- what enters a copy: a record at the end of a log, with its restart place, and the history that shows both
pub record IsPut (name : Book) (log : List Record) (r : Record) (history : List Entry) (put : PutRecord) : Type 0 where
  pub place : put.place ≡ length log
  pub entry : arc_value put.entry ≡ r
  pub restart : put.restart ≡ oldest (log ++ r ∷ [])
  pub named : put.mark.seen.book ≡ name
  pub says : put.mark.seen.log ≡ history
