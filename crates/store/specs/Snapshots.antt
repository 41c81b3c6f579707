-- What a snapshot of a store sees, and how its rows are read.
use Rattle.std.specs.Prelude.{◌≡◌, ℕ, Bool, not, is_some, List, [], ◌∷◌, ◌++◌, map, filter, length, Option, Some, None}
use Rattle.std.specs.List.{AllByRecursion}
use Rattle.std.specs.Map.{lookup}
use Rattle.tables.specs.declared.kinds.Value.{Value}
use Rattle.tables.specs.declared.table.Table.{Table}
use Rattle.tables.specs.Tables.{FitsRow}
use Rattle.store.specs.Keeping.{Journals, Keeps}
use Rattle.store.specs.History.{Made, is_within, rows_after, row_place}
use Rattle.store.specs.Rows.{Key, Rows, key_text}
use Rattle.store.specs.Slots.{same_key, Entries}

-- the history without the changes of transactions in progress, and the rows that it leaves
abbrev pub is_settled : Made → Bool
is_settled m = not (is_some m.top)

abbrev pub settled_history : List Made → List Made
settled_history history = filter is_settled history

abbrev pub committed_rows : List Table → List Made → Rows
committed_rows tables history = rows_after tables (settled_history history)

-- the text of a key, and the row that stands there
abbrev pub Standing : Type 0
Standing = List ℕ × List Value

-- all rows of a snapshot; those that the scan in progress has still to give; and at how many places it has still to look
pub record SnapshotState : Type 0 where
  pub rows : List Standing
  pub left : List Standing
  pub ahead : ℕ

-- no key stands there twice
abbrev pub AreOnce : {A : Type 0} → List (List ℕ × A) → Type 0
AreOnce [] = Unit {0}
AreOnce (e ∷ es) = (lookup (same_key e.0) es ≡ None) × AreOnce es

-- a row fits its table, and stands at its key
pub record IsHome (tables : List Table) (k : List ℕ) (row : List Value) : Type 0 where
  pub oid : ℕ
  pub fits : FitsRow tables oid row
  pub place : k ≡ row_place tables oid row

-- These are the committed rows of a history, each once.
pub record AreCommitted (tables : List Table) (history : List Made) (rows : List Standing) : Type 0 where
  pub at : (key : Key) → lookup (same_key (key_text key)) rows ≡ committed_rows tables history key
  pub once : AreOnce rows
  pub home : AllByRecursion (λ s. IsHome tables s.0 s.1) rows

-- the rows of one table
abbrev pub standing_within : ℕ → List Standing → List Standing
standing_within oid rows = filter (λ s. is_within (oid ∷ []) s.0) rows

-- The first of the rows that were left are given.
pub record Gives (left : List Standing) (rows : List (List Value)) (rest : List Standing) : Type 0 where
  pub given : List Standing
  pub parts : left ≡ given ++ rest
  pub are : rows ≡ map (λ s. s.1) given

-- HOW A SNAPSHOT IS KEPT. Callers need not look here.

abbrev pub with_standing : List ℕ → Option (List Value) → List Standing → List Standing
with_standing place None rows = rows
with_standing place (Some row) rows = (place, row) ∷ rows

-- the rows that stand in slots, in their order
abbrev pub standing_of : Entries → List Standing
standing_of [] = []
standing_of (e ∷ es) = with_standing e.0 e.1.row (standing_of es)

-- Slots in which these journals have still to be undone, until the settled part of a history stands there.
abbrev pub Settling : List Table → Entries → Journals → List Made → Type 0
Settling tables slots journals history =
    (now : List Made) × Keeps (record { tables = tables; slots = slots; journals = journals }) now × (settled_history now ≡ settled_history history)
