-- A message changes no row.
use Rattle.std.proofs.Common.{◌≡◌, ℕ, ◌+◌, true, List, [], ◌∷◌, ◌++◌, refl, ap, ◌∙◌}
use Rattle.tables.specs.declared.table.Table.{Table}
use Rattle.tables.specs.declared.changes.change.Change.{Change}
use Rattle.store.specs.Rows.{Rows, no_rows}
use Rattle.store.specs.History.{Made, change_made, rows_after, rows_from, rows_with}
use Rattle.wal.specs.declared.record.TheConstants.{FIRST_POSITION}
use Rattle.wal.specs.declared.record.Body.TheVariants.{Change as Changed, Note}
use Rattle.wal.specs.Log.{end_of, size_of}
use Rattle.txlog.specs.Rows.{history_of, rows_of}
use Rattle.txlog.specs.Publishing.{PublisherState, after_change, after_note, innermost, is_live, message_with}
use Rattle.txlog.specs.Invariants.{IsPublisher}
use Rattle.txlog.proofs.Histories.{history-change, history-note}
use Rattle.txlog.proofs.Calls.{innermost_open}

rows_more : (tables : List Table) (h : List Made) (m : Made) (rows : Rows) → rows_from tables (h ++ m ∷ []) rows ≡ rows_with tables m.change (rows_from tables h rows)
rows_more tables [] m rows = refl
rows_more tables (n ∷ h) m rows = rows_more tables h m (rows_with tables n.change rows)

pub message-rows : (s : PublisherState) (xid : ℕ) (prefix content : List ℕ) → IsPublisher s → is_live xid s.live ≡ true → rows_of s.tables (after_change xid (message_with prefix content) s).log ≡ rows_of s.tables s.log
message-rows s xid prefix content h is =
    let change : Change = message_with prefix content in
    let at = innermost_open s xid h is in
    ap (rows_after s.tables) (history-change s.log (end_of FIRST_POSITION s.log) (end_of FIRST_POSITION s.log + size_of (Changed (innermost xid s.live) change)) (innermost xid s.live) xid change at.0 at.1)
    ∙ rows_more s.tables (history_of s.log) (change_made xid change) no_rows

pub note-rows : (s : PublisherState) (prefix content : List ℕ) → rows_of s.tables (after_note prefix content s).log ≡ rows_of s.tables s.log
note-rows s prefix content =
    let change : Change = message_with prefix content in
    ap (rows_after s.tables) (history-note s.log (end_of FIRST_POSITION s.log) (end_of FIRST_POSITION s.log + size_of (Note change)) change)
