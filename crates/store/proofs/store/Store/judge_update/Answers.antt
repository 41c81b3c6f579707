use Rattle.std.proofs.Common.{◌≡◌, Some, List, sym, ◌∙◌, ap}
use Rattle.std.specs.Prelude.{Option}
use Rattle.tables.specs.declared.column.Column.{Column}
use Rattle.tables.specs.declared.table.Table.{Table}
use Rattle.store.specs.Rows.{Key, key_text, key_in, key_values}
use Rattle.tables.specs.Spelling.{row_length}
use Rattle.tables.specs.Tables.{table_of}
use Rattle.store.specs.Keeping.{StoreState}
use Rattle.store.proofs.Changing.{short_row, update_of}
use Rattle.store.proofs.store.Store.judge_update.Goals as goal

pub returns-else-is_none-clause-refused : goal.returns-else-is_none-clause-refused
returns-else-is_none-clause-refused c short =
    let key : Key = record { oid = c.args.oid; values = c.args.key.now } in
    let table_is : Some c.in-Some.table.now ≡ table_of c.args.oid c.args.self.now.tables = c.in-Some.ensures ∙ ap (λ (s : StoreState). table_of c.args.oid s.tables) c.self.view_is in
    update_of c.args.self.now c.args.top key c.args.row.now c.in-Some.table.now c.of_row-to.result c.judge_keys.result table_is (sym c.takes_key.ensures ∙ c.if-not-takes_key.false)
    (sym c.takes.ensures ∙ c.if-not-takes.false) (short_row c.coded_len.result (row_length c.args.row.now) c.if-is_none.ensures c.coded_len.ensures.value)
    (c.of_row-to.ensures ∙ ap (λ (cs : List Column). key_text (record { oid = c.args.oid; values = key_values cs c.args.row.now })) c.as_slice.ensures
    ∙ ap (λ (o : Option Table). key_text (record { oid = c.args.oid; values = key_in o c.args.row.now })) table_is)
    (c.judge_keys.ensures.refused short)
