-- What a transaction of who builds a service changes, told by the names of tables and columns.
use Rattle.std.specs.Prelude.{◌≡◌, ◌⊎◌, ℕ, List, map, Option, None, Some, IsSomeAnd, MatchOption}
use Rattle.tables.specs.declared.table.Table.{Table}
use Rattle.tables.specs.declared.changes.change.Change.TheVariants as changes
use Rattle.tables.specs.Tables.{table_named}
use Rattle.named_rows.specs.declared.datum.NamedDatum.{NamedDatum}
use Rattle.named_rows.specs.declared.row_view.RowView.{RowView}
use Rattle.named_rows.specs.Fields.{IsFieldFault, Shows, key_columns, row_told}
use Rattle.std.specs.Option.{option_map_or}
use Rattle.store.specs.Rows.{Key}
use Rattle.txlog.specs.declared.answers.fault.SessionFault.{SessionFault}
use Rattle.txlog.specs.declared.answers.fault.SessionFault.TheVariants as sessions
use Rattle.txlog.specs.Publishing.{IsRefusalOrMemory, after_change, after_delete, after_update, delete_refusal, insert_refusal, update_refusal}
use Rattle.txlog.specs.Rows.{rows_of}
use Rattle.server_state.specs.declared.sessions.change_fault.ChangeFault.{ChangeFault}
use Rattle.server_state.specs.declared.sessions.change_fault.ChangeFault.TheVariants.{Key as OfKey, Field as OfField, Session}
use Rattle.server_state.specs.Ending.{TransactionState, writes}

-- the table of this name, of which this is true
abbrev pub OfTable : List ℕ → TransactionState → (Table → Type 0) → Type 0
OfTable name t says = IsSomeAnd (table_named name t.publisher.tables) says

-- the key that these fields tell, of this table
abbrev pub key_in : Table → List NamedDatum → Key
key_in table key = record { oid = table.oid; values = row_told (key_columns table.columns) key }

abbrev pub Inserts : List ℕ → List NamedDatum → TransactionState → TransactionState → Type 0
Inserts name fields old new = OfTable name old (λ t. new ≡ writes (λ xid. after_change xid (changes.Insert t.oid (row_told t.columns fields))) old)

abbrev pub Updates : List ℕ → List NamedDatum → List NamedDatum → TransactionState → TransactionState → Type 0
Updates name key fields old new = OfTable name old (λ t. new ≡ writes (λ xid. after_update xid (key_in t key) (row_told t.columns fields)) old)

abbrev pub Deletes : List ℕ → List NamedDatum → TransactionState → TransactionState → Type 0
Deletes name key old new = OfTable name old (λ t. new ≡ writes (λ xid. after_delete xid (key_in t key)) old)

-- the OID of the table of this name, 0 where there is none
abbrev pub oid_named : TransactionState → List ℕ → ℕ
oid_named t name = option_map_or (λ table. table.oid) (table_named name t.publisher.tables) 0

-- the OIDs of the tables of these names
abbrev pub oids_named : List (List ℕ) → TransactionState → List ℕ
oids_named names t = map (oid_named t) names

abbrev pub Truncates : List (List ℕ) → TransactionState → TransactionState → Type 0
Truncates names old new = new ≡ writes (λ xid. after_change xid (changes.Truncate (oids_named names old))) old

-- this is the row with the key, or there is none
abbrev pub Finds : List ℕ → List NamedDatum → TransactionState → Option RowView → Type 0
Finds name key at found = OfTable name at (λ t.
    let row = rows_of at.publisher.tables at.publisher.log (key_in t key) in
    MatchOption found (row ≡ None) (λ view. IsSomeAnd row (λ values. Shows t values view)))

-- why a table of this name makes no row of what is told: there is none, or a field is at fault
abbrev pub IsToldFault : (Table → ChangeFault → Type 0) → List ℕ → ChangeFault → TransactionState → Type 0
IsToldFault of_field name fault t = MatchOption (table_named name t.publisher.tables) (fault ≡ Session sessions.UnknownTable) (λ table. of_field table fault)

-- a field of a row is at fault, or memory was refused
abbrev pub IsAtField : List NamedDatum → Table → ChangeFault → Type 0
IsAtField fields table (OfField fault) = IsFieldFault table.columns fields fault
IsAtField fields table fault = ⊥

-- a field of a key is at fault, or memory was refused
abbrev pub IsAtKey : List NamedDatum → Table → ChangeFault → Type 0
IsAtKey key table (OfKey fault) = IsFieldFault (key_columns table.columns) key fault
IsAtKey key table fault = ⊥

-- the log refuses the change that was made of it
abbrev pub IsRefused : Option SessionFault → ChangeFault → Type 0
IsRefused refusal (Session fault) = IsRefusalOrMemory refusal fault
IsRefused refusal fault = ⊥

abbrev pub IsInsertRefusal : List ℕ → List NamedDatum → TransactionState → ChangeFault → Type 0
IsInsertRefusal name fields t fault = IsToldFault (λ table fault. IsAtField fields table fault ⊎ IsRefused (insert_refusal t.xid table.oid (row_told table.columns fields) t.publisher) fault) name fault t

abbrev pub IsUpdateRefusal : List ℕ → List NamedDatum → List NamedDatum → TransactionState → ChangeFault → Type 0
IsUpdateRefusal name key fields t fault = IsToldFault (λ table fault. IsAtKey key table fault ⊎ (IsAtField fields table fault ⊎ IsRefused (update_refusal t.xid (key_in table key) (row_told table.columns fields) t.publisher) fault)) name fault t

abbrev pub IsDeleteRefusal : List ℕ → List NamedDatum → TransactionState → ChangeFault → Type 0
IsDeleteRefusal name key t fault = IsToldFault (λ table fault. IsAtKey key table fault ⊎ IsRefused (delete_refusal t.xid (key_in table key) t.publisher) fault) name fault t
