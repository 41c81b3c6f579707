-- A change that the log refuses is refused as it was told.
use Rattle.std.proofs.Common.{◌≡◌, ◌⊎◌, inl, inr, ℕ, List, Option, None, Some, refl, sym, subst, IsSomeAnd, MatchOption}
use Rattle.tables.specs.declared.kinds.Value.{Value}
use Rattle.tables.specs.declared.table.Table.{Table}
use Rattle.tables.specs.Tables.{table_named}
use Rattle.named_rows.specs.declared.datum.NamedDatum.{NamedDatum}
use Rattle.named_rows.specs.Fields.{key_columns, row_told}
use Rattle.txlog.specs.declared.answers.fault.SessionFault.{SessionFault}
use Rattle.txlog.specs.declared.answers.fault.SessionFault.TheVariants as sessions
use Rattle.txlog.specs.Publishing.{IsRefusalOrMemory, delete_refusal, insert_refusal, update_refusal}
use Rattle.server_state.specs.declared.sessions.change_fault.ChangeFault.{ChangeFault}
use Rattle.server_state.specs.declared.sessions.change_fault.ChangeFault.TheVariants.{Session}
use Rattle.server_state.specs.Changing.{IsAtField, IsAtKey, IsDeleteRefusal, IsInsertRefusal, IsRefused, IsUpdateRefusal, OfTable, key_in}
use Rattle.server_state.specs.Ending.{TransactionState}

insert_at : (found : Option Table) (fields : List NamedDatum) (t : TransactionState) (oid : ℕ) (row : List Value) (fault : SessionFault)
    → IsSomeAnd found (λ table. (oid ≡ table.oid) × (row ≡ row_told table.columns fields))
    → IsRefusalOrMemory (insert_refusal t.xid oid row t.publisher) fault
    → MatchOption found (Session fault ≡ Session sessions.UnknownTable) (λ table. IsAtField fields table (Session fault) ⊎ IsRefused (insert_refusal t.xid table.oid (row_told table.columns fields) t.publisher) (Session fault))
insert_at None fields t oid row fault is refused = absurd is
insert_at (Some table) fields t oid row fault is refused = inr (rw (← is.0, ← is.1) refused)

pub told_insert : (name : List ℕ) (fields : List NamedDatum) (t : TransactionState) (oid : ℕ) (row : List Value) (fault : SessionFault)
    → OfTable name t (λ table. (oid ≡ table.oid) × (row ≡ row_told table.columns fields))
    → IsRefusalOrMemory (insert_refusal t.xid oid row t.publisher) fault
    → IsInsertRefusal name fields t (Session fault)
told_insert name fields t oid row fault is refused = insert_at (table_named name t.publisher.tables) fields t oid row fault is refused

delete_at : (found : Option Table) (key : List NamedDatum) (t : TransactionState) (oid : ℕ) (values : List Value) (fault : SessionFault)
    → IsSomeAnd found (λ table. (oid ≡ table.oid) × (values ≡ row_told (key_columns table.columns) key))
    → IsRefusalOrMemory (delete_refusal t.xid (record { oid = oid; values = values }) t.publisher) fault
    → MatchOption found (Session fault ≡ Session sessions.UnknownTable) (λ table. IsAtKey key table (Session fault) ⊎ IsRefused (delete_refusal t.xid (key_in table key) t.publisher) (Session fault))
delete_at None key t oid values fault is refused = absurd is
delete_at (Some table) key t oid values fault is refused = inr (rw (← is.0, ← is.1) refused)

pub told_delete : (name : List ℕ) (key : List NamedDatum) (t : TransactionState) (oid : ℕ) (values : List Value) (fault : SessionFault)
    → OfTable name t (λ table. (oid ≡ table.oid) × (values ≡ row_told (key_columns table.columns) key))
    → IsRefusalOrMemory (delete_refusal t.xid (record { oid = oid; values = values }) t.publisher) fault
    → IsDeleteRefusal name key t (Session fault)
told_delete name key t oid values fault is refused = delete_at (table_named name t.publisher.tables) key t oid values fault is refused

update_at : (found : Option Table) (key fields : List NamedDatum) (t : TransactionState) (first oid : ℕ) (values row : List Value) (fault : SessionFault)
    → IsSomeAnd found (λ table. (first ≡ table.oid) × (values ≡ row_told (key_columns table.columns) key))
    → IsSomeAnd found (λ table. (oid ≡ table.oid) × (row ≡ row_told table.columns fields))
    → IsRefusalOrMemory (update_refusal t.xid (record { oid = oid; values = values }) row t.publisher) fault
    → MatchOption found (Session fault ≡ Session sessions.UnknownTable) (λ table. IsAtKey key table (Session fault) ⊎ (IsAtField fields table (Session fault) ⊎ IsRefused (update_refusal t.xid (key_in table key) (row_told table.columns fields) t.publisher) (Session fault)))
update_at None key fields t first oid values row fault told is refused = absurd is
update_at (Some table) key fields t first oid values row fault told is refused = inr (inr (rw (← is.0, ← told.1, ← is.1) refused))

pub told_update : (name : List ℕ) (key fields : List NamedDatum) (t : TransactionState) (first oid : ℕ) (values row : List Value) (fault : SessionFault)
    → OfTable name t (λ table. (first ≡ table.oid) × (values ≡ row_told (key_columns table.columns) key))
    → OfTable name t (λ table. (oid ≡ table.oid) × (row ≡ row_told table.columns fields))
    → IsRefusalOrMemory (update_refusal t.xid (record { oid = oid; values = values }) row t.publisher) fault
    → IsUpdateRefusal name key fields t (Session fault)
told_update name key fields t first oid values row fault told is refused = update_at (table_named name t.publisher.tables) key fields t first oid values row fault told is refused
