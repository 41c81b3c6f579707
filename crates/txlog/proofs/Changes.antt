-- The steps of the calls that change rows: what the tables take and the log gets, and what is refused.
use Rattle.std.proofs.Common.{◌≡◌, ℕ, ◌<◌, ◌==◌, Bool, true, false, cond, List, [], ◌∷◌, ◌++◌, Option, Some, None, Result, Ok, Err, refl, sym, ap, subst, ◌∙◌, arith}
use Rattle.std.specs.Prelude.{IfErr, OnErr, OnOk}
use Rattle.std.proofs.lemmas.Bool.{ne_eqb}
use Rattle.tables.specs.declared.kinds.Value.{Value}
use Rattle.tables.specs.declared.table.Table.{Table}
use Rattle.tables.specs.declared.changes.change.Change.{Change}
use Rattle.tables.specs.declared.changes.change.Change.TheVariants as changes
use Rattle.store.specs.declared.store_fault.StoreFault.{StoreFault}
use Rattle.store.specs.declared.store_fault.StoreFault.TheVariants as store_faults
use Rattle.tables.specs.Spelling.{IsShort}
use Rattle.tables.specs.Tables.{FitsChange}
use Rattle.store.specs.History.{Made, change_made, count_of, history_after_rollback}
use Rattle.store.specs.Keeping as tables
use Rattle.store.specs.Keeping.{StoreState, Keeps}
use Rattle.txlog.specs.declared.changing.Changing.{Changing}
use Rattle.txlog.specs.declared.answers.fault.SessionFault.{SessionFault}
use Rattle.txlog.specs.declared.answers.fault.SessionFault.TheVariants as faults
use Rattle.wal.specs.declared.record.Record.{Record}
use Rattle.wal.specs.declared.record.Body.TheVariants.{Change as Changed}
use Rattle.txlog.specs.Rows.{history_of}
use Rattle.wal.specs.Records.{record_after}
use Rattle.txlog.specs.Publishing.{PublisherState, room, is_live, innermost, after_change, change_refusal, tables_refusal, room_refusal, fault_at, fault_of, IsRefusalOrMemory, RefusedOrMemory}
use Rattle.txlog.specs.Invariants.{KeepsLog}
use Rattle.wal.specs.Log.{IsWellFormedLog}
use Rattle.txlog.proofs.Transitions.{changed-IsPublisher}
use Rattle.txlog.proofs.Calls.{change_small, changed_kept, unchanged_kept}

-- SHORT CHANGES

pub insert_short : (tables : List Table) (c : Change) (oid : ℕ) (row : List Value) → c ≡ changes.Insert oid row → FitsChange tables c → IsShort c
insert_short tables c oid row is fits = let fit : FitsChange tables (changes.Insert oid row) = subst (FitsChange tables) is fits in subst IsShort (sym is) fit.short

pub update_short : (tables : List Table) (c : Change) (oid : ℕ) (old row : List Value) → c ≡ changes.Update oid old row → FitsChange tables c → IsShort c
update_short tables c oid old row is fits =
    let fit : FitsChange tables (changes.Update oid old row) = subst (FitsChange tables) is fits in
    subst IsShort (sym is) (fit.0.short, fit.1.short)

pub delete_short : (tables : List Table) (c : Change) (oid : ℕ) (old : List Value) → c ≡ changes.Delete oid old → FitsChange tables c → IsShort c
delete_short tables c oid old is fits = let fit : FitsChange tables (changes.Delete oid old) = subst (FitsChange tables) is fits in subst IsShort (sym is) fit.short

-- THE RECORD MAY COME

pub change_good : (store : StoreState) (s now : PublisherState) (tx : ℕ) (at : Changing) (change : Change) → s ≡ now → KeepsLog store s → (at.xid ≡ tx) × (is_live tx now.live ≡ true) →
    at.innermost ≡ innermost tx now.live → at.room ≡ room now → FitsChange s.tables change → IsShort change → 0 < at.room →
    IsWellFormedLog (s.log ++ record_after s.log (Changed at.innermost change) ∷ [])
change_good store s now tx at change same h own inner free fits short some =
    let lives : is_live at.xid s.live ≡ true = ap (λ (p : PublisherState). is_live at.xid p.live) same ∙ ap (λ (n : ℕ). is_live n now.live) own.0 ∙ own.1 in
    let under : at.innermost ≡ innermost at.xid s.live = inner ∙ ap (λ (n : ℕ). innermost n now.live) (sym own.0) ∙ ap (λ (p : PublisherState). innermost at.xid p.live) (sym same) in
    let roomy : 0 < room s = omega (arith, some, free, ap room same) in
    rw under (changed-IsPublisher s at.xid change h.publisher lives roomy fits (change_small (innermost at.xid s.live) change short)).log.good

-- WHAT IS KEPT

-- a change that the tables took, whether the log took its record or not
pub change_written : {A : Type 0} (store mid new : StoreState) (s now : PublisherState) (tx : ℕ) (at : Changing) (change : Change) (log : List Record) (result : Result A SessionFault) →
    s ≡ now → KeepsLog store s → (at.xid ≡ tx) × (is_live tx now.live ≡ true) → at.innermost ≡ innermost tx now.live → at.mark ≡ count_of tx (history_of now.log) → at.room ≡ room now →
    FitsChange s.tables change → IsShort change → Keeps mid (history_of s.log ++ change_made at.xid change ∷ []) → mid.tables ≡ s.tables →
    OnOk result ((log ≡ s.log ++ record_after s.log (Changed at.innermost change) ∷ []) × (new ≡ mid)) → OnOk result (0 < at.room) → OnErr result (log ≡ s.log) →
    OnErr result ((history : List Made) → Keeps mid history → Keeps new (history_after_rollback at.xid at.mark history)) → new.tables ≡ mid.tables →
    KeepsLog new (record s { tables = new.tables; log = log })
change_written store mid new s now tx at change log (Ok x) same h own inner marked free fits short keeps first ok some err undone fixed =
    let lives : is_live at.xid s.live ≡ true = ap (λ (p : PublisherState). is_live at.xid p.live) same ∙ ap (λ (n : ℕ). is_live n now.live) own.0 ∙ own.1 in
    let under : at.innermost ≡ innermost at.xid s.live = inner ∙ ap (λ (n : ℕ). innermost n now.live) (sym own.0) ∙ ap (λ (p : PublisherState). innermost at.xid p.live) (sym same) in
    let roomy : 0 < room s = omega (arith, some, free, ap room same) in
    let tables_are : new.tables ≡ s.tables = fixed ∙ first in
    let state : record s { tables = new.tables; log = log } ≡ after_change at.xid change s = rw (tables_are, ok.0, under) refl in
    subst (λ (n : StoreState). KeepsLog n (record s { tables = new.tables; log = log })) (sym ok.1)
    (subst (KeepsLog mid) (sym state) (changed_kept store mid s at.xid change h lives roomy fits short keeps))
change_written store mid new s now tx at change log (Err fault) same h own inner marked free fits short keeps first ok some err undone fixed =
    let tables_are : new.tables ≡ s.tables = fixed ∙ first in
    let state : record s { tables = new.tables; log = log } ≡ s = rw (tables_are, err) refl in
    let mark : at.mark ≡ count_of at.xid (history_of s.log) = marked ∙ ap (λ (n : ℕ). count_of n (history_of now.log)) (sym own.0) ∙ ap (λ (p : PublisherState). count_of at.xid (history_of p.log)) (sym same) in
    subst (KeepsLog new) (sym state) (unchanged_kept store new s at.xid at.mark change h mark (undone (history_of s.log ++ change_made at.xid change ∷ []) keeps))

-- WHAT IS REFUSED

abbrev Refusal : Type 0
Refusal = PublisherState → ℕ → Option StoreFault

told : (refusal : Refusal) (s now : PublisherState) (xid tx : ℕ) → s ≡ now → xid ≡ tx → refusal s xid ≡ refusal now tx
told refusal s now xid tx same own = ap (λ (p : PublisherState). refusal p xid) same ∙ ap (refusal now) own

some_left : (n : ℕ) → 0 < n → (n == 0) ≡ false
some_left n lt = ne_eqb n 0 (λ is. absurd (omega (arith, is, lt)))

-- the tables refuse nothing: the room is judged, and then the memory
refused_last : {A : Type 0} (n : ℕ) (result : Result A SessionFault) → OnOk result (0 < n) → IfErr result (λ fault. fault ≡ fault_at n store_faults.Memory) →
    RefusedOrMemory (cond (n == 0) (Some faults.LogFull) None) result
refused_last n (Ok x) some err = rw (some_left n some) refl
refused_last n (Err fault) some err = subst (IsRefusalOrMemory (cond (n == 0) (Some faults.LogFull) None)) (sym err) (by_room (n == 0))
  where
    by_room : (b : Bool) → IsRefusalOrMemory (cond b (Some faults.LogFull) None) (cond b faults.LogFull faults.Memory)
    by_room true = refl
    by_room false = refl

judged : (refusal : Option StoreFault) (now : PublisherState) (tx : ℕ) (other : Option StoreFault) → is_live tx now.live ≡ true → refusal ≡ other → change_refusal tx now refusal ≡ tables_refusal other (room_refusal now)
judged refusal now tx other lives is = rw (lives, is) refl

pub ok_refused : {A : Type 0} (refusal : Refusal) (s now : PublisherState) (tx : ℕ) (at : Changing) (result : Result A SessionFault) → s ≡ now → (at.xid ≡ tx) × (is_live tx now.live ≡ true) → at.room ≡ room now →
    refusal s at.xid ≡ None → OnOk result (0 < at.room) → IfErr result (λ fault. fault ≡ fault_at at.room store_faults.Memory) → RefusedOrMemory (change_refusal tx now (refusal now tx)) result
ok_refused refusal s now tx at result same own free none some err =
    let is : change_refusal tx now (refusal now tx) ≡ tables_refusal None (room_refusal now) = judged (refusal now tx) now tx None own.1 (sym (told refusal s now at.xid tx same own.0) ∙ none) in
    subst (λ (r : Option SessionFault). RefusedOrMemory r result) (sym is)
    (subst (λ (n : ℕ). RefusedOrMemory (cond (n == 0) (Some faults.LogFull) None) result) free (refused_last at.room result some err))

-- the tables refuse a change, or have no memory
pub err_refused : (refusal : Refusal) (s now : PublisherState) (tx : ℕ) (at : Changing) (fault : StoreFault) (result : SessionFault) → s ≡ now → (at.xid ≡ tx) × (is_live tx now.live ≡ true) → at.room ≡ room now →
    tables.IsRefusalOrMemory (refusal s at.xid) fault → result ≡ fault_at at.room fault → IsRefusalOrMemory (change_refusal tx now (refusal now tx)) result
err_refused refusal s now tx at fault result same own free refused is =
    subst (IsRefusalOrMemory (change_refusal tx now (refusal now tx))) (sym is) (by_fault fault (subst (λ (r : Option StoreFault). tables.IsRefusalOrMemory r fault) (told refusal s now at.xid tx same own.0) refused))
  where
    some_fault : (f : StoreFault) → refusal now tx ≡ Some f → change_refusal tx now (refusal now tx) ≡ Some (fault_of f)
    some_fault f e = judged (refusal now tx) now tx (Some f) own.1 e

    by_fault : (f : StoreFault) → tables.IsRefusalOrMemory (refusal now tx) f → IsRefusalOrMemory (change_refusal tx now (refusal now tx)) (fault_at at.room f)
    by_fault store_faults.UnknownTable e = some_fault store_faults.UnknownTable e
    by_fault store_faults.RowShape e = some_fault store_faults.RowShape e
    by_fault store_faults.DuplicateKey e = some_fault store_faults.DuplicateKey e
    by_fault store_faults.NoSuchRow e = some_fault store_faults.NoSuchRow e
    by_fault store_faults.KeyHeld e = some_fault store_faults.KeyHeld e
    by_fault store_faults.TooLarge e = some_fault store_faults.TooLarge e
    by_fault store_faults.BadPrefix e = some_fault store_faults.BadPrefix e
    by_fault store_faults.Memory e =
        let none : change_refusal tx now (refusal now tx) ≡ tables_refusal None (room_refusal now) = judged (refusal now tx) now tx None own.1 e in
        subst (λ (r : Option SessionFault). IsRefusalOrMemory r (fault_at at.room store_faults.Memory)) (sym none)
        (subst (λ (n : ℕ). IsRefusalOrMemory (cond (n == 0) (Some faults.LogFull) None) (fault_at at.room store_faults.Memory)) free (by_room (at.room == 0)))
      where
        by_room : (b : Bool) → IsRefusalOrMemory (cond b (Some faults.LogFull) None) (cond b faults.LogFull faults.Memory)
        by_room true = refl
        by_room false = refl
