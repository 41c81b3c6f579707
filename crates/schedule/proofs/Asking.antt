-- What was asked of a session in its place is asked of it by name.
use Rattle.std.proofs.Common.{◌≡◌, ◌<◌, ℕ, suc, true, false, List, ◌∷◌, ◌++◌, map, take, drop, length, Option, Some, None, refl, sym, ap, subst, ◌∙◌, arith}
use Rattle.std.specs.Prelude.{Result, Ok, Err, IfOk, OnErr, is_some, slice_get, slice_set, slice_index_or, remove, insert}
use Rattle.std.specs.declared.alloc.AllocError.{AllocError}
use Rattle.std.proofs.lemmas.List.{take_at, drop_at, length-take, take-append-drop}
use Rattle.std.proofs.lemmas.Option.{slice_get_read, slice_get_within}
use Rattle.std.proofs.Math.Seq.{map-set_same, drop-cons}
use Rattle.tables.specs.declared.kinds.Value.{Value}
use Rattle.tables.specs.declared.column.Column.{Column}
use Rattle.tables.specs.declared.table.Table.{Table}
use Rattle.tables.specs.Tables.{table_named}
use Rattle.txlog.specs.declared.answers.fault.SessionFault.{SessionFault}
use Rattle.txlog.specs.Publishing.{PublisherState, IsRefusalOrMemory, insert_refusal, update_refusal, delete_refusal}
use Rattle.schedule.specs.declared.event.Literal.{Literal}
use Rattle.schedule.specs.declared.event.SessionStep.{SessionStep}
use Rattle.schedule.specs.declared.event.SessionStep.TheVariants as steps
use Rattle.schedule.specs.declared.session_answer.SessionAnswer.{SessionAnswer}
use Rattle.schedule.specs.declared.session_answer.SessionAnswer.TheVariants as answers
use Rattle.schedule.specs.declared.session.Session.{Session}
use Rattle.schedule.specs.Transactions.{NamedTx, xid_of, without_name}
use Rattle.schedule.specs.SessionLines.{Ask, IsCalled, IsAnswered, after_step, if_known, if_new, insert_refused, update_refused, delete_refused, step_ask, step_refusal}
use Rattle.schedule.specs.Rows.{row_in, key_columns}
use Rattle.schedule.specs.Sessions.{named_tx, sessions_state, IsNamedAt, IsStepOf, Called, is_within}
use Rattle.schedule.proofs.Names.{same_inside}

-- ---- the same element of a list

one_there : {A : Type 0} (xs : List A) (k : ℕ) (x y : A) → slice_get xs k ≡ Some x → slice_get xs k ≡ Some y → x ≡ y
one_there xs k x y e f = same_inside x y (sym e ∙ f)

-- ---- sessions

kept_names : (ss : List Session) (place : ℕ) (s t : Session) → s ≡ slice_index_or ss place s → t ≡ s → map named_tx (slice_set ss place t) ≡ map named_tx ss
kept_names ss place s t value same = map-set_same named_tx ss place t s (ap named_tx (same ∙ value))

-- a call of the publisher is that of a line which leaves the names as they are
answered : (a : SessionAnswer) (refusal : Option SessionFault) (done p q : PublisherState) (ts new : List NamedTx) → new ≡ ts → Called refusal done p a q
    → IsAnswered (record { refusal = refusal; done = done; transactions = ts }) (record { publisher = p; transactions = ts }) a (record { publisher = q; transactions = new })
answered answers.Done refusal done p q ts new same called = (called.0, rw (called.1, same) refl)
answered (answers.Refused fault) refusal done p q ts new same called = (called.0, rw (called.1, same) refl)

pub asked : (name : List ℕ) (place : ℕ) (ss : List Session) (p q : PublisherState) (s t : Session) (a : SessionAnswer) (refusal : ℕ → Option SessionFault) (done : ℕ → PublisherState)
    → IsNamedAt name place ss → s ≡ slice_index_or ss place s → t ≡ s → Called (refusal s.tx) (done s.tx) p a q
    → IsCalled (if_known (xid_of name (map named_tx ss)) (λ x. record { refusal = refusal x; done = done x; transactions = map named_tx ss })) (sessions_state p ss) a (sessions_state q (slice_set ss place t))
asked name place ss p q s t a refusal done at value same called =
    let here : at.session ≡ s = one_there ss place at.session s at.there (slice_get_read ss (length ss) place s refl (slice_get_within ss place at.session at.there) value) in
    let P : Option ℕ → Type 0 = λ o. IsCalled (if_known o (λ x. record { refusal = refusal x; done = done x; transactions = map named_tx ss })) (sessions_state p ss) a (sessions_state q (slice_set ss place t)) in
    subst P (sym (at.xid ∙ ap (λ (x : Session). Option.Some x.tx) here)) (answered a (refusal s.tx) (done s.tx) p q (map named_tx ss) (map named_tx (slice_set ss place t)) (kept_names ss place s t value same) called)

-- ---- steps

-- a step within a transaction asks for a name that is known, and leaves the names as they are
within_ask : (name : List ℕ) (step : SessionStep) (p : PublisherState) (ts : List NamedTx) → is_within step ≡ true
    → step_ask name step p ts ≡ if_known (xid_of name ts) (λ x. record { refusal = step_refusal step x p; done = after_step step x p; transactions = ts })
within_ask name steps.Begin p ts e = let never : false ≡ true = e in cc
within_ask name (steps.Insert table row) p ts e = refl
within_ask name (steps.Update table key row) p ts e = refl
within_ask name (steps.Delete table key) p ts e = refl
within_ask name (steps.Truncate names) p ts e = refl
within_ask name (steps.Message prefix content) p ts e = refl
within_ask name steps.Savepoint p ts e = refl
within_ask name (steps.Rollback depth) p ts e = refl
within_ask name (steps.Release depth) p ts e = refl
within_ask name (steps.Commit time) p ts e = let never : false ≡ true = e in cc
within_ask name steps.Abort p ts e = let never : false ≡ true = e in cc

pub acted : (name : List ℕ) (step : SessionStep) (place : ℕ) (ss : List Session) (p q : PublisherState) (s t : Session) (r : Result SessionAnswer AllocError) → is_within step ≡ true → IsNamedAt name place ss
    → s ≡ slice_index_or ss place s → t ≡ s → IfOk r (λ a. Called (step_refusal step s.tx p) (after_step step s.tx p) p a q) → IfOk r (λ a. IsStepOf name step p ss a q (slice_set ss place t))
acted name step place ss p q s t (Ok a) within at value same called =
    let P : Option Ask → Type 0 = λ o. IsCalled o (sessions_state p ss) a (sessions_state q (slice_set ss place t)) in
    subst P (sym (within_ask name step p (map named_tx ss) within)) (asked name place ss p q s t a (λ n. step_refusal step n p) (λ n. after_step step n p) at value same called)
acted name step place ss p q s t (Err e) within at value same called = tt

pub states_kept : (place : ℕ) (ss : List Session) (p q : PublisherState) (s t : Session) (r : Result SessionAnswer AllocError) → s ≡ slice_index_or ss place s → t ≡ s → OnErr r (q ≡ p) → OnErr r (sessions_state q (slice_set ss place t) ≡ sessions_state p ss)
states_kept place ss p q s t (Ok a) value same kept = tt
states_kept place ss p q s t (Err e) value same kept = rw (kept, kept_names ss place s t value same) refl

-- what asks for a new name, or for a known one
pub fresh_asked : (o : Option ℕ) (ask : Ask) → is_some (if_new o ask) ≡ true → is_some o ≡ false
fresh_asked None ask e = refl
fresh_asked (Some x) ask e = let never : false ≡ true = e in cc

pub known_asked : (o : Option ℕ) (ask : ℕ → Ask) → is_some (if_known o ask) ≡ true → is_some o ≡ true
known_asked None ask e = e
known_asked (Some x) ask e = refl

-- taken out, and put back in its place
put_back : {A : Type 0} (xs : List A) (k : ℕ) (x : A) → k < length xs → x ≡ slice_index_or xs k x → insert (remove xs k) k x ≡ xs
put_back xs k x lt value =
    let long : length (take k xs) ≡ k = omega (arith, length-take k xs, lt) in
    ap (λ l. l ++ x ∷ drop k (remove xs k)) (take_at (take k xs) (drop (suc k) xs) k long)
    ∙ ap (λ l. take k xs ++ x ∷ l) (drop_at (take k xs) (drop (suc k) xs) k long)
    ∙ ap (λ y. take k xs ++ y ∷ drop (suc k) xs) value
    ∙ ap (λ l. take k xs ++ l) (sym (drop-cons xs k x lt))
    ∙ take-append-drop k xs

pub ended : (name : List ℕ) (place : ℕ) (ss rest : List Session) (p q : PublisherState) (s : Session) (refusal : ℕ → Option SessionFault) (done : ℕ → PublisherState)
    → IsNamedAt name place ss → s ≡ slice_index_or ss place s → refusal s.tx ≡ None → q ≡ done s.tx → rest ≡ remove ss place
    → IsCalled (if_known (xid_of name (map named_tx ss)) (λ x. record { refusal = refusal x; done = done x; transactions = without_name name (map named_tx ss) })) (sessions_state p ss) answers.Done (sessions_state q rest)
ended name place ss rest p q s refusal done at value none is out =
    let here : at.session ≡ s = one_there ss place at.session s at.there (slice_get_read ss (length ss) place s refl (slice_get_within ss place at.session at.there) value) in
    let P : Option ℕ → Type 0 = λ o. IsCalled (if_known o (λ x. record { refusal = refusal x; done = done x; transactions = without_name name (map named_tx ss) })) (sessions_state p ss) answers.Done (sessions_state q rest) in
    subst P (sym (at.xid ∙ ap (λ (x : Session). Option.Some x.tx) here)) (none, rw (is, ap (map named_tx) out ∙ sym at.without) refl)

pub given_back : (name : List ℕ) (place : ℕ) (ss rest new : List Session) (p q : PublisherState) (s back : Session) (fault : SessionFault) (refusal : ℕ → Option SessionFault) (done : ℕ → PublisherState)
    → IsNamedAt name place ss → s ≡ slice_index_or ss place s → back ≡ s → IsRefusalOrMemory (refusal s.tx) fault → q ≡ p → rest ≡ remove ss place → new ≡ insert rest place back
    → IsCalled (if_known (xid_of name (map named_tx ss)) (λ x. record { refusal = refusal x; done = done x; transactions = without_name name (map named_tx ss) })) (sessions_state p ss) (answers.Refused fault) (sessions_state q new)
given_back name place ss rest new p q s back fault refusal done at value same judged is out put =
    let lt = slice_get_within ss place at.session at.there in
    let here : at.session ≡ s = one_there ss place at.session s at.there (slice_get_read ss (length ss) place s refl lt value) in
    let whole : new ≡ ss = put ∙ ap (λ l. insert l place back) out ∙ ap (λ x. insert (remove ss place) place x) same ∙ put_back ss place s lt value in
    let P : Option ℕ → Type 0 = λ o. IsCalled (if_known o (λ x. record { refusal = refusal x; done = done x; transactions = without_name name (map named_tx ss) })) (sessions_state p ss) (answers.Refused fault) (sessions_state q new) in
    subst P (sym (at.xid ∙ ap (λ (x : Session). Option.Some x.tx) here)) (judged, rw (is, whole) refl)

-- ---- tables by name

-- OIDs after others
abbrev pub behind : List ℕ → Option (List ℕ) → Option (List ℕ)
behind oids None = None
behind oids (Some more) = Some (oids ++ more)

-- the table that was found is that of the name
pub found_by : (tables found_in : List Table) (name told : List ℕ) (t : Table) → Some t ≡ table_named told found_in → told ≡ name → found_in ≡ tables → Some t ≡ table_named name tables
found_by tables found_in name told t found is_name is_tables = found ∙ ap (λ (n : List ℕ). table_named n found_in) is_name ∙ ap (table_named name) is_tables

pub row_by : (columns : List Column) (t : Table) (literals : List Literal) (row : List Value) → row ≡ row_in columns literals → columns ≡ t.columns → row ≡ row_in t.columns literals
row_by columns t literals row is_row is_columns = is_row ∙ ap (λ (cs : List Column). row_in cs literals) is_columns

pub key_by : (columns : List Column) (t : Table) (literals : List Literal) (key : List Value) → key ≡ row_in (key_columns columns) literals → columns ≡ t.columns → key ≡ row_in (key_columns t.columns) literals
key_by columns t literals key is_key is_columns = is_key ∙ ap (λ (cs : List Column). row_in (key_columns cs) literals) is_columns

-- what the publisher refuses is refused to the line
pub insert_refused_by : (t : Table) (found : Option Table) (literals : List Literal) (row : List Value) (xid : ℕ) (p : PublisherState) (fault : SessionFault) → Some t ≡ found → row ≡ row_in t.columns literals →
    IsRefusalOrMemory (insert_refusal xid t.oid row p) fault → IsRefusalOrMemory (insert_refused found xid literals p) fault
insert_refused_by t found literals row xid p fault there is refused =
    subst (λ (o : Option Table). IsRefusalOrMemory (insert_refused o xid literals p) fault) there
    (subst (λ (r : List Value). IsRefusalOrMemory (insert_refusal xid t.oid r p) fault) is refused)

pub update_refused_by : (t : Table) (found : Option Table) (key_literals literals : List Literal) (key row : List Value) (xid : ℕ) (p : PublisherState) (fault : SessionFault) →
    Some t ≡ found → key ≡ row_in (key_columns t.columns) key_literals → row ≡ row_in t.columns literals →
    IsRefusalOrMemory (update_refusal xid (record { oid = t.oid; values = key }) row p) fault → IsRefusalOrMemory (update_refused found xid key_literals literals p) fault
update_refused_by t found key_literals literals key row xid p fault there is_key is_row refused =
    subst (λ (o : Option Table). IsRefusalOrMemory (update_refused o xid key_literals literals p) fault) there
    (subst (λ (k : List Value). IsRefusalOrMemory (update_refusal xid (record { oid = t.oid; values = k }) (row_in t.columns literals) p) fault) is_key
    (subst (λ (r : List Value). IsRefusalOrMemory (update_refusal xid (record { oid = t.oid; values = key }) r p) fault) is_row refused))

pub delete_refused_by : (t : Table) (found : Option Table) (literals : List Literal) (key : List Value) (xid : ℕ) (p : PublisherState) (fault : SessionFault) →
    Some t ≡ found → key ≡ row_in (key_columns t.columns) literals →
    IsRefusalOrMemory (delete_refusal xid (record { oid = t.oid; values = key }) p) fault → IsRefusalOrMemory (delete_refused found xid literals p) fault
delete_refused_by t found literals key xid p fault there is_key refused =
    subst (λ (o : Option Table). IsRefusalOrMemory (delete_refused o xid literals p) fault) there
    (subst (λ (k : List Value). IsRefusalOrMemory (delete_refusal xid (record { oid = t.oid; values = k }) p) fault) is_key refused)
