-- What the error of a turn tells of it.
use Rattle.std.proofs.Common.{◌≡◌, ◌↔◌, ℕ, ℤ, Bool, true, false, List, length, map, Result, Ok, Err, refl, sym, ap, subst, ◌∙◌}
use Rattle.std.specs.Prelude.{IfOk, OnOk}
use Rattle.std.specs.declared.io.Error.{Error}
use Rattle.std.proofs.lemmas.Bool.{false≢true, false_from_ne_true}
use Rattle.std.proofs.lemmas.List.{length-map}
use Rattle.std.specs.Result.{IsErr, IsErrAnd}
use Rattle.std.proofs.lemmas.Result.{err_from_is_err_and}
use Rattle.wal.specs.declared.record.Record.{Record}
use Rattle.wal.specs.Log.{follows}
use Rattle.shared_log.specs.declared.fault.ReadFault.{ReadFault}
use Rattle.shared_log.specs.declared.fault.ReadFault.TheVariants as reads
use Rattle.walsender.specs.declared.fault.SendFault.{SendFault}
use Rattle.walsender.specs.declared.fault.SendFault.TheVariants as sends
use Rattle.walsender.specs.declared.stream_turn.turn_fault.TurnFault.{TurnFault}
use Rattle.walsender.specs.declared.stream_turn.turn_fault.TurnFault.TheVariants as turns
use Rattle.walsender.specs.Faults.{fault_of_fetch, has_fetched, has_written}
use Rattle.walsender.specs.Sending.{RanOut, SenderState}
use Rattle.walsender.specs.Turning.{IsRefused}

unfetched : (e : ReadFault) → has_fetched (Err (fault_of_fetch e)) ≡ false
unfetched reads.NoEntry = refl
unfetched reads.Stale = refl
unfetched reads.Memory = refl
unfetched reads.Removed = refl

unwritten : (e : ReadFault) → has_written (Err (fault_of_fetch e)) ≡ false
unwritten reads.NoEntry = refl
unwritten reads.Stale = refl
unwritten reads.Memory = refl
unwritten reads.Removed = refl

-- no two faults of a fetch are told alike
same_fault : (a b : ReadFault) → fault_of_fetch a ≡ fault_of_fetch b → a ≡ b
same_fault reads.NoEntry reads.NoEntry is = refl
same_fault reads.NoEntry reads.Stale is = cc
same_fault reads.NoEntry reads.Memory is = cc
same_fault reads.NoEntry reads.Removed is = cc
same_fault reads.Stale reads.NoEntry is = cc
same_fault reads.Stale reads.Stale is = refl
same_fault reads.Stale reads.Memory is = cc
same_fault reads.Stale reads.Removed is = cc
same_fault reads.Memory reads.NoEntry is = cc
same_fault reads.Memory reads.Stale is = cc
same_fault reads.Memory reads.Memory is = refl
same_fault reads.Memory reads.Removed is = cc
same_fault reads.Removed reads.NoEntry is = cc
same_fault reads.Removed reads.Stale is = cc
same_fault reads.Removed reads.Memory is = cc
same_fault reads.Removed reads.Removed is = refl

pub apart : (b : Bool) → b ≡ true → b ≡ false → ⊥
apart b holds lacks = false≢true (sym lacks ∙ holds)

-- the error that an exit hands on
pub error_is : (r : Result ℕ TurnFault) (f : TurnFault) → IsErrAnd r (λ e. e ≡ f) → r ≡ Err f
error_is r f is = let e = err_from_is_err_and r is in e.1 ∙ ap (λ (y : TurnFault). Err y) e.2

module _ (r : Result ℕ TurnFault) where
  pub no_count : (f : TurnFault) (P : ℕ → Type 0) → r ≡ Err f → IfOk r P
  no_count f P is = subst (λ (s : Result ℕ TurnFault). IfOk s P) (sym is) tt

  pub nothing_sent : (f : TurnFault) (P : Type 0) → r ≡ Err f → OnOk r P
  nothing_sent f P is = subst (λ (s : Result ℕ TurnFault). OnOk s P) (sym is) tt

  -- where nothing was fetched
  pub fetch_failed : (e : ReadFault) → r ≡ Err (fault_of_fetch e) → has_fetched r ≡ true → ⊥
  fetch_failed e is holds = apart (has_fetched r) holds (ap has_fetched is ∙ unfetched e)

  pub fetch_why : (e f : ReadFault) → r ≡ Err (fault_of_fetch e) → r ≡ Err (fault_of_fetch f) → e ≡ f
  fetch_why e f is is' = let told : fault_of_fetch e ≡ fault_of_fetch f = cc in same_fault e f told

  pub fetch_not_write : (e : ReadFault) (w : Error) → r ≡ Err (fault_of_fetch e) → r ≡ Err (turns.Write w) → ⊥
  fetch_not_write e w is is' = apart (has_written r) (ap has_written is') (ap has_written is ∙ unwritten e)

  pub fetch_not_sender : (e : ReadFault) (s : SendFault) → r ≡ Err (fault_of_fetch e) → r ≡ Err (turns.Sender s) → ⊥
  fetch_not_sender e s is is' = fetch_failed e is (ap has_fetched is')

  -- where the sender refused, or the writer failed
  pub not_fetch : (f : TurnFault) (e : ReadFault) → has_fetched (Err f) ≡ true → r ≡ Err f → r ≡ Err (fault_of_fetch e) → ⊥
  not_fetch f e holds is is' = fetch_failed e is' (ap has_fetched is ∙ holds)

  pub fetched : (f : TurnFault) → has_fetched (Err f) ≡ true → r ≡ Err f → has_fetched r ≡ false → ⊥
  fetched f holds is lacks = apart (has_fetched r) (ap has_fetched is ∙ holds) lacks

  pub not_both : (s : SendFault) (w : Error) → r ≡ Err (turns.Sender s) → r ≡ Err (turns.Write w) → ⊥
  not_both s w is is' = apart (has_written r) (ap has_written is') (ap has_written is)

  pub same_refusal : (s t : SendFault) → r ≡ Err (turns.Sender s) → r ≡ Err (turns.Sender t) → s ≡ t
  same_refusal s t is is' = cc

pub ok_no_error : (n : ℕ) (f : TurnFault) → Ok n ≡ Err f → ⊥
ok_no_error n f is = cc

-- as many were fetched as there are
pub count_is : {A : Type 0} (value : A → Record) (items : List A) (fetched : List Record) → map value items ≡ fetched → length items ≡ length fetched
count_is value items fetched is = sym (length-map items value) ∙ ap (length {A = Record}) is

-- why the sender refused
pub refused_is : (clock : ℤ) (old new : SenderState) (rs fetched : List Record) (fed : Result (Unit {0}) SendFault) (s : SendFault) → fed ≡ Err s → rs ≡ fetched → (fed ≡ Err sends.ArenaFull → RanOut clock old new rs)
    → (fed ≡ Err sends.Memory → RanOut clock old new rs) → ((fed ≡ Err sends.Failed) ↔ (old.failed ≡ true)) → ((fed ≡ Err sends.Gap) ↔ ((old.failed ≡ false) × (follows old.position rs ≡ false)))
    → (old.failed ≡ true → new ≡ old) → (fed ≡ Err sends.Gap → new ≡ old) → IsRefused clock old new fetched s
refused_is clock old new rs fetched fed s is same full memory failed gap unchanged unread = subst (λ (l : List Record). IsRefused clock old new l s) same (by_fault s is)
  where
    by_fault : (t : SendFault) → fed ≡ Err t → IsRefused clock old new rs t
    by_fault sends.ArenaFull is = (false_from_ne_true old.failed (λ t. let e = failed.1 t in let never : sends.ArenaFull ≡ sends.Failed = cc in cc), full is)
    by_fault sends.Memory is = (false_from_ne_true old.failed (λ t. let e = failed.1 t in let never : sends.Memory ≡ sends.Failed = cc in cc), memory is)
    by_fault sends.Failed is = (failed.0 is, unchanged (failed.0 is))
    by_fault sends.Gap is = let g = gap.0 is in (g.0, g.1, unread is)

-- an error has no value
pub no_value : {A E : Type 0} (r : Result A E) (P : A → Type 0) → IsErr r → IfOk r P
no_value (Ok x) P is = absurd (false≢true is)
no_value (Err e) P is = tt

pub not_ok : {A E : Type 0} (r : Result A E) (P : Type 0) → IsErr r → OnOk r P
not_ok (Ok x) P is = absurd (false≢true is)
not_ok (Err e) P is = tt
