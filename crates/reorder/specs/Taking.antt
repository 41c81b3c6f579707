-- Taking the records of a log one by one: what a regrouping keeps between them, and what each of them makes ready. The records
-- may be those of a whole log or of a section of one, which begins after earlier records of its transactions.
use Rattle.std.specs.Prelude.{◌≡◌, ◌<◌, ℕ, Bool, true, false, List, [], ◌∷◌, ◌++◌, Option, Some, None}
use Rattle.std.specs.List.{AllByRecursion}
use Rattle.std.specs.List.Sorted.{IsPermutation}
use Rattle.wal.specs.declared.record.Record.{Record}
use Rattle.wal.specs.declared.record.Body.{Body}
use Rattle.wal.specs.declared.record.Body.TheVariants.{AbortSub, Commit}
use Rattle.wal.specs.Log.{Entry, IsNext, IsOpen, has_ended, kept_changes}
use Rattle.reorder.specs.Pool.{AreApart}
use Rattle.reorder.specs.Ready.{IsReadyIn, ReadyState, ready_entries}
use Rattle.reorder.specs.Strands.{IsSame, StrandsState, by_xid, changes_by_xid}
use Rattle.reorder.specs.Bookkeeping.{IsBookkeeping}
use Rattle.reorder.specs.declared.ready.RecordOutcome.{RecordOutcome}
use Rattle.reorder.specs.declared.ready.RecordOutcome.TheVariants as steps

-- what a regrouping is between two records
pub record ReorderState : Type 0 where
  pub strands : StrandsState
  pub failed : Bool

-- the changes that it keeps for a transaction, xid after xid
abbrev pub changes_kept : ReorderState → ℕ → List Entry
changes_kept s t = changes_by_xid (by_xid s.strands) t

-- What it is after these records: of each transaction that has not ended it keeps exactly the changes that are not dropped, of
-- each that has ended none, and it is ready for the records to come.
pub record HasTaken (s : ReorderState) (rs : List Record) : Type 0 where
  pub running : (t : ℕ) → has_ended rs t ≡ false → IsPermutation (changes_kept s t) (kept_changes rs t)
  pub ended : (t : ℕ) → has_ended rs t ≡ true → changes_kept s t ≡ []
  pub ready : IsBookkeeping (by_xid s.strands) rs

-- What may come next in a section of a well-formed log. Of an AbortSub it asks no Assign, which may stand before the section.
abbrev pub MayCome : List Record → Body → Type 0
MayCome before (AbortSub xid) = IsOpen before xid
MayCome before body = IsNext before body

-- the record starts after every record before it
abbrev pub StartsBehind : List Record → Record → Type 0
StartsBehind before r = AllByRecursion (λ q. q.start < r.start) before

-- what a record makes ready, given those before it: a Commit what its transaction keeps
abbrev pub promised_changes : List Record → Body → Option (List Entry)
promised_changes before (Commit xid time) = Some (kept_changes before xid)
promised_changes before _ = None

abbrev pub readied_changes : ReorderState → RecordOutcome → Option (List Entry)
readied_changes s steps.Quiet = None
readied_changes s (steps.Ready ready) = Some (ready_entries s.strands.pool ready)

-- what is ready lies in the arena
abbrev pub IsHeld : ReorderState → ReadyState → Type 0
IsHeld s ready = IsReadyIn s.strands.pool ready

abbrev pub IsStepHeld : ReorderState → RecordOutcome → Type 0
IsStepHeld s steps.Quiet = Unit {0}
IsStepHeld s (steps.Ready ready) = IsHeld s ready

-- what a record makes ready has none of these strands
abbrev pub IsStepApart : RecordOutcome → List (ℕ × Option ℕ) → Type 0
IsStepApart steps.Quiet lent = Unit {0}
IsStepApart (steps.Ready ready) lent = AreApart ready.strands lent

-- it stands as before, as far as records are concerned
pub record IsSameTaken (old new : ReorderState) : Type 0 where
  pub strands : IsSame (by_xid new.strands) (by_xid old.strands)
  pub failed : new.failed ≡ old.failed

-- Whatever records it had taken, if this one may come next, it has taken this one too, and has given what that makes ready.
pub record Takes (old new : ReorderState) (r : Record) (ready : Option (List Entry)) : Type 0 where
  pub after : (before : List Record) → HasTaken old before → MayCome before r.body → StartsBehind before r →
      HasTaken new (before ++ r ∷ []) × (ready ≡ promised_changes before r.body)
