-- What a commit tells is so.
use Rattle.std.proofs.Common.{◌≡◌, ℕ, ℤ, ◌+◌, true, List, [], ◌∷◌, ◌++◌, length, Some, refl, ap, ◌∙◌, eq-eqb}
use Rattle.std.specs.List.{slice_get}
use Rattle.wal.specs.declared.record.TheConstants.{FIRST_POSITION}
use Rattle.wal.specs.declared.record.Record.{Record}
use Rattle.wal.specs.declared.record.Body.TheVariants.{Commit}
use Rattle.wal.specs.Log.{end_of, size_of}
use Rattle.wal.specs.Records.{record_after}
use Rattle.txlog.specs.Receipts.{has_commit, is_told}

last_there : (log : List Record) (r : Record) → slice_get (log ++ r ∷ []) (length log) ≡ Some r
last_there [] r = refl
last_there (first ∷ log) r = last_there log r

-- the record that a commit has added
pub commit_told : (log grown : List Record) (xid : ℕ) (time : ℤ) (place start end : ℕ) → grown ≡ log ++ record_after log (Commit xid time) ∷ [] → place ≡ length log →
    end_of FIRST_POSITION log ≡ start → end_of FIRST_POSITION log + size_of (Commit xid time) ≡ end →
    has_commit grown (record { place = place; start = start; end = end; xid = xid }) ≡ true
commit_told log grown xid time place start end is at starts ends =
    rw (is, at) (ap (is_told (record { place = length log; start = start; end = end; xid = xid })) (last_there log (record_after log (Commit xid time)))
    ∙ rw (eq-eqb (end_of FIRST_POSITION log) start starts, eq-eqb (end_of FIRST_POSITION log + size_of (Commit xid time)) end ends, eq-eqb xid xid refl) refl)
