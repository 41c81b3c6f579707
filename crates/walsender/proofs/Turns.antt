-- What is written piece by piece.
use Rattle.std.proofs.Common.{◌≡◌, ℕ, ℤ, ◌+◌, List, ◌++◌, take, drop, true, false, sym, subst}
use Rattle.std.proofs.Math.Seq.{take-add}
use Rattle.std.specs.Io.KnownBytes.{Appends}
use Rattle.std.proofs.KnownBytes.{Appends-trans}
use Rattle.std.specs.declared.option.Option.{Option}
use Rattle.wal.specs.declared.record.Record.{Record}
use Rattle.wal.specs.Log.{follows}
use Rattle.walsender.specs.Lent.{AreLastOf}
use Rattle.walsender.specs.Sending.{SenderState, ReadAll}
use Rattle.walsender.specs.Turning.{ReadAndGave}

pub more_taken : (a b c : Option (List ℕ)) (bytes : List ℕ) (taken n : ℕ) → Appends a b (take taken bytes) → Appends b c (take n (drop taken bytes)) → Appends a c (take (taken + n) bytes)
more_taken a b c bytes taken n p q = subst (Appends a c) (sym (take-add taken n bytes)) (Appends-trans a b c _ _ p q)

-- ---- a whole turn

pub turned : (clock : ℤ) (old fed new : SenderState) (rs fetched : List Record) (given : List ℕ) → rs ≡ fetched → old.failed ≡ false → follows old.position rs ≡ true → ReadAll clock old fed rs → fed.failed ≡ false
    → fed.held ≡ given ++ new.held → new ≡ record fed { held = new.held; lent = new.lent } → AreLastOf new.lent fed.lent → ReadAndGave clock old new fetched given
turned clock old fed new rs fetched given same running follow read runs_on parts rest lent =
    subst (λ l. ReadAndGave clock old new l given) same (record { running = running; follow = follow; fed = fed; read = read; runs_on = runs_on; parts = parts; rest = rest; lent = lent })
