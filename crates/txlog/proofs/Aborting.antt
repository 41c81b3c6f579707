-- Transactions in progress are aborted one after the other.
use Rattle.std.proofs.Common.{ℕ, ◌<◌, ◌≤◌, Bool, true, false, cond, eqb, List, [], ◌∷◌, length, sym, subst, arith}
use Rattle.std.specs.Prelude.{not}
use Rattle.std.proofs.lemmas.Bool.{eq-eqb}
use Rattle.std.proofs.lemmas.List.{append-nil}
use Rattle.wal.specs.declared.record.Record.{Record}
use Rattle.txlog.specs.Publishing.{LiveTransaction, without}
use Rattle.txlog.specs.Replaying.{IsOldest, OnlyAborts}

pub none_yet : (log : List Record) → OnlyAborts log log
none_yet log = record { aborts = []; log = sym (append-nil log); all = tt }

no_longer : (xid : ℕ) (live : List LiveTransaction) → length (without xid live) ≤ length live
no_longer xid [] = omega arith
no_longer xid (o ∷ live) = by_test (eqb o.xid xid) (no_longer xid live)
  where
    by_test : (t : Bool) → length (without xid live) ≤ length live → length (cond (not t) (o ∷ without xid live) (without xid live)) ≤ length (o ∷ live)
    by_test true le = omega (arith, le)
    by_test false le = omega (arith, le)

pub shorter : (xid : ℕ) (live : List LiveTransaction) → IsOldest live xid → length (without xid live) < length live
shorter xid live is =
    let one : length (without xid (is.oldest ∷ is.others)) < length (is.oldest ∷ is.others) = rw (eq-eqb is.oldest.xid xid is.is) (omega (arith, no_longer xid is.others)) in
    subst (λ (l : List LiveTransaction). length (without xid l) < length l) (sym is.are) one
