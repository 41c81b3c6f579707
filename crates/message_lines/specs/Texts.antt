-- The lines of text that are printed of a Begin and a Commit, without the line's end.
use Rattle.std.specs.Prelude.{◌≡◌, ℕ, ℤ, List, ◌∷◌, ◌++◌, codes}
use Rattle.std.specs.Fmt.{decimal, signed_decimal}
use Rattle.pgoutput.specs.declared.logical.Logical.{Logical}
use Rattle.pgoutput.specs.declared.logical.Logical.TheVariants.{Begin, Commit}
use Rattle.replcmd.specs.Position.{position_text}

-- the xid, where the commit's record starts, and its time
abbrev pub begin_text : (xid position : ℕ) → (time : ℤ) → List ℕ
begin_text xid position time = codes "BEGIN " ++ (decimal xid ++ (32 ∷ (position_text position ++ (32 ∷ signed_decimal time))))

-- where the commit's record starts, where the transaction ends, and its time
abbrev pub commit_text : (start end : ℕ) → (time : ℤ) → List ℕ
commit_text start end time = codes "COMMIT " ++ (position_text start ++ (32 ∷ (position_text end ++ (32 ∷ signed_decimal time))))

-- what begins or ends a transaction is printed so
abbrev pub IsTextOf : Logical → List ℕ → Type 0
IsTextOf (Begin message) text = text ≡ begin_text message.xid message.position message.time
IsTextOf (Commit message) text = text ≡ commit_text message.position message.end message.time
IsTextOf _ text = Unit {0}
