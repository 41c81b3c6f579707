-- What the end of a transaction tells as an error.
use Rattle.std.proofs.Common.{◌≡◌, ◌⊎◌, inl, inr, sym, subst, ◌∙◌, Option, None, Some, Result, Ok, Err}
use Rattle.std.specs.Prelude.{IfErr, IfNone, IfSome, OnOk}
use Rattle.server_state.specs.declared.fault.EndFault.{EndFault}
use Rattle.server_state.specs.declared.fault.EndFault.TheVariants.{Aborted, Disk, Unended}
use Rattle.server_state.specs.declared.disk.disk_fault.DiskFault.{DiskFault}
use Rattle.server_state.specs.Ending.{FromRefused}
use Rattle.server_state.specs.Notices.{News}

-- it is the work's own, or made of a fault
pub told_by : {T E : Type 0} (gives : EndFault → E → Type 0) (done answer : Result T E) (news : Option News)
    → IfErr done (λ e. IfSome news (λ n. answer ≡ Err e))
    → OnOk done (IfErr answer (λ e. IfSome news (λ n. FromRefused gives e)))
    → IfNone news (IfErr answer (λ e. gives Unended e))
    → IfErr answer (λ e. (done ≡ Err e) ⊎ ((fault : EndFault) × gives fault e))
told_by gives done (Ok x) news own refused unended = tt
told_by gives done (Err e) None own refused unended = inr (Unended, unended)
told_by gives (Ok x) (Err e) (Some n) own refused unended = inr (Aborted refused.0, refused.1)
told_by gives (Err d) (Err e) (Some n) own refused unended = inl (sym own)

-- made of a fault of the disk, if there is one
abbrev pub OfDisk : {E : Type 0} → (EndFault → E → Type 0) → Option DiskFault → E → Type 0
OfDisk gives found e = (f : DiskFault) × (found ≡ Some f) × gives (Disk f) e

-- all went well, one step after the other
pub told_ok : {T E : Type 0} (S F G : Type 0) (done first answer result : Result T E) → OnOk first ((first ≡ done) × F) → OnOk answer ((answer ≡ first) × S) → OnOk result ((result ≡ answer) × G) → OnOk result ((result ≡ done) × S)
told_ok S F G done first answer (Err e) one two three = tt
told_ok S F G done first (Err d) (Ok x) one two three = let is = three.0 in absurd cc
told_ok S F G done (Err d) (Ok y) (Ok x) one two three = let is = two.0 in absurd cc
told_ok S F G done (Ok z) (Ok y) (Ok x) one two three = (three.0 ∙ two.0 ∙ one.0, two.1)

told_err_at : {T E : Type 0} (gives : EndFault → E → Type 0) (found : Option DiskFault) (before after : Result T E) (e : E) → after ≡ Err e → IfErr after (λ d. (before ≡ Err d) ⊎ OfDisk gives found d) → (before ≡ Err e) ⊎ ((fault : EndFault) × gives fault e)
told_err_at gives found before (Ok x) e is told = absurd cc
told_err_at gives found before (Err d) e is (inl same) = inl (same ∙ is)
told_err_at gives found before (Err d) e is (inr (f, some, made)) = let same : d ≡ e = cc in inr (Disk f, subst (λ x. gives (Disk f) x) same made)

told_behind : {T E : Type 0} (gives : EndFault → E → Type 0) (found : Option DiskFault) (done first answer : Result T E) (e : E) → answer ≡ Err e → IfErr first (λ d. (done ≡ Err d) ⊎ OfDisk gives found d) → IfErr answer (λ d. (first ≡ Err d) ⊎ ((fault : EndFault) × gives fault d))
    → (done ≡ Err e) ⊎ ((fault : EndFault) × gives fault e)
told_behind gives found done first (Ok x) e is one two = absurd cc
told_behind gives found done first (Err d) e is one (inr (fault, made)) = let same : d ≡ e = cc in inr (fault, subst (λ x. gives fault x) same made)
told_behind gives found done first (Err d) e is one (inl same) = told_err_at gives found done first e (same ∙ is) one

-- an error is the work's own, or made of a fault, at whichever step it came
pub told_err : {T E : Type 0} (gives : EndFault → E → Type 0) (found later : Option DiskFault) (done first answer result : Result T E)
    → IfErr first (λ e. (done ≡ Err e) ⊎ OfDisk gives found e)
    → IfErr answer (λ e. (first ≡ Err e) ⊎ ((fault : EndFault) × gives fault e))
    → IfErr result (λ e. (answer ≡ Err e) ⊎ OfDisk gives later e)
    → IfErr result (λ e. (done ≡ Err e) ⊎ ((fault : EndFault) × gives fault e))
told_err gives found later done first answer (Ok x) one two three = tt
told_err gives found later done first answer (Err e) one two (inr (f, some, made)) = inr (Disk f, made)
told_err gives found later done first answer (Err e) one two (inl is) = told_behind gives found done first answer e is one two
