-- The changes of a transaction one by one, as a loop over them goes.
use Rattle.std.proofs.Common.{◌≡◌, ◌<◌, ◌+◌, ℕ, zero, suc, List, [], ◌∷◌, length, drop, Some, refl, sym, ap, ◌∙◌, arith}
use Rattle.std.specs.Prelude.{slice_get}
use Rattle.wal.specs.Log.{Entry}

pub record There (entries : List Entry) (k : ℕ) : Type 0 where
  pub entry : Entry
  pub gets : slice_get entries k ≡ Some entry
  pub parts : drop k entries ≡ entry ∷ drop (k + 1) entries

pub there : (entries : List Entry) (k : ℕ) → k < length entries → There entries k
there [] k lt = absurd (omega arith)
there (e ∷ entries) zero lt = record { entry = e; gets = refl; parts = refl }
there (e ∷ entries) (suc k) lt =
    let t = there entries k (omega arith) in
    let next : suc k + 1 ≡ suc (k + 1) = omega arith in
    record { entry = t.entry; gets = t.gets; parts = t.parts ∙ ap (λ l. t.entry ∷ l) (ap (λ n. drop n (e ∷ entries)) (sym next)) }
