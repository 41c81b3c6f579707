-- One round more of Hi.
use Rattle.std.proofs.Common.{◌≡◌, ℕ, zero, suc, ◌+◌, ◌-◌, ◌≤◌, List, arith, refl}
use Rattle.scram.specs.Hmac.{hmac}
use Rattle.scram.specs.Hi.{u, summed, xor}

pub next_code : (password salt : List ℕ) (i : ℕ) → 1 ≤ i → hmac password (u password salt (i - 1)) ≡ u password salt (i + 1 - 1)
unfolding u
next_code password salt zero h = absurd (omega arith)
next_code password salt (suc i) h =
    let before : suc i - 1 ≡ i = omega arith in
    let after : suc i + 1 - 1 ≡ suc i = omega arith in
    rw (before, after) refl

pub next_sum : (password salt : List ℕ) (i : ℕ) → 1 ≤ i → xor (summed password salt (i - 1)) (u password salt (i + 1 - 1)) ≡ summed password salt (i + 1 - 1)
unfolding summed
next_sum password salt zero h = absurd (omega arith)
next_sum password salt (suc i) h =
    let before : suc i - 1 ≡ i = omega arith in
    let after : suc i + 1 - 1 ≡ suc i = omega arith in
    rw (before, after) refl

pub first_sum : (password salt : List ℕ) → summed password salt 0 ≡ u password salt 0
unfolding summed
first_sum password salt = refl
