-- Hi, the one block of PBKDF2 that SCRAM takes (RFC 5802, 2.2; RFC 8018, 5.2).
use Rattle.std.specs.Prelude.{ℕ, zero, suc, List, [], ◌∷◌, ◌++◌, ◌-◌, map, bit_xor}
use Rattle.std.specs.List.{zip}
use Rattle.scram.specs.Hmac.{hmac}

-- "U1 := HMAC(str, salt + INT(1))", "Ui := HMAC(str, Ui-1)"; the first has number 0 here
unfoldable pub u : List ℕ → List ℕ → ℕ → List ℕ
u password salt zero = hmac password (salt ++ 0 ∷ 0 ∷ 0 ∷ 1 ∷ [])
u password salt (suc i) = hmac password (u password salt i)

abbrev pub xor : List ℕ → List ℕ → List ℕ
xor left right = map (λ pair. bit_xor pair.0 pair.1) (zip left right)

-- U1 XOR U2 XOR .., up to the one of this number
unfoldable pub summed : List ℕ → List ℕ → ℕ → List ℕ
summed password salt zero = u password salt 0
summed password salt (suc i) = xor (summed password salt i) (u password salt (suc i))

unfoldable pub hi : List ℕ → List ℕ → ℕ → List ℕ
hi password salt rounds = summed password salt (rounds - 1)
