-- The keys of SCRAM (RFC 5802, 3), by SHA-256 (RFC 7677).
use Rattle.std.specs.Prelude.{◌≡◌, ℕ, List, codes}
use Rattle.sha2.specs.Sha256.{sha256}
use Rattle.scram.specs.Hmac.{hmac}
use Rattle.scram.specs.Hi.{hi}
use Rattle.scram.specs.declared.server_side.verifier.Verifier.{Verifier}

-- "StoredKey := H(ClientKey)", "ClientKey := HMAC(SaltedPassword, "Client Key")"
abbrev pub stored_key : List ℕ → List ℕ
stored_key salted = sha256 (hmac salted (codes "Client Key"))

-- "ServerKey := HMAC(SaltedPassword, "Server Key")"
abbrev pub server_key : List ℕ → List ℕ
server_key salted = hmac salted (codes "Server Key")

-- "SaltedPassword := Hi(Normalize(password), salt, i)", with 4096 rounds
unfoldable pub salted_password : List ℕ → List ℕ → List ℕ
salted_password password salt = hi password salt 4096

pub record IsVerifierOf (password salt : List ℕ) (verifier : Verifier) : Type 0 where
  pub same_salt : verifier.salt ≡ salt
  pub stored : verifier.stored_key ≡ stored_key (salted_password password salt)
  pub server : verifier.server_key ≡ server_key (salted_password password salt)
