-- An exchange (RFC 5802, 3 and 5; RFC 7677): what the server says, and when the client has proved that it knows the password.
use Rattle.std.specs.Prelude.{◌≡◌, ℕ, List, ◌++◌, ◌&&◌, not, take, Bool, true, Result, Ok, Err, codes, if◌then◌else◌}
use Rattle.std.specs.Str.{bytes_eq}
use Rattle.sha2.specs.Sha256.{sha256}
use Rattle.scram.specs.Attributes.{◌>>=◌}
use Rattle.scram.specs.ClientFirst.{client_first_of}
use Rattle.scram.specs.ClientFinal.{client_final_of}
use Rattle.scram.specs.Coding.{base64}
use Rattle.scram.specs.Hi.{xor}
use Rattle.scram.specs.Hmac.{hmac}
use Rattle.scram.specs.declared.server_side.account.Account.{Account}
use Rattle.scram.specs.declared.client_side.client_final.ClientFinal.{ClientFinal}
use Rattle.scram.specs.declared.server_side.server_exchange.Exchange.{Exchange}
use Rattle.scram.specs.declared.fault.ExchangeFault.{ExchangeFault}
use Rattle.scram.specs.declared.fault.ExchangeFault.TheVariants.{Nonce, Password}

-- the salt of a name that nobody has
abbrev pub unknown_salt : List ℕ → List ℕ → List ℕ
unknown_salt secret name = take 16 (hmac secret name)

abbrev pub begun : Account → List ℕ → List ℕ → Result Exchange ExchangeFault
begun account nonce text = client_first_of text >>= λ first. Ok (record { account = account; first = first; nonce = first.nonce ++ nonce })

-- "server-first-message = nonce "," salt "," iteration-count"
abbrev pub challenge : Exchange → List ℕ
challenge exchange = codes "r=" ++ exchange.nonce ++ codes ",s=" ++ base64 exchange.account.verifier.salt ++ codes ",i=4096"

-- "AuthMessage := client-first-message-bare + "," + server-first-message + "," + client-final-message-without-proof"
abbrev pub auth_message : Exchange → List ℕ → List ℕ
auth_message exchange without_proof = exchange.first.bare ++ codes "," ++ challenge exchange ++ codes "," ++ without_proof

-- "ClientSignature := HMAC(StoredKey, AuthMessage)", "ClientProof := ClientKey XOR ClientSignature", "StoredKey := H(ClientKey)"
abbrev pub key_proved : List ℕ → List ℕ → List ℕ → List ℕ
key_proved stored message proof = xor proof (hmac stored message)

abbrev pub is_proof : List ℕ → List ℕ → List ℕ → Bool
is_proof stored message proof = bytes_eq (sha256 (key_proved stored message proof)) stored

-- "ServerSignature := HMAC(ServerKey, AuthMessage)", "verifier = "v=" base64"
abbrev pub signed : List ℕ → List ℕ → List ℕ
signed server message = codes "v=" ++ base64 (hmac server message)

-- what is said of a last message that repeats the nonces
abbrev pub judged : Exchange → ClientFinal → Result (List ℕ) ExchangeFault
judged exchange last =
    if is_proof exchange.account.verifier.stored_key (auth_message exchange last.without_proof) last.proof && exchange.account.is_known
    then Ok (signed exchange.account.verifier.server_key (auth_message exchange last.without_proof))
    else Err Password

abbrev pub verdict : Exchange → List ℕ → Result (List ℕ) ExchangeFault
verdict exchange text = client_final_of exchange.first.binding text >>= λ last.
    if not (bytes_eq last.nonce exchange.nonce) then Err Nonce else judged exchange last

-- The client knows the key whose digest is kept of a user who is there: its last message repeats both nonces and the header of its
-- first one, and its proof is this key under the signature of all that was said. What is said to it is the server's own signature.
pub record HasProved (exchange : Exchange) (text said : List ℕ) : Type 0 where
  pub last : ClientFinal
  pub spells : client_final_of exchange.first.binding text ≡ Ok last
  pub nonces : last.nonce ≡ exchange.nonce
  pub known : exchange.account.is_known ≡ true
  pub key : sha256 (key_proved exchange.account.verifier.stored_key (auth_message exchange last.without_proof) last.proof) ≡ exchange.account.verifier.stored_key
  pub signature : said ≡ signed exchange.account.verifier.server_key (auth_message exchange last.without_proof)
