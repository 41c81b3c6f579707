-- The client's side of an exchange (RFC 5802, 3 and 5; RFC 7677): what it says, and when the server has proved that it knows the
-- password.
use Rattle.std.specs.Prelude.{◌≡◌, ℕ, List, ◌++◌, not, length, take, is_none, Result, Ok, Err, codes, if◌then◌else◌}
use Rattle.std.specs.Str.{bytes_eq}
use Rattle.scram.specs.Challenges.{◌>>=◌, attribute_of, server_first_of}
use Rattle.scram.specs.Coding.{base64}
use Rattle.scram.specs.Exchanges.{signed}
use Rattle.scram.specs.Hi.{hi, xor}
use Rattle.scram.specs.Hmac.{hmac}
use Rattle.scram.specs.Keys.{server_key, stored_key}
use Rattle.scram.specs.declared.client_side.client_exchange.ClientAnswer.{ClientAnswer}
use Rattle.scram.specs.declared.client_side.client_exchange.ClientExchange.{ClientExchange}
use Rattle.scram.specs.declared.client_side.server_first.ServerFirst.{ServerFirst}
use Rattle.scram.specs.declared.client_side.server_fault.ServerFault.{ServerFault}
use Rattle.scram.specs.declared.client_side.server_fault.ServerFault.TheVariants.{Refused, Signature}

-- "client-first-message-bare = username "," nonce", "username = "n=" saslname"
abbrev pub first_bare : ClientExchange → List ℕ
first_bare exchange = codes "n=" ++ exchange.name ++ codes ",r=" ++ exchange.nonce

-- "client-first-message = gs2-header client-first-message-bare"
abbrev pub client_first : ClientExchange → List ℕ
client_first exchange = codes "n,," ++ first_bare exchange

-- "client-final-message-without-proof"; "biws" is "n,," in base64
abbrev pub without_proof : List ℕ → List ℕ
without_proof nonce = codes "c=biws,r=" ++ nonce

-- "AuthMessage := client-first-message-bare + "," + server-first-message + "," + client-final-message-without-proof"
abbrev pub auth_message : ClientExchange → List ℕ → List ℕ → List ℕ
auth_message exchange challenge bare = first_bare exchange ++ codes "," ++ challenge ++ codes "," ++ bare

-- "ClientProof := ClientKey XOR ClientSignature", "ClientSignature := HMAC(StoredKey, AuthMessage)"
abbrev pub proof : List ℕ → List ℕ → List ℕ
proof salted message = xor (hmac salted (codes "Client Key")) (hmac (stored_key salted) message)

-- "client-final-message = client-final-message-without-proof "," proof"
abbrev pub last_said : List ℕ → List ℕ → List ℕ
last_said bare bytes = bare ++ codes ",p=" ++ base64 bytes

-- what is said to a server's first message that was read, under the key that its salt and rounds make of the password
abbrev pub answer_to : List ℕ → ClientExchange → List ℕ → ServerFirst → ClientAnswer
answer_to password exchange challenge first = record {
  said = last_said (without_proof first.nonce) (proof (hi password first.salt first.rounds) (auth_message exchange challenge (without_proof first.nonce)));
  due = signed (server_key (hi password first.salt first.rounds)) (auth_message exchange challenge (without_proof first.nonce));
}

abbrev pub answered : List ℕ → ClientExchange → List ℕ → Result ClientAnswer ServerFault
answered password exchange challenge = server_first_of exchange.nonce challenge >>= λ first. Ok (answer_to password exchange challenge first)

-- "server-final-message = (server-error / verifier)", "server-error = "e=" server-error-value"
abbrev pub confirmed : ClientAnswer → List ℕ → Result (Unit {0}) ServerFault
confirmed answer said =
    if bytes_eq said answer.due then Ok tt
    else if not (is_none (attribute_of 101 said)) then Err Refused
    else Err Signature

-- The server knows the password's ServerKey: what it says is its signature by this key, of all that both said, in an exchange of
-- the client's own nonce.
pub record KnowsPassword (password : List ℕ) (exchange : ClientExchange) (challenge said : List ℕ) : Type 0 where
  pub first : ServerFirst
  pub spells : server_first_of exchange.nonce challenge ≡ Ok first
  pub own : take (length exchange.nonce) first.nonce ≡ exchange.nonce
  pub signature : said ≡ signed (server_key (hi password first.salt first.rounds)) (auth_message exchange challenge (without_proof first.nonce))
