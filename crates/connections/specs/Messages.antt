-- The messages of an exchange that proves a password (PostgreSQL 15, 55.7): AuthenticationSASL, AuthenticationSASLContinue and
-- AuthenticationSASLFinal of the server, SASLInitialResponse and SASLResponse of the client.
use Rattle.std.specs.Prelude.{ℕ, ◌+◌, List, [], ◌∷◌, ◌++◌, length, Option, None, option_map, Result, codes}
use Rattle.pqformat.specs.Fields.{int32}
use Rattle.frames.specs.declared.fault.FrameFault.{FrameFault}
use Rattle.frames.specs.Frame.{body_alone, limit_alone}
use Rattle.connections.specs.declared.authentication.password_message.TheConstants.{PASSWORD, MOST_PASSWORD_BYTES}
use Rattle.connections.specs.declared.authentication.sasl.TheConstants.{AUTHENTICATION, SASL, SASL_CONTINUE, SASL_FINAL}

-- ---- the server's

-- the length counts itself, the number and the message
abbrev pub sasl_message : ℕ → List ℕ → List ℕ
sasl_message number text = AUTHENTICATION ∷ (int32 (8 + length text) ++ (int32 number ++ text))

-- the name of the one mechanism that is offered, with its zero byte, and the zero byte that ends their list
unfoldable pub sasl_request : List ℕ
sasl_request = sasl_message SASL (codes "SCRAM-SHA-256" ++ 0 ∷ 0 ∷ [])

unfoldable pub sasl_continue : List ℕ → List ℕ
sasl_continue text = sasl_message SASL_CONTINUE text

unfoldable pub sasl_final : List ℕ → List ℕ
sasl_final text = sasl_message SASL_FINAL text

-- ---- the client's

abbrev pub password_limit : ℕ → Option ℕ
password_limit = limit_alone PASSWORD MOST_PASSWORD_BYTES

abbrev pub password_raw : Option ((ℕ × List ℕ) × ℕ) → Option (List ℕ × ℕ)
password_raw raw = option_map (λ r. (r.0.1, r.1)) raw

-- the body of the message at the front, and how many bytes the whole takes; None while it isn't there whole
abbrev pub framed_password : List ℕ → Result (Option (List ℕ × ℕ)) FrameFault
framed_password bytes = body_alone PASSWORD MOST_PASSWORD_BYTES bytes
