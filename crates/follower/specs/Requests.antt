-- What a server asks of one who connects, and what a client answers (PostgreSQL 15, 55.7: the messages Authentication..,
-- SASLInitialResponse and SASLResponse).
use Rattle.std.specs.Prelude.{ℕ, ◌+◌, ◌==◌, List, [], ◌∷◌, ◌++◌, length, codes, Option, option_map, Result, if◌then◌else◌}
use Rattle.std.specs.Int.{w32}
use Rattle.pqformat.specs.Fields.{int32, number_at, string}
use Rattle.frames.specs.declared.backend.authentication_ok.TheConstants.{AUTHENTICATION}
use Rattle.frames.specs.declared.fault.FrameFault.{FrameFault}
use Rattle.frames.specs.Frame.{body_alone}
use Rattle.frames.specs.Startup.{startup, startup_body}
use Rattle.frames.specs.declared.frontend.startup.Startup.{Startup}
use Rattle.frames.specs.declared.frontend.startup.Startup.TheVariants.{Session}
use Rattle.frames.specs.declared.frontend.startup.TheConstants.{PROTOCOL_VERSION}
use Rattle.follower.specs.declared.login.request.TheConstants.{MOST_REQUEST_BYTES}
use Rattle.follower.specs.declared.login.request.RequestKind.{RequestKind}
use Rattle.follower.specs.declared.login.request.RequestKind.TheVariants.{Nothing, Cleartext, Md5, Sasl, SaslContinue, SaslFinal, Other}
use Rattle.follower.specs.declared.login.sasl_response.TheConstants.{PASSWORD}

-- ---- the server's

-- the body of the message at the front, and how many bytes the whole takes; None while it isn't there whole
abbrev pub framed_request : List ℕ → Result (Option (List ℕ × ℕ)) FrameFault
framed_request bytes = body_alone AUTHENTICATION MOST_REQUEST_BYTES bytes

-- "Int32(n)" of each
abbrev pub kind_of : ℕ → RequestKind
kind_of n =
    if n == 0 then Nothing
    else if n == 3 then Cleartext
    else if n == 5 then Md5
    else if n == 10 then Sasl
    else if n == 11 then SaslContinue
    else if n == 12 then SaslFinal
    else Other

abbrev pub request_of : List ℕ → Option (RequestKind × List ℕ)
request_of body = option_map (λ number. (kind_of number.0, number.1)) (number_at w32 body)

-- ---- the client's

-- the session that it begins (PostgreSQL 15, 55.2.1 and 55.4)
abbrev pub session_of : List ℕ → Startup
session_of user = Session (record { name = codes "user"; value = user } ∷ record { name = codes "replication"; value = codes "database" } ∷ [])

unfoldable pub session_startup : List ℕ → List ℕ
session_startup user = startup PROTOCOL_VERSION (startup_body (session_of user))

-- the length counts itself and the body
abbrev pub sasl_response : List ℕ → List ℕ
sasl_response body = PASSWORD ∷ (int32 (4 + length body) ++ body)

-- the mechanism's name, and the length of the first message before it
abbrev pub initial_body : List ℕ → List ℕ → List ℕ
initial_body mechanism text = string mechanism ++ int32 (length text) ++ text
