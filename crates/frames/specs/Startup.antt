-- Startups (PostgreSQL 15, 55.7): what a client sends first. No type byte: a length of four bytes that counts itself, a
-- number that tells which request it is, and the rest. All numbers are read as unsigned.
use Rattle.std.specs.Prelude.{◌≡◌, ℕ, ◌+◌, ◌-◌, ◌^◌, ◌<◌, ◌≤◌, ◌==◌, nat_lt, Bool, true, false, ◌||◌, ◌⊎◌, List, [], ◌++◌, length, Option, Some, None, option_map, Result, Ok, Err, if◌then◌else◌}
use Rattle.std.specs.List.{AllByRecursion, list_all}
use Rattle.std.specs.Option.{ok_or}
use Rattle.std.specs.Int.{w32}
use Rattle.frames.specs.declared.frontend.startup.Startup.{Startup}
use Rattle.frames.specs.declared.frontend.startup.Startup.TheVariants.{Session, Ssl, Gss, Cancel}
use Rattle.frames.specs.declared.frontend.startup.TheConstants.{STARTUP_LIMIT, PROTOCOL_VERSION, SSL_REQUEST, GSS_REQUEST, CANCEL_REQUEST}
use Rattle.frames.specs.declared.frontend.parameter.Parameter.{Parameter}
use Rattle.frames.specs.declared.fault.FrameFault.{FrameFault}
use Rattle.frames.specs.declared.fault.FrameFault.TheVariants.{BadLength, BadVersion, UnknownType, BadBody, NotUtf8, TooLong, Memory}
use Rattle.pqformat.specs.Fields.{int32, number_at, bytes_at}
use Rattle.pqformat.specs.Steps.{◌>>=◌, until_at, closed_list}
use Rattle.frames.specs.Body.{whole, always, nothing_at}
use Rattle.frames.specs.Frame.{Fits, HasBody, whole_of}
use Rattle.frames.specs.Plain.{backend_key, backend_key_at}
use Rattle.frames.specs.Parameter.{parameter, FitsParameter, is_parameter_text, parameter_at}

-- ---- How a startup is spelled.

abbrev pub startup_number : Startup → ℕ
startup_number (Session parameters) = PROTOCOL_VERSION
startup_number Ssl = SSL_REQUEST
startup_number Gss = GSS_REQUEST
startup_number (Cancel process key) = CANCEL_REQUEST

abbrev pub startup_body : Startup → List ℕ
startup_body (Session parameters) = closed_list parameter parameters
startup_body (Cancel process key) = backend_key (process, key)
startup_body _ = []

abbrev pub startup : ℕ → List ℕ → List ℕ
startup number body = int32 (8 + length body) ++ (int32 number ++ body)

abbrev pub IsShapedStartup : Startup → Type 0
IsShapedStartup (Session parameters) = AllByRecursion FitsParameter parameters
IsShapedStartup (Cancel process key) = (process < 2 ^ 32) × (key < 2 ^ 32)
IsShapedStartup _ = Unit {0}

abbrev pub is_startup_text : Startup → Bool
is_startup_text (Session parameters) = list_all is_parameter_text parameters
is_startup_text _ = true

-- Parameters are to be kept; a request holds two numbers at most.
abbrev pub startup_needs_memory : Startup → Bool
startup_needs_memory (Session parameters) = true
startup_needs_memory _ = false

-- The bytes are the one spelling of the startup, within the limit.
pub record SpellsStartup (bytes : List ℕ) (f : Startup) : Type 0 where
  pub in_range : Fits IsShapedStartup is_startup_text f
  pub short : 8 + length (startup_body f) ≤ STARTUP_LIMIT
  pub text : bytes ≡ startup (startup_number f) (startup_body f)

-- ---- How it is read: the length, the number, and the rest once it is whole.

-- the greatest length after a number; None: no startup has it
abbrev pub startup_limit : ℕ → Option ℕ
startup_limit number =
    if number == PROTOCOL_VERSION then Some STARTUP_LIMIT
    else if number == SSL_REQUEST then Some 8
    else if number == GSS_REQUEST then Some 8
    else if number == CANCEL_REQUEST then Some 16
    else None

-- a request has one length, a session any within the limit
abbrev pub is_length : ℕ → ℕ → ℕ → Bool
is_length number most n = (number == PROTOCOL_VERSION) || (n == most)

abbrev pub lengthy : ℕ → ℕ → Result (Unit {0}) FrameFault
lengthy number n = ok_or (startup_limit number) BadVersion >>= λ most. if is_length number most n then Ok tt else Err BadLength

abbrev pub numbered : ℕ → ℕ → Option (List ℕ × List ℕ) → Option ((ℕ × List ℕ) × ℕ)
numbered number n found = option_map (λ body. ((number, body.0), n)) found

abbrev pub numbered_at : ℕ → Option (ℕ × List ℕ) → Result (Option ((ℕ × List ℕ) × ℕ)) FrameFault
numbered_at n None = Ok None
numbered_at n (Some number) = lengthy number.0 n >>= λ _. Ok (numbered number.0 n (bytes_at (n - 8) number.1))

abbrev pub headed_at : Option (ℕ × List ℕ) → Result (Option ((ℕ × List ℕ) × ℕ)) FrameFault
headed_at None = Ok None
headed_at (Some n) =
    if nat_lt n.0 8 then Err BadLength
    else if nat_lt STARTUP_LIMIT n.0 then Err TooLong
    else numbered_at n.0 (number_at w32 n.1)

-- the number and the body of the startup at the front, and its length; None while it isn't there whole
abbrev pub raw_startup : List ℕ → Result (Option ((ℕ × List ℕ) × ℕ)) FrameFault
raw_startup bytes = headed_at (number_at w32 bytes)

abbrev pub parameters_at : List ℕ → Result (List Parameter × List ℕ) (Unit {0})
parameters_at body = until_at tt parameter_at (length body) body

-- the startup with this number and this body
abbrev pub startup_at : ℕ → List ℕ → Result Startup FrameFault
startup_at number body =
    if number == PROTOCOL_VERSION then (whole (list_all is_parameter_text) (parameters_at body) >>= λ parameters. Ok (Session parameters))
    else if number == SSL_REQUEST then (whole always (nothing_at body) >>= λ _. Ok Ssl)
    else if number == GSS_REQUEST then (whole always (nothing_at body) >>= λ _. Ok Gss)
    else if number == CANCEL_REQUEST then (whole always (backend_key_at body) >>= λ m. Ok (Cancel m.0 m.1))
    else Err BadVersion

abbrev pub framed_startup : List ℕ → Result (Option (Startup × ℕ)) FrameFault
framed_startup bytes = raw_startup bytes >>= λ raw. whole_of startup_at raw

-- ---- Where a fault stands.

-- this length field stands at the front
abbrev pub BeginsWithLength : List ℕ → (ℕ → List ℕ → Type 0) → Type 0
BeginsWithLength bytes Holds = (n : ℕ) × (rest : List ℕ) × (n < 2 ^ 32) × (bytes ≡ int32 n ++ rest) × Holds n rest

-- a number that is known, a length within the limit, and a body of this kind stand at the front
abbrev pub HoldsStartup : List ℕ → (ℕ → List ℕ → Type 0) → Type 0
HoldsStartup bytes Holds = (number most : ℕ) × (body rest : List ℕ) × (startup_limit number ≡ Some most) × (8 + length body ≤ STARTUP_LIMIT) × (bytes ≡ startup number body ++ rest) × Holds number body

-- a request of another length than its own
abbrev pub HasOtherLength : ℕ → List ℕ → Type 0
HasOtherLength n rest = (number most : ℕ) × (more : List ℕ) × (rest ≡ int32 number ++ more) × (startup_limit number ≡ Some most) × (is_length number most n ≡ false)

abbrev pub IsStartupFault : FrameFault → List ℕ → Type 0
IsStartupFault BadLength bytes = BeginsWithLength bytes (λ n rest. (n < 8) ⊎ HasOtherLength n rest)
IsStartupFault TooLong bytes = BeginsWithLength bytes (λ n rest. STARTUP_LIMIT < n)
IsStartupFault BadVersion bytes = BeginsWithLength bytes (λ n rest. (number : ℕ) × (more : List ℕ) × (rest ≡ int32 number ++ more) × (startup_limit number ≡ None))
IsStartupFault BadBody bytes = HoldsStartup bytes (λ number body. (f : Startup) → HasBody startup_number startup_body IsShapedStartup number body f → ⊥)
IsStartupFault NotUtf8 bytes = HoldsStartup bytes (λ number body. (f : Startup) × HasBody startup_number startup_body IsShapedStartup number body f × (is_startup_text f ≡ false))
IsStartupFault Memory bytes = HoldsStartup bytes (λ number body. (f : Startup) × HasBody startup_number startup_body IsShapedStartup number body f × (is_startup_text f ≡ true) × (startup_needs_memory f ≡ true))
IsStartupFault UnknownType bytes = ⊥
