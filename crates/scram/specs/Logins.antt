-- A login (PostgreSQL 15, 55.3 and 55.7): SASLInitialResponse has the mechanism's name, the length of the first message, or -1 where
-- none stands there, and the message; SASLResponse a message alone.
use Rattle.std.specs.Prelude.{◌≡◌, ℕ, ◌==◌, not, nat_lt, List, [], length, Option, Some, None, Result, Ok, Err, codes, if◌then◌else◌}
use Rattle.std.specs.Option.{ok_or}
use Rattle.std.specs.Int.{w32}
use Rattle.std.specs.Str.{bytes_eq}
use Rattle.std.specs.Borrow.{Bor}
use Rattle.pqformat.specs.Fields.{string_at, number_at}
use Rattle.scram.specs.Attributes.{◌>>=◌}
use Rattle.scram.specs.Exchanges.{HasProved, begun, challenge, verdict}
use Rattle.scram.specs.declared.fault.ExchangeFault.{ExchangeFault}
use Rattle.scram.specs.declared.fault.ExchangeFault.TheVariants.{NoMechanism, Mechanism, Short, Trailing, Password}
use Rattle.scram.specs.declared.server_side.server_exchange.Exchange.{Exchange}
use Rattle.scram.specs.declared.server_side.login.ProofRequest.{ProofRequest}
use Rattle.scram.specs.declared.server_side.login.Login.{Login}
use Rattle.scram.specs.declared.server_side.login.Login.TheVariants.{Offered, Chosen, Challenged}
use Rattle.scram.specs.declared.server_side.login.Reply.{Reply}
use Rattle.scram.specs.declared.server_side.login.Reply.TheVariants.{Continue, Final}

-- what stands after the length
abbrev pub text_of : ℕ → List ℕ → Result (Option (List ℕ)) ExchangeFault
text_of count text =
    if count == 0xffff_ffff then (if length text == 0 then Ok None else Err Trailing)
    else if nat_lt (length text) count then Err Short
    else if nat_lt count (length text) then Err Trailing
    else Ok (Some text)

abbrev pub initial_of : List ℕ → Result (Option (List ℕ)) ExchangeFault
initial_of body =
    ok_or (string_at body) NoMechanism >>= λ mechanism.
    if not (bytes_eq mechanism.0 (codes "SCRAM-SHA-256")) then Err Mechanism
    else (ok_or (number_at w32 mechanism.1) Short >>= λ count. text_of count.0 count.1)

abbrev pub begins : ProofRequest → List ℕ → Result Reply ExchangeFault
begins asked text = begun asked.account asked.nonce text >>= λ exchange. Ok (Continue (challenge exchange) (Challenged exchange))

abbrev pub after_choice : ProofRequest → Option (List ℕ) → Result Reply ExchangeFault
after_choice asked (Some text) = begins asked text
after_choice asked None = Ok (Continue [] (Chosen asked))

abbrev pub reply_to : Login → List ℕ → Result Reply ExchangeFault
reply_to (Offered asked) body = initial_of body >>= after_choice asked
reply_to (Chosen asked) body = begins asked body
reply_to (Challenged exchange) body = verdict exchange body >>= λ said. Ok (Final said)

-- a message over the limit isn't read
abbrev pub answer_to : Login → List ℕ → Result Reply ExchangeFault
answer_to login body = if nat_lt 1024 (length body) then Err Password else reply_to login body

-- What ends a login well is the answer of a proof.
abbrev pub ProvedBy : Login → List ℕ → Reply → Type 0
ProvedBy login body (Continue text next) = Unit {0}
ProvedBy login body (Final said) = (exchange : Exchange) × (login ≡ Challenged exchange) × HasProved exchange body said

-- a call that lends a text, or answers that there is none
abbrev pub GivesText : Result (Option (Bor (List ℕ))) ExchangeFault → Result (Option (List ℕ)) ExchangeFault → Type 0
GivesText (Ok (Some x)) read = read ≡ Ok (Some x.now)
GivesText (Ok None) read = read ≡ Ok None
GivesText (Err e) read = read ≡ Err e
