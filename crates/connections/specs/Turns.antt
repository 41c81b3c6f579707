-- An authentication as a list of turns (PostgreSQL 15, 55.2.1 and 55.3): each is a text of the client, and what is said to it.
use Rattle.std.specs.Prelude.{◌≡◌, ℕ, ◌+◌, ◌<◌, ◌≤◌, ◌⊎◌, List, [], ◌∷◌, ◌++◌, length, take, Option, Some, None, Result, Ok, Err, codes}
use Rattle.std.specs.declared.alloc.AllocError.{AllocError}
use Rattle.pqformat.specs.Putting.{Extends}
use Rattle.frames.specs.declared.fault.FrameFault.{FrameFault}
use Rattle.frames.specs.declared.frontend.startup.Startup.{Startup}
use Rattle.frames.specs.declared.frontend.startup.Startup.TheVariants.{Session, Ssl, Gss, Cancel}
use Rattle.frames.specs.declared.frontend.parameter.Parameter.{Parameter}
use Rattle.frames.specs.Frame.{frame}
use Rattle.frames.specs.Startup.{SpellsStartup, framed_startup}
use Rattle.scram.specs.declared.server_side.account.Account.{Account}
use Rattle.scram.specs.declared.fault.ExchangeFault.{ExchangeFault}
use Rattle.scram.specs.declared.server_side.login.Login.{Login}
use Rattle.scram.specs.declared.server_side.login.Login.TheVariants.{Offered}
use Rattle.scram.specs.declared.server_side.login.Reply.{Reply}
use Rattle.scram.specs.declared.server_side.login.Reply.TheVariants.{Continue, Final}
use Rattle.scram.specs.declared.server_side.server_exchange.Exchange.{Exchange}
use Rattle.scram.specs.Exchanges.{HasProved}
use Rattle.scram.specs.Logins.{answer_to}
use Rattle.server.specs.Opening.{value_of}
use Rattle.server.specs.Said.{error_of_refusal}
use Rattle.server.specs.Turns.{refusal_of}
use Rattle.connections.specs.declared.authentication.password_message.TheConstants.{PASSWORD}
use Rattle.connections.specs.declared.authentication.stage.Asking.{Asking}
use Rattle.connections.specs.declared.authentication.stage.StartupUser.{StartupUser}
use Rattle.connections.specs.declared.authentication.stage.AuthenticationStage.{AuthenticationStage}
use Rattle.connections.specs.declared.authentication.stage.AuthenticationStage.TheVariants.{Fresh, Asked, Passed, Closed}
use Rattle.connections.specs.declared.authentication.stage.AuthenticationTurn.{AuthenticationTurn}
use Rattle.connections.specs.declared.authentication.users.Users.{Users}
use Rattle.connections.specs.Accounts.{IsAccountOf}
use Rattle.connections.specs.Messages.{sasl_request, sasl_continue, sasl_final, framed_password}
use Rattle.connections.specs.Refusing.{failed, nobody, not_a_message}

-- this is said, and the authentication is then at this stage
abbrev pub Says : List ℕ → AuthenticationStage → List ℕ → AuthenticationStage → Type 0
Says text stage said next = (said ≡ text) × (next ≡ stage)

-- the user that is named, if its name isn't empty
abbrev pub named_user : Option (List ℕ) → Option (List ℕ)
named_user None = None
named_user (Some []) = None
named_user (Some (b ∷ bytes)) = Some (b ∷ bytes)

-- The user is asked for a proof by the nonce, whether there is one of its name or not.
abbrev pub Asks : Users → List ℕ → List ℕ → Option (List ℕ) → List ℕ → AuthenticationStage → Type 0
Asks users nonce startup None said next = Says nobody Closed said next
Asks users nonce startup (Some user) said next = (account : Account) × IsAccountOf users user account × (said ≡ sasl_request)
    × (next ≡ Asked (record { opening = record { startup = startup; user = user }; login = Offered (record { account = account; nonce = nonce }) }))

-- Encryption is declined by a single byte, and the startup is still waited for.
abbrev pub Opens : Users → List ℕ → List ℕ → Startup → List ℕ → AuthenticationStage → Type 0
Opens users nonce text (Session parameters) said next = Asks users nonce text (named_user (value_of (codes "user") parameters)) said next
Opens users nonce text Ssl said next = Says (codes "N") Fresh said next
Opens users nonce text Gss said next = Says (codes "N") Fresh said next
Opens users nonce text (Cancel process key) said next = Says [] Closed said next

-- a challenge, the end of the exchange by a right proof, or why there is none
abbrev pub Replies : StartupUser → Result Reply ExchangeFault → List ℕ → AuthenticationStage → Type 0
Replies opening (Ok (Continue text login)) said next = Says (sasl_continue text) (Asked (record { opening = opening; login = login })) said next
Replies opening (Ok (Final text)) said next = Says (sasl_final text) (Passed opening) said next
Replies opening (Err fault) said next = Says (failed fault opening.user) Closed said next

-- A turn from one stage to the next. Its text is one startup, or one message of the exchange, or it begins with what is neither: then
-- the connection closes, and all that follows is passed over. Where the user is let in, no more is taken.
abbrev pub IsTurn : Users → List ℕ → AuthenticationStage → List ℕ → List ℕ → AuthenticationStage → Type 0
IsTurn users nonce Fresh text said next =
    ((startup : Startup) × SpellsStartup text startup × Opens users nonce text startup said next)
    ⊎ ((fault : FrameFault) × (framed_startup text ≡ Err fault) × Says (error_of_refusal (refusal_of fault)) Closed said next)
IsTurn users nonce (Asked asking) text said next =
    ((body : List ℕ) × (text ≡ frame PASSWORD body) × Replies asking.opening (answer_to asking.login body) said next)
    ⊎ ((fault : FrameFault) × (framed_password text ≡ Err fault) × Says (not_a_message fault asking.opening.user) Closed said next)
IsTurn users nonce (Passed opening) text said next = ⊥
IsTurn users nonce Closed text said next = Says [] Closed said next

-- No startup and no message stands whole at the front. Once the connection is closed, nothing is left.
abbrev pub Waits : AuthenticationStage → List ℕ → Type 0
Waits Fresh rest = framed_startup rest ≡ Ok None
Waits (Asked asking) rest = framed_password rest ≡ Ok None
Waits (Passed opening) rest = Unit {0}
Waits Closed rest = rest ≡ []

-- Either nothing is whole and nothing changes, or a turn took the front of what was pending.
abbrev pub IsTurned : Users → List ℕ → AuthenticationStage → List ℕ → AuthenticationTurn → List ℕ → List ℕ → Type 0
IsTurned users nonce stage pending t out out' =
    ((t.count ≡ 0) × (t.stage ≡ stage) × Waits stage pending × (out' ≡ out))
    ⊎ ((0 < t.count) × (t.count ≤ length pending) × (said : List ℕ) × IsTurn users nonce stage (take t.count pending) said t.stage × (out' ≡ out ++ said))

-- ---- from the startup to the proof

pub record Turn : Type 0 where
  pub text : List ℕ
  pub said : List ℕ
  -- those that were there then
  pub users : Users

-- one turn after the other, by one nonce
abbrev pub AreTurns : List ℕ → AuthenticationStage → List Turn → AuthenticationStage → Type 0
AreTurns nonce old [] new = new ≡ old
AreTurns nonce old (t ∷ ts) new = (mid : AuthenticationStage) × IsTurn t.users nonce old t.text t.said mid × AreTurns nonce mid ts new

-- The startup names the user, and a message proves that its sender knows the key whose digest is kept of that user. Both nonces stand
-- in what is signed, the server's at the end.
pub record IsProved (nonce : List ℕ) (opening : StartupUser) : Type 0 where
  pub users : Users
  pub parameters : List Parameter
  pub spells : SpellsStartup opening.startup (Session parameters)
  pub named : named_user (value_of (codes "user") parameters) ≡ Some opening.user
  pub exchange : Exchange
  pub account : IsAccountOf users opening.user exchange.account
  pub theirs : List ℕ
  pub fresh : exchange.nonce ≡ theirs ++ nonce
  pub body : List ℕ
  pub said : List ℕ
  pub proved : HasProved exchange body said
