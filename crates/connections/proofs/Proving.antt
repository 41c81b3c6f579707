-- A user is let in only by a right proof: what holds at each stage, turn by turn.
use Rattle.std.proofs.Common.{◌≡◌, ℕ, Bool, true, false, cond, List, [], ◌∷◌, ◌++◌, Option, Some, None, Result, Ok, Err, refl, sym, ap, subst, ◌∙◌, inl, inr}
use Rattle.std.specs.Prelude.{nat_lt, length, codes}
use Rattle.frames.specs.declared.frontend.parameter.Parameter.{Parameter}
use Rattle.frames.specs.declared.frontend.startup.Startup.{Startup}
use Rattle.frames.specs.declared.frontend.startup.Startup.TheVariants.{Session, Ssl, Gss, Cancel}
use Rattle.frames.specs.Startup.{SpellsStartup}
use Rattle.scram.specs.Attributes.{◌>>=◌}
use Rattle.scram.specs.declared.server_side.account.Account.{Account}
use Rattle.scram.specs.declared.fault.ExchangeFault.{ExchangeFault}
use Rattle.scram.specs.declared.fault.ExchangeFault.TheVariants.{Password}
use Rattle.scram.specs.declared.server_side.login.ProofRequest.{ProofRequest as Question}
use Rattle.scram.specs.declared.server_side.login.Login.{Login}
use Rattle.scram.specs.declared.server_side.login.Login.TheVariants.{Offered, Chosen, Challenged}
use Rattle.scram.specs.declared.server_side.login.Reply.{Reply}
use Rattle.scram.specs.declared.server_side.login.Reply.TheVariants.{Continue, Final}
use Rattle.scram.specs.declared.server_side.server_exchange.Exchange.{Exchange}
use Rattle.scram.specs.ClientFirst.{client_first_of}
use Rattle.scram.specs.Exchanges.{HasProved, begun, challenge, verdict}
use Rattle.scram.proofs.Proved.{verdict_right}
use Rattle.scram.specs.Logins.{after_choice, answer_to, begins, initial_of, reply_to}
use Rattle.server.specs.Opening.{value_of}
use Rattle.connections.specs.declared.authentication.stage.Asking.{Asking}
use Rattle.connections.specs.declared.authentication.stage.StartupUser.{StartupUser}
use Rattle.connections.specs.declared.authentication.stage.AuthenticationStage.{AuthenticationStage}
use Rattle.connections.specs.declared.authentication.stage.AuthenticationStage.TheVariants.{Fresh, Asked, Passed, Closed}
use Rattle.connections.specs.declared.authentication.users.Users.{Users}
use Rattle.connections.specs.Accounts.{IsAccountOf}
use Rattle.connections.specs.Turns.{Asks, AreTurns, IsProved, IsTurn, Opens, Replies, Turn, named_user}

-- ---- the exchange

bind_ok : {A B : Type 0} (r : Result A ExchangeFault) (f : A → Result B ExchangeFault) (y : B) → (r >>= f) ≡ Ok y → (x : A) × (r ≡ Ok x) × (f x ≡ Ok y)
bind_ok (Ok x) f y is = (x, refl, is)
bind_ok (Err e) f y is = absurd cc

-- the exchange is about this account, by this nonce
abbrev pub IsQuestion : Account → List ℕ → Question → Type 0
IsQuestion account nonce asked = (asked.account ≡ account) × (asked.nonce ≡ nonce)

abbrev pub IsExchange : Account → List ℕ → Exchange → Type 0
IsExchange account nonce exchange = (exchange.account ≡ account) × (theirs : List ℕ) × (exchange.nonce ≡ theirs ++ nonce)

abbrev pub IsLogin : Account → List ℕ → Login → Type 0
IsLogin account nonce (Offered asked) = IsQuestion account nonce asked
IsLogin account nonce (Chosen asked) = IsQuestion account nonce asked
IsLogin account nonce (Challenged exchange) = IsExchange account nonce exchange

-- what an answer leaves of it
abbrev pub IsReply : Account → List ℕ → Reply → Type 0
IsReply account nonce (Continue text login) = IsLogin account nonce login
IsReply account nonce (Final said) = (exchange : Exchange) × IsExchange account nonce exchange × (body : List ℕ) × HasProved exchange body said

begun_of : (account : Account) (nonce : List ℕ) (asked : Question) (text : List ℕ) (exchange : Exchange) → IsQuestion account nonce asked → begun asked.account asked.nonce text ≡ Ok exchange → IsExchange account nonce exchange
begun_of account nonce asked text exchange (whom, by) is =
    let read = bind_ok (client_first_of text) (λ first. Ok (record { account = asked.account; first = first; nonce = first.nonce ++ asked.nonce })) exchange is in
    let made : Exchange = record { account = asked.account; first = read.0; nonce = read.0.nonce ++ asked.nonce } in
    let it : made ≡ exchange = cc in
    (ap (λ (e : Exchange). e.account) (sym it) ∙ whom, read.0.nonce, ap (λ (e : Exchange). e.nonce) (sym it) ∙ ap (λ (n : List ℕ). read.0.nonce ++ n) by)

begins_of : (account : Account) (nonce : List ℕ) (asked : Question) (text : List ℕ) (reply : Reply) → IsQuestion account nonce asked → begins asked text ≡ Ok reply → IsReply account nonce reply
begins_of account nonce asked text (Continue said login) question is =
    let made = bind_ok (begun asked.account asked.nonce text) (λ exchange. Ok (Continue (challenge exchange) (Challenged exchange))) (Continue said login) is in
    let it : Challenged made.0 ≡ login = cc in
    subst (IsLogin account nonce) it (begun_of account nonce asked text made.0 question made.1)
begins_of account nonce asked text (Final said) question is =
    let made = bind_ok (begun asked.account asked.nonce text) (λ exchange. Ok (Continue (challenge exchange) (Challenged exchange))) (Final said) is in
    absurd cc

chosen_of : (account : Account) (nonce : List ℕ) (asked : Question) (first : Option (List ℕ)) (reply : Reply) → IsQuestion account nonce asked → after_choice asked first ≡ Ok reply → IsReply account nonce reply
chosen_of account nonce asked (Some text) reply question is = begins_of account nonce asked text reply question is
chosen_of account nonce asked None (Continue text login) question is =
    let it : Chosen asked ≡ login = cc in
    subst (IsLogin account nonce) it question
chosen_of account nonce asked None (Final said) question is = absurd cc

reply_of : (account : Account) (nonce : List ℕ) (login : Login) (body : List ℕ) (reply : Reply) → IsLogin account nonce login → reply_to login body ≡ Ok reply → IsReply account nonce reply
reply_of account nonce (Offered asked) body reply holds is =
    let read = bind_ok (initial_of body) (after_choice asked) reply is in
    chosen_of account nonce asked read.0 reply holds read.2
reply_of account nonce (Chosen asked) body reply holds is = begins_of account nonce asked body reply holds is
reply_of account nonce (Challenged exchange) body (Continue text login) holds is =
    let read = bind_ok (verdict exchange body) (λ said. Ok (Final said)) (Continue text login) is in
    absurd cc
reply_of account nonce (Challenged exchange) body (Final said) holds is =
    let read = bind_ok (verdict exchange body) (λ said. Ok (Final said)) (Final said) is in
    let it : read.0 ≡ said = cc in
    (exchange, holds, body, verdict_right exchange body said (read.1 ∙ ap Ok it))

answer_of : (account : Account) (nonce : List ℕ) (login : Login) (body : List ℕ) (reply : Reply) → IsLogin account nonce login → answer_to login body ≡ Ok reply → IsReply account nonce reply
answer_of account nonce login body reply holds is = by_test (nat_lt 1024 (length body)) refl is
  where
    by_test : (b : Bool) → nat_lt 1024 (length body) ≡ b → cond b (Err Password) (reply_to login body) ≡ Ok reply → IsReply account nonce reply
    by_test true long is = absurd cc
    by_test false long is = reply_of account nonce login body reply holds is

-- ---- the stages

pub record IsAsked (nonce : List ℕ) (asking : Asking) : Type 0 where
  pub users : Users
  pub parameters : List Parameter
  pub spells : SpellsStartup asking.opening.startup (Session parameters)
  pub named : named_user (value_of (codes "user") parameters) ≡ Some asking.opening.user
  pub account : Account
  pub is : IsAccountOf users asking.opening.user account
  pub login : IsLogin account nonce asking.login

abbrev pub Holds : List ℕ → AuthenticationStage → Type 0
Holds nonce Fresh = Unit {0}
Holds nonce (Asked asking) = IsAsked nonce asking
Holds nonce (Passed opening) = IsProved nonce opening
Holds nonce Closed = Unit {0}

asks_holds : (users : Users) (nonce text : List ℕ) (parameters : List Parameter) → SpellsStartup text (Session parameters) → (named : Option (List ℕ)) → named_user (value_of (codes "user") parameters) ≡ named
    → (said : List ℕ) (next : AuthenticationStage) → Asks users nonce text named said next → Holds nonce next
asks_holds users nonce text parameters spells None named said next asks = subst (Holds nonce) (sym asks.1) tt
asks_holds users nonce text parameters spells (Some user) named said next asks = subst (Holds nonce) (sym asks.3) (record {
  users = users;
  parameters = parameters;
  spells = spells;
  named = named;
  account = asks.0;
  is = asks.1;
  login = (refl, refl);
})

opens_holds : (users : Users) (nonce text : List ℕ) (startup : Startup) → SpellsStartup text startup → (said : List ℕ) (next : AuthenticationStage) → Opens users nonce text startup said next → Holds nonce next
opens_holds users nonce text (Session parameters) spells said next opens = asks_holds users nonce text parameters spells (named_user (value_of (codes "user") parameters)) refl said next opens
opens_holds users nonce text Ssl spells said next opens = subst (Holds nonce) (sym opens.1) tt
opens_holds users nonce text Gss spells said next opens = subst (Holds nonce) (sym opens.1) tt
opens_holds users nonce text (Cancel process key) spells said next opens = subst (Holds nonce) (sym opens.1) tt

replies_hold : (nonce : List ℕ) (asking : Asking) (body : List ℕ) → IsAsked nonce asking → (r : Result Reply ExchangeFault) → answer_to asking.login body ≡ r → (said : List ℕ) (next : AuthenticationStage) → Replies asking.opening r said next → Holds nonce next
replies_hold nonce asking body holds (Err fault) is said next replies = subst (Holds nonce) (sym replies.1) tt
replies_hold nonce asking body holds (Ok (Continue text login)) is said next replies = subst (Holds nonce) (sym replies.1) (record {
  users = holds.users;
  parameters = holds.parameters;
  spells = holds.spells;
  named = holds.named;
  account = holds.account;
  is = holds.is;
  login = answer_of holds.account nonce asking.login body (Continue text login) holds.login is;
})
replies_hold nonce asking body holds (Ok (Final text)) is said next replies =
    let proof = answer_of holds.account nonce asking.login body (Final text) holds.login is in
    subst (Holds nonce) (sym replies.1) (record {
      users = holds.users;
      parameters = holds.parameters;
      spells = holds.spells;
      named = holds.named;
      exchange = proof.0;
      account = subst (IsAccountOf holds.users asking.opening.user) (sym proof.1.0) holds.is;
      theirs = proof.1.1;
      fresh = proof.1.2;
      body = proof.2;
      said = text;
      proved = proof.3;
    })

turn_holds : (users : Users) (nonce : List ℕ) (old : AuthenticationStage) (text said : List ℕ) (new : AuthenticationStage) → Holds nonce old → IsTurn users nonce old text said new → Holds nonce new
turn_holds users nonce Fresh text said new holds (inl (startup, spells, opens)) = opens_holds users nonce text startup spells said new opens
turn_holds users nonce Fresh text said new holds (inr (fault, is, says)) = subst (Holds nonce) (sym says.1) tt
turn_holds users nonce (Asked asking) text said new holds (inl (body, is, replies)) = replies_hold nonce asking body holds (answer_to asking.login body) refl said new replies
turn_holds users nonce (Asked asking) text said new holds (inr (fault, is, says)) = subst (Holds nonce) (sym says.1) tt
turn_holds users nonce (Passed opening) text said new holds is = absurd is
turn_holds users nonce Closed text said new holds says = subst (Holds nonce) (sym says.1) tt

turns_hold : (nonce : List ℕ) (old : AuthenticationStage) (turns : List Turn) (new : AuthenticationStage) → Holds nonce old → AreTurns nonce old turns new → Holds nonce new
turns_hold nonce old [] new holds is = subst (Holds nonce) (sym is) holds
turns_hold nonce old (t ∷ ts) new holds (mid, turn, are) = turns_hold nonce mid ts new (turn_holds t.users nonce old t.text t.said mid holds turn) are

pub let_in_by_proof : (nonce : List ℕ) (turns : List Turn) (opening : StartupUser) → AreTurns nonce Fresh turns (Passed opening) → IsProved nonce opening
let_in_by_proof nonce turns opening are = turns_hold nonce Fresh turns (Passed opening) tt are
