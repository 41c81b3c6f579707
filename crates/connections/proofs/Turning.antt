-- One turn, from what was read at the front of the pending bytes.
use Rattle.std.proofs.Common.{◌≡◌, ℕ, ◌<◌, ◌≤◌, ◌+◌, List, [], ◌∷◌, ◌++◌, length, take, Option, Some, None, Result, Ok, Err, refl, sym, ap, subst, ◌∙◌, inl, inr, arith}
use Rattle.std.specs.Prelude.{◌≢◌, IfOk}
use Rattle.std.specs.declared.alloc.AllocError.{AllocError}
use Rattle.std.proofs.lemmas.List.{length-append, length-take-le, take_all}
use Rattle.pqformat.specs.Fields.{int32}
use Rattle.pqformat.proofs.Numbers.{length-int32}
use Rattle.frames.specs.declared.fault.FrameFault.{FrameFault}
use Rattle.frames.specs.declared.fault.FrameFault.TheVariants.{Memory}
use Rattle.frames.specs.declared.frontend.startup.Startup.{Startup}
use Rattle.frames.specs.Frame.{Gives, frame}
use Rattle.frames.specs.Startup.{SpellsStartup, framed_startup, startup_number, startup_body}
use Rattle.scram.specs.Logins.{answer_to}
use Rattle.server.specs.Said.{error_of_refusal}
use Rattle.server.specs.Turns.{refusal_of}
use Rattle.server.proofs.Turning.{read_fault, front_of_some}
use Rattle.connections.specs.declared.authentication.password_message.TheConstants.{PASSWORD}
use Rattle.connections.specs.declared.authentication.stage.Asking.{Asking}
use Rattle.connections.specs.declared.authentication.stage.AuthenticationStage.{AuthenticationStage}
use Rattle.connections.specs.declared.authentication.stage.AuthenticationStage.TheVariants.{Fresh, Asked, Closed}
use Rattle.connections.specs.declared.authentication.stage.AuthenticationTurn.{AuthenticationTurn}
use Rattle.connections.specs.declared.authentication.users.Users.{Users}
use Rattle.connections.specs.Messages.{framed_password}
use Rattle.connections.specs.Refusing.{not_a_message}
use Rattle.connections.specs.Turns.{IsTurned, Opens, Replies}

-- ---- a startup

startup_has : (text : List ℕ) (f : Startup) → SpellsStartup text f → 0 < length text
startup_has text f spells =
    let coded : List ℕ = int32 (startup_number f) ++ startup_body f in
    rw spells.text (omega (arith, length-append (int32 (8 + length (startup_body f))) coded, length-int32 (8 + length (startup_body f))))

faulty_startup : (bytes : List ℕ) (fault : FrameFault) → framed_startup bytes ≡ Err fault → 0 < length bytes
faulty_startup [] fault is = absurd cc
faulty_startup (b ∷ bytes) fault is = omega arith

pub startup_turned : (users : Users) (nonce pending : List ℕ) (count : ℕ) (startup : Startup) (next : AuthenticationStage) (out out' : List ℕ)
    → count ≤ length pending → SpellsStartup (take count pending) startup
    → (said : List ℕ) × Opens users nonce (take count pending) startup said next × (out' ≡ out ++ said)
    → IsTurned users nonce Fresh pending (record { stage = next; count = count }) out out'
startup_turned users nonce pending count startup next out out' le spells opens =
    inr (front_of_some count pending le (startup_has (take count pending) startup spells), le, opens.0, inl (startup, spells, opens.1), opens.2)

pub startup_refused : (users : Users) (nonce pending : List ℕ) (fault : FrameFault) (out out' : List ℕ)
    → fault ≢ Memory → Gives (Err fault) (framed_startup pending) → out' ≡ out ++ error_of_refusal (refusal_of fault)
    → IsTurned users nonce Fresh pending (record { stage = Closed; count = length pending }) out out'
startup_refused users nonce pending fault out out' other gives says =
    let is : framed_startup pending ≡ Err fault = read_fault fault (framed_startup pending) other gives in
    let whole : take (length pending) pending ≡ pending = take_all (length pending) pending (omega arith) in
    inr (faulty_startup pending fault is, omega arith, error_of_refusal (refusal_of fault), inr (fault, rw whole is, (refl, refl)), says)

pub startup_refused_turned : (users : Users) (nonce pending : List ℕ) (fault : FrameFault) (out out' : List ℕ) (r : Result AuthenticationTurn AllocError)
    → Gives (Err fault) (framed_startup pending)
    → IfOk r (λ _. fault ≢ Memory) → IfOk r (λ t. t ≡ record { stage = Closed; count = length pending }) → IfOk r (λ _. out' ≡ out ++ error_of_refusal (refusal_of fault))
    → IfOk r (λ t. IsTurned users nonce Fresh pending t out out')
startup_refused_turned users nonce pending fault out out' (Ok t) gives other is says =
    subst (λ (x : AuthenticationTurn). IsTurned users nonce Fresh pending x out out') (sym is) (startup_refused users nonce pending fault out out' other gives says)
startup_refused_turned users nonce pending fault out out' (Err e) gives other is says = tt

-- ---- a message

faulty_message : (bytes : List ℕ) (fault : FrameFault) → framed_password bytes ≡ Err fault → 0 < length bytes
faulty_message [] fault is = absurd cc
faulty_message (b ∷ bytes) fault is = omega arith

pub message_turned : (users : Users) (nonce : List ℕ) (asking : Asking) (pending : List ℕ) (count : ℕ) (body : List ℕ) (next : AuthenticationStage) (out out' : List ℕ)
    → 0 < count → count ≤ length pending → take count pending ≡ frame PASSWORD body
    → (said : List ℕ) × Replies asking.opening (answer_to asking.login body) said next × (out' ≡ out ++ said)
    → IsTurned users nonce (Asked asking) pending (record { stage = next; count = count }) out out'
message_turned users nonce asking pending count body next out out' some le text replies =
    inr (some, le, replies.0, inl (body, text, replies.1), replies.2)

pub message_refused : (users : Users) (nonce : List ℕ) (asking : Asking) (pending : List ℕ) (fault : FrameFault) (out out' : List ℕ)
    → framed_password pending ≡ Err fault → out' ≡ out ++ not_a_message fault asking.opening.user
    → IsTurned users nonce (Asked asking) pending (record { stage = Closed; count = length pending }) out out'
message_refused users nonce asking pending fault out out' is says =
    let whole : take (length pending) pending ≡ pending = take_all (length pending) pending (omega arith) in
    inr (faulty_message pending fault is, omega arith, not_a_message fault asking.opening.user, inr (fault, rw whole is, (refl, refl)), says)
