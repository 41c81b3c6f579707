-- A connection and what stands before it until its user is let in.
use Rattle.std.specs.Prelude.{◌≡◌, ℕ, Bool, true, false, List, [], ◌++◌, drop, Option, Some, None, if◌then◌else◌}
use Rattle.server.specs.declared.connection.Connection.{Connection}
use Rattle.server.specs.declared.connection.Phase.{Phase}
use Rattle.server.specs.declared.connection.Phase.TheVariants as phases
use Rattle.server.specs.declared.stages.stage.Stage.{Stage as Opened}
use Rattle.server.specs.Segment.{phase_of}
use Rattle.connections.specs.declared.authentication.guarded_connection.Guard.{Guard}
use Rattle.connections.specs.declared.authentication.guarded_connection.GuardedConnection.{GuardedConnection}
use Rattle.connections.specs.declared.authentication.stage.AuthenticationStage.{AuthenticationStage}
use Rattle.connections.specs.declared.authentication.stage.AuthenticationStage.TheVariants.{Fresh, Asked, Passed, Closed}
use Rattle.connections.specs.declared.authentication.stage.AuthenticationTurn.{AuthenticationTurn}
use Rattle.connections.specs.declared.authentication.users.Users.{Users}
use Rattle.connections.specs.Turns.{IsTurned}

abbrev pub is_closed : AuthenticationStage → Bool
is_closed Closed = true
is_closed Fresh = false
is_closed (Asked asking) = false
is_closed (Passed opening) = false

-- Until its user is let in a connection waits for its startup, whatever it has been told.
abbrev pub guarded_phase : Option Guard → Opened → Phase
guarded_phase None stage = phase_of stage
guarded_phase (Some guard) stage = if is_closed guard.stage then phases.Closed else phases.Startup

-- nothing has come yet
abbrev pub IsNew : List ℕ → Option Guard → Type 0
IsNew nonce None = ⊥
IsNew nonce (Some guard) = (guard.stage ≡ Fresh) × (guard.pending.items ≡ []) × (guard.nonce ≡ nonce)

-- this has come, and isn't answered
abbrev pub Hears : Connection → List ℕ → Connection → Type 0
Hears old text new = (new.stage ≡ old.stage) × (new.service ≡ old.service) × (new.pending.items ≡ old.pending.items ++ text)

-- what stands before the connection, which has heard nothing more
abbrev pub Guards : AuthenticationStage → List ℕ → List ℕ → Connection → GuardedConnection → Type 0
Guards stage rest nonce connection new =
    (guard : Guard) × (new.guard ≡ Some guard) × (guard.stage ≡ stage) × (guard.pending.items ≡ rest) × (guard.nonce ≡ nonce) × (new.connection ≡ connection)

-- Where the proof was right, the connection hears the startup and what came after the proof; else nothing.
abbrev pub LetsIn : AuthenticationStage → List ℕ → List ℕ → Connection → GuardedConnection → Type 0
LetsIn (Passed opening) rest nonce connection new = (new.guard ≡ None) × (new.user ≡ Some opening.user) × Hears connection (opening.startup ++ rest) new.connection
LetsIn Fresh rest nonce connection new = Guards Fresh rest nonce connection new
LetsIn (Asked asking) rest nonce connection new = Guards (Asked asking) rest nonce connection new
LetsIn Closed rest nonce connection new = Guards Closed rest nonce connection new

-- one turn, or none where no guard stands
abbrev pub IsAuthenticated : Users → Option Guard → GuardedConnection → List ℕ → GuardedConnection → List ℕ → Type 0
IsAuthenticated users None old out new out' = (new ≡ old) × (out' ≡ out)
IsAuthenticated users (Some guard) old out new out' =
    (t : AuthenticationTurn) × IsTurned users guard.nonce guard.stage guard.pending.items t out out' × LetsIn t.stage (drop t.count guard.pending.items) guard.nonce old.connection new
