-- What is due to a client that comes where as many are served as may be, by what it has sent.
use Rattle.std.specs.Prelude.{ℕ, Option, Some, None, Result, Ok, Err}
use Rattle.frames.specs.declared.frontend.startup.Startup.{Startup}
use Rattle.frames.specs.declared.frontend.startup.Startup.TheVariants.{Session, Ssl, Gss, Cancel}
use Rattle.frames.specs.declared.fault.FrameFault.{FrameFault}
use Rattle.connections.specs.declared.socket.crowd.Due.{Due}
use Rattle.connections.specs.declared.socket.crowd.Due.TheVariants as due

-- a request for encryption is denied, and after it its startup is awaited; a request to cancel gets nothing; all else is refused
abbrev pub due_for : Startup → ℕ → Due
due_for Ssl count = due.No count
due_for Gss count = due.No count
due_for (Cancel process key) count = due.Nothing
due_for (Session parameters) count = due.Refusal

abbrev pub due_in_crowd : Result (Option (Startup × ℕ)) FrameFault → Due
due_in_crowd (Ok None) = due.Wait
due_in_crowd (Ok (Some found)) = due_for found.0 found.1
due_in_crowd (Err fault) = due.Refusal
