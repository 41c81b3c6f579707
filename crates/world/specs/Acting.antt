-- What a connection's line does to its sender.
use Rattle.std.specs.Prelude.{◌≡◌, ◌<◌, ℕ, ℤ, true, false, List, [], ◌∷◌, ◌++◌, length, take, drop, nat_le, if◌then◌else◌, Bool, ◌&&◌, Result, Ok, Err}
use Rattle.wal.specs.declared.record.Record.{Record}
use Rattle.wal.specs.Log.{end_of}
use Rattle.publication.specs.Publications.{PublicationSet}
use Rattle.pgoutput.specs.Words.{word_bytes}
use Rattle.pgoutput.specs.Items.{keepalive_word}
use Rattle.walsender.specs.declared.fault.SendFault.{SendFault}
use Rattle.walsender.specs.declared.fault.SendFault.TheVariants as sends
use Rattle.walsender.specs.Published.{published_from, published_transactions}
use Rattle.walsender.specs.Sending.{published_bytes}
use Rattle.world.specs.declared.printed.answer.Answer.{Answer}
use Rattle.world.specs.declared.printed.answer.Answer.TheVariants as answers
use Rattle.world.specs.declared.stepping.action.Action.{Action}
use Rattle.world.specs.declared.stepping.action.Action.TheVariants as actions
use Rattle.world.specs.Start.{StartState}

-- the sender reads the log from this position on
abbrev pub new_start : List ℕ → PublicationSet → ℕ → ℕ → StartState
new_start connection selection start first =
    record { connection = connection; is_open = true; selection = selection; start = start; position = first; failed = false; produced = []; held = [] }

-- the records that end at a position or before it: what a sender at that position has read
abbrev pub read_by : ℕ → List Record → List Record
read_by position [] = []
read_by position (r ∷ rs) = if nat_le r.end position then r ∷ read_by position rs else []

-- the records after a position
abbrev pub unread_records : ℕ → List Record → List Record
unread_records position [] = []
unread_records position (r ∷ rs) = if nat_le r.end position then unread_records position rs else r ∷ rs

-- these records are read under a clock: what they publish is held, in blocks after those of the records before them
abbrev pub after_reading : List Record → ℤ → List Record → StartState → StartState
after_reading log clock section s = record s {
  position = end_of s.position section;
  held = s.held ++ published_bytes s.selection clock (published_transactions s.selection (read_by s.position log) s.start) (published_from s.selection s.start (read_by s.position log) section);
}

-- what an action leaves; a cut loses what is held, and nothing else
abbrev pub after_action : List Record → Action → StartState → StartState
after_action log (actions.Read max clock) s = after_reading log clock (take max (unread_records s.position log)) s
after_action log (actions.Keepalive clock) s = record s { held = s.held ++ word_bytes (keepalive_word s.position clock false) }
after_action log (actions.Drain n) s = record s { produced = s.produced ++ take n s.held; held = drop n s.held }
after_action log actions.Cut s = record s { is_open = false; failed = false; held = [] }

-- a read under which the arena was full or memory was refused: some of its records were read, and the sender has failed
pub record BreaksDown (log : List Record) (max : ℕ) (clock : ℤ) (old new : StartState) : Type 0 where
  pub count : ℕ
  pub fewer : count < length (take max (unread_records old.position log))
  pub is : new ≡ record (after_reading log clock (take count (take max (unread_records old.position log))) old) { failed = true }

-- what reads the log, and so may be refused an entry
abbrev pub is_read : Action → Bool
is_read (actions.Read max clock) = true
is_read action = false

-- what takes memory of its own: a read for the records, a drain for the bytes
abbrev pub takes_memory : Action → Bool
takes_memory (actions.Read max clock) = true
takes_memory (actions.Drain n) = true
takes_memory action = false

-- what a sender that has failed refuses
abbrev pub needs_running : Action → Bool
needs_running (actions.Read max clock) = true
needs_running (actions.Keepalive clock) = true
needs_running action = false

-- what an action leaves that was refused for memory
abbrev pub LacksMemory : List Record → Action → StartState → StartState → Type 0
LacksMemory log (actions.Read max clock) old new = BreaksDown log max clock old new
LacksMemory log (actions.Keepalive clock) old new = new ≡ old
LacksMemory log action old new = ⊥

-- what a read leaves for which the arena was full
abbrev pub LacksRoom : List Record → Action → StartState → StartState → Type 0
LacksRoom log (actions.Read max clock) old new = BreaksDown log max clock old new
LacksRoom log action old new = ⊥

-- what a sender made of a line, as the line's answer
abbrev pub answer_of : Result (Unit {0}) SendFault → Answer
answer_of (Ok done) = answers.Done
answer_of (Err fault) = answers.Sender fault

-- Done, or G1 or G2 by a sender that had not failed, or G3 by one that had. What a line reads always follows, so G4 doesn't come.
abbrev pub Acts : List Record → Action → StartState → Answer → StartState → Type 0
Acts log action old answers.Done new = ((needs_running action && old.failed) ≡ false) × (new ≡ after_action log action old)
Acts log action old (answers.Sender sends.ArenaFull) new = (old.failed ≡ false) × LacksRoom log action old new
Acts log action old (answers.Sender sends.Memory) new = (old.failed ≡ false) × LacksMemory log action old new
Acts log action old (answers.Sender sends.Failed) new = (needs_running action ≡ true) × (old.failed ≡ true) × (new ≡ old)
Acts log action old answer new = ⊥
