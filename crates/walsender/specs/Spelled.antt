-- What is read off the spelling of a change's message: the message, and the tables that it names.
use Rattle.std.specs.Prelude.{◌≡◌, ◌≤◌, ℕ, ◌==◌, List, [], ◌∷◌, drop, take, get_or, length, false, Option, Some, None, Result, Ok, Err, if◌then◌else◌}
use Rattle.std.specs.Int.{w32, from_be_bytes}
use Rattle.pgoutput.specs.declared.logical.Logical.{Logical}
use Rattle.pgoutput.specs.declared.logical.Logical.TheVariants as logical
use Rattle.pgoutput.specs.declared.fault.PgoutputError.{PgoutputError}
use Rattle.pgoutput.specs.declared.messages.truncate.TheConstants.{TRUNCATE}
use Rattle.pgoutput.specs.declared.messages.message.TheConstants.{MESSAGE}
use Rattle.pgoutput.specs.Logical.{spell_logical, whole_of}
use Rattle.publication.specs.Publications.{PublicationSet}
use Rattle.pgoutput.specs.declared.published.PublishedChange.{PublishedChange}
use Rattle.walsender.specs.declared.commit_frames.header.Header.{Header}
use Rattle.walsender.specs.Published.{CanBeTold}

-- what was read, and where nothing was, a message that names no table
abbrev pub decoded_message : Result Logical PgoutputError → Logical
decoded_message (Ok m) = m
decoded_message (Err fault) = logical.Truncate (record { options = record { cascade = false; restart_identity = false }; oids = [] })

-- the message that the bytes spell
abbrev pub message_in : List ℕ → Logical
message_in bytes = decoded_message (whole_of bytes)

-- the change at the position that the bytes tell
abbrev pub told_at : ℕ → List ℕ → PublishedChange
told_at position bytes = record { position = position; message = message_in bytes }

-- The bytes spell the message of a change, and a stream can tell it at the position.
pub record Tells (selection : PublicationSet) (position : ℕ) (bytes : List ℕ) : Type 0 where
  pub told : CanBeTold selection (told_at position bytes)
  pub text : bytes ≡ spell_logical (message_in bytes)

-- the numbers of four bytes, one after the other
abbrev pub oids_in : List ℕ → List ℕ
oids_in (a ∷ b ∷ c ∷ d ∷ bytes) = from_be_bytes w32 (a ∷ b ∷ c ∷ d ∷ []) ∷ oids_in bytes
oids_in _ = []

-- The tables that a message of a change names: a Truncate has their OIDs after its letter, their count and its options, a Message names
-- none, any other has one OID after its letter.
abbrev pub named_in : List ℕ → List ℕ
named_in bytes =
    if get_or bytes 0 0 == TRUNCATE then oids_in (drop 6 bytes)
    else if get_or bytes 0 0 == MESSAGE then []
    else oids_in (take 4 (drop 1 bytes))

-- The first of the published changes that are left, with its position and how many bytes of the room spell it; or there is none here.
abbrev pub Yields : PublicationSet → (here next : List PublishedChange) → Option (ℕ × ℕ) → List ℕ → Type 0
Yields selection here next None room = here ≡ next
Yields selection here next (Some p) room = (p.1 ≤ length room) × Tells selection p.0 (take p.1 room) × (here ≡ told_at p.0 (take p.1 room) ∷ next)

abbrev pub begin_with : Header → Logical
begin_with h = logical.Begin (record { position = h.start; time = h.time; xid = h.xid })

abbrev pub commit_with : Header → Logical
commit_with h = logical.Commit (record { position = h.start; end = h.end; time = h.time })
