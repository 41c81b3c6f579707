-- What a message of the log becomes in a stream that asks for messages (PostgreSQL 15, 55.5, the option `messages`). Publications, filters
-- and column lists don't touch it.
use Rattle.std.specs.Prelude.{◌≡◌, ℕ, Bool, true, false, ◌&&◌, length, nat_le, Option, Some, None, if◌then◌else◌}
use Rattle.pgoutput.specs.declared.logical.Logical.{Logical}
use Rattle.pgoutput.specs.declared.logical.Logical.TheVariants as logical
use Rattle.pgoutput.specs.declared.messages.message.Message.{Message as Told}
use Rattle.pgoutput.specs.Logical.{FitsLogical}
use Rattle.pgoutput.specs.Items.{IsShortMessage}
use Rattle.tables.specs.declared.changes.message.TheConstants.{MAX_CONTENT_LENGTH}
use Rattle.tables.specs.declared.changes.message.Message.{Message}
use Rattle.tables.specs.declared.changes.change.Change.{Change}
use Rattle.tables.specs.declared.changes.change.Change.TheVariants as changes
use Rattle.tables.specs.Tables.{is_prefix}
use Rattle.publication_config.specs.Published.{PublicationSet}
use Rattle.publication.specs.Projection.{message}

-- whether a message may stand in the log
abbrev pub fits_log : Message → Bool
fits_log m = is_prefix m.prefix && nat_le (length m.content) MAX_CONTENT_LENGTH

-- the message whose record starts at the position, with its transaction or by itself
abbrev pub told_of : (is_transactional : Bool) → ℕ → Message → Logical
told_of is_transactional position m = logical.Message (record { is_transactional = is_transactional; position = position; prefix = m.prefix; content = m.content })

abbrev pub logged_message : (is_transactional : Bool) → PublicationSet → ℕ → Message → Option Logical
logged_message is_transactional s position m = if s.messages && fits_log m then Some (told_of is_transactional position m) else None

-- The message of a change in a transaction, by the position at which its record starts: of rows and tables what the publications make of
-- it, of a message itself.
abbrev pub change_message : PublicationSet → ℕ → Change → Option Logical
change_message s position (changes.Message m) = logged_message true s position m
change_message s position change = message s change

-- the message of a note, which is in no transaction
abbrev pub note_message : PublicationSet → ℕ → Change → Option Logical
note_message s position (changes.Message m) = logged_message false s position m
note_message s position _ = None

-- a note's message, which a stream can tell at the position
pub record IsNoteAt (position : ℕ) (m : Logical) : Type 0 where
  pub message : Told
  pub is : m ≡ logical.Message message
  pub outside : message.is_transactional ≡ false
  pub place : message.position ≡ position
  pub fits : FitsLogical m
  pub short : IsShortMessage m
