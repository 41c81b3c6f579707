-- What a connection makes of its stream.
use Rattle.std.specs.Prelude.{◌≡◌, ◌⊎◌, ℕ, ℤ, ◌≤◌, zero, suc, List, [], ◌++◌, length, replicate, Bool, None, Some, true, false}
use Rattle.std.specs.declared.option.Option.{Option}
use Rattle.chgarena.specs.Strands.{Strands as Arena}
use Rattle.connections.specs.declared.words.StreamError.{StreamError}
use Rattle.connections.specs.StreamErrors.{told_stream_error}
use Rattle.std.specs.Io.KnownBytes.{Appends}
use Rattle.pgoutput.specs.Words.{word_bytes}
use Rattle.pgoutput.specs.Items.{keepalive_word}
use Rattle.publication.specs.Publications.{PublicationSet}
use Rattle.publication.specs.Choosing.{selected_publications}
use Rattle.replcmd.specs.declared.clauses.setting.StreamOptions.{StreamOptions}
use Rattle.shared_log.specs.Readers.{seen_of}
use Rattle.walsender.specs.declared.walsender.Walsender.{Walsender}
use Rattle.walsender.specs.Sending.{HasChunks, SenderState}
use Rattle.walsender.specs.Serving.{Gives, GoesOn}

-- what a START asks for: what its names select, with the messages of the log where its options ask for them
abbrev pub asked_for : PublicationSet → List (List ℕ) → StreamOptions → PublicationSet
asked_for publications names options = record (selected_publications publications names) { messages = options.messages }

-- An arena without strands, of as many chunks as a hub's settings say; where the slot's last stream found them full, it may have more.
abbrev pub HasChunksSet : (chunks : ℕ) → (was_full : Bool) → Arena → Type 0
HasChunksSet chunks was_full arena =
    (arena ≡ replicate (length arena) None) × (chunks ≤ length arena) × (was_full ≡ false → length arena ≡ chunks)

-- What a START was granted: what it asked for, from its position on or from a later one that its slot had confirmed, and an arena.
pub record IsStarted (asked : PublicationSet) (position chunks : ℕ) (selection : PublicationSet) (start : ℕ) (arena : Arena) : Type 0 where
  pub selects : selection ≡ asked
  pub begins : position ≤ start
  pub room : (was_full : Bool) × HasChunksSet chunks was_full arena

-- a stream that has read nothing stands so
pub record BeginsAs (asked : PublicationSet) (position chunks : ℕ) (s : SenderState) : Type 0 where
  pub selection : s.selection ≡ asked
  pub start : position ≤ s.start
  pub room : (count : ℕ) × (chunks ≤ count) × HasChunks s count

-- so many keepalives under one clock, one after the other, which don't ask for an answer
abbrev pub keepalives : ℕ → ℤ → ℕ → List ℕ
keepalives position clock zero = []
keepalives position clock (suc count) = keepalives position clock count ++ word_bytes (keepalive_word position clock false)

-- one that asks, for a client that is silent
abbrev pub asking : Bool → ℕ → ℤ → List ℕ
asking false position clock = []
asking true position clock = word_bytes (keepalive_word position clock true)

-- what a writer took goes on with the stream
abbrev pub StreamsOn : {L : Type 0} → Walsender L → Walsender L → Option (List ℕ) → Option (List ℕ) → Type 0
StreamsOn old new before after = (given : List ℕ) × GoesOn given old new × Appends before after given

-- the words of a stream's error, if there is one
abbrev pub words_of : Option StreamError → List ℕ
words_of None = []
words_of (Some stream_error) = told_stream_error stream_error

-- what was held was written, and these words, if there are any, only after all of it
abbrev pub WordsBehind : {L : Type 0} → List ℕ → Walsender L → Walsender L → Option (List ℕ) → Option (List ℕ) → Type 0
WordsBehind words old new before after = (given : List ℕ) × Gives given old new × ((words ≡ []) ⊎ (new.sender.held ≡ [])) × Appends before after (given ++ words)

-- its reader was told of a commit, and nothing else has changed
pub record HasLearnt {L : Type 0} (old new : Walsender L) : Type 0 where
  pub sender : new.sender ≡ old.sender
  pub place : new.reader.place ≡ old.reader.place
  pub seen : seen_of new.reader ≡ seen_of old.reader
