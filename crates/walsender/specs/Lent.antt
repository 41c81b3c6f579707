-- Committed transactions whose changes still lie in the arena.
use Rattle.std.specs.Prelude.{◌≡◌, ◌&&◌, ℕ, ℤ, not, List, [], ◌∷◌, ◌++◌, if◌then◌else◌}
use Rattle.std.specs.List.{flat_map}
use Rattle.pgoutput.specs.declared.messages.commit.Commit.{Commit}
use Rattle.pgoutput.specs.declared.logical.Logical.TheVariants as logical
use Rattle.publication.specs.Publications.{PublicationSet}
use Rattle.wal.specs.declared.record.Record.{Record}
use Rattle.wal.specs.Log.{Transaction, committed_from}
use Rattle.pgoutput.specs.declared.published.Published.{Published}
use Rattle.pgoutput.specs.Words.{word_bytes}
use Rattle.pgoutput.specs.Items.{xlogdata_word}
use Rattle.reorder.specs.Chunks.{transaction_chunks}
use Rattle.walsender.specs.Published.{has_message, published_as}

-- what the Commit of such a transaction tells, and how many chunks its changes fill
pub record LentTransaction : Type 0 where
  pub commit : Commit
  pub chunks : ℕ

-- these are the last ones of those
abbrev pub AreLastOf : List LentTransaction → List LentTransaction → Type 0
AreLastOf last all = (gone : List LentTransaction) × (all ≡ gone ++ last)

abbrev pub lent_with : ℕ → Published → LentTransaction
lent_with chunks t = record { commit = record { position = t.start; end = t.end; time = t.time }; chunks = chunks }

-- a committed transaction, if it is sent: a note has no chunks, and one without a message is given back at once
abbrev pub sent_as : PublicationSet → Transaction → List LentTransaction
sent_as selection t = if not t.is_note && has_message (published_as selection t) then lent_with (transaction_chunks t.changes) (published_as selection t) ∷ [] else []

-- the transactions that these records send, given those before them, each with the chunks that its changes fill
abbrev pub sent_from : PublicationSet → ℕ → List Record → List Record → List LentTransaction
sent_from selection s before rs = flat_map (sent_as selection) (committed_from s before rs)

abbrev pub sent_transactions : PublicationSet → List Record → ℕ → List LentTransaction
sent_transactions selection rs s = sent_from selection s [] rs

-- the frames of their Commits stand among these bytes, one after the other
abbrev pub AreHeld : List ℕ → List LentTransaction → Type 0
AreHeld bytes [] = Unit {0}
AreHeld bytes (t ∷ ts) =
    (front : List ℕ) × (clock : ℤ) × (behind : List ℕ)
    × (bytes ≡ front ++ (word_bytes (xlogdata_word t.commit.end clock (logical.Commit t.commit)) ++ behind)) × AreHeld behind ts
