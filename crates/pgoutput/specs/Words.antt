-- A word and its frame: a CopyData whose body is a keepalive, or an XLogData that holds one logical message (PostgreSQL
-- 15, 55.4 and 55.5).
use Rattle.std.specs.Prelude.{ℕ, ◌+◌, ◌<◌, ◌≤◌, ◌^◌, FitsSigned, List, length}
use Rattle.std.specs.List.{flat_map}
use Rattle.std.specs.Int.{w64}
use Rattle.frames.specs.Frame.{frame}
use Rattle.frames.specs.declared.copy_data.TheConstants.{COPY_DATA}
use Rattle.frames.specs.declared.parts.frame.TheConstants.{FRAME_LIMIT}
use Rattle.copyboth.specs.Keepalive.{keepalive}
use Rattle.copyboth.specs.XLogData.{xlogdata}
use Rattle.pgoutput.specs.Logical.{spell_logical, FitsLogical}
use Rattle.pgoutput.specs.declared.copy_both_message.CopyBothMessage.{CopyBothMessage}
use Rattle.pgoutput.specs.declared.copy_both_message.CopyBothMessage.TheVariants as words

-- what the CopyData of a word holds
abbrev pub word_body : CopyBothMessage → List ℕ
word_body (words.Keepalive k) = keepalive k.position k.clock k.ask
word_body (words.XLogData s) = xlogdata s.start s.end s.clock (spell_logical s.message)

abbrev pub word_bytes : CopyBothMessage → List ℕ
word_bytes w = frame COPY_DATA (word_body w)

-- what words spell, one after the other
abbrev pub frames_of : List CopyBothMessage → List ℕ
frames_of ws = flat_map word_bytes ws

abbrev pub AreFieldsInRange : CopyBothMessage → Type 0
AreFieldsInRange (words.Keepalive k) = (k.position < 2 ^ 64) × FitsSigned w64 k.clock
AreFieldsInRange (words.XLogData s) = (s.start < 2 ^ 64) × (s.end < 2 ^ 64) × FitsSigned w64 s.clock × FitsLogical s.message

-- every number, text and count fits its field, and the frame is within its limit
pub record FitsWord (w : CopyBothMessage) : Type 0 where
  pub fields : AreFieldsInRange w
  pub short : 4 + length (word_body w) ≤ FRAME_LIMIT
