-- Messages of the log fit a stream, and a slice that has room.
use Rattle.std.proofs.Common.{◌≡◌, ℕ, ◌+◌, ◌<◌, ◌≤◌, ◌^◌, Bool, true, false, cond, leb, List, [], ◌∷◌, ◌++◌, Some, None, length, refl, subst, arith}
use Rattle.std.specs.Prelude.{◌&&◌}
use Rattle.std.specs.Str.{is_utf8}
use Rattle.std.proofs.lemmas.Bool.{leb-true}
use Rattle.std.proofs.lemmas.List.{length-append}
use Rattle.pqformat.specs.Fields.{int32, int64, string}
use Rattle.pqformat.proofs.Numbers.{length-int32, length-int64}
use Rattle.pgoutput.specs.declared.logical.Logical.{Logical}
use Rattle.pgoutput.specs.Logical.{FitsLogical, spell_logical}
use Rattle.pgoutput.specs.Message.{content}
use Rattle.pgoutput.specs.Items.{IsShortMessage}
use Rattle.tables.specs.declared.changes.message.TheConstants.{MAX_PREFIX_LENGTH, MAX_CONTENT_LENGTH}
use Rattle.tables.specs.declared.changes.message.Message.{Message}
use Rattle.tables.specs.declared.changes.change.Change.{Change}
use Rattle.tables.specs.declared.changes.change.Change.TheVariants as changes
use Rattle.tables.specs.Kinds.{has_no_zero}
use Rattle.tables.specs.Tables.{is_prefix}
use Rattle.publication_config.specs.Published.{PublicationSet}
use Rattle.publication.specs.Logged.{IsNoteAt, change_message, fits_log, logged_message, note_message, told_of}
use Rattle.publication.specs.Projection.{AreValues, MessageFits}
use Rattle.publication.specs.Selection.{FitTables}
use Rattle.pqformat.specs.Writing.{FitsRoom}
use Rattle.row_messages.specs.Spelling.{HasRoomFor}
use Rattle.row_messages.specs.declared.room.TheConstants.{MAX_MESSAGE_LENGTH}
use Rattle.publication.proofs.Catalogued.{no_zero}
use Rattle.publication.proofs.Fitting.{message_fits}
use Rattle.publication.proofs.Room.{has_room}
use Rattle.row_messages.proofs.Rows.{both_true}

-- what of a message is known that may stand in the log
pub record Short (m : Message) : Type 0 where
  pub prefix : length m.prefix ≤ 63
  pub plain : has_no_zero m.prefix ≡ true
  pub content : length m.content ≤ 8000

pub short : (m : Message) → fits_log m ≡ true → Short m
short m is =
    let both = both_true (is_prefix m.prefix) (leb (length m.content) MAX_CONTENT_LENGTH) is in
    let name = both_true (leb (length m.prefix) MAX_PREFIX_LENGTH) (has_no_zero m.prefix) both.0 in
    record { prefix = leb-true (length m.prefix) MAX_PREFIX_LENGTH name.0; plain = name.1; content = leb-true (length m.content) MAX_CONTENT_LENGTH both.1 }

pub told_length : (is_transactional : Bool) (position : ℕ) (m : Message) → length (spell_logical (told_of is_transactional position m)) ≡ 15 + (length m.prefix + length m.content)
told_length is_transactional position m =
    let named = string m.prefix in
    omega (
      arith,
      length-append (int64 position) (named ++ content m.content),
      length-int64 position,
      length-append named (content m.content),
      length-append m.prefix (0 ∷ []),
      length-append (int32 (length m.content)) m.content,
      length-int32 (length m.content),
    )

pub told_fits : (is_transactional : Bool) (position : ℕ) (m : Message) → position < 2 ^ 64 → is_utf8 m.prefix ≡ true → fits_log m ≡ true → FitsLogical (told_of is_transactional position m)
told_fits is_transactional position m lt text is = let s = short m is in (lt, ((no_zero m.prefix s.plain, text), omega (arith, s.content)))

pub told_short : (is_transactional : Bool) (position : ℕ) (m : Message) → fits_log m ≡ true → IsShortMessage (told_of is_transactional position m)
told_short is_transactional position m is = let s = short m is in omega (arith, told_length is_transactional position m, s.prefix, s.content)

-- there is room for it
pub told_room : (is_transactional : Bool) (position : ℕ) (m : Message) (out : List ℕ) → fits_log m ≡ true → HasRoomFor (7 + length m.prefix + length m.content) out
    → FitsRoom 0 out (spell_logical (told_of is_transactional position m))
told_room is_transactional position m out is room =
    let s = short m is in
    let size = told_length is_transactional position m in
    (has_room (7 + length m.prefix + length m.content) _ out (omega (arith, size, s.prefix, s.content)) (omega (arith, size)) room, room.1)

pub told_within : (is_transactional : Bool) (position : ℕ) (m : Message) → fits_log m ≡ true → length (spell_logical (told_of is_transactional position m)) ≤ MAX_MESSAGE_LENGTH
told_within is_transactional position m is = let s = short m is in omega (arith, told_length is_transactional position m, s.prefix, s.content)

record Logged (is_transactional : Bool) (position : ℕ) (m : Message) (told : Logical) : Type 0 where
  is : told_of is_transactional position m ≡ told
  fits : fits_log m ≡ true

logged_is : (is_transactional : Bool) (s : PublicationSet) (position : ℕ) (m : Message) (told : Logical) → logged_message is_transactional s position m ≡ Some told → Logged is_transactional position m told
logged_is is_transactional s position m told e = by_tests s.messages (fits_log m) refl e
  where
    by_tests : (messages fits : Bool) → fits_log m ≡ fits → cond (messages && fits) (Some (told_of is_transactional position m)) None ≡ Some told → Logged is_transactional position m told
    by_tests true true is e = record { is = cc; fits = is }
    by_tests true false is e = absurd cc
    by_tests false fits is e = absurd cc

pub change_fits : (s : PublicationSet) (position : ℕ) (c : Change) (m : Logical) → position < 2 ^ 64 → FitTables s → AreValues c → change_message s position c ≡ Some m → MessageFits s m
change_fits s position (changes.Message held) m lt all in_range e =
    let is = logged_is true s position held m e in
    let whole : MessageFits s (told_of true position held) = record { known = tt; of_change = refl; fits = told_fits true position held lt in_range is.fits; short = told_short true position held is.fits; relations = tt } in
    subst (λ (n : Logical). MessageFits s n) is.is whole
change_fits s position (changes.Insert oid row) m lt all in_range e = message_fits s (changes.Insert oid row) m all in_range e
change_fits s position (changes.Update oid old new) m lt all in_range e = message_fits s (changes.Update oid old new) m all in_range e
change_fits s position (changes.Delete oid old) m lt all in_range e = message_fits s (changes.Delete oid old) m all in_range e
change_fits s position (changes.Truncate oids) m lt all in_range e = message_fits s (changes.Truncate oids) m all in_range e

pub note_fits : (s : PublicationSet) (position : ℕ) (c : Change) (m : Logical) → position < 2 ^ 64 → AreValues c → note_message s position c ≡ Some m → IsNoteAt position m
note_fits s position (changes.Message held) m lt in_range e =
    let is = logged_is false s position held m e in
    subst (IsNoteAt position) is.is (record {
      message = record { is_transactional = false; position = position; prefix = held.prefix; content = held.content };
      is = refl;
      outside = refl;
      place = refl;
      fits = told_fits false position held lt in_range is.fits;
      short = told_short false position held is.fits;
    })
note_fits s position (changes.Insert oid row) m lt in_range e = absurd cc
note_fits s position (changes.Update oid old new) m lt in_range e = absurd cc
note_fits s position (changes.Delete oid old) m lt in_range e = absurd cc
note_fits s position (changes.Truncate oids) m lt in_range e = absurd cc
