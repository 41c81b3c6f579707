-- A note comes after what is held.
use Rattle.std.proofs.Common.{◌≡◌, ℕ, ℤ, List, [], ◌∷◌, ◌++◌, Option, Some, None, Result, Ok, Err, take, refl, sym, ap, ◌∙◌}
use Rattle.std.specs.declared.alloc.AllocError.{AllocError}
use Rattle.pgoutput.specs.declared.logical.Logical.{Logical}
use Rattle.pgoutput.specs.Logical.{spell_logical}
use Rattle.frames.specs.Frame.{frame}
use Rattle.frames.specs.declared.copy_data.TheConstants.{COPY_DATA}
use Rattle.copyboth.specs.XLogData.{xlogdata}
use Rattle.tables.specs.declared.changes.change.Change.{Change}
use Rattle.publication.specs.Publications.{PublicationSet}
use Rattle.publication.specs.Logged.{IsNoteAt, note_message}
use Rattle.publication.specs.Selection.{relation}
use Rattle.row_messages.specs.Spelling.{IsPut}
use Rattle.reorder.specs.Taking.{ReorderState}
use Rattle.pgoutput.specs.Items.{Block, bytes_of_items, relations_sent_through, xlogdata_word}
use Rattle.walsender.specs.Published.{published_note}
use Rattle.walsender.specs.Outgoing.{AddsBytes, Grows, IsOutgoing, held_of, sent_of}
use Rattle.walsender.specs.declared.held.outgoing.Outgoing.{Outgoing}
use Rattle.walsender.proofs.Framing.{frames_one}
use Rattle.walsender.proofs.Growing.{bytes_added, sent_kept}
use Rattle.walsender.proofs.Noting.{by_message, told}

module _ (selection : PublicationSet) (s : ReorderState) (o o' : Outgoing) (clock : ℤ) where
  pub added_grows : (start end : ℕ) (m : Logical) (bytes : List ℕ) (result : Result (Unit {0}) AllocError) → IsOutgoing selection s o → bytes ≡ spell_logical m → IsNoteAt start m
      → AddsBytes (frame COPY_DATA (xlogdata end end clock bytes)) result o o' → Grows selection clock (told start end m ∷ []) result s s o o'
  added_grows start end m bytes (Ok u) good text at adds =
      let g = bytes_added selection s o o' (frame COPY_DATA (xlogdata end end clock bytes)) (Ok u) good adds in
      let whole : bytes_of_items (relation selection) (sent_of selection s o) (Block clock (told start end m) ∷ []) ≡ frame COPY_DATA (xlogdata end end clock bytes) =
      frames_one (xlogdata_word end clock m) ∙ ap (λ (l : List ℕ). frame COPY_DATA (xlogdata end end clock l)) (sym text) in
      let none : relations_sent_through (sent_of selection s o) (told start end m ∷ []) ≡ sent_of selection s o =
      ap (λ (n : Logical). relations_sent_through (sent_of selection s o) (told start end n ∷ [])) at.is in
      record {
        good = g.0;
        held = g.1 ∙ ap (λ (l : List ℕ). held_of selection s o ++ l) (sym whole);
        sent = sent_kept selection s o o' good adds.frames adds.rest ∙ sym none;
        err = tt;
      }
  added_grows start end m bytes (Err e) good text at adds =
      let g = bytes_added selection s o o' (frame COPY_DATA (xlogdata end end clock bytes)) (Err e) good adds in
      record { good = g.0; held = tt; sent = tt; err = g.2 }

  pub note_grows : (start end n : ℕ) (change : Change) (room : List ℕ) (result : Result (Unit {0}) AllocError) → IsOutgoing selection s o → IsPut (Some n) room (note_message selection start change)
      → ((m : Logical) → note_message selection start change ≡ Some m → IsNoteAt start m) → AddsBytes (frame COPY_DATA (xlogdata end end clock (take n room))) result o o'
      → Grows selection clock (published_note selection start end change) result s s o o'
  note_grows start end n change room result good put fits adds = by_option (note_message selection start change) put fits
    where
      by_option : (m : Option Logical) → IsPut (Some n) room m → ((l : Logical) → m ≡ Some l → IsNoteAt start l) → Grows selection clock (by_message start end m) result s s o o'
      by_option None put fits = absurd put
      by_option (Some m) put fits = added_grows start end m (take n room) result good put.1 (fits m refl) adds
