-- What a note publishes fits a stream.
use Rattle.std.proofs.Common.{◌≡◌, ℕ, ◌<◌, ◌^◌, List, [], ◌∷◌, ◌++◌, Option, Some, None, Result, Ok, Err, filter, refl, ap, subst, arith}
use Rattle.std.specs.Prelude.{pos, true, OnErr, OnOk}
use Rattle.std.specs.List.{AllByRecursion}
use Rattle.pgoutput.specs.declared.logical.Logical.{Logical}
use Rattle.pgoutput.specs.Logical.{FitsLogical}
use Rattle.tables.specs.declared.changes.change.Change.{Change}
use Rattle.publication.specs.Publications.{PublicationSet}
use Rattle.publication.specs.Logged.{IsNoteAt, note_message}
use Rattle.publication.specs.Selection.{relation}
use Rattle.pgoutput.specs.declared.published.Published.{Published}
use Rattle.pgoutput.specs.Items.{FitsPublished, IsShortMessage}
use Rattle.walsender.specs.Published.{has_message, published_at, published_note}

-- the note with this message
abbrev pub told : (start end : ℕ) → Logical → Published
told start end m = record { is_note = true; start = start; end = end; time = pos 0; xid = 0; changes = record { position = start; message = m } ∷ [] }

-- what a note publishes whose message this is
abbrev pub by_message : (start end : ℕ) → Option Logical → List Published
by_message start end o = filter has_message (record { is_note = true; start = start; end = end; time = pos 0; xid = 0; changes = published_at start o ++ [] } ∷ [])

told_fits : (selection : PublicationSet) (start end : ℕ) (m : Logical) → start < 2 ^ 64 → end < 2 ^ 64 → IsNoteAt start m → FitsPublished (relation selection) (told start end m)
told_fits selection start end m low_start low_end at = record {
  start = low_start;
  end = low_end;
  time = record { sfits = omega arith };
  xid = omega arith;
  changes = record {
    time = refl;
    xid = refl;
    message = at.message;
    is = ap (λ (n : Logical). record { position = start; message = n } ∷ []) at.is;
    outside = at.outside;
    position = at.place;
    fits = subst FitsLogical at.is at.fits;
    short = subst IsShortMessage at.is at.short;
  };
}

pub note_fits : (selection : PublicationSet) (start end : ℕ) (change : Change) → start < 2 ^ 64 → end < 2 ^ 64 → ((m : Logical) → note_message selection start change ≡ Some m → IsNoteAt start m)
    → AllByRecursion (FitsPublished (relation selection)) (published_note selection start end change)
note_fits selection start end change low_start low_end fits = by_option (note_message selection start change) fits
  where
    by_option : (o : Option Logical) → ((m : Logical) → o ≡ Some m → IsNoteAt start m) → AllByRecursion (FitsPublished (relation selection)) (by_message start end o)
    by_option None fits = tt
    by_option (Some m) fits = (told_fits selection start end m low_start low_end (fits m refl), tt)

pub on_ok : {A E : Type 0} (r : Result A E) (P : Type 0) → P → OnOk r P
on_ok (Ok x) P p = p
on_ok (Err e) P p = tt

pub on_err : {A E : Type 0} (r : Result A E) (P : Type 0) → P → OnErr r P
on_err (Ok x) P p = tt
on_err (Err e) P p = p
