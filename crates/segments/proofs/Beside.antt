-- Entries that tell records, among others.
use Rattle.std.proofs.Common.{◌≡◌, ℕ, true, false, List, [], ◌∷◌, ◌++◌, refl, sym, ap, ◌∙◌}
use Rattle.std.specs.Prelude.{not}
use Rattle.std.proofs.lemmas.List.{append-nil}
use Rattle.std.proofs.lemmas.List.Elements.{filter-append}
use mathlib.Core.List.{IsPrefix}
use Rattle.wal.specs.declared.record.Body.{Body}
use Rattle.wal.specs.declared.record.Body.TheVariants.{Assign, Change as Changed, AbortSub, Abort, Commit, Note}
use Rattle.segments.specs.Entries.{Written}
use Rattle.segments.specs.Kinds.{is_beside, records_in}
use Rattle.segments.specs.Records.{SpellsRecord, spell_record}

told_no_beside : (b : Body) → is_beside (spell_record b) ≡ false
told_no_beside (Assign sub parent) = refl
told_no_beside (Changed xid change) = refl
told_no_beside (AbortSub xid) = refl
told_no_beside (Abort xid) = refl
told_no_beside (Commit xid time) = refl
told_no_beside (Note change) = refl

pub spelled_no_beside : (bytes : List ℕ) (b : Body) → SpellsRecord bytes b → is_beside bytes ≡ false
spelled_no_beside bytes b spells = ap is_beside spells.text ∙ told_no_beside b

pub records_append : (es fs : List Written) → records_in (es ++ fs) ≡ records_in es ++ records_in fs
records_append es fs = filter-append (λ (e : Written). not (is_beside e.body)) es fs

pub record_last : (es : List Written) (e : Written) → is_beside e.body ≡ false → records_in (es ++ e ∷ []) ≡ records_in es ++ e ∷ []
record_last es e is = records_append es (e ∷ []) ∙ ap (λ (l : List Written). records_in es ++ l) (rw (is) refl)

pub beside_last : (es : List Written) (e : Written) → is_beside e.body ≡ true → records_in (es ++ e ∷ []) ≡ records_in es
beside_last es e is = records_append es (e ∷ []) ∙ ap (λ (l : List Written). records_in es ++ l) (rw (is) refl) ∙ append-nil (records_in es)

pub records_begin : (es fs : List Written) → IsPrefix es fs → IsPrefix (records_in es) (records_in fs)
records_begin es fs front = (records_in front.0, sym (records_append es front.0) ∙ ap records_in front.1)
