-- Where a letter, a count or a text is at fault, no message has it, whatever follows.
use Rattle.std.proofs.Common.{◌≡◌, ◌≢◌, ℕ, List, [], ◌++◌, Ok, Err, refl, sym, ap, ◌∙◌, append_assoc}
use Rattle.std.proofs.lemmas.List.{append-nil}
use Rattle.pqformat.specs.Fields.{int16, int32, string}
use Rattle.pgoutput.specs.declared.fault.PgoutputError.{PgoutputError}
use Rattle.pgoutput.specs.declared.fault.PgoutputError.TheVariants.{Short, UnknownKind, BadMark, BadText, Trailing, Memory}
use Rattle.pgoutput.specs.declared.logical.Logical.{Logical}
use Rattle.pgoutput.specs.Logical.{FitsLogical, logical_at, spell_logical}
use Rattle.pgoutput.specs.Layout.{Field, spell_fields, IsAtFault, IsNoText, IsOther, StopsIn}
use Rattle.pgoutput.specs.Layout.Field.{Number, Letter, Count16, Count32, Name, Text, Bytes}
use Rattle.pgoutput.proofs.StoppedRows.{logical_stands}
use Rattle.pgoutput.proofs.Wires.{logical_codec}

still_other : (next : Field) (rest more : List ℕ) → IsOther next rest → IsOther next (rest ++ more)
still_other (Letter letters letter) rest more at = (at.0, at.1 ++ more, ap (λ (l : List ℕ). l ++ more) at.2, at.3)
still_other (Count16 count) rest more at = (at.0, at.1 ++ more, ap (λ (l : List ℕ). l ++ more) at.2 ∙ append_assoc (int16 at.0) at.1 more, at.3, at.4)
still_other (Count32 count) rest more at = (at.0, at.1 ++ more, ap (λ (l : List ℕ). l ++ more) at.2 ∙ append_assoc (int32 at.0) at.1 more, at.3, at.4)
still_other (Number bytes) rest more at = absurd at
still_other (Name name) rest more at = absurd at
still_other (Text text) rest more at = absurd at
still_other (Bytes bytes) rest more at = absurd at

still_no_text : (next : Field) (rest more : List ℕ) → IsNoText next rest → IsNoText next (rest ++ more)
still_no_text (Name name) rest more at = (at.0, at.1 ++ more, ap (λ (l : List ℕ). l ++ more) at.2 ∙ append_assoc (string at.0) at.1 more, at.3, at.4)
still_no_text (Text text) rest more at = (at.0, at.1 ++ more, ap (λ (l : List ℕ). l ++ more) at.2 ∙ append_assoc at.0 at.1 more, at.3, at.4)
still_no_text (Bytes bytes) rest more at = absurd at
still_no_text (Number bytes) rest more at = absurd at
still_no_text (Letter letters letter) rest more at = absurd at
still_no_text (Count16 count) rest more at = absurd at
still_no_text (Count32 count) rest more at = absurd at

-- What is at fault, but for what isn't there whole, stays so.
still_at_fault : (e : PgoutputError) (next : Field) (rest more : List ℕ) → e ≢ Short → IsAtFault e next rest → IsAtFault e next (rest ++ more)
still_at_fault Short next rest more whole at = absurd (whole refl)
still_at_fault BadMark next rest more whole at = still_other next rest more at
still_at_fault BadText next rest more whole at = still_no_text next rest more at
still_at_fault UnknownKind next rest more whole at = absurd at
still_at_fault Trailing next rest more whole at = absurd at
still_at_fault Memory next rest more whole at = absurd at

still_stops : (e : PgoutputError) (bytes more : List ℕ) → e ≢ Short → StopsIn e bytes → StopsIn e (bytes ++ more)
still_stops e bytes more whole s = record {
  value = s.value;
  in_range = s.in_range;
  before = s.before;
  next = s.next;
  after = s.after;
  rest = s.rest ++ more;
  parts = s.parts;
  text = ap (λ (l : List ℕ). l ++ more) s.text ∙ append_assoc (spell_fields s.before) s.rest more;
  at_fault = still_at_fault e s.next s.rest more whole s.at_fault;
}

not_both : (bytes : List ℕ) (m : Logical) (rest : List ℕ) (e : PgoutputError) → logical_at bytes ≡ Ok (m, rest) → logical_at bytes ≡ Err e → ⊥
not_both bytes m rest e read failed = cc

pub no_message_goes_on : (bytes more : List ℕ) (e : PgoutputError) (m : Logical) → e ≢ Short → StopsIn e bytes → FitsLogical m → spell_logical m ≡ bytes ++ more → ⊥
no_message_goes_on bytes more e m whole s fits spelled =
    let failed : logical_at (bytes ++ more) ≡ Err e = logical_stands (bytes ++ more) e (still_stops e bytes more whole s) in
    let read : logical_at (spell_logical m) ≡ Ok (m, []) = ap logical_at (sym (append-nil (spell_logical m))) ∙ logical_codec.again m [] fits in
    not_both (bytes ++ more) m [] e (ap logical_at (sym spelled) ∙ read) failed
