-- What a printed line counts as: a Commit ends its transaction, and a note is one by itself, as the next run finds them in the output.
use Rattle.std.specs.Prelude.{ℕ, Bool, true, false, Option, Some, None}
use Rattle.message_lines.specs.Ending.{behind}
use Rattle.follower.specs.declared.printing.line.Line.{Line}
use Rattle.follower.specs.declared.printing.line_kind.LineKind.{LineKind}
use Rattle.follower.specs.declared.printing.line_kind.LineKind.TheVariants.{Begin, Change, Message, Note, Commit}

abbrev pub told_begins : LineKind → Bool
told_begins Begin = true
told_begins Change = false
told_begins Message = false
told_begins (Note start) = true
told_begins (Commit end) = false

abbrev pub told_is_note : LineKind → Bool
told_is_note Begin = false
told_is_note Change = false
told_is_note Message = false
told_is_note (Note start) = true
told_is_note (Commit end) = false

abbrev pub told_is_change : LineKind → Bool
told_is_change Begin = false
told_is_change Change = true
told_is_change Message = false
told_is_change (Note start) = false
told_is_change (Commit end) = false

abbrev pub told_end : LineKind → Option ℕ
told_end Begin = None
told_end Change = None
told_end Message = None
told_end (Note start) = behind start
told_end (Commit end) = Some end

abbrev pub told_line : LineKind → ℕ → Line
told_line told length = record { length = length; begins = told_begins told; is_note = told_is_note told; is_change = told_is_change told; end = told_end told }
