-- What a line of an output tells, in either form.
use Rattle.std.specs.Prelude.{◌≡◌, ℕ, ℤ, ◌<◌, ◌^◌, List, [], ◌∷◌, ◌++◌, length, Some, None, IfSome, FitsSigned}
use Rattle.std.specs.Int.{w64}
use Rattle.std.specs.Str.{IsUtf8}
use Rattle.message_lines.specs.Ending.{end_of}
use Rattle.message_lines.specs.Fronts.{Tells}
use Rattle.message_lines.specs.Texts.{commit_text}
use Rattle.follower.specs.TextLines.{TellsEnd, text_begins, text_is_change, text_is_note}
use Rattle.follower.specs.declared.printing.form.Form.{Form}
use Rattle.follower.specs.declared.printing.form.Form.TheVariants.{Text, Json}
use Rattle.follower.specs.declared.printing.line.Line.{Line}

-- Of text: what it ends stands in it, whole; and of what is printed of a Commit it ends that.
pub record IsTextLine (text : List ℕ) (line : Line) : Type 0 where
  pub long : line.length ≡ length text
  pub begins : line.begins ≡ text_begins text
  pub note : line.is_note ≡ text_is_note text
  pub change : line.is_change ≡ text_is_change text
  pub ends : IfSome line.end (λ end. TellsEnd text end)
  pub commit : (start end : ℕ) (time : ℤ) → start < 2 ^ 64 → end < 2 ^ 64 → FitsSigned w64 time → IsUtf8 (commit_text start end time) → text ≡ commit_text start end time ++ 10 ∷ [] → line.end ≡ Some end

-- Of JSON: of a whole line what a reader of JSON finds in it; what isn't whole ends nothing.
pub record IsJsonLine (text : List ℕ) (line : Line) : Type 0 where
  pub long : line.length ≡ length text
  pub tells : Tells text line.begins line.is_note line.is_change
  pub whole : (inner : List ℕ) → IsUtf8 inner → text ≡ inner ++ 10 ∷ [] → line.end ≡ end_of inner
  pub half : ((inner : List ℕ) → text ≡ inner ++ 10 ∷ [] → ⊥) → line.end ≡ None

abbrev pub IsLineOf : Form → List ℕ → Line → Type 0
IsLineOf Text text line = IsTextLine text line
IsLineOf Json text line = IsJsonLine text line
