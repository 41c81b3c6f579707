use Rattle.std.proofs.Common.{◌≡◌, ℕ, List, [], ◌∷◌, ◌++◌, length, None, Result, Ok, Err, subst, sym}
use Rattle.std.specs.Prelude.{IfOk}
use Rattle.std.specs.Str.{IsUtf8}
use Rattle.message_lines.specs.Ending.{end_of}
use Rattle.message_lines.specs.Fronts.{Tells}
use Rattle.follower.specs.Lines.{IsJsonLine, IsLineOf}
use Rattle.follower.specs.declared.printing.form.Form.{Form}
use Rattle.follower.specs.declared.printing.line.Line.{Line}
use Rattle.follower.proofs.printing.line.Line.of.Goals as goal

json_told : {E : Type 0} (text : List ℕ) (r : Result Line E) → IfOk r (λ (told : Line). told.length ≡ length text) → IfOk r (λ (told : Line). Tells text told.begins told.is_note told.is_change) →
    ((line : List ℕ) → IsUtf8 line → text ≡ line ++ 10 ∷ [] → IfOk r (λ (told : Line). told.end ≡ end_of line)) → (((line : List ℕ) → text ≡ line ++ 10 ∷ [] → ⊥) → IfOk r (λ (told : Line). told.end ≡ None)) → IfOk r (λ (told : Line). IsJsonLine text told)
json_told text (Ok told) long tells whole half = record { long = long; tells = tells; whole = whole; half = half }
json_told text (Err fault) long tells whole half = tt

pub returns-in-Json : goal.returns-in-Json
returns-in-Json c =
    let told = c.json_line.ensures in
    subst (λ (form : Form). IfOk c.json_line.result (λ (line : Line). IsLineOf form c.args.text.now line)) (sym c.in-Json.is)
    (json_told c.args.text.now c.json_line.result told.length told.begins told.whole told.half)
