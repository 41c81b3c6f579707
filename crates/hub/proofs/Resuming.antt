-- Where a stream begins that was granted.
use Rattle.std.proofs.Common.{◌≡◌, ℕ, List, ◌++◌, length, take, drop, refl, sym, ap, ◌∙◌, append_assoc}
use Rattle.std.proofs.lemmas.List.{take-append-drop, take_at}
use mathlib.Core.List.{IsPrefix}
use Rattle.wal.specs.declared.record.Record.{Record}
use Rattle.wal.specs.Log.{IsWellFormedLog}
use Rattle.wal.specs.Restart.{restart, restart_place}
use Rattle.walsender.specs.Serving.{BeginsAt}
use Rattle.walsender.proofs.Skipping.{resumed}

-- of every log that goes on from what its reader saw
pub begins_in : (seen log : List Record) (limit start first place : ℕ) → place ≡ restart_place start (take limit seen) → first ≡ restart start (take limit seen) → IsPrefix seen log → IsWellFormedLog log → BeginsAt log start first place
begins_in seen log limit start first place place_is first_is begins good =
    let known = take limit seen in
    let more = drop limit seen ++ begins.0 in
    let whole : known ++ more ≡ log = sym (append_assoc known (drop limit seen) begins.0) ∙ ap (λ l. l ++ begins.0) (take-append-drop limit seen) ∙ begins.1 in
    let same : take (length known) log ≡ known = ap (take (length known)) (sym whole) ∙ take_at known more (length known) refl in
    resumed log (length known) start first place (place_is ∙ ap (restart_place start) (sym same)) (first_is ∙ ap (restart start) (sym same)) good
