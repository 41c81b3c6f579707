use Rattle.std.proofs.Common.{◌≡◌, List, ℕ, Some, ap, sym, ◌∙◌, rules}
use Rattle.pqformat.proofs.Quoting.{found}
use Rattle.server.specs.Copies.{name_run}
use Rattle.server.proofs.CopyNames.{run_reads, run_text, two}
use Rattle.server.proofs.asked.copy_command.bare_of.Goals as goal

pub returns-in_ok-copy_of-in-Ok : goal.returns-in_ok-copy_of-in-Ok
returns-in_ok-copy_of-in-Ok c =
    let name = c.split_name.result.0.now in
    let rest = c.split_name.result.1.now in
    let run : name_run c.args.text.now ≡ two name rest = ap name_run c.split_name.ensures.whole ∙ run_reads name rest c.split_name.ensures.name c.split_name.ensures.end in
    let named : c.in_ok-copy_of-in-Ok.field-0 ≡ c.split_name.result.0.now = search rules in
    ap (λ (l : List ℕ). found l rest) named ∙ ap (λ (p : List ℕ × List ℕ). Some p) (sym run)

pub returns-in-Err : goal.returns-in-Err
returns-in-Err c = absurd (c.in-Err.ensures.cases.0 (run_text c.split_name.result.0.now c.split_name.ensures.name))
