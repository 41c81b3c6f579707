use Rattle.std.proofs.Common.{ap, sym, ◌∙◌}
use Rattle.replcmd.specs.Words.{is_slot_name}
use Rattle.server.proofs.Slots.{not_slot_name}
use Rattle.server.proofs.asked.question.bare_of.Goals.{in_default-via-in-Ok+else-is_slot_name, in_default-via-in_default}
use Rattle.server.proofs.asked.question.bare_of.Goals as goal

pub returns-in_default : goal.returns-in_default
returns-in_default c =
    elim c.in_default.branch [
      | in_default-via-in-Ok+else-is_slot_name w ↦ ap is_slot_name (sym w.in-Ok.ensures.cases.0) ∙ sym w.is_slot_name.ensures ∙ w.if-is_slot_name.false
      | in_default-via-in_default w ↦ not_slot_name c.args.named.now w.in_default.ensures.cases.0
    ]
