use Rattle.std.proofs.Common.{[], refl, sym, subst}
use Rattle.std.proofs.lemmas.List.{append-nil}
use Rattle.frames.specs.declared.front.Front.{Front}
use Rattle.server.specs.declared.refusal.Refusal.TheVariants.{Violation}
use Rattle.server.specs.declared.stages.stage.Stage.TheVariants.{Closed}
use Rattle.server.specs.Said.{error_of_refusal}
use Rattle.server.specs.Turns.{HearsInBlock}
use Rattle.server.proofs.Blocks.{out_of_block}
use Rattle.server.proofs.sessions.in_block.answer_front.Goals as goal

pub returns-in-Query : goal.returns-in-Query
returns-in-Query g c = rw c.in-Query.is (rw c.as_str.ensures.value at c.answer_in_block.ensures)

pub returns-in-Terminate : goal.returns-in-Terminate
returns-in-Terminate g c = record {
  asked = [];
  text = [];
  fact = subst (λ (f : Front). HearsInBlock c.args.block f [] [] Closed) (sym c.in-Terminate.is) (refl, refl, refl);
  asks = refl;
  says = sym (append-nil c.args.out.now.items);
}

pub returns-in_ok-say_refused-in-CopyData : goal.returns-in_ok-say_refused-in-CopyData
returns-in_ok-say_refused-in-CopyData g c = record {
  asked = [];
  text = error_of_refusal Violation;
  fact = out_of_block c.args.block c.args.front.now c.in-CopyData.is;
  asks = refl;
  says = c.in_ok-say_refused-in-CopyData.ensures;
}
