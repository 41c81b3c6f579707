use Rattle.std.proofs.Common.{[], refl, sym, subst}
use Rattle.std.proofs.lemmas.List.{append-nil}
use Rattle.frames.specs.declared.front.Front.{Front}
use Rattle.server.specs.declared.refusal.Refusal.TheVariants.{Violation}
use Rattle.server.specs.declared.stages.stage.Stage.TheVariants.{Stopping, Closed}
use Rattle.server.specs.Said.{error_of_refusal}
use Rattle.server.specs.Turns.{Streams}
use Rattle.server.proofs.Turning.{out_of_stream}
use Rattle.server.proofs.stages.streaming.answer_in_stream.Goals as goal

pub returns-in-CopyData : goal.returns-in-CopyData
returns-in-CopyData g c = rw c.in-CopyData.is (rw c.as_slice.ensures at c.answer_data.ensures)

pub returns-in-CopyDone : goal.returns-in-CopyDone
returns-in-CopyDone g c = record {
  asked = [];
  text = [];
  fact = subst (λ (f : Front). Streams c.args.database f [] [] (Stopping c.args.database)) (sym c.in-CopyDone.is) (refl, refl, refl);
  asks = refl;
  says = sym (append-nil c.args.out.now.items);
}

pub returns-in-Terminate : goal.returns-in-Terminate
returns-in-Terminate g c = record {
  asked = [];
  text = [];
  fact = subst (λ (f : Front). Streams c.args.database f [] [] Closed) (sym c.in-Terminate.is) (refl, refl, refl);
  asks = refl;
  says = sym (append-nil c.args.out.now.items);
}

pub returns-in_ok-say_refused-in-Query : goal.returns-in_ok-say_refused-in-Query
returns-in_ok-say_refused-in-Query g c = record {
  asked = [];
  text = error_of_refusal Violation;
  fact = out_of_stream c.args.database c.args.front.now c.in-Query.is;
  asks = refl;
  says = c.in_ok-say_refused-in-Query.ensures;
}
