use Rattle.std.proofs.Common.{[], ◌∷◌, refl, sym, inl, inr}
use Rattle.std.proofs.lemmas.List.{append-nil}
use Rattle.server.specs.declared.refusal.Refusal.TheVariants.{Violation}
use Rattle.server.specs.Calls.{Flushed}
use Rattle.server.specs.Said.{error_of_refusal}
use Rattle.server.proofs.stages.streaming.answer_data.Goals as goal

pub returns-in-Ok : goal.returns-in-Ok
returns-in-Ok g c = record {
  asked = Flushed c.in-Ok.status.flushed c.in-Ok.status.ask ∷ [];
  text = [];
  fact = inl (record { status = c.in-Ok.status; spells = c.in-Ok.ensures.found; once = refl; silent = refl }, refl);
  asks = c.tell.ensures;
  says = sym (append-nil c.args.out.now.items);
}

pub returns-in_ok-say_refused-in-Err : goal.returns-in_ok-say_refused-in-Err
returns-in_ok-say_refused-in-Err g c = record {
  asked = [];
  text = error_of_refusal Violation;
  fact = inr (c.in-Err.field-0, c.in-Err.ensures.fault, (refl, refl, refl));
  asks = refl;
  says = c.in_ok-say_refused-in-Err.ensures;
}
