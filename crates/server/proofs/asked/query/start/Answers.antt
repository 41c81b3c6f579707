use Rattle.std.proofs.Common.{[], ◌∷◌, refl, inr}
use Rattle.std.proofs.lemmas.Result.{err_from_is_err_and}
use Rattle.server.specs.Calls.{StartStream}
use Rattle.server.specs.Said.{answer_to_start}
use Rattle.server.proofs.asked.query.start.Goals as goal

pub returns : goal.returns
returns g c =
    let told = rw c.as_str.ensures.value at c.start-answer.ensures in
    record {
      asked = StartStream c.args.slot.now c.args.position c.args.options.now c.start-answer.result ∷ [];
      text = answer_to_start c.args.slot.now c.args.options.now.publications c.start-answer.result;
      fact = (c.start-answer.result, refl, refl, c.has_begun-begun.ensures);
      asks = (c.start-answer.new.self, told, refl);
      says = rw (c.as_str-2.ensures.value, c.as_slice.ensures) at c.in_ok-say_started.ensures;
    }

pub returns-in_err-say_started : goal.returns-in_err-say_started
returns-in_err-say_started g c =
    let told = rw c.as_str.ensures.value at c.start-answer.ensures in
    let p = err_from_is_err_and c.from_residual.result c.from_residual.ensures.1 in
    rw p.1 (
      record {
        asked = StartStream c.args.slot.now c.args.position c.args.options.now c.start-answer.result ∷ [];
        fact = inr (c.has_begun-begun.result, answer_to_start c.args.slot.now c.args.options.now.publications c.start-answer.result, (c.start-answer.result, refl, refl, c.has_begun-begun.ensures));
        asks = (c.start-answer.new.self, told, refl);
      },
      c.in_err-say_started.ensures,
    )
