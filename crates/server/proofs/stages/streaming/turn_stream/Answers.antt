use Rattle.std.proofs.Common.{◌≡◌}
use Rattle.std.proofs.lemmas.Result.{err_from_is_err_and}
use Rattle.server.specs.declared.stages.stage.Stage.TheVariants.{Streaming}
use Rattle.server.specs.Turns.{Streams}
use Rattle.server.proofs.Turning.{front_turned, front_tried, refused_takes}
use Rattle.server.proofs.stages.streaming.turn_stream.Goals as goal

pub returns-in_ok-stage-in-Ok-Some : goal.returns-in_ok-stage-in-Ok-Some
returns-in_ok-stage-in-Ok-Some g c service =
    let found = rw c.in-Ok-Some.field-0-is at c.in-Ok-Some.ensures.found in
    front_turned g.D.Backend.told service (Streaming c.args.database) (Streams c.args.database) c.args.pending.now c.in-Ok-Some.count c.in-Ok-Some.front c.in_ok-stage-in-Ok-Some.stage ((c.answer_in_stream-answered.new.backend ≡ c.args.backend.now) × (c.answer_in_stream-answered.new.out.items ≡ c.args.out.now.items)) c.args.backend.now c.args.out.now.items c.answer_in_stream-answered.new.backend c.answer_in_stream-answered.new.out.items
    (λ t n text is. is) found.0 found.1 found.2 c.in_ok-stage-in-Ok-Some.ensures

pub returns-in-Err : goal.returns-in-Err
returns-in-Err g c service =
    refused_takes g.D.Backend.told service (Streaming c.args.database) (Streams c.args.database) c.args.pending.now c.in-Err.fault c.args.backend.now c.args.out.now.items c.refuse.new.out.items c.refuse.result
    (λ t n text is. is) c.in-Err.ensures.exact c.refuse.ensures.readable c.refuse.ensures.closes c.refuse.ensures.says c.refuse.ensures.kept

pub returns-in_err-stage-in-Ok-Some : goal.returns-in_err-stage-in-Ok-Some
returns-in_err-stage-in-Ok-Some g c service =
    let p = err_from_is_err_and c.from_residual.result c.from_residual.ensures.1 in
    let found = rw c.in-Ok-Some.field-0-is at c.in-Ok-Some.ensures.found in
    rw p.1 (
      front_tried g.D.Backend.told service (Streaming c.args.database) (Streams c.args.database) c.args.pending.now c.in-Ok-Some.count c.in-Ok-Some.front c.args.backend.now c.answer_in_stream-answered.new.backend
          (λ t n text is. is) found.1 found.2 c.in_err-stage-in-Ok-Some.ensures.0,
      c.in_err-stage-in-Ok-Some.ensures.1,
    )
