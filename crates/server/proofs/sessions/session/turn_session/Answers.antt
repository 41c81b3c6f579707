use Rattle.std.proofs.Common.{◌≡◌, sym, ap, ◌∙◌, inr}
use Rattle.std.proofs.lemmas.Result.{err_from_is_err_and}
use Rattle.server.specs.declared.stages.stage.Stage.TheVariants.{Idle}
use Rattle.server.specs.Extended.{is_extended}
use Rattle.server.specs.Turns.{Hears}
use Rattle.server.proofs.Passing.{all_of, front_kind_taken}
use Rattle.server.proofs.Turning.{front_turned, front_tried, quiet_turned, refused_takes}
use Rattle.server.proofs.sessions.session.turn_session.Goals as goal

pub returns-then-is_extended : goal.returns-then-is_extended
returns-then-is_extended g c = quiet_turned g.D.Backend.told c.args.service (Idle c.args.database) c.args.pending.now c.args.backend.now c.args.out.now.items c.turn_extended.new.out.items c.turn_extended.result (c.turn_extended.ensures.turned c.args.service) c.turn_extended.ensures.kept

pub returns-in_ok-stage-in-Ok-Some : goal.returns-in_ok-stage-in-Ok-Some
returns-in_ok-stage-in-Ok-Some g c =
    let found = rw c.in-Ok-Some.field-0-is at c.in-Ok-Some.ensures.found in
    let plain = front_kind_taken c.args.pending.now c.in-Ok-Some.count c.in-Ok-Some.front found.0 found.1 ∙ sym c.if-is_extended.ensures in
    front_turned g.D.Backend.told c.args.service (Idle c.args.database) (Hears c.args.service.dialect c.args.database) c.args.pending.now c.in-Ok-Some.count c.in-Ok-Some.front c.in_ok-stage-in-Ok-Some.stage ((c.answer_front-answered.new.backend ≡ c.args.backend.now) × (c.answer_front-answered.new.out.items ≡ c.args.out.now.items)) c.args.backend.now c.args.out.now.items c.answer_front-answered.new.backend c.answer_front-answered.new.out.items
    (λ t n text is. inr (ap is_extended text ∙ plain, is)) found.0 found.1 found.2 c.in_ok-stage-in-Ok-Some.ensures

pub returns-in-Err : goal.returns-in-Err
returns-in-Err g c =
    let plain = ap is_extended (all_of c.args.pending.now) ∙ sym c.if-is_extended.ensures in
    refused_takes g.D.Backend.told c.args.service (Idle c.args.database) (Hears c.args.service.dialect c.args.database) c.args.pending.now c.in-Err.fault c.args.backend.now c.args.out.now.items c.refuse.new.out.items c.refuse.result
    (λ t n text is. inr (ap is_extended text ∙ plain, is)) c.in-Err.ensures.exact c.refuse.ensures.readable c.refuse.ensures.closes c.refuse.ensures.says c.refuse.ensures.kept

pub returns-in_err-stage-in-Ok-Some : goal.returns-in_err-stage-in-Ok-Some
returns-in_err-stage-in-Ok-Some g c =
    let p = err_from_is_err_and c.from_residual.result c.from_residual.ensures.1 in
    let found = rw c.in-Ok-Some.field-0-is at c.in-Ok-Some.ensures.found in
    let plain = front_kind_taken c.args.pending.now c.in-Ok-Some.count c.in-Ok-Some.front found.0 found.1 ∙ sym c.if-is_extended.ensures in
    rw p.1 (
      front_tried g.D.Backend.told c.args.service (Idle c.args.database) (Hears c.args.service.dialect c.args.database) c.args.pending.now c.in-Ok-Some.count c.in-Ok-Some.front c.args.backend.now c.answer_front-answered.new.backend
          (λ t n text is. inr (ap is_extended text ∙ plain, is)) found.1 found.2 c.in_err-stage-in-Ok-Some.ensures.0,
      c.in_err-stage-in-Ok-Some.ensures.1,
    )
