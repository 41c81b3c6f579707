use Rattle.std.proofs.Common.{ℕ, List, Option, Some, None}
use Rattle.std.proofs.lemmas.Result.{err_from_is_err_and}
use Rattle.std.specs.Borrow.{Bor}
use Rattle.frames.specs.declared.back.Back.{Back}
use Rattle.frames.specs.Frame.{raw_at}
use Rattle.frames.specs.Back.{back_limit, back_at, back_needs_memory}
use Rattle.frames.proofs.Steps.{never_memory, waits_for_kind, fails_at_body, raw_found, waits_for_body, fails_whole, framed, is_kept, still_memory}
use Rattle.frames.proofs.back.back_of.Goals as goal

pub returns-in_default : goal.returns-in_default
returns-in_default c = record {
  exact = waits_for_kind back_limit back_at c.args.bytes.now (rw c.new-cursor.ensures at c.in_default.ensures.0);
  memory = λ h. absurd cc;
}

pub returns-in_err-body : goal.returns-in_err-body
returns-in_err-body c =
    let p = err_from_is_err_and c.from_residual.result c.from_residual.ensures.1 in
    rw (p.1, p.2) (record {
      exact = fails_at_body back_limit back_at c.limit_of.result c.args.bytes.now c.in-Some.kind c.u8.new.self c.in_err-body.field-0.0
          (rw c.new-cursor.ensures at c.in-Some.ensures) c.limit_of.ensures c.in_err-body.ensures.exact;
      memory = λ h. absurd (never_memory (Option (Bor (List ℕ) × ℕ)) (Option (Back × ℕ)) c.in_err-body.field-0.0 c.in_err-body.ensures.steady h);
    })

pub returns-in_default-2 : goal.returns-in_default-2
returns-in_default-2 c = record {
  exact = waits_for_body back_limit back_at c.args.bytes.now
      (raw_found back_limit c.limit_of.result c.args.bytes.now c.in-Some.kind c.u8.new.self None (rw c.new-cursor.ensures at c.in-Some.ensures) c.limit_of.ensures
      (rw c.in_default-2.is at c.in_ok-body.ensures.exact));
  memory = λ h. absurd cc;
}

pub returns-in_err-frame : goal.returns-in_err-frame
returns-in_err-frame c =
    let p = err_from_is_err_and c.from_residual-in_err-frame.result c.from_residual-in_err-frame.ensures.1 in
    let found = raw_found back_limit c.limit_of.result c.args.bytes.now c.in-Some.kind c.u8.new.self (Some (c.in-Some-2.body.now, c.in-Some-2.size))
    (rw c.new-cursor.ensures at c.in-Some.ensures) c.limit_of.ensures (rw c.in-Some-2.is at c.in_ok-body.ensures.exact) in
    rw (p.1, p.2) (record {
      exact = fails_whole back_limit back_at c.args.bytes.now c.in-Some.kind c.in-Some-2.body.now c.in-Some-2.size c.in_err-frame.field-0.0 found c.in_err-frame.ensures.exact;
      memory = λ h. is_kept back_needs_memory back_at (raw_at back_limit c.args.bytes.now) ((c.in-Some.kind, c.in-Some-2.body.now), c.in-Some-2.size) found
          (c.in_err-frame.ensures.memory (still_memory Back (Option (Back × ℕ)) c.in_err-frame.field-0.0 h));
    })

pub returns : goal.returns
returns c =
    let found = raw_found back_limit c.limit_of.result c.args.bytes.now c.in-Some.kind c.u8.new.self (Some (c.in-Some-2.body.now, c.in-Some-2.size))
    (rw c.new-cursor.ensures at c.in-Some.ensures) c.limit_of.ensures (rw c.in-Some-2.is at c.in_ok-body.ensures.exact) in
    record {
      exact = framed back_limit back_at c.args.bytes.now c.in-Some.kind c.in-Some-2.body.now c.in-Some-2.size c.in_ok-frame.frame found c.in_ok-frame.ensures.exact;
      memory = λ h. absurd cc;
    }
