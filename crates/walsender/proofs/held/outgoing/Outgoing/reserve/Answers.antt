use Rattle.std.proofs.Common.{◌≡◌, inr, sym, vec_len, arith}
use Rattle.std.proofs.lemmas.Bool.{eqb-true}
use Rattle.walsender.specs.declared.held.outgoing.TheConstants.{FRAMES_LENGTH}
use Rattle.walsender.proofs.held.outgoing.Outgoing.reserve.Goals as goal

pub returns-in_ok-self-clause-frames : goal.returns-in_ok-self-clause-frames
returns-in_ok-self-clause-frames c =
    let none : vec_len c.args.self.now.frames ≡ 0 = eqb-true (vec_len c.args.self.now.frames) 0 (sym c.if-is_empty.ensures) in
    let size : vec_len c.in_ok-self.field-0 ≡ FRAMES_LENGTH = c.in_ok-self.ensures.len in
    inr (omega arith, omega arith)
