use Rattle.std.proofs.Common.{List, ℕ, subst, arith}
use Rattle.std.proofs.lemmas.Result.{err_from_is_err_and}
use Rattle.pqformat.specs.Putting.{Extends}
use Rattle.pqformat.proofs.Putting.{extends_back}
use Rattle.server.proofs.CopySteps.{gave_further, tried_further}
use Rattle.server.proofs.stages.copying.turn_copy.Goals as goal

pub returns-in_err-place-2-clause-says : goal.returns-in_err-place-2-clause-says
returns-in_err-place-2-clause-says g c =
    let p = err_from_is_err_and c.from_residual-in_err-place-2.result c.from_residual-in_err-place-2.ensures.1 in
    let so_far = c.loop-out.invariant.so_far in
    rw p.1 (
      tried_further g.D.Backend.told c.args.stage c.loop-out.place c.args.backend.now c.args.out.now.items c.loop-out.backend c.loop-out.out.items c.add_row-in-loop-out.new.backend so_far c.in_err-place-2.ensures.says.0,
      extends_back c.args.out.now.items so_far.text c.add_row-in-loop-out.new.out.items (subst (λ (l : List ℕ). Extends l c.add_row-in-loop-out.new.out.items) so_far.says c.in_err-place-2.ensures.says.1),
    )

pub loop-out-preserved : goal.loop-out-preserved
loop-out-preserved g c = record {
  so_far =
      gave_further g.D.Backend.told c.args.stage c.loop-out.place c.in_ok-place-2.place c.args.backend.now c.args.out.now.items c.loop-out.backend c.loop-out.out.items c.add_row-in-loop-out.new.backend c.add_row-in-loop-out.new.out.items
      c.loop-out.invariant.so_far c.in_ok-place-2.ensures.says;
  less = omega (arith, c.in_ok-place-2.ensures.less, c.loop-out.invariant.less);
}
