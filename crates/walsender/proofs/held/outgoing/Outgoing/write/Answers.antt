use Rattle.std.proofs.Common.{◌≡◌, ◌+◌, ◌<◌, ℕ, [], length, refl, ap, sym, subst, ◌∙◌, arith}
use Rattle.std.proofs.lemmas.List.{drop_all, length-drop}
use Rattle.walsender.specs.declared.held.outgoing.Outgoing.{Outgoing}
use Rattle.walsender.proofs.Moving.{frames_held, front_held, held_falls, written_front, written_more, written_same}
use Rattle.walsender.proofs.Noting.{on_err}
use Rattle.walsender.proofs.Refusing.{not_ok}
use Rattle.walsender.proofs.held.outgoing.Outgoing.write.Goals as goal

pub returns-in_err-written-clause-given : goal.returns-in_err-written-clause-given
returns-in_err-written-clause-given g c =
    let w =
    written_front c.args.selection.now c.args.reorder.now c.args.self.now (record c.args.self.now { front = c.advance.new.self }) (g.W.Write.contents c.args.out.now) (g.W.Write.contents c.write_front-taken.new.out) c.write_front-taken.result.0
    c.requires (rw c.as_slice.ensures at c.write_front-taken.ensures.within) (rw c.as_slice.ensures at c.write_front-taken.ensures.taken) c.advance.ensures.items refl in
    (w.count, w.low, w.moves, w.given)

pub loop-out-init : goal.loop-out-init
loop-out-init g c =
    let all = rw c.as_slice.ensures at (rw c.in_ok-written.was at c.write_front-taken.ensures.ok) in (
      written_front c.args.selection.now c.args.reorder.now c.args.self.now (record c.args.self.now { front = c.advance.new.self }) (g.W.Write.contents c.args.out.now) (g.W.Write.contents c.write_front-taken.new.out)
          c.write_front-taken.result.0 c.requires (rw c.as_slice.ensures at c.write_front-taken.ensures.within) (rw c.as_slice.ensures at c.write_front-taken.ensures.taken) c.advance.ensures.items refl,
      c.advance.ensures.items ∙ drop_all c.write_front-taken.result.0 c.args.self.now.front.items (omega (arith, all)),
    )

pub loop-out-preserved : goal.loop-out-preserved
loop-out-preserved g c =
    let none : c.fill_up.new.self.front.items ≡ [] = subst (λ f. f.items ≡ []) (sym c.fill_up.ensures.front) c.loop-out.invariant.1 in
    let taken = c.write_front-taken-in-loop-out.result.0 in
    let told = c.write_front-taken-in-loop-out.ensures in
    let w =
    written_same c.args.selection.now c.args.reorder.now c.loop-out.reorder c.fill_up.new.reorder c.args.self.now c.loop-out.self c.fill_up.new.self (g.W.Write.contents c.args.out.now) (g.W.Write.contents c.loop-out.out) c.loop-out.invariant.0
    c.fill_up.ensures.same in (
      written_more c.args.selection.now c.args.reorder.now c.fill_up.new.reorder c.args.self.now c.fill_up.new.self (record c.fill_up.new.self { from = c.fill_up.new.self.from + taken }) (g.W.Write.contents c.args.out.now)
          (g.W.Write.contents c.loop-out.out) (g.W.Write.contents c.write_front-taken-in-loop-out.new.out) taken w none (rw c.deref.ensures.value at told.within) (rw c.deref.ensures.value at told.taken) refl,
      none,
    )

pub returns-in_err-written-2-clause-given : goal.returns-in_err-written-2-clause-given
returns-in_err-written-2-clause-given g c =
    let none : c.fill_up.new.self.front.items ≡ [] = subst (λ f. f.items ≡ []) (sym c.fill_up.ensures.front) c.loop-out.invariant.1 in
    let taken = c.write_front-taken-in-loop-out.result.0 in
    let told = c.write_front-taken-in-loop-out.ensures in
    let before =
    written_same c.args.selection.now c.args.reorder.now c.loop-out.reorder c.fill_up.new.reorder c.args.self.now c.loop-out.self c.fill_up.new.self (g.W.Write.contents c.args.out.now) (g.W.Write.contents c.loop-out.out) c.loop-out.invariant.0
    c.fill_up.ensures.same in
    let w =
    written_more c.args.selection.now c.args.reorder.now c.fill_up.new.reorder c.args.self.now c.fill_up.new.self (record c.fill_up.new.self { from = c.fill_up.new.self.from + taken }) (g.W.Write.contents c.args.out.now)
    (g.W.Write.contents c.loop-out.out) (g.W.Write.contents c.write_front-taken-in-loop-out.new.out) taken before none (rw c.deref.ensures.value at told.within) (rw c.deref.ensures.value at told.taken) refl in
    (w.count, w.low, w.moves, w.given)

pub returns-clause-given : goal.returns-clause-given
returns-clause-given g c =
    let w =
    written_same c.args.selection.now c.args.reorder.now c.loop-out.reorder c.fill_up.new.reorder c.args.self.now c.loop-out.self c.fill_up.new.self (g.W.Write.contents c.args.out.now) (g.W.Write.contents c.loop-out.out) c.loop-out.invariant.0
    c.fill_up.ensures.same in
    (w.count, w.low, w.moves, w.given)

pub advance-requires : goal.advance-requires
advance-requires g c =
    rw c.as_slice.ensures at c.write_front-taken.ensures.within

pub returns-in_err-written-clause-ok : goal.returns-in_err-written-clause-ok
returns-in_err-written-clause-ok g c =
    not_ok c.from_residual.result _ c.from_residual.ensures.0

pub returns-in_err-written-clause-err : goal.returns-in_err-written-clause-err
returns-in_err-written-clause-err g c =
    let short : c.write_front-taken.result.0 < length c.args.self.now.front.items = rw c.as_slice.ensures at (rw c.in_err-written.was at c.write_front-taken.ensures.err) in
    let size = ap (length {A = ℕ}) c.advance.ensures.items in
    let some : 0 < length c.advance.new.self.items = omega (arith, short, size, length-drop c.write_front-taken.result.0 c.args.self.now.front.items) in
    on_err c.from_residual.result _ (front_held c.args.selection.now c.args.reorder.now (record c.args.self.now { front = c.advance.new.self }) some)

pub returns-in_err-written-2-clause-ok : goal.returns-in_err-written-2-clause-ok
returns-in_err-written-2-clause-ok g c =
    not_ok c.from_residual-in_err-written-2.result _ c.from_residual-in_err-written-2.ensures.0

pub returns-in_err-written-2-clause-err : goal.returns-in_err-written-2-clause-err
returns-in_err-written-2-clause-err g c =
    let short = rw c.deref.ensures.value at (rw c.in_err-written-2.was at c.write_front-taken-in-loop-out.ensures.err) in
    on_err c.from_residual-in_err-written-2.result _ (frames_held c.args.selection.now c.fill_up.new.reorder c.fill_up.new.self c.write_front-taken-in-loop-out.result.0 short)

pub loop-out-smaller : goal.loop-out-smaller
loop-out-smaller g c =
    let all = rw c.deref.ensures.value at (rw c.in_ok-written-2.was at c.write_front-taken-in-loop-out.ensures.ok) in
    held_falls c.args.selection.now c.loop-out.reorder c.fill_up.new.reorder c.loop-out.self c.fill_up.new.self c.write_front-taken-in-loop-out.result.0 c.fill_up.ensures.same c.loop-out-test.ensures.more all

pub returns-clause-ok : goal.returns-clause-ok
returns-clause-ok g c =
    c.loop-out-test.ensures.more ∙ ap (λ f. f.items) c.fill_up.ensures.front ∙ c.loop-out.invariant.1
