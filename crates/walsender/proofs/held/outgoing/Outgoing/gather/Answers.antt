use Rattle.std.proofs.Common.{◌≡◌, ◌≤◌, ◌++◌, [], drop, length, take, refl, sym, ap, ◌∙◌, arith}
use Rattle.std.proofs.lemmas.List.{drop-append-le, take-append-le}
use Rattle.walsender.specs.Outgoing.{frames_left, held_behind, held_of}
use Rattle.walsender.specs.declared.held.outgoing.Outgoing.{Outgoing}
use Rattle.walsender.proofs.Frames.{same_then}
use Rattle.walsender.proofs.Moving.{only_front}
use Rattle.walsender.proofs.Refusing.{not_ok}
use Rattle.walsender.proofs.held.outgoing.Outgoing.gather.Goals as goal

pub returns-in_err-gather_frames-clause-same : goal.returns-in_err-gather_frames-clause-same
returns-in_err-gather_frames-clause-same c =
    same_then c.args.selection.now c.args.reorder.now c.loop-self.reorder c.gather_frames.new.reorder c.args.self.now c.loop-self.self c.gather_frames.new.self c.loop-self.invariant c.gather_frames.ensures.same

pub returns-then-not-branch-clause-same : goal.returns-then-not-branch-clause-same
returns-then-not-branch-clause-same c =
    same_then c.args.selection.now c.args.reorder.now c.loop-self.reorder c.gather_frames.new.reorder c.args.self.now c.loop-self.self c.gather_frames.new.self c.loop-self.invariant c.gather_frames.ensures.same

pub loop-self-preserved : goal.loop-self-preserved
loop-self-preserved c =
    same_then c.args.selection.now c.args.reorder.now c.loop-self.reorder c.gather_frames.new.reorder c.args.self.now c.loop-self.self c.gather_frames.new.self c.loop-self.invariant c.gather_frames.ensures.same

pub loop-self-init : goal.loop-self-init
loop-self-init c =
    record { good = c.requires; held = refl; sent = refl; settled = refl; lent = ([], refl) }

pub gather_frames-requires : goal.gather_frames-requires
gather_frames-requires c =
    c.loop-self.invariant.good

pub returns-in_err-gather_frames-clause-gathered : goal.returns-in_err-gather_frames-clause-gathered
returns-in_err-gather_frames-clause-gathered c =
    not_ok c.from_residual.result _ c.from_residual.ensures.0

pub returns-in_err-gather_frames-clause-behind : goal.returns-in_err-gather_frames-clause-behind
returns-in_err-gather_frames-clause-behind c =
    not_ok c.from_residual.result _ c.from_residual.ensures.0

pub returns-then-not-branch-clause-gathered : goal.returns-then-not-branch-clause-gathered
returns-then-not-branch-clause-gathered c =
    let o = c.gather_frames.new.self in
    let s = c.gather_frames.new.reorder in
    let only : held_of c.args.selection.now s o ≡ o.front.items = rw c.if-not-branch.true at c.in_ok-gather_frames.ensures.more in
    let held = c.gather_frames.ensures.same.held ∙ c.loop-self.invariant.held in
    ap (take c.args.max) (sym only ∙ held)

pub returns-then-not-branch-clause-behind : goal.returns-then-not-branch-clause-behind
returns-then-not-branch-clause-behind c =
    let o = c.gather_frames.new.self in
    let s = c.gather_frames.new.reorder in
    let only : held_of c.args.selection.now s o ≡ o.front.items = rw c.if-not-branch.true at c.in_ok-gather_frames.ensures.more in
    let held = c.gather_frames.ensures.same.held ∙ c.loop-self.invariant.held in
    let o' : Outgoing = record o { front = record o.front { items = drop c.args.max o.front.items } } in
    only_front c.args.selection.now s o o' c.args.max only refl refl ∙ ap (drop c.args.max) held

pub returns-clause-same : goal.returns-clause-same
returns-clause-same c =
    c.loop-self.invariant

pub returns-clause-gathered : goal.returns-clause-gathered
returns-clause-gathered c =
    let o = c.loop-self.self in
    let rest = frames_left o ++ held_behind c.args.selection.now c.loop-self.reorder o in
    let low : c.args.max ≤ length o.front.items = omega (arith, c.len.ensures.value, c.loop-self-test.false) in
    sym (take-append-le c.args.max o.front.items rest low) ∙ ap (take c.args.max) c.loop-self.invariant.held

pub returns-clause-behind : goal.returns-clause-behind
returns-clause-behind c =
    let o = c.loop-self.self in
    let rest = frames_left o ++ held_behind c.args.selection.now c.loop-self.reorder o in
    let low : c.args.max ≤ length o.front.items = omega (arith, c.len.ensures.value, c.loop-self-test.false) in
    sym (drop-append-le c.args.max o.front.items rest low) ∙ ap (drop c.args.max) c.loop-self.invariant.held
