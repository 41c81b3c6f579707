use Rattle.std.proofs.Common.{◌≡◌, ◌+◌, ◌<◌, ◌≤◌, ◌∷◌, ◌∙◌, ◌⊎◌, ℕ, List, true, false, ap, arith, length, nat_lt, subst, sym, ⊎_elim}
use Rattle.std.proofs.lemmas.Bool.{cases_lt}
use Rattle.std.proofs.lemmas.Bool.Decides.{nat_tests}
use Rattle.walsender.specs.declared.commit_frames.making.TheConstants.{MAX_FRAME_LENGTH}
use Rattle.walsender.specs.declared.held.outgoing.Outgoing.{Outgoing}
use Rattle.walsender.specs.declared.held.committed_transaction.CommittedTransaction.{CommittedTransaction}
use Rattle.walsender.specs.Waiting.{AreWithin, places}
use Rattle.walsender.proofs.Frames.{filled_both, first_moved, first_of, same_then}
use Rattle.walsender.proofs.held.outgoing.Outgoing.make_first.Goals as goal

pub pass_before_first-requires-clause-there : goal.pass_before_first-requires-clause-there
pass_before_first-requires-clause-there c w ws is = omega (arith, c.bytes_before_first-before.ensures w ws is, c.min-count.ensures)

pub pass_before_first-requires-clause-placed : goal.pass_before_first-requires-clause-placed
pass_before_first-requires-clause-placed c =
    let f = first_of c.args.self.now.waiting.items c.requires.waits in
    omega (arith, c.bytes_before_first-before.ensures f.0 f.1 f.2, c.min-count.ensures, ap places f.2, c.requires.good.placed)

pub move_made-requires-clause-enough : goal.move_made-requires-clause-enough
move_made-requires-clause-enough c =
    let o = c.args.self.now in
    let f = first_of o.waiting.items c.requires.waits in
    let within : AreWithin (length o.made.items) (f.0 ∷ f.1) = subst (AreWithin (length o.made.items)) f.2 c.requires.good.within in
    let made : c.pass_before_first.new.self.made.items ≡ o.made.items = ap (λ (p : Outgoing). p.made.items) c.pass_before_first.ensures.rest in
    omega (arith, within.0, ap (length {A = ℕ}) made, c.bytes_before_first-before.ensures f.0 f.1 f.2, c.min-count.ensures)

pub returns-then-before-gt0-clause-same : goal.returns-then-before-gt0-clause-same
returns-then-before-gt0-clause-same c =
    let o = c.args.self.now in
    let count = c.min-count.result in
    let f = first_of o.waiting.items c.requires.waits in
    let passed = c.pass_before_first.ensures.rest in
    let rest = c.move_made.ensures.rest in
    first_moved c.args.selection.now c.args.reorder.now o c.move_made.new.self f.0 f.1 count c.requires.good (omega arith) (omega (arith, c.bytes_before_first-before.ensures f.0 f.1 f.2, c.min-count.ensures)) (omega (arith, c.min-count.ensures))
    (record {
      front = ap (λ (p : Outgoing). p.front.items) rest ∙ ap (λ (p : Outgoing). p.front.items) passed;
      from = ap (λ (p : Outgoing). p.from) rest ∙ ap (λ (p : Outgoing). p.from) passed;
      taken = rw passed at c.move_made.ensures.frames;
      low = omega (arith, c.move_made.ensures.to, ap (λ (p : Outgoing). p.to) passed);
      high = omega (arith, c.move_made.ensures.to, c.min-count.ensures, c.requires.room, ap (λ (p : Outgoing). p.to) passed, c.move_made.ensures.size, ap (λ (p : Outgoing). length p.frames.items) passed);
      size = c.move_made.ensures.size ∙ ap (λ (p : Outgoing). length p.frames.items) passed;
    })
    f.2 (ap (λ (p : Outgoing). p.waiting.items) rest ∙ c.pass_before_first.ensures.waiting f.0 f.1 f.2) (rw passed at c.move_made.ensures.made) (ap (λ (p : Outgoing). p.placed) rest ∙ ap (λ (p : Outgoing). p.placed) passed)
    (ap (λ (p : Outgoing). p.relations_sent) rest ∙ ap (λ (p : Outgoing). p.relations_sent) passed)

pub returns-then-before-gt0-clause-frames : goal.returns-then-before-gt0-clause-frames
returns-then-before-gt0-clause-frames c =
    let passed = c.pass_before_first.ensures.rest in
    let rest = c.move_made.ensures.rest in
    record {
      front = ap (λ (p : Outgoing). p.front) rest ∙ ap (λ (p : Outgoing). p.front) passed;
      from = ap (λ (p : Outgoing). p.from) rest ∙ ap (λ (p : Outgoing). p.from) passed;
      low = omega (arith, c.move_made.ensures.to, ap (λ (p : Outgoing). p.to) passed);
      high = omega (arith, c.move_made.ensures.to, c.min-count.ensures, c.requires.room, ap (λ (p : Outgoing). p.to) passed, c.move_made.ensures.size, ap (λ (p : Outgoing). length p.frames.items) passed);
      size = c.move_made.ensures.size ∙ ap (λ (p : Outgoing). length p.frames.items) passed;
    }

pub returns-clause-same : goal.returns-clause-same
returns-clause-same c =
    same_then c.args.selection.now c.args.reorder.now c.args.reorder.now c.finish_first.new.reorder c.args.self.now c.put_first.new.self c.finish_first.new.self c.put_first.ensures.same c.finish_first.ensures.same

pub returns-clause-frames : goal.returns-clause-frames
returns-clause-frames c = filled_both c.args.self.now c.put_first.new.self c.finish_first.new.self c.put_first.ensures.frames c.finish_first.ensures.frames

pub returns-then-has_changes_left-clause-more : goal.returns-then-has_changes_left-clause-more
returns-then-has_changes_left-clause-more c =
    let o = c.put_first.new.self in
    let f = first_of o.waiting.items c.put_first.ensures.waits in
    let left : nat_lt f.0.next (length f.0.ready.places) ≡ true = sym (c.has_changes_left.ensures f.0 f.1 f.2) ∙ c.if-has_changes_left.true in
    let some : f.0.next < length f.0.ready.places = grind (arith, nat_tests, left) in
    let none : c.put_first.result ≡ 0 = omega arith in (
      omega (arith, c.put_first.ensures.moved, none),
      ⊎_elim (λ (lacks : length o.frames.items < o.to + MAX_FRAME_LENGTH). omega (arith, lacks, c.put_first.ensures.moved, none, c.put_first.ensures.frames.size))
          (λ (fits : o.to + MAX_FRAME_LENGTH ≤ length o.frames.items). absurd (omega (arith, some, c.put_first.ensures.over f.0 f.1 f.2 none fits))) (cases_lt (length o.frames.items) (o.to + MAX_FRAME_LENGTH)),
    )

pub finish_first-requires-clause-over : goal.finish_first-requires-clause-over
finish_first-requires-clause-over c w ws is =
    let none : nat_lt w.next (length w.ready.places) ≡ false = sym (c.has_changes_left.ensures w ws is) ∙ c.if-has_changes_left.false in
    (c.put_first.ensures.first w ws is, grind (arith, nat_tests, none))
