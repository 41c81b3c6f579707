use Rattle.std.proofs.Common.{◌≡◌, [], deque_len, sym, ap, ◌∙◌, arith}
use Rattle.std.proofs.lemmas.Bool.{eqb-true}
use Rattle.walsender.specs.declared.commit_frames.making.TheConstants.{LEAST_ROOM}
use Rattle.walsender.specs.declared.held.outgoing.Outgoing.{Outgoing}
use Rattle.walsender.proofs.Frames.{last_moved, room_there}
use Rattle.walsender.proofs.Emptied.{empty_is}
use Rattle.walsender.proofs.held.outgoing.Outgoing.make.Goals as goal

pub returns-clause-same : goal.returns-clause-same
returns-clause-same c =
    let selection = c.args.selection.now in
    let o = c.args.self.now in
    let rest = c.move_made.ensures.rest in
    let none : o.waiting.items ≡ [] = empty_is o.waiting.items (let ok = o.waiting.ok in omega (arith, ok, eqb-true (deque_len o.waiting) 0 (sym c.is_empty.ensures ∙ c.if-not-is_empty.false))) in
    last_moved selection c.args.reorder.now o c.move_made.new.self c.min-count.result c.requires.good
    (room_there selection c.args.reorder.now o LEAST_ROOM c.requires.good (omega arith) c.requires.room)
    (record {
      front = ap (λ (p : Outgoing). p.front.items) rest;
      from = ap (λ (p : Outgoing). p.from) rest;
      taken = c.move_made.ensures.frames;
      low = omega arith;
      high = omega arith;
      size = c.move_made.ensures.size;
    })
    none (ap (λ (p : Outgoing). p.waiting) rest) c.move_made.ensures.made (ap (λ (p : Outgoing). p.placed) rest) (ap (λ (p : Outgoing). p.relations_sent) rest)
