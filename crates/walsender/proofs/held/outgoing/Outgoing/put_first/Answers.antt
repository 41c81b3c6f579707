use borrow.Rule.Slice.PartMut.{put_mid}
use Rattle.std.specs.Vec.{with_items}
use Rattle.std.specs.VecDeque.{deque_with_item}
use Rattle.std.proofs.lemmas.List.{length-drop, length-take-le}
use Rattle.std.proofs.Common.{◌≡◌, ◌<◌, ◌≤◌, ◌+◌, ◌-◌, ◌∙◌, ℕ, List, drop, length, refl, sym, ap, subst, arith}
use Rattle.walsender.specs.declared.held.outgoing.Outgoing.{Outgoing}
use Rattle.walsender.specs.declared.commit_frames.making.TheConstants.{LEAST_ROOM}
use Rattle.walsender.specs.Outgoing.{HoldsSame, IsFilled}
use Rattle.walsender.specs.declared.held.committed_transaction.CommittedTransaction.{CommittedTransaction}
use Rattle.walsender.proofs.Frames.{first_is, room_there}
use Rattle.walsender.proofs.Placing.{IsPlaced, filled_in_place, made_in_place, same_first}
use Rattle.walsender.proofs.held.outgoing.Outgoing.put_first.Goals as goal

pub returns : goal.returns
returns c =
    let selection = c.args.selection.now in
    let s = c.args.reorder.now in
    let o = c.args.self.now in
    let w = c.in-Some.waiting.now in
    let w' = c.next_frame-count.new.waiting in
    let count = c.next_frame-count.result in
    let size = (o.to + c.min.result) - o.to in
    let out = c.next_frame-count.new.out in
    let f = first_is o.waiting.items w c.requires.waits c.in-Some.ensures.value in
    let told = c.next_frame-count.ensures in
    let xs = c.deref_mut.result.now in
    let value : xs ≡ o.frames.items = c.deref_mut.ensures.value in
    let bytes : length xs ≡ length o.frames.items = ap (length {A = ℕ}) value in
    let long : length out ≡ size = told.same ∙ length-take-le size (drop o.to xs) (omega (arith, length-drop o.to xs, bytes)) in
    let low : count ≤ size = omega (arith, told.within, long) in
    let room = room_there selection s o LEAST_ROOM c.requires.good (omega arith) c.requires.room in
    let before : w.before ≡ 0 = c.requires.first w f.0 f.1 in
    let o' : Outgoing = record o { frames = with_items o.frames (put_mid o.to size xs out); to = o.to + count; waiting = deque_with_item o.waiting 0 w'; relations_sent = c.next_frame-count.new.relations_sent } in
    let placed : IsPlaced o o' w' f.0 size count xs out = record { front = refl; from = refl; to = refl; frames = refl; waiting = f.2 w'; made = refl; placed = refl } in
    let fill : IsFilled o o' = filled_in_place selection s o o' w w' f.0 size count xs out c.requires.good before room value (omega arith) long low f.1 placed in
    record {
      same = made_in_place selection s o o' w w' f.0 size count xs out c.requires.good before room value (omega arith) long low f.1 placed told.waiting told.makes told.sent told.capacity;
      frames = fill;
      moved = refl;
      waits = subst (λ (l : List CommittedTransaction). 0 < length l) (sym (f.2 w')) (omega arith);
      first = λ x ys is. subst (λ (y : CommittedTransaction). y.before ≡ 0) (same_first w' x f.0 ys (sym (f.2 w') ∙ is)) (ap (λ (y : CommittedTransaction). y.before) told.waiting ∙ before);
      over = λ x ys is none fits. subst (λ (y : CommittedTransaction). length y.ready.places ≤ y.next) (same_first w' x f.0 ys (sym (f.2 w') ∙ is)) (told.over none (omega (arith, long, fill.size, fits, none)));
    }
