use borrow.Rule.Slice.PartMut.{put_mid}
use Rattle.std.specs.Vec.{with_items}
use Rattle.std.proofs.lemmas.List.{length-drop, length-take-le, with_items_is}
use Rattle.std.proofs.Common.{◌≡◌, ◌+◌, ◌-◌, ◌++◌, ◌∙◌, List, ℕ, drop, length, take, refl, ap, arith}
use Rattle.walsender.specs.declared.held.outgoing.Outgoing.{Outgoing}
use Rattle.walsender.specs.declared.held.outgoing.TheConstants.{FRAMES_LENGTH}
use Rattle.walsender.specs.declared.commit_frames.making.TheConstants.{LEAST_ROOM}
use Rattle.walsender.specs.Waiting.{commit_bytes}
use Rattle.walsender.proofs.Frames.{ComesToFrames, first_over, mid_length, mid_taken, room_there}
use Rattle.walsender.proofs.held.outgoing.Outgoing.finish_first.Goals as goal

pub returns-in-Some-clause-same : goal.returns-in-Some-clause-same
returns-in-Some-clause-same c =
    let selection = c.args.selection.now in
    let s = c.args.reorder.now in
    let o = c.args.self.now in
    let w = c.in-Some.waiting in
    let is = c.in-Some.ensures.items in
    let over = c.requires.over w c.pop_front.new.self.items is in
    let out = c.put_commit_of.new.out in
    let count = c.put_commit_of.result in
    let told = c.put_commit_of.ensures in
    let room : length o.frames.items ≡ FRAMES_LENGTH = room_there selection s o LEAST_ROOM c.requires.good (omega arith) c.requires.room in
    let xs = c.deref_mut.result.now in
    let value : xs ≡ o.frames.items = c.deref_mut.ensures.value in
    let size : length xs ≡ length o.frames.items = ap (length {A = ℕ}) value in
    let long : length out ≡ (o.to + LEAST_ROOM) - o.to = told.same ∙ length-take-le ((o.to + LEAST_ROOM) - o.to) (drop o.to xs) (omega (arith, length-drop o.to xs, size)) in
    let mid = put_mid o.to ((o.to + LEAST_ROOM) - o.to) xs out in
    let taken : take (o.to + count) mid ≡ take o.to o.frames.items ++ take count out =
    mid_taken o.to ((o.to + LEAST_ROOM) - o.to) count xs out (omega (arith, size)) (omega (arith, long, told.length)) ∙ ap (λ (l : List ℕ). take o.to l ++ take count out) value in
    let same_size : length mid ≡ length o.frames.items = mid_length o.to ((o.to + LEAST_ROOM) - o.to) xs out (omega (arith, size)) long ∙ size in
    let items : (with_items o.frames mid).items ≡ mid = with_items_is o.frames mid (let ok = o.frames.ok in omega (arith, ok, same_size)) in
    let o' : Outgoing = record o { frames = with_items o.frames mid; to = o.to + count; waiting = c.pop_front.new.self } in
    let full : length o'.frames.items ≡ length o.frames.items = ap (length {A = ℕ}) items ∙ same_size in
    let bytes : take count out ≡ commit_bytes w.clock w.header = told.made in
    let comes : ComesToFrames o o' (commit_bytes w.clock w.header) = record {
      front = refl;
      from = refl;
      taken = ap (take (o.to + count)) items ∙ taken ∙ ap (λ (l : List ℕ). take o.to o.frames.items ++ l) bytes;
      low = omega arith;
      high = omega (arith, full, told.length);
      size = full;
    } in
    first_over selection s c.finish.new.self o o' w c.requires.good is over.0 over.1 room comes c.finish.ensures.exact refl refl refl
