use Rattle.std.proofs.Common.{◌≤◌, ◌+◌, ◌++◌, length, refl, ap, ◌∙◌, arith}
use Rattle.std.specs.Int.{w64}
use Rattle.std.proofs.lemmas.Int.{to_z-of_z}
use Rattle.walsender.specs.Spelled.{commit_with}
use Rattle.walsender.specs.Waiting.{frame_head}
use Rattle.walsender.proofs.Framed.{frame_made}
use Rattle.walsender.proofs.Framing.{commit_length}
use Rattle.walsender.proofs.commit_frames.bounds.put_commit.Goals as goal

pub write_commit-length-requires : goal.write_commit-length-requires
write_commit-length-requires c =
    let split = c.split_at_mut-head.ensures in
    (omega (arith, commit_length c.args.header.now, split.back_len, c.requires.room), omega (arith, split.back_len, c.requires.short))

pub put_head-requires-clause-short : goal.put_head-requires-clause-short
put_head-requires-clause-short c = let put = c.write_commit-length.ensures in omega (arith, put.ends, commit_length c.args.header.now)

pub returns-clause-length : goal.returns-clause-length
returns-clause-length c = let put = c.write_commit-length.ensures in omega (arith, put.ends, commit_length c.args.header.now)

pub returns-clause-made : goal.returns-clause-made
returns-clause-made c =
    let h = c.args.header.now in
    let put = c.write_commit-length.ensures in
    let room = c.write_commit-length.new.room in
    let size = c.write_commit-length.result in
    let head = c.put_head.ensures ∙ ap (λ k. frame_head h.end k size) (to_z-of_z w64 c.args.clock c.ranges.clock) in
    let within : size ≤ length room = omega (arith, put.ends, put.same, commit_length h, c.split_at_mut-head.ensures.back_len, c.requires.room) in
    frame_made c.put_head.new.head room (c.put_head.new.head ++ room) (30 + size) size h.end c.args.clock (commit_with h) refl head within refl put.front
