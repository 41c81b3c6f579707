use Rattle.std.specs.Int.{w64}
use Rattle.std.proofs.lemmas.Int.{to_z-of_z}
use Rattle.walsender.proofs.Framing.{xlogdata_whole}
use Rattle.walsender.proofs.commit_frames.word.put_spelled.Goals as goal

pub returns : goal.returns
returns c =
    let written = rw (to_z-of_z w64 c.args.clock c.ranges.clock) at c.in_ok-write_xlogdata.ensures.ok in
    xlogdata_whole c.args.out.now.items c.put_head.new.out.items c.write_xlogdata.new.out.items c.args.message.now c.args.position c.args.clock c.in_ok-put_head.ensures written
