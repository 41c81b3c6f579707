use Rattle.std.specs.Int.{w64}
use Rattle.std.proofs.lemmas.Int.{to_z-of_z}
use Rattle.walsender.proofs.Framing.{keepalive_whole}
use Rattle.walsender.proofs.commit_frames.word.put_keepalive.Goals as goal

pub returns : goal.returns
returns c =
    let written = rw (to_z-of_z w64 c.args.clock c.ranges.clock) at c.in_ok-write_keepalive.ensures.ok in
    keepalive_whole c.args.out.now.items c.put_head.new.out.items c.write_keepalive.new.out.items c.args.position c.args.clock c.args.ask c.in_ok-put_head.ensures written
