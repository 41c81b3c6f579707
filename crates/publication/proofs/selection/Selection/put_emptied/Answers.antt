use Rattle.std.proofs.Common.{arith, sym, take}
use Rattle.std.proofs.lemmas.List.{length-take}
use Rattle.publication.proofs.Oids.{few_emptied, truncation_length}
use Rattle.publication.proofs.Room.{has_room}
use Rattle.publication.proofs.selection.Selection.put_emptied.Goals as goal

pub put_truncation-requires : goal.put_truncation-requires
put_truncation-requires c =
    let kept = take c.keep_published-count.result c.keep_published-count.new.kept in
    let few = few_emptied c.as_slice.result.now c.args.oids.now (sym c.if-not-may_be_emptied.ensures) in
    let size = truncation_length kept in
    let fewer = length-take c.keep_published-count.result c.keep_published-count.new.kept in (
      has_room 0 _ c.args.out.now (omega (arith, size, few, fewer, c.keep_published-count.ensures.within)) (omega (arith, size, few, fewer, c.keep_published-count.ensures.within)) c.requires,
      c.requires.1,
    )
