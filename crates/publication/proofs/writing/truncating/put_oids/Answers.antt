use Rattle.std.proofs.Common.{take, get_or, refl, sym, subst, arith}
use Rattle.std.specs.List.{flat_map}
use Rattle.pqformat.specs.Fields.{int32}
use Rattle.pqformat.proofs.Numbers.{length-int32}
use Rattle.pqformat.specs.Writing.{Writes}
use Rattle.publication.proofs.Oids.{one_more}
use Rattle.pqformat.proofs.Writing.{then}
use Rattle.publication.proofs.writing.truncating.put_oids.Goals as goal

pub loop-i-preserved : goal.loop-i-preserved
loop-i-preserved c =
    let both = then c.args.at c.loop-i.end c.write_int32-end.result c.args.out.now c.loop-i.out c.write_int32-end.new.out (flat_map int32 (take c.loop-i.i c.args.oids.now)) (int32 (get_or c.args.oids.now c.loop-i.i 0)) c.loop-i.invariant.written c.write_int32-end.ensures in
    record {
      written = subst (λ l. Writes c.args.at c.write_int32-end.result c.args.out.now c.write_int32-end.new.out l) (sym (one_more c.args.oids.now c.loop-i.i (get_or c.args.oids.now c.loop-i.i 0) c.loop-i-test.true refl)) both;
      ends = omega (arith, c.write_int32-end.ensures.ends, length-int32 (get_or c.args.oids.now c.loop-i.i 0), c.loop-i.invariant.ends);
    }
