use Rattle.std.proofs.Common.{◌∷◌, [], ap, arith, subst}
use Rattle.std.specs.Int.{w64, cast_unsigned}
use Rattle.pgoutput.specs.declared.messages.begin.TheConstants.{BEGIN}
use Rattle.pqformat.specs.Fields.{int32, int64}
use Rattle.pqformat.specs.Writing.{Writes}
use Rattle.pqformat.proofs.Numbers.{length-int64}
use Rattle.pqformat.proofs.Writing.{then}
use Rattle.walsender.proofs.Framing.{begin_length}
use Rattle.walsender.proofs.commit_frames.bounds.write_begin.Goals as goal

pub write_int64-placed-requires : goal.write_int64-placed-requires
write_int64-placed-requires c =
    let a = c.write_byte-kind.ensures in
    omega (arith, begin_length c.args.header.now, c.requires.0, a.ends, a.same)

pub write_int64-timed-requires : goal.write_int64-timed-requires
write_int64-timed-requires c =
    let a = c.write_byte-kind.ensures in
    let b = c.write_int64-placed.ensures in
    omega (arith, begin_length c.args.header.now, c.requires.0, a.ends, a.same, b.ends, b.same, length-int64 c.args.header.now.start)

pub write_int32-requires : goal.write_int32-requires
write_int32-requires c =
    let a = c.write_byte-kind.ensures in
    let b = c.write_int64-placed.ensures in
    let d = c.write_int64-timed.ensures in
    omega (arith, begin_length c.args.header.now, c.requires.0, a.ends, a.same, b.ends, b.same, d.ends, d.same, length-int64 c.args.header.now.start, length-int64 c.time_bits.result)

pub returns : goal.returns
returns c =
    let h = c.args.header.now in
    let time = ap int64 c.time_bits.ensures in
    let timed = subst (λ l. Writes c.write_int64-placed.result c.write_int64-timed.result c.write_int64-placed.new.out c.write_int64-timed.new.out l) time c.write_int64-timed.ensures in
    then _ _ _ _ _ _ (BEGIN ∷ []) _ c.write_byte-kind.ensures
    (then _ _ _ _ _ _ (int64 h.start) _ c.write_int64-placed.ensures
    (then _ _ _ _ _ _ (int64 (cast_unsigned w64 h.time)) (int32 h.xid) timed c.write_int32.ensures))
