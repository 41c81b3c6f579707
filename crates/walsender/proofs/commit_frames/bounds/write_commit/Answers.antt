use Rattle.std.proofs.Common.{◌∷◌, [], ap, arith, subst}
use Rattle.std.specs.Int.{w64, cast_unsigned}
use Rattle.pgoutput.specs.declared.messages.commit.TheConstants.{COMMIT, COMMIT_FLAGS}
use Rattle.pqformat.specs.Fields.{int64}
use Rattle.pqformat.specs.Writing.{Writes}
use Rattle.pqformat.proofs.Numbers.{length-int64}
use Rattle.pqformat.proofs.Writing.{then}
use Rattle.walsender.proofs.Framing.{commit_length}
use Rattle.walsender.proofs.commit_frames.bounds.write_commit.Goals as goal

pub write_int64-placed-requires : goal.write_int64-placed-requires
write_int64-placed-requires c =
    let a = c.write_byte-kind.ensures in
    let b = c.write_byte-flags.ensures in
    omega (arith, commit_length c.args.header.now, c.requires.0, a.ends, a.same, b.ends, b.same)

pub write_int64-ended-requires : goal.write_int64-ended-requires
write_int64-ended-requires c =
    let a = c.write_byte-kind.ensures in
    let b = c.write_byte-flags.ensures in
    let d = c.write_int64-placed.ensures in
    omega (arith, commit_length c.args.header.now, c.requires.0, a.ends, a.same, b.ends, b.same, d.ends, d.same, length-int64 c.args.header.now.start)

pub write_int64-requires : goal.write_int64-requires
write_int64-requires c =
    let a = c.write_byte-kind.ensures in
    let b = c.write_byte-flags.ensures in
    let d = c.write_int64-placed.ensures in
    let e = c.write_int64-ended.ensures in
    omega (
      arith,
      commit_length c.args.header.now,
      c.requires.0,
      a.ends,
      a.same,
      b.ends,
      b.same,
      d.ends,
      d.same,
      e.ends,
      e.same,
      length-int64 c.args.header.now.start,
      length-int64 c.args.header.now.end,
    )

pub returns : goal.returns
returns c =
    let h = c.args.header.now in
    let time = ap int64 c.time_bits.ensures in
    let timed = subst (λ l. Writes c.write_int64-ended.result c.write_int64.result c.write_int64-ended.new.out c.write_int64.new.out l) time c.write_int64.ensures in
    then _ _ _ _ _ _ (COMMIT ∷ []) _ c.write_byte-kind.ensures
    (then _ _ _ _ _ _ (COMMIT_FLAGS ∷ []) _ c.write_byte-flags.ensures
    (then _ _ _ _ _ _ (int64 h.start) _ c.write_int64-placed.ensures
    (then _ _ _ _ _ _ (int64 h.end) (int64 (cast_unsigned w64 h.time)) c.write_int64-ended.ensures timed)))
