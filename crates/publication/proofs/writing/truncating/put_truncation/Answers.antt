use Rattle.std.proofs.Common.{length, arith}
use Rattle.pqformat.proofs.Numbers.{length-int32}
use Rattle.publication.proofs.Oids.{truncation_length}
use Rattle.publication.proofs.writing.truncating.put_truncation.Goals as goal

pub overflow_cast-oids : goal.overflow_cast-oids
overflow_cast-oids c = let size = truncation_length c.args.oids.now in omega (arith, size, c.requires.0, c.requires.1)

pub write_int32-counted-requires : goal.write_int32-counted-requires
write_int32-counted-requires c = let size = truncation_length c.args.oids.now in omega (arith, size, c.requires.0, c.write_byte-kind.ensures.ends, c.write_byte-kind.ensures.same)

pub put_oids-requires : goal.put_oids-requires
put_oids-requires c =
    let size = truncation_length c.args.oids.now in
    omega (
      arith,
      size,
      c.requires.0,
      c.write_byte-kind.ensures.ends,
      c.write_byte-kind.ensures.same,
      c.write_int32-counted.ensures.ends,
      c.write_int32-counted.ensures.same,
      length-int32 (length c.args.oids.now),
      c.write_byte-options.ensures.ends,
      c.write_byte-options.ensures.same,
    )
