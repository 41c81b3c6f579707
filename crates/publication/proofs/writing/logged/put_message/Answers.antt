use Rattle.std.proofs.Common.{arith}
use Rattle.pqformat.proofs.Numbers.{length-int64}
use Rattle.tables.specs.Refs.{message_of}
use Rattle.publication.proofs.LoggedMessages.{told_length}
use Rattle.publication.proofs.writing.logged.put_message.Goals as goal

pub write_int64-placed-requires : goal.write_int64-placed-requires
write_int64-placed-requires c =
    omega (
      arith,
      told_length c.args.is_transactional c.args.position (message_of c.args.message),
      c.requires.0,
      c.write_byte-kind.ensures.ends,
      c.write_byte-kind.ensures.same,
      c.write_byte-flags.ensures.ends,
      c.write_byte-flags.ensures.same,
    )

pub write_int32-counted-requires : goal.write_int32-counted-requires
write_int32-counted-requires c =
    omega (
      arith,
      told_length c.args.is_transactional c.args.position (message_of c.args.message),
      length-int64 c.args.position,
      c.requires.0,
      c.write_byte-kind.ensures.ends,
      c.write_byte-kind.ensures.same,
      c.write_byte-flags.ensures.ends,
      c.write_byte-flags.ensures.same,
      c.write_int64-placed.ensures.ends,
      c.write_int64-placed.ensures.same,
      c.write_bytes-named.ensures.ends,
      c.write_bytes-named.ensures.same,
      c.write_byte-ended.ensures.ends,
      c.write_byte-ended.ensures.same,
    )
