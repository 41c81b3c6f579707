use Rattle.std.proofs.Common.{◌++◌, rules}
use Rattle.std.specs.Int.{w64, cast_unsigned}
use Rattle.pqformat.specs.Fields.{int64}
use Rattle.pgoutput.proofs.Writing.{puts_after}
use Rattle.pgoutput.proofs.messages.commit.put_commit.Goals as goal

pub returns : goal.returns
returns c =
    let m = c.args.message.now in
    let r = c.put_signed64.result in
    let new = c.put_signed64.new.out.items in
    let time = int64 (cast_unsigned w64 m.time) in
    puts_after r _ _ new _ (int64 m.position ++ (int64 m.end ++ time)) c.in_ok-put_byte.ensures.ok
    (puts_after r _ _ new _ (int64 m.end ++ time) c.in_ok-put_int64.ensures.ok
    (puts_after r _ _ new _ time c.in_ok-put_int64-2.ensures.ok (search rules)))
