use Rattle.std.proofs.Common.{rules, [], ◌∷◌, ◌++◌}
use Rattle.std.specs.Int.{w64, cast_unsigned}
use Rattle.pqformat.specs.Fields.{int64}
use Rattle.copyboth.specs.Keepalive.{ask_byte}
use Rattle.copyboth.proofs.Writing.{puts_after, puts_last}
use Rattle.copyboth.proofs.status.put_status.Goals as goal

pub returns : goal.returns
returns c =
    let m = c.args.message.now in
    let r = c.put_byte-2.result in
    let new = c.put_byte-2.new.out.items in
    let clock = int64 (cast_unsigned w64 m.clock) in
    let ask = ask_byte m.ask ∷ [] in
    puts_after r _ _ new _ (int64 m.written ++ (int64 m.flushed ++ (int64 m.applied ++ (clock ++ ask)))) c.in_ok-put_byte.ensures.ok
    (puts_after r _ _ new _ (int64 m.flushed ++ (int64 m.applied ++ (clock ++ ask))) c.in_ok-put_int64.ensures.ok
    (puts_after r _ _ new _ (int64 m.applied ++ (clock ++ ask)) c.in_ok-put_int64-2.ensures.ok
    (puts_after r _ _ new _ (clock ++ ask) c.in_ok-put_int64-3.ensures.ok
    (puts_after r c.put_int64-3.new.out.items c.put_int64-4.new.out.items new clock ask (search rules)
    (puts_last r c.put_int64-4.new.out.items new ask (rw c.byte_of.ensures at c.put_byte-2.ensures.ok) c.put_byte-2.ensures.err)))))
