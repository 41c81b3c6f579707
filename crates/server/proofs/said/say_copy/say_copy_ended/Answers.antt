use Rattle.std.proofs.Common.{◌≡◌, ◌++◌, ◌∙◌, arith}
use Rattle.std.specs.Prelude.{codes}
use Rattle.std.specs.Fmt.{decimal}
use Rattle.std.proofs.lemmas.Fmt.{length-decimal-le}
use Rattle.std.proofs.lemmas.List.{length-append}
use Rattle.frames.specs.declared.back.Back.TheVariants.{CopyDone, ReadyForQuery}
use Rattle.frames.specs.declared.backend.ready_for_query.TransactionStatus.TheVariants as statuses
use Rattle.server.specs.Copies.{copy_ended}
use Rattle.server.specs.Said.{sent_frame, completion}
use Rattle.server.proofs.Tails.{after}
use Rattle.server.proofs.said.say_copy.say_copy_ended.Goals as goal

pub say_completed-requires : goal.say_completed-requires
say_completed-requires c =
    let twenty = length-decimal-le 20 c.args.count (omega arith) (omega arith) (omega arith) in
    rw (c.as_str.ensures.value, c.in_ok-tag.ensures) (omega (arith, twenty, length-append (codes "COPY ") (decimal c.args.count)))

pub returns : goal.returns
unfolding copy_ended
returns c =
    let tag : c.as_str.result.now ≡ codes "COPY " ++ decimal c.args.count = c.as_str.ensures.value ∙ c.in_ok-tag.ensures in
    let completed = rw tag at c.in_ok-say_completed.ensures in
    let told = sent_frame (completion (codes "COPY " ++ decimal c.args.count)) in
    let end = after c.say_ready_in_block.result c.say_copy_done.new.out.items c.say_completed.new.out.items c.say_ready_in_block.new.out.items told (sent_frame (ReadyForQuery statuses.InTransaction)) completed c.say_ready_in_block.ensures in
    after c.say_ready_in_block.result c.args.out.now.items c.say_copy_done.new.out.items c.say_ready_in_block.new.out.items (sent_frame CopyDone) (told ++ sent_frame (ReadyForQuery statuses.InTransaction)) c.in_ok-say_copy_done.ensures end
