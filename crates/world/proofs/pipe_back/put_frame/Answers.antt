use Rattle.world.proofs.PipeBytes.{puts_frame}
use Rattle.world.proofs.pipe_back.put_frame.Goals as goal

pub returns : goal.returns
returns c = puts_frame c.write_status.result c.args.out.now.items c.put_byte.new.out.items c.put_int32.new.out.items c.write_status.new.out.items c.args.status.now c.in_ok-put_byte.ensures.ok c.in_ok-put_int32.ensures.ok c.write_status.ensures.ok c.write_status.ensures.err
