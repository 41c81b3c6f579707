use Rattle.std.proofs.Common.{◌∷◌, []}
use Rattle.world.specs.PipeBack.{status_frame}
use Rattle.world.proofs.PipeBytes.{holds_one, sent}
use Rattle.world.proofs.pipe_back.PipeBack.send_status.Goals as goal

pub invariant_of-self : goal.invariant_of-self
invariant_of-self c =
    (sent c.write_frame.result c.self.inside.bytes.items c.write_frame.new.out.items (status_frame c.args.status.now) (c.args.status.now ∷ []) c.self.invariant (holds_one c.args.status.now c.requires) c.write_frame.ensures.ok c.write_frame.ensures.err).pipe

pub returns : goal.returns
returns c =
    let s = sent c.write_frame.result c.self.inside.bytes.items c.write_frame.new.out.items (status_frame c.args.status.now) (c.args.status.now ∷ []) c.self.invariant (holds_one c.args.status.now c.requires) c.write_frame.ensures.ok c.write_frame.ensures.err in
    rw (← c.self.view_is) (record { ok = s.ok; err = s.err })
