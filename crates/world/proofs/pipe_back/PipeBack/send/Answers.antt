use Rattle.std.proofs.Common.{refl}
use Rattle.world.specs.PipeBack.{statuses_in}
use Rattle.world.proofs.PipeBytes.{sent}
use Rattle.world.proofs.pipe_back.PipeBack.send.Goals as goal

pub invariant_of-self : goal.invariant_of-self
invariant_of-self c =
    (sent c.extend_from_slice.result c.self.inside.bytes.items c.extend_from_slice.new.self.items c.args.frames.now (statuses_in c.args.frames.now) c.self.invariant (record { pipe = c.requires; read = refl }) c.extend_from_slice.ensures.ok c.extend_from_slice.ensures.err).pipe

pub returns : goal.returns
returns c =
    let s = sent c.extend_from_slice.result c.self.inside.bytes.items c.extend_from_slice.new.self.items c.args.frames.now (statuses_in c.args.frames.now) c.self.invariant (record { pipe = c.requires; read = refl }) c.extend_from_slice.ensures.ok c.extend_from_slice.ensures.err in
    rw (← c.self.view_is) (record { ok = s.ok; err = s.err })
