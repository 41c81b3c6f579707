use Rattle.std.proofs.Common.{sym, ap, ◌∙◌}
use Rattle.pqformat.specs.Fields.{byte_at}
use Rattle.world.proofs.PipeBytes.{body_there, frame_there, nothing, read_there}
use Rattle.world.proofs.pipe_back.read_status.Goals as goal

pub returns-in_err-kind : goal.returns-in_err-kind
returns-in_err-kind c = c.from_residual.ensures ∙ nothing c.args.bytes.now c.requires (ap byte_at (sym c.new-cursor.ensures) ∙ c.in_err-kind.ensures.0)

pub returns-then-kind-ne-COPY_DATA : goal.returns-then-kind-ne-COPY_DATA
returns-then-kind-ne-COPY_DATA c =
    let frame = frame_there c.args.bytes.now c.in_ok-kind.kind c.u8.new.self c.requires (ap byte_at (sym c.new-cursor.ensures) ∙ c.in_ok-kind.ensures) in
    absurd (c.if-kind-ne-COPY_DATA.true frame.is_data)

pub returns-in_err-length : goal.returns-in_err-length
returns-in_err-length c =
    let frame = frame_there c.args.bytes.now c.in_ok-kind.kind c.u8.new.self c.requires (ap byte_at (sym c.new-cursor.ensures) ∙ c.in_ok-kind.ensures) in
    let both = sym frame.number ∙ c.in_err-length.ensures.0 in
    absurd cc

pub returns-then-length-ne-LENGTH : goal.returns-then-length-ne-LENGTH
returns-then-length-ne-LENGTH c =
    let frame = frame_there c.args.bytes.now c.in_ok-kind.kind c.u8.new.self c.requires (ap byte_at (sym c.new-cursor.ensures) ∙ c.in_ok-kind.ensures) in
    let body = body_there c.in_ok-length.length c.u32.new.self frame c.in_ok-length.ensures in
    absurd (c.if-length-ne-LENGTH.true body.is_length)

pub returns-in_err-body : goal.returns-in_err-body
returns-in_err-body c =
    let frame = frame_there c.args.bytes.now c.in_ok-kind.kind c.u8.new.self c.requires (ap byte_at (sym c.new-cursor.ensures) ∙ c.in_ok-kind.ensures) in
    let body = body_there c.in_ok-length.length c.u32.new.self frame c.in_ok-length.ensures in
    let both = sym body.body ∙ c.in_err-body.ensures.0 in
    absurd cc

pub returns : goal.returns
returns c =
    let frame = frame_there c.args.bytes.now c.in_ok-kind.kind c.u8.new.self c.requires (ap byte_at (sym c.new-cursor.ensures) ∙ c.in_ok-kind.ensures) in
    let body = body_there c.in_ok-length.length c.u32.new.self frame c.in_ok-length.ensures in
    c.ok.ensures.value ∙ read_there c.in_ok-body.body.now c.take.new.self c.read_client.result body c.in_ok-body.ensures c.read_client.ensures.only
