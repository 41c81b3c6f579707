use Rattle.std.proofs.Common.{◌≡◌, refl, take}
use Rattle.std.proofs.lemmas.List.{take_all}
use Rattle.scram.proofs.hashes.hmac.filled_up.Goals as goal

pub returns : goal.returns
returns c =
    let whole : take 64 c.args.key.now ≡ c.args.key.now = take_all 64 c.args.key.now c.requires in
    rw (c.in_ok-resize.ensures.items, c.in_ok-block.ensures.items, c.in_ok-block.ensures.len, whole) refl
