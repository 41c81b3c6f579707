use Rattle.std.proofs.Common.{arith}
use Rattle.replcmd.proofs.Halves.{half_parsed}
use Rattle.replcmd.proofs.text.position.half.Goals as goal

pub returns : goal.returns
unfolding lib.Utf8.encode
returns c = half_parsed c.args.text.now c.from_str_radix.result c.ok.result c.from_str_radix.ensures.value c.if-starts_with.ensures.cases (omega arith) c.ok.ensures.value
