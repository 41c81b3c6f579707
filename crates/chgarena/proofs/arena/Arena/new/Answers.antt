use Rattle.std.proofs.Common.{rules, ◌≡◌, replicate}
use Rattle.chgarena.specs.Links.{books}
use Rattle.chgarena.proofs.Seeing.{fresh_strands}
use Rattle.chgarena.proofs.arena.Arena.new.Goals as goal

pub returns : goal.returns
returns c =
    let many : (books c.in_ok-new.field-0).chunks ≡ c.args.chunks = search rules in
    let none : (books c.in_ok-new.field-0).last ≡ replicate c.args.chunks c.args.chunks = search rules in
    fresh_strands c.in_ok-new.field-0 c.in_ok-new-2.field-0 c.args.chunks many none
