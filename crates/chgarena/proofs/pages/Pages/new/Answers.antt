use Rattle.std.proofs.Common.{◌≡◌, replicate, ap, ◌∙◌, rules}
use Rattle.chgarena.specs.Pages.{pages}
use Rattle.chgarena.proofs.Appending.{fresh_pages}
use Rattle.chgarena.proofs.pages.Pages.new.Goals as goal

pub returns : goal.returns
returns c =
    let counts : c.in_ok-from_elem-2.field-0.items ≡ replicate c.args.chunks 0 = search rules in
    ap (pages c.in_ok-new.field-0) counts ∙ fresh_pages c.in_ok-new.field-0 c.args.chunks
