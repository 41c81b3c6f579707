use Rattle.std.proofs.Common.{sym, ◌∙◌}
use Rattle.std.specs.Cmp.Lexicographic.{bytes_decides}
use Rattle.follower.proofs.CopiedValues.{null_told}
use Rattle.follower.proofs.copying.copied_row.cell_of.Goals as goal

pub returns-then-eq : goal.returns-then-eq
returns-then-eq c = λ value is. null_told c.args.field.now value ((bytes_decides _ _).0 (sym c.eq.ensures ∙ c.if-eq.true)) is
