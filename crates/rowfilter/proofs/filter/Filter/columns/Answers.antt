use Rattle.std.proofs.Common.{◌∙◌}
use Rattle.conditions.proofs.Columns.{are_named}
use Rattle.rowfilter.proofs.filter.Filter.columns.Goals as goal

-- src/filter.rt:59:5
pub returns : goal.returns
returns c = are_named c.args.self.now c.as_slice.result.now (c.as_slice.ensures ∙ rw (← c.self.view_is) c.self.invariant.0)
